-- `gateway::table::first_with` meets its contract.
-- Assumes nothing.
use Rattle.std.proofs.Common.{◌∙◌, ap, rules, tests, unwrap_or}
use Rattle.std.proofs.lemmas.Iterator.{YieldsList-from_slice}
use Rattle.std.proofs.lemmas.Iterator.Search.{position_from_yields_List}
use Rattle.gateway.specs.Engines.{has_number}
use Rattle.gateway.proofs.Places.{first_or_end}
use Rattle.gateway.proofs.table.first_with.Goals as goal

pub returns-clause-value : goal.returns-clause-value
returns-clause-value c =
    let table = c.args.table.now in
    let found =
    position_from_yields_List (has_number c.args.number) _ _ c.position.result c.position.ensures.ran
    (YieldsList-from_slice table cc) (λ x b q k. search (rules, tests)) in
    c.unwrap_or.ensures ∙ ap (λ o. unwrap_or o 128) found ∙ first_or_end (has_number c.args.number) table c.told-table
