-- `gateway::table::count_pending` meets its contract.
-- Assumes nothing.
use Rattle.std.proofs.Common.{◌∙◌, sym, ap, arith, not}
use Rattle.std.proofs.lemmas.List.{take_all}
use Rattle.std.specs.List.{count_by}
use Rattle.exchange.specs.Exchange.{is_free}
use Rattle.gateway.proofs.Places.{pending_counted}
use Rattle.gateway.proofs.table.count_pending.Goals as goal

pub returns : goal.returns
returns c =
    let table = c.args.table.now in
    c.loop-exchange.invariant.0
    ∙ ap (count_by (λ e. not (is_free e))) (take_all c.loop-exchange.exchange-index table (omega (arith, c.told-table)))
    ∙ sym (pending_counted table)
