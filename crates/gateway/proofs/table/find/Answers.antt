-- `gateway::table::find` meets its contract: at home where the fast engine takes it, else where the first is.
-- Assumes nothing.
use Rattle.std.proofs.Common.{◌∙◌}
use borrow.Author.Tests.{eq-eqb, ne_eqb}
use Rattle.gateway.specs.Engines.{place_by}
use Rattle.gateway.proofs.Places.{home_taken, home_passed}
use Rattle.gateway.proofs.table.find.Goals as goal

pub returns-then-table-home-clause-value : goal.returns-then-table-home-clause-value
returns-then-table-home-clause-value c =
    let a = c.args in
    rw c.in-Fast.is (home_taken a.near a.number a.table.now c.told-table (eq-eqb _ _ c.if-table-home.true))

pub returns-in-Plain-clause-value : goal.returns-in-Plain-clause-value
unfolding place_by
returns-in-Plain-clause-value c = rw c.in-Plain.is c.first_with-in-Plain.ensures.value

pub returns-else-table-home-clause-value : goal.returns-else-table-home-clause-value
returns-else-table-home-clause-value c =
    let a = c.args in
    rw c.in-Fast.is (c.first_with.ensures.value ∙ home_passed a.near a.number a.table.now (ne_eqb _ _ c.if-table-home.false))
