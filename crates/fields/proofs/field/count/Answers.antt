-- `fields::field::count` meets its contract: one field more at each turn, or the fault of one.
-- Assumes nothing.
use mathlib.Core.Path.{sym}
use native.Mathlib.Omega.{arith}
use Rattle.std.proofs.lemmas.Result.{err_from_is_err_and}
use Rattle.fields.proofs.Sections.{counted_end, counted_next, counted_wrong, counting_start, field_inside}
use Rattle.fields.proofs.field.count.Goals as goal

pub loop-at-init : goal.loop-at-init
loop-at-init c = counting_start _ _

pub returns-in_err-at : goal.returns-in_err-at
returns-in_err-at c =
    let bad = err_from_is_err_and c.from_residual.result c.from_residual.ensures.1 in
    rw (bad.1, bad.2) (sym (counted_wrong c.loop-at.invariant c.loop-at-test.true _ (sym c.in_err-at.ensures)))

pub loop-at-smaller : goal.loop-at-smaller
loop-at-smaller c = omega (arith, field_inside _ _ _ (sym c.in_ok-at.ensures))

pub loop-at-preserved : goal.loop-at-preserved
loop-at-preserved c = counted_next c.loop-at.invariant c.loop-at-test.true c.in_ok-at.field-0 (sym c.in_ok-at.ensures)

pub returns : goal.returns
returns c = sym (counted_end c.loop-at.invariant c.loop-at-test.false)

pub overflow_add-fields : goal.overflow_add-fields
overflow_add-fields c = omega (arith, c.loop-at.invariant.few)
