-- `keylist::check::first_read` meets its contract.
-- Assumes nothing.
use Rattle.std.proofs.Common.{◌≡◌, suc, ◌+◌, ◌-◌, sym, ◌∙◌, arith}
use Rattle.keylist.specs.Helpers.{read_from}
use Rattle.keylist.proofs.Walk.{read_skip, read_here}
use Rattle.keylist.proofs.LayoutLaws.{skipped}
use Rattle.keylist.proofs.check.first_read.Goals as goal

pub returns-then-not-is_skipped : goal.returns-then-not-is_skipped
returns-then-not-is_skipped c =
    let l = c.loop-skipped in
    sym (l.invariant ∙ read_here _ (16 - l.skipped) l.at (sym c.is_skipped.ensures ∙ c.if-not-is_skipped.true))

pub next_start-at-requires : goal.next_start-at-requires
next_start-at-requires c = omega (arith, (skipped _ _ (sym c.is_skipped.ensures ∙ c.if-not-is_skipped.false)).whole)

pub loop-skipped-preserved : goal.loop-skipped-preserved
loop-skipped-preserved c =
    let l = c.loop-skipped in
    let one : 16 - l.skipped ≡ suc (16 - (l.skipped + 1)) = omega arith in
    rw c.next_start-at.ensures
    (rw one at l.invariant ∙ read_skip _ (16 - (l.skipped + 1)) l.at (sym c.is_skipped.ensures ∙ c.if-not-is_skipped.false))

pub returns : goal.returns
unfolding read_from
returns c =
    let none : 16 - c.loop-skipped.skipped ≡ 0 = omega arith in
    sym (rw none at c.loop-skipped.invariant)
