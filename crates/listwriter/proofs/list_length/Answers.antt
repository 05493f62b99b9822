-- `listwriter::list_length` meets its contract.
-- Assumes nothing.
use mathlib.Core.Path.{◌≡◌, sym, ap, ◌∙◌}
use Prim.Native.Nat.{◌+◌}
use native.Mathlib.Omega.{arith}
use lib.ListN.{take}
use borrow.Author.Tests.{eqb-true, eqb-false}
use Rattle.wire.specs.Search.{among}
use Rattle.std.specs.Prelude.{Ok}
use Rattle.std.proofs.lemmas.Result.{err_from_is_err_and}
use Rattle.listwriter.specs.Helpers.{fields_of, first_checked, first_length}
use Rattle.listwriter.proofs.FieldsWalk.{id_at, encode_none, length_from, measuring_start, measuring_refused, measuring_sizes, measuring_more, measured}
use Rattle.listwriter.proofs.list_length.Goals as goal
use Rattle.listwriter.proofs.list_length.Goals.{In_ok-check_first}

-- what the check of the first that is left says
passed : (c : In_ok-check_first)
    → let l = c.loop-before in
    first_checked l.at l.before (among (take l.before c.args.ids.now) (id_at c.args.ids.now l.before)) (fields_of l.rest) ≡ Ok tt
passed c =
    let l = c.loop-before in
    let taken : c.contains.result ≡ among (take l.before c.args.ids.now) (id_at c.args.ids.now l.before) = c.contains.ensures.value in
    rw (← taken) (sym c.in_ok-check_first.ensures)

pub returns-then-is_empty : goal.returns-then-is_empty
returns-then-is_empty c = rw (encode_none _ _ (eqb-true _ _ (sym c.is_empty.ensures ∙ c.if-is_empty.true)), c.at.ensures)

pub loop-before-init : goal.loop-before-init
loop-before-init c = let some = eqb-false _ _ (sym c.is_empty.ensures ∙ c.if-is_empty.false) in measuring_start _ _ (omega (arith, some))

pub returns-in_err-check_first : goal.returns-in_err-check_first
returns-in_err-check_first c =
    let l = c.loop-before in
    let r = c.in_err-check_first.field-0.0 in
    let taken : c.contains.result ≡ among (take l.before c.args.ids.now) (id_at c.args.ids.now l.before) = c.contains.ensures.value in
    let p = err_from_is_err_and c.from_residual.result c.from_residual.ensures.1 in
    rw (measuring_refused l.invariant (omega arith) r (rw (← taken) (sym c.in_err-check_first.ensures)), p.1, p.2)

pub first_size-at-requires : goal.first_size-at-requires
first_size-at-requires c = (measuring_sizes c.loop-before.invariant (omega arith) (passed (goal.at.first_size-at-requires c).In_ok-check_first)).1

pub overflow_add-at : goal.overflow_add-at
overflow_add-at c =
    let sizes = measuring_sizes c.loop-before.invariant (omega arith) (passed (goal.at.overflow_add-at c).In_ok-check_first) in
    omega (arith, c.first_size-at.ensures)

pub loop-before-preserved : goal.loop-before-preserved
loop-before-preserved c =
    let l = c.loop-before in
    let next : l.at + c.first_size-at.result ≡ l.at + 2 + first_length (fields_of l.rest) = omega (arith, c.first_size-at.ensures) in
    rw (next, c.behind_first-rest.ensures) (measuring_more l.invariant (omega arith) (passed (goal.at.loop-before-preserved c).In_ok-check_first))

pub returns-then-is_empty-2 : goal.returns-then-is_empty-2
unfolding length_from
returns-then-is_empty-2 c =
    rw (measured c.loop-before.invariant (omega arith), ← c.is_empty-2.ensures, c.if-is_empty-2.true) (ap Ok (omega arith))

pub returns-else-is_empty-2 : goal.returns-else-is_empty-2
unfolding length_from
returns-else-is_empty-2 c =
    rw (measured c.loop-before.invariant (omega arith), ← c.is_empty-2.ensures, c.if-is_empty-2.false, c.at-else-is_empty-2.ensures)
