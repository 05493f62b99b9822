-- `keylist::check::check` meets its contract. The loop's invariant: the answer is that of reading on from the offset, with as many
-- configurations before it as were counted, and the key ids of those that were read taken. The measure is what is left of the list.
-- Assumes nothing.
use native.Mathlib.Nat.{add-zero}
use native.Mathlib.Numerals.{add-one}
use mathlib.Core.List.{[], ◌∷◌, ◌++◌}
use lib.ListN.{length-take, length-set, take, set}
use lib.Seq.{take-suc-set}
use Rattle.keylist.proofs.Parsing.{parse_end, parse_fault, parse_skip, parse_more, parse_some, parse_none, counted, counted_none, counted_read, counted_skip, holding, skips_from, skips_end, skips_one, skips_none, skipped_by_key, good_by_key, is_fault, some_more}
use Rattle.keylist.proofs.LayoutLaws.{field_from_start, skipped, held_not_skipped}
use Rattle.algorithms.specs.Sizes.{public_key_length}
use borrow.Author.Tests.{eqb-true, eqb-false}
use Rattle.std.specs.Prelude.{Err}
use Rattle.wire.specs.Reasons.{number_of}
use Rattle.wire.specs.Refusals.{refused_at}
use Rattle.keylist.specs.Helpers.{number_or_0}
use Rattle.keylist.specs.Answers.{checked}
use Rattle.keylist.specs.Layout.{fault_of, key_end, key_id_at, kem_at, parse_from, refused_for}
use mathlib.Core.Path.{◌≡◌, refl, sym, ◌∙◌, ap, ap₂}
use Prim.Native.Nat.{ℕ, suc, ◌+◌, ◌-◌}
use native.Mathlib.Omega.{arith}
use Rattle.keylist.proofs.check.check.Goals as goal
use Rattle.keylist.proofs.check.check.Goals.{After-key_length-key, In_default}

pub returns-then-is_empty : goal.returns-then-is_empty
returns-then-is_empty c = rw (parse_none c.args.list.now (eqb-true _ _ (sym c.is_empty.ensures ∙ c.if-is_empty.true)), c.at.ensures)

pub loop-at-init : goal.loop-at-init
loop-at-init c =
    let list = c.args.list.now in
    let some = eqb-false _ _ (sym c.is_empty.ensures ∙ c.if-is_empty.false) in
    (omega arith, omega arith, refl, rw (parse_some list (omega (arith, some))) (counted_none (parse_from 16 [] list 0) (skips_from 16 list 0)))

-- the key length of the configuration at the loop's offset
key_read : (c : After-key_length-key)
    → let list = c.args.list.now in
    c.key_length-key.result ≡ public_key_length (kem_at list c.loop-at.at)
key_read c = c.key_length-key.ensures.value ∙ ap public_key_length c.word_at.ensures

pub fault-requires : goal.fault-requires
fault-requires c = (omega arith, key_read (goal.at.fault-requires c).After-key_length-key, omega arith)

pub returns-in-Some : goal.returns-in-Some
unfolding counted
returns-in-Some c =
    let l = c.loop-at in
    let list = c.args.list.now in
    let more = 16 - (l.read + l.skipped) in
    let taken = take l.read l.taken in
    let key = key_read (goal.at.returns-in-Some c).After-key_length-key in
    let fault : fault_of more taken list l.at ≡ 0 → ⊥ = λ z. is_fault c.in-Some.reason (c.in-Some.ensures ∙ z) in
    let answer : checked list ≡ Err (refused_for l.at (key_end list l.at) (fault_of more taken list l.at)) =
    rw (l.invariant.3, parse_fault more taken list l.at (omega arith) fault) in
    let end : l.at + (5 + c.key_length-key.result) ≡ key_end list l.at = omega (arith, key) in
    let place = ap (λ (d : ℕ). l.at + d) c.field_at_fault.ensures.value ∙ rw (field_from_start l.at (5 + c.key_length-key.result) c.number.result, c.number.ensures) in
    let given : c.at-in-Some.result ≡ refused_for l.at (key_end list l.at) (fault_of more taken list l.at) =
    c.at-in-Some.ensures ∙ ap (refused_at (number_of c.in-Some.reason)) place ∙ ap₂ (λ (e n : ℕ). refused_for l.at e n) end c.in-Some.ensures in
    ap Err given ∙ sym answer

-- no fault, where one more may come
no_fault_here : (c : In_default)
    → let l = c.loop-at in
    let list = c.args.list.now in
    (more : ℕ) × (16 - (l.read + l.skipped) ≡ suc more) × (fault_of (suc more) (take l.read l.taken) list l.at ≡ 0)
no_fault_here c =
    let l = c.loop-at in
    let list = c.args.list.now in
    some_more (16 - (l.read + l.skipped)) (take l.read l.taken) list l.at (sym c.fault.ensures ∙ ap number_or_0 c.in_default.is)

pub loop-at-preserved-then-key-eq0 : goal.loop-at-preserved-then-key-eq0
loop-at-preserved-then-key-eq0 c =
    let l = c.loop-at in
    let list = c.args.list.now in
    let taken = take l.read l.taken in
    let (more, one, no_fault) = no_fault_here (goal.at.loop-at-preserved-then-key-eq0 c).In_default in
    let is = skipped_by_key taken list l.at more no_fault (sym (key_read (goal.at.loop-at-preserved-then-key-eq0 c).After-key_length-key) ∙ c.if-key-eq0.true) in
    let fewer : more ≡ 16 - (l.read + (l.skipped + 1)) = omega (arith, one) in
    rw c.next_start-at.ensures (
      (skipped list l.at is).whole,
      omega (arith, one),
      l.invariant.2,
      rw (l.invariant.3, one, ← fewer, parse_skip more taken list l.at is, skips_one more list l.at is, counted_skip),
    )

pub loop-at-preserved : goal.loop-at-preserved
loop-at-preserved c =
    let l = c.loop-at in
    let list = c.args.list.now in
    let taken = take l.read l.taken in
    let (more, one, no_fault) = no_fault_here (goal.at.loop-at-preserved c).In_default in
    let key = key_read (goal.at.loop-at-preserved c).After-key_length-key in
    let is = good_by_key taken list l.at more no_fault (λ e. c.if-key-eq0.false (key ∙ e)) in
    let held = holding list taken l.at is in
    let fewer : more ≡ 16 - (l.read + 1 + l.skipped) = omega (arith, one) in
    let ids : taken ++ key_id_at list l.at ∷ [] ≡ take (l.read + 1) (set l.taken l.read c.byte_at.result) =
    rw (add-one l.read, take-suc-set l.taken l.read c.byte_at.result (omega (arith, one)), c.byte_at.ensures) in
    rw c.next_start-at-in-loop-at.ensures (
      held.whole,
      omega (arith, one),
      simp length-set (omega arith),
      rw (
        l.invariant.3,
        one,
        ← fewer,
        parse_more more taken list l.at is,
        skips_none more list l.at (omega arith) (held_not_skipped list l.at held),
        counted_read,
        ids,
      ),
    )

pub returns : goal.returns
unfolding counted
returns c =
    let l = c.loop-at in
    let list = c.args.list.now in
    rw (
      l.invariant.3,
      parse_end _ _ list l.at (omega arith),
      skips_end (16 - (l.read + l.skipped)) list l.at (omega arith),
      add-zero l.read,
      add-zero l.skipped,
    )

pub slice_bounds-fault-end : goal.slice_bounds-fault-end
slice_bounds-fault-end c = simp length-take (omega arith)

pub bounds-taken-read : goal.bounds-taken-read
bounds-taken-read c = omega (arith, (no_fault_here (goal.at.bounds-taken-read c).In_default).1)
