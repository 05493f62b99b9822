-- `client::choose::choose_in_good` meets its contract.
-- Assumes nothing.
use Rattle.std.proofs.Common.{◌≡◌, ◌<◌, length, sym, ap, ◌∙◌, arith, eq-eqb}
use Rattle.keylist.specs.declared.Place.{Place}
use Rattle.keylist.specs.Helpers.{place_of}
use Rattle.keylist.proofs.Keys.{place_there, no_place}
use Rattle.keylist.proofs.Walk.{walk_start, walk_next, walk_end}
use Rattle.client.proofs.Choosing.{other_kem, no_pair, chosen_here}
use Rattle.client.proofs.choose.choose_in_good.Goals as goal
use Rattle.client.proofs.choose.choose_in_good.Goals.{In-Some}

pub loop-place-init : goal.loop-place-init
unfolding walk_start
loop-place-init c =
    let p = c.requires in
    rw c.first_read-at.ensures (walk_start _ p.good.0 p.good.1, rw (p.good.1, eq-eqb _ _ p.even))

-- the place that was read at the loop's offset
place : (c : In-Some) → (c.loop-place.at < length c.args.list.now) × (c.in-Some.place ≡ place_of c.args.list.now c.loop-place.at)
place c = place_there _ _ _ c.in-Some.ensures

pub overflow_add-place : goal.overflow_add-place
overflow_add-place c =
    let (more, is) = place (goal.at.overflow_add-place c).In-Some in
    let h = (walk_next _ _ c.loop-place.invariant.0 more).holding in
    rw is (omega (arith, h.whole, h.sizes))

pub first_usable-requires : goal.first_usable-requires
first_usable-requires c =
    let (more, is) = place (goal.at.first_usable-requires c).In-Some in
    let h = (walk_next _ _ c.loop-place.invariant.0 more).holding in
    rw (c.word_at.ensures, is) (omega (arith, h.whole, h.sizes))

pub returns-in-Some-first_usable : goal.returns-in-Some-first_usable
returns-in-Some-first_usable c =
    let a = c.args in
    let l = c.loop-place in
    let (more, is) = place (goal.at.returns-in-Some-first_usable c).In-Some in
    let kem = rw is at (sym c.is_listed_kem.ensures ∙ c.if-is_listed_kem.true) in
    let found = rw (c.word_at.ensures, is) at (sym c.first_usable.ensures ∙ c.in-Some-first_usable.is) in
    rw (is, l.invariant.1) (sym (chosen_here a.kems.now a.pairs.now _ _ (walk_next _ _ l.invariant.0 more) kem found))

pub loop-place-smaller-in_default-first_usable : goal.loop-place-smaller-in_default-first_usable
loop-place-smaller-in_default-first_usable c =
    let l = c.loop-place in
    let (more, is) = place (goal.at.loop-place-smaller-in_default-first_usable c).In-Some in
    omega (arith, more, ap (λ (p : Place). p.next) is, (walk_next _ l.at l.invariant.0 more).onward)

pub loop-place-preserved-in_default-first_usable : goal.loop-place-preserved-in_default-first_usable
loop-place-preserved-in_default-first_usable c =
    let a = c.args in
    let l = c.loop-place in
    let (more, is) = place (goal.at.loop-place-preserved-in_default-first_usable c).In-Some in
    let n = walk_next _ _ l.invariant.0 more in
    let none = rw (c.word_at.ensures, is) at (sym c.first_usable.ensures ∙ c.in_default-first_usable.is) in
    rw is (n.next, l.invariant.1 ∙ no_pair a.kems.now a.pairs.now _ _ n none)

pub loop-place-smaller : goal.loop-place-smaller
loop-place-smaller c =
    let l = c.loop-place in
    let (more, is) = place (goal.at.loop-place-smaller c).In-Some in
    omega (arith, more, ap (λ (p : Place). p.next) is, (walk_next _ l.at l.invariant.0 more).onward)

pub loop-place-preserved : goal.loop-place-preserved
loop-place-preserved c =
    let a = c.args in
    let l = c.loop-place in
    let (more, is) = place (goal.at.loop-place-preserved c).In-Some in
    let n = walk_next _ _ l.invariant.0 more in
    let other = rw is at (sym c.is_listed_kem.ensures ∙ c.if-is_listed_kem.false) in
    rw is (n.next, l.invariant.1 ∙ other_kem a.kems.now a.pairs.now _ _ n other)

pub returns : goal.returns
returns c =
    let l = c.loop-place in
    rw (l.invariant.1, walk_end _ l.at l.invariant.0 (no_place _ _ (sym c.place_in.ensures ∙ c.in_default.is)), c.from.ensures)
