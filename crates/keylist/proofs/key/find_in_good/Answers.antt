-- `keylist::key::find_in_good` meets its contract.
-- Assumes nothing.
use Rattle.std.proofs.Common.{◌≡◌, ◌<◌, length, sym, ap, ◌∙◌, arith}
use Rattle.keylist.specs.declared.Place.{Place}
use Rattle.keylist.specs.Helpers.{place_of}
use Rattle.keylist.proofs.Keys.{place_there, no_place, found_here, found_later}
use Rattle.keylist.proofs.Walk.{walk_start, walk_next, walk_end}
use Rattle.keylist.proofs.key.find_in_good.Goals as goal
use Rattle.keylist.proofs.key.find_in_good.Goals.{In-Some}

pub loop-place-init : goal.loop-place-init
unfolding walk_start
loop-place-init c =
    let is = c.requires in
    rw c.first_read-at.ensures (walk_start _ is.0 is.1, rw is.1)

-- the place that was read at the loop's offset
place : (c : In-Some) → (c.loop-place.at < length c.args.list.now) × (c.in-Some.place ≡ place_of c.args.list.now c.loop-place.at)
place c = place_there _ _ _ c.in-Some.ensures

pub returns-then-place-id : goal.returns-then-place-id
returns-then-place-id c =
    let l = c.loop-place in
    let (more, is) = place (goal.at.returns-then-place-id c).In-Some in
    let n = walk_next _ l.at l.invariant.0 more in
    rw (is, l.invariant.1, n.first) (sym (found_here _ _ _ _ n.holding (rw is at c.if-place-id.true)))

pub loop-place-smaller : goal.loop-place-smaller
loop-place-smaller c =
    let l = c.loop-place in
    let (more, is) = place (goal.at.loop-place-smaller c).In-Some in
    omega (arith, more, ap (λ (p : Place). p.next) is, (walk_next _ l.at l.invariant.0 more).onward)

pub loop-place-preserved : goal.loop-place-preserved
loop-place-preserved c =
    let l = c.loop-place in
    let (more, is) = place (goal.at.loop-place-preserved c).In-Some in
    let n = walk_next _ l.at l.invariant.0 more in
    rw is (n.next, rw n.first at l.invariant.1 ∙ found_later _ _ _ _ (rw is at c.if-place-id.false))

pub returns : goal.returns
returns c =
    let l = c.loop-place in
    rw (l.invariant.1, walk_end _ l.at l.invariant.0 (no_place _ _ (sym c.place_in.ensures ∙ c.in_default.is)), c.from.ensures)
