-- `keys::read_good` meets its contract. The loop's invariant is `Read`: the configurations before the offset are stored. The measure is
-- what is left of the list.
-- Assumes nothing.
use Rattle.std.proofs.Common.{◌≡◌, ◌<◌, ◌∙◌, sym, ap, length, arith}
use Rattle.keylist.specs.Layout.{next_start}
use Rattle.keylist.specs.declared.Place.{Place}
use Rattle.keylist.specs.Helpers.{first_read, place_of}
use Rattle.keylist.proofs.Keys.{place_there, no_place}
use Rattle.keys.specs.Stored.{stored_keys}
use Rattle.keys.proofs.Reading.{read_start, read_room, read_next, read_end, read_holds, read_few, read_onward}
use Rattle.keys.proofs.read_good.Goals as goal
use Rattle.keys.proofs.read_good.Goals.{In-Some}

pub loop-place-init : goal.loop-place-init
unfolding stored_keys
loop-place-init c = let is = c.requires in rw (c.first_read-at.ensures, c.none-keys.ensures) (read_start _ is.0 is.1)

-- the place that was read is that of the configuration at the offset
here : (c : In-Some) → (let list = c.args.list.now in (c.loop-place.at < length list) × (c.in-Some.place ≡ place_of list c.loop-place.at))
here c = place_there _ _ _ c.in-Some.ensures

pub key_at-requires : goal.key_at-requires
key_at-requires c =
    let is = here (goal.at.key_at-requires c).In-Some in
    (read_holds _ c.loop-place.invariant is.0, is.1)

-- there is room for the next key
pub bounds-keys-count : goal.bounds-keys-count
bounds-keys-count c = read_room _ c.loop-place.invariant (here (goal.at.bounds-keys-count c).In-Some).0

pub offset_bounds-keys-count : goal.offset_bounds-keys-count
offset_bounds-keys-count c = omega (arith, read_room _ c.loop-place.invariant (here (goal.at.offset_bounds-keys-count c).In-Some).0)

pub overflow_add-count : goal.overflow_add-count
overflow_add-count c = omega (arith, read_room _ c.loop-place.invariant (here (goal.at.overflow_add-count c).In-Some).0)

-- the offset that the loop goes on from is where the next configuration starts
goes_on : (c : In-Some) → (let list = c.args.list.now in c.in-Some.place.next ≡ first_read list (next_start list c.loop-place.at))
goes_on c = ap (λ (place : Place). place.next) (here c).1

pub loop-place-preserved : goal.loop-place-preserved
loop-place-preserved c =
    let found = (goal.at.loop-place-preserved c).In-Some in
    rw (goes_on found, c.key_at.ensures) (read_next _ c.loop-place.invariant (here found).0)

pub loop-place-smaller : goal.loop-place-smaller
loop-place-smaller c =
    let found = (goal.at.loop-place-smaller c).In-Some in
    omega (arith, goes_on found, (here found).0, read_onward _ c.loop-place.invariant (here found).0)

pub overflow_cast-keys : goal.overflow_cast-keys
overflow_cast-keys c = omega (arith, read_few _ c.loop-place.invariant)

pub returns : goal.returns
returns c = read_end _ c.loop-place.invariant (no_place _ _ (sym c.place_in.ensures ∙ c.in_default.is))
