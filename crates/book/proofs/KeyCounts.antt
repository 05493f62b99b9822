-- The counts and the ids of the keys, where one key is changed_at.
-- Assumes nothing.
use Prim.Native.Nat.{ℕ, zero, suc, ◌+◌, ◌*◌, ◌≤◌, ◌<◌, suc-le-suc}
use mathlib.Core.Bool.{true}
use mathlib.Core.Path.{◌≡◌, refl, ap, ap₂, sym, ◌∙◌}
use mathlib.Core.List.{List, [], ◌∷◌, map}
use native.Mathlib.Nat.{not-suc-le-zero, le_of_suc-le-suc}
use native.Mathlib.Omega.{arith}
use borrow.Author.Tests.{eqb-true, eqb-false, eq-eqb, ne_eqb}
use lib.Dec.{eqb}
use lib.ListN.{length, get_or, set, length-map, get_or-map}
use lib.Seq.{get_or-set_same, get_or-set_other, map-set_same}
use Rattle.wire.specs.Search.{first_place, among}
use Rattle.wire.proofs.Booleans.{either, true_or_false}
use Rattle.wire.proofs.Matches.{among_at}
use Rattle.keylist.specs.Layout.{Configuration}
use Rattle.keys.specs.Keys.{Key, fresh_key, with_use, with_retirement}
use Rattle.keys.specs.Helpers.{no_key, key_at}
use Rattle.keys.specs.Stored.{place_of_key}
use Rattle.gateway.specs.Registry.{most_uses}
use Rattle.book.specs.Counts.{sum_of_counts}
use Rattle.keys.proofs.Named.{changed_at}
use Rattle.keys.proofs.Parsed.{Distinct}

abbrev pub ids : List Key → List ℕ
ids keys = map (λ (key : Key). key.id) keys

-- the sum where the key at a place is another
sum-set : (keys : List Key) (place : ℕ) (key : Key) → place < length keys
    → sum_of_counts (set keys place key) + (key_at keys place).count ≡ sum_of_counts keys + key.count
unfolding sum_of_counts
sum-set [] place key h = absurd (not-suc-le-zero h)
sum-set (k ∷ keys) zero key h = omega arith
sum-set (k ∷ keys) (suc place) key h = omega (arith, sum-set keys place key (le_of_suc-le-suc h))

-- counts of at most 1,000,000,000 each
pub sum_bound : (keys : List Key) → ((place : ℕ) → (key_at keys place).count ≤ most_uses)
    → sum_of_counts keys ≤ length keys * most_uses
unfolding sum_of_counts
sum_bound [] h = omega arith
sum_bound (k ∷ keys) h = omega (arith, h 0, sum_bound keys (λ place. h (suc place)))

-- the key at a place, where the one at another is changed_at
pub key_changed : (change : Key → Key) (place other : ℕ) (keys : List Key) → (other ≡ place → ⊥)
    → key_at (changed_at change place keys) other ≡ key_at keys other
key_changed change place other keys apart = get_or-set_other keys place other (change (key_at keys place)) no_key apart

pub key_itself : (change : Key → Key) (place : ℕ) (keys : List Key) → place < length keys
    → key_at (changed_at change place keys) place ≡ change (key_at keys place)
key_itself change place keys h = get_or-set_same keys place (change (key_at keys place)) no_key h

-- a number that the change leaves
pub number_kept : (f : Key → ℕ) (change : Key → Key) (place other : ℕ) (keys : List Key)
    → f (change (key_at keys place)) ≡ f (key_at keys place) → f (key_at (changed_at change place keys) other) ≡ f (key_at keys other)
number_kept f change place other keys e =
    sym (get_or-map f (changed_at change place keys) other no_key)
    ∙ ap (λ (ns : List ℕ). get_or ns other (f no_key)) (map-set_same f keys place (change (key_at keys place)) no_key e)
    ∙ get_or-map f keys other no_key

-- no count is above the cap where one use more is given to a key that is below it
pub used_within : (cap place : ℕ) (keys : List Key) → ((other : ℕ) → (key_at keys other).count ≤ cap) → place < length keys
    → (key_at keys place).count < cap → (other : ℕ) → (key_at (changed_at with_use place keys) other).count ≤ cap
used_within cap place keys within inside below other =
    either (eqb other place)
    (λ e. rw (eqb-true other place e, key_itself with_use place keys) (omega arith))
    (λ e. rw (key_changed with_use place other keys (eqb-false other place e)) (within other))

pub used_sum : (place : ℕ) (keys : List Key) → place < length keys
    → sum_of_counts (changed_at with_use place keys) ≡ sum_of_counts keys + 1
used_sum place keys inside = omega (arith, sum-set keys place (with_use (key_at keys place)) inside)

pub used_ids : (place : ℕ) (keys : List Key) → ids (changed_at with_use place keys) ≡ ids keys
used_ids place keys = map-set_same (λ (key : Key). key.id) keys place (with_use (key_at keys place)) no_key refl

-- a retirement leaves ids and counts
pub retired_sum : (place : ℕ) (keys : List Key) → place < length keys → sum_of_counts (changed_at with_retirement place keys) ≡ sum_of_counts keys
retired_sum place keys inside = omega (arith, sum-set keys place (with_retirement (key_at keys place)) inside)

pub retired_ids : (place : ℕ) (keys : List Key) → ids (changed_at with_retirement place keys) ≡ ids keys
retired_ids place keys = map-set_same (λ (key : Key). key.id) keys place (with_retirement (key_at keys place)) no_key refl

-- the same ids: the same number of keys, and each has its id
pub same_id : (keys others : List Key) (place : ℕ) → ids keys ≡ ids others → (key_at keys place).id ≡ (key_at others place).id
same_id keys others place e =
    sym (get_or-map (λ (key : Key). key.id) keys place no_key)
    ∙ ap (λ (ns : List ℕ). get_or ns place 0) e
    ∙ get_or-map (λ (key : Key). key.id) others place no_key

pub same_length : (keys others : List Key) → ids keys ≡ ids others → length keys ≡ length others
same_length keys others e =
    sym (length-map keys (λ (key : Key). key.id)) ∙ ap length e ∙ length-map others (λ (key : Key). key.id)

-- a key is found by its id
among_ids : (keys : List Key) (place : ℕ) → place < length keys → among (ids keys) (key_at keys place).id ≡ true
among_ids keys place h =
    among_at (ids keys) (key_at keys place).id place (rw length-map h) (get_or-map (λ (key : Key). key.id) keys place no_key)

pub place_of_id : (keys : List Key) (place : ℕ) → Distinct (ids keys) → place < length keys
    → place_of_key (key_at keys place).id keys ≡ place
unfolding first_place
place_of_id [] place d h = absurd (not-suc-le-zero h)
place_of_id (k ∷ keys) zero d h = rw (eq-eqb k.id k.id refl)
place_of_id (k ∷ keys) (suc place) d h =
    rw (ne_eqb k.id (key_at keys place).id (λ e. true_or_false (among_ids keys place (le_of_suc-le-suc h)) (rw e at d.0)))
    (ap suc (place_of_id keys place d.1 (le_of_suc-le-suc h)))

-- the keys of a fresh gateway
pub fresh_ids : (cs : List Configuration) → ids (map fresh_key cs) ≡ map (λ (c : Configuration). c.key_id) cs
fresh_ids [] = refl
fresh_ids (c ∷ cs) = ap (λ (r : List ℕ). c.key_id ∷ r) (fresh_ids cs)

pub fresh_count : (cs : List Configuration) (place : ℕ) → (key_at (map fresh_key cs) place).count ≡ 0
fresh_count [] place = refl
fresh_count (c ∷ cs) zero = refl
fresh_count (c ∷ cs) (suc place) = fresh_count cs place

pub fresh_sum : (cs : List Configuration) → sum_of_counts (map fresh_key cs) ≡ 0
unfolding sum_of_counts
fresh_sum [] = refl
fresh_sum (c ∷ cs) = rw (fresh_sum cs)

-- what holds of the key at each place holds along the list
pub each_key : (f g : Key → ℕ) (keys : List Key) → ((place : ℕ) → place < length keys → f (key_at keys place) ≡ g (key_at keys place))
    → map f keys ≡ map g keys
each_key f g [] h = refl
each_key f g (k ∷ keys) h =
    ap₂ (λ (n : ℕ) (more : List ℕ). n ∷ more) (h 0 (omega arith)) (each_key f g keys (λ place l. h (suc place) (suc-le-suc l)))
