-- Laws of arrays whose first elements count: what a filling loop does, what stands at a place, and the search among what counts.
-- Assumes nothing.
use mathlib.Core.Path.{◌≡◌, refl, sym, ap, ◌∙◌}
use mathlib.Core.Bool.{Bool}
use mathlib.Core.List.{List, [], ◌∷◌, ◌++◌, map, append_assoc}
use lib.Dec.{ltb}
use Prim.Native.Nat.{ℕ, zero, suc, ◌-◌, ◌<◌, min}
use native.Mathlib.Nat.{not-suc-le-zero, le_of_suc-le-suc}
use native.Mathlib.Omega.{arith}
use lib.ListN.{length, get_or, take, set, replicate, length-append, length-map, length-take, get_or-map}
use lib.Seq.{set_at, get_or-take, take-append_seam, take-nil}
use Rattle.std.specs.Bool.{then_some}
use Rattle.std.specs.List.{position, position_or_len}
use Rattle.std.proofs.lemmas.List.Recursion.{is_position_or_len}
use Rattle.wire.specs.Search.{first_place}
use Rattle.wire.proofs.Booleans.{either}
use Rattle.keys.specs.Keys.{padded}

module _ {A : Type 0} where
  -- in range it does not matter what stands for what is out of range
  pub get_d_any : (xs : List A) (i : ℕ) (d e : A) → i < length xs → get_or xs i d ≡ get_or xs i e
  get_d_any [] i d e h = absurd (not-suc-le-zero h)
  get_d_any (x ∷ xs) zero d e h = refl
  get_d_any (x ∷ xs) (suc i) d e h = get_d_any xs i d e (le_of_suc-le-suc h)

  -- as many as there are, or as are asked for
  pub take_min : (xs : List A) (n count : ℕ) → n ≡ min count (length xs) → take n xs ≡ take count xs
  take_min [] n count e = take-nil n ∙ sym (take-nil count)
  take_min (x ∷ xs) zero zero e = refl
  take_min (x ∷ xs) zero (suc count) e = absurd (omega arith)
  take_min (x ∷ xs) (suc n) zero e = absurd (omega arith)
  take_min (x ∷ xs) (suc n) (suc count) e = ap (λ (ys : List A). x ∷ ys) (take_min xs n count (omega arith))

  -- the next blank becomes an element
  pub set-padded : (size : ℕ) (blank : A) (xs : List A) (i : ℕ) (x : A) → length xs ≡ i → i < size
      → set (padded size blank xs) i x ≡ padded size blank (xs ++ x ∷ [])
  set-padded size blank xs i x e h =
      let one : size - length xs ≡ suc (size - length (xs ++ x ∷ [])) = simp length-append (omega arith) in
      rw one (set_at xs blank (replicate (size - length (xs ++ x ∷ [])) blank) x i e
      ∙ sym (append_assoc xs (x ∷ []) (replicate (size - length (xs ++ x ∷ [])) blank)))

  -- the elements that count
  pub take-padded : (size : ℕ) (blank : A) (xs : List A) → take (length xs) (padded size blank xs) ≡ xs
  take-padded size blank xs = take-append_seam xs (replicate (size - length xs) blank)

-- the first match, as the library has it
module _ {A B : Type 0} (view : A → B) (test : B → Bool) where
  pub first_seen : (xs : List A) → first_place test (map view xs) ≡ position_or_len (λ x. test (view x)) xs
  unfolding first_place
  first_seen xs =
      is_position_or_len (λ ys. first_place test (map view ys)) (λ x. test (view x)) refl
      (λ x ys. either (test (view x)) (λ e. rw e refl) (λ e. rw e (omega arith))) xs

  pub position_seen : (xs : List A)
      → position (λ x. test (view x)) xs ≡ then_some (ltb (first_place test (map view xs)) (length (map view xs))) (first_place test (map view xs))
  position_seen xs =
      rw (first_seen xs, length-map xs view)
      (either (ltb (position_or_len (λ x. test (view x)) xs) (length xs)) (λ e. rw e refl) (λ e. rw e refl))

module _ {A B : Type 0} (view : A → B) where
  -- a change of one element, seen through a map
  pub map-set : (xs : List A) (i : ℕ) (x : A) → map view (set xs i x) ≡ set (map view xs) i (view x)
  map-set [] i x = refl
  map-set (y ∷ xs) zero x = refl
  map-set (y ∷ xs) (suc i) x = ap (λ (ys : List B). view y ∷ ys) (map-set xs i x)

  pub map-append : (xs ys : List A) → map view (xs ++ ys) ≡ map view xs ++ map view ys
  map-append [] ys = refl
  map-append (x ∷ xs) ys = ap (λ (zs : List B). view x ∷ zs) (map-append xs ys)

  module _ (count : ℕ) (list : List A) where
    pub length_stored : length (map view (take count list)) ≡ min count (length list)
    length_stored = length-map (take count list) view ∙ length-take count list

    -- the element at a place
    pub stored_at : (i : ℕ) (d : A) (e : B) → i < count → i < length list
        → get_or (map view (take count list)) i e ≡ view (get_or list i d)
    stored_at i d e h k =
        get_d_any (map view (take count list)) i e (view d) (rw length_stored (omega arith))
        ∙ get_or-map view (take count list) i d
        ∙ ap view (get_or-take count list i d h)
