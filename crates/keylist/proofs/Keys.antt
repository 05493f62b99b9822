-- Where a public key is found in the walk over a good list, that it lies in the list, and that the key reader's part is empty
-- exactly on refusal.
-- Assumes nothing.
use mathlib.Core.Path.{◌≡◌, refl, ap, ◌∙◌}
use mathlib.Core.Bool.{true}
use mathlib.Core.List.{List, [], ◌∷◌}
use mathlib.Core.Logic.{◌↔◌}
use Rattle.std.specs.Prelude.{Some, None, Result, Ok, Err}
use Prim.Native.Nat.{ℕ, ◌+◌, ◌-◌, ◌≤◌, ◌<◌}
use native.Mathlib.Omega.{arith}
use borrow.Author.Tests.{ltb-true, ltb-false, lt-ltb, eq-eqb, ne_eqb, eqb-true, eqb-false}
use lib.Dec.{eqb, ltb}
use lib.ListN.{length, length-take, length-drop}
use Rattle.wire.specs.Bytes.{part}
use Rattle.wire.specs.declared.refusal.Refusal.{Refusal}
use Rattle.wire.proofs.Booleans.{either}
use Rattle.algorithms.specs.Sizes.{public_key_length}
use Rattle.algorithms.proofs.Stated.{size_bounds}
use Rattle.wire.specs.declared.span.Span.{Span}
use Rattle.keylist.specs.declared.Place.{Place}
use Rattle.keylist.specs.Before.{layout_holds}
use Rattle.keylist.specs.Layout.{Configuration, parse, configuration_at, key_id_at, kem_at, key_start, key_end, most_configurations}
use Rattle.keylist.specs.Answers.{configuration_with, key_place, key_place_in, key_part, span}
use Rattle.keylist.specs.Helpers.{place_of, place_in}
use Rattle.keylist.specs.Stated.{EmptyOnRefusal, PublicKeyExactly}
use Rattle.keylist.proofs.LayoutLaws.{Holds, holds}
use Rattle.keylist.proofs.Parsing.{by_reading, holding}
use Rattle.keylist.proofs.Walk.{parse_all, key_length_at}

-- where the key with the id lies, of these configurations
abbrev pub first_with_id : ℕ → List Configuration → Result Span Refusal
first_with_id id cs = key_place (configuration_with id cs)

pub place_inside : (bytes : List ℕ) (at : ℕ) → at < length bytes → place_in bytes at ≡ Some (place_of bytes at)
place_inside bytes at h = rw (lt-ltb at (length bytes) h)

-- a place that was read: there is one exactly where the list goes on
pub place_there : (bytes : List ℕ) (at : ℕ) (place : Place) → Some place ≡ place_in bytes at → (at < length bytes) × (place ≡ place_of bytes at)
place_there bytes at place e =
    either (ltb at (length bytes)) (λ h. (ltb-true at (length bytes) h, cc (rw h at e))) (λ h. cc (rw h at e))

pub no_place : (bytes : List ℕ) (at : ℕ) → place_in bytes at ≡ None → length bytes ≤ at
no_place bytes at e = either (ltb at (length bytes)) (λ h. cc (rw h at e)) (λ h. ltb-false at (length bytes) h)

-- a place that was read where a configuration keeps the rules
pub good_place : {bytes : List ℕ} {at : ℕ} {place : Place} → layout_holds bytes at ≡ true → Some place ≡ place_in bytes at
    → Holds bytes at × (place ≡ place_of bytes at)
good_place {bytes} {at} h e = let is = holds bytes at h in (is, cc (e ∙ place_inside bytes at (omega (arith, is.whole))))

module _ (bytes : List ℕ) (at id : ℕ) (cs : List Configuration) where
  -- the first configuration has the key id
  pub found_here : Holds bytes at → key_id_at bytes at ≡ id
      → first_with_id id (configuration_at bytes at ∷ cs) ≡ Ok (span (key_start at) (key_end bytes at))
  unfolding configuration_at
  found_here h e =
      rw (eq-eqb (key_id_at bytes at) id e)
      (ap (λ (k : ℕ). Ok (span (key_start at) (key_start at + k))) (key_length_at bytes at h))

  -- it has another
  pub found_later : (key_id_at bytes at ≡ id → ⊥) → first_with_id id (configuration_at bytes at ∷ cs) ≡ first_with_id id cs
  unfolding configuration_at
  found_later e = rw (ne_eqb (key_id_at bytes at) id e)

-- what is found lies in the list and is not empty
Inside : List ℕ → Result Span Refusal → Type 0
Inside bytes (Ok key) = (key.start < key.end) × (key.end ≤ length bytes)
Inside bytes (Err r) = Unit

-- Inside, as the code asks it
inside_key : (bytes : List ℕ) (at : ℕ) → Holds bytes at → (key_start at < key_end bytes at) × (key_end bytes at ≤ length bytes)
inside_key bytes at h =
    let there : 0 < public_key_length (kem_at bytes at) = size_bounds.key_is_there (kem_at bytes at) h.kem in
    (omega arith, omega (arith, h.whole, h.sizes))

inside_list : (bytes : List ℕ) (id : ℕ) (p : Result (List Configuration) Refusal) → parse bytes ≡ p → Inside bytes (key_place_in id p)
unfolding Inside
inside_list bytes id (Ok cs) e =
    by_reading bytes (λ more taken at rest. Inside bytes (first_with_id id rest))
    (λ more taken at h. tt)
    (λ more taken at rest k parsed inside. inside)
    (λ more taken at rest g parsed inside.
    let h = holding bytes taken at g in
    either (eqb (key_id_at bytes at) id)
    (λ i. rw (found_here bytes at id rest h (eqb-true (key_id_at bytes at) id i)) (inside_key bytes at h))
    (λ i. rw (found_later bytes at id rest (eqb-false (key_id_at bytes at) id i)) inside))
    most_configurations [] 0 cs (parse_all bytes cs e)
inside_list bytes id (Err r) e = tt

-- a key that is found lies in the list
pub found_inside : (bytes : List ℕ) (id : ℕ) (key : Span) → key_place_in id (parse bytes) ≡ Ok key
    → (key.start < key.end) × (key.end ≤ length bytes)
unfolding Inside
found_inside bytes id key e = rw e at (inside_list bytes id (parse bytes) refl)

part_not_empty : (bytes : List ℕ) (from to : ℕ) → from < to → to ≤ length bytes → part bytes from (to - from) ≡ [] → ⊥
part_not_empty bytes from to h k e =
    omega (arith, simp (length-take, length-drop) at (ap length e))

empty_place : (bytes : List ℕ) (place : Result Span Refusal) → Inside bytes place
    → (key_part bytes place ≡ []) ↔ ((r : Refusal) × (place ≡ Err r))
unfolding Inside
empty_place bytes (Ok key) h = (λ e. absurd (part_not_empty bytes key.start key.end h.0 h.1 e), λ r. cc r.1)
empty_place bytes (Err r) h = (λ e. (r, refl), λ e. refl)

pub empty_on_refusal : EmptyOnRefusal
empty_on_refusal bytes id = empty_place bytes (key_place_in id (parse bytes)) (inside_list bytes id (parse bytes) refl)

-- the part that is found is the public key of the first configuration with the key id, and has its Npk bytes
key_among : (bytes : List ℕ) (id : ℕ) (cs : List Configuration) (c : Configuration) → parse bytes ≡ Ok cs → configuration_with id cs ≡ Some c
    → (key_part bytes (first_with_id id cs) ≡ c.public_key) × (length c.public_key ≡ public_key_length c.kem)
unfolding configuration_at
key_among bytes id cs c e =
    by_reading bytes
    (λ more taken at rest.
    configuration_with id rest ≡ Some c
    → (key_part bytes (first_with_id id rest) ≡ c.public_key) × (length c.public_key ≡ public_key_length c.kem))
    (λ more taken at h f. cc f)
    (λ more taken at rest k parsed is. is)
    (λ more taken at rest g parsed is f.
    let h = holding bytes taken at g in
    either (eqb (key_id_at bytes at) id)
    (λ i.
    let same : configuration_at bytes at ≡ c = cc (rw i at f) in
    let size : key_end bytes at - key_start at ≡ public_key_length (kem_at bytes at) = omega arith in
    rw (← same, found_here bytes at id rest h (eqb-true (key_id_at bytes at) id i), size) (refl, key_length_at bytes at h))
    (λ i. rw (found_later bytes at id rest (eqb-false (key_id_at bytes at) id i)) (is (rw i at f))))
    most_configurations [] 0 cs (parse_all bytes cs e)

pub public_key_exactly : PublicKeyExactly
public_key_exactly bytes id cs c e f = rw e (key_among bytes id cs c e f)
