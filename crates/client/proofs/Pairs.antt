-- Laws of the client's pairs and of a configuration's: one pair more, and what the search among them tells.
-- Assumes nothing.
use mathlib.Core.Path.{◌≡◌, refl, ap}
use mathlib.Core.Bool.{Bool, true, false, ◌&&◌, ◌||◌}
use mathlib.Core.List.{List, [], ◌∷◌}
use Prim.Native.Nat.{ℕ, zero, suc, ◌+◌, ◌-◌, ◌*◌, ◌≤◌, ◌<◌}
use native.Mathlib.Omega.{arith}
use borrow.Author.Tests.{eqb-true}
use lib.Dec.{eqb}
use lib.ListN.{length, get_or, drop}
use Rattle.std.specs.Bool.{then_some}
use Rattle.wire.specs.Tests.{pick, ◌and◌}
use Rattle.wire.specs.Bytes.{word_at}
use Rattle.wire.specs.Search.{first_place}
use Rattle.wire.proofs.Booleans.{either, true_or_false, and_left, and_right}
use Rattle.keylist.specs.declared.Pair.{Pair}
use Rattle.keylist.specs.Layout.{pairs_at}
use Rattle.std.specs.Prelude.{Some, None}
use Rattle.client.specs.Choose.{pairs_of, listed, usable_pair}
use Rattle.client.specs.Helpers.{pair_found}

-- one number is no pair
pub listed_end : (numbers : List ℕ) (p : Pair) → length numbers < 2 → listed numbers p ≡ false
unfolding pairs_of
listed_end [] p h = refl
listed_end (a ∷ []) p h = refl
listed_end (a ∷ b ∷ numbers) p h = absurd (omega arith)

and_is : (a b : Bool) → (a and b) ≡ (a && b)
and_is true b = refl
and_is false b = refl

-- the search among the client's pairs, one pair on
pub listed_step : (numbers : List ℕ) (p : Pair) → 2 ≤ length numbers
    → listed numbers p ≡ ((eqb (get_or numbers 0 0) p.kdf && eqb (get_or numbers 1 0) p.aead) || listed (drop 2 numbers) p)
unfolding pairs_of
listed_step [] p h = absurd (omega arith)
listed_step (a ∷ []) p h = absurd (omega arith)
listed_step (a ∷ b ∷ numbers) p h = ap (λ (is : Bool). is || listed numbers p) (and_is (eqb a p.kdf) (eqb b p.aead))

-- the search among a configuration's pairs, one pair on
pub found_step : (numbers bytes : List ℕ) (left at : ℕ) → 0 < left
    → pair_found numbers (pairs_at left bytes at)
    ≡ pick (usable_pair numbers (record { kdf = word_at bytes at; aead = word_at bytes (at + 2) }))
    (Some (record { kdf = word_at bytes at; aead = word_at bytes (at + 2) }))
    (pair_found numbers (pairs_at (left - 1) bytes (at + 4)))
unfolding pairs_at first_place
found_step numbers bytes zero at h = absurd (omega arith)
found_step numbers bytes (suc left) at h =
    let one : suc left - 1 ≡ left = omega arith in
    either (usable_pair numbers (record { kdf = word_at bytes at; aead = word_at bytes (at + 2) })) (λ e. rw e) (λ e. rw (e, one))

pub found_end : (numbers bytes : List ℕ) (left at : ℕ) → left ≡ 0 → pair_found numbers (pairs_at left bytes at) ≡ None
unfolding pairs_at
found_end numbers bytes left at e = rw e

-- a pair was found: there is one, and it is that
pub pair_there : (b : Bool) (p : Pair) {q : Pair} → then_some b p ≡ Some q → (b ≡ true) × (p ≡ q)
pair_there true p e = (refl, cc)
pair_there false p e = cc

-- none was found
pub none_there : (b : Bool) (p : Pair) → then_some b p ≡ None → b ≡ false
none_there true p e = cc
none_there false p e = refl

-- a pair of the client's list has a place there
pub listed_place : (numbers : List ℕ) (p : Pair) → listed numbers p ≡ true
    → (i : ℕ) × (i * 2 + 1 < length numbers) × (get_or numbers (i * 2) 0 ≡ p.kdf) × (get_or numbers (i * 2 + 1) 0 ≡ p.aead)
unfolding pairs_of
listed_place [] p e = absurd (true_or_false e refl)
listed_place (a ∷ []) p e = absurd (true_or_false e refl)
listed_place (a ∷ b ∷ numbers) p e =
    let left = eqb a p.kdf in
    let right = eqb b p.aead in
    either (left and right)
    (λ s. (0, omega arith, eqb-true a p.kdf (and_left left right s), eqb-true b p.aead (and_right left right s)))
    (λ s.
    let w = listed_place numbers p (rw s at e) in
    let two : suc w.0 * 2 ≡ suc (suc (w.0 * 2)) = omega arith in
    let three : suc w.0 * 2 + 1 ≡ suc (suc (w.0 * 2 + 1)) = omega arith in
    (suc w.0, omega arith, rw two w.2, rw three w.3))
