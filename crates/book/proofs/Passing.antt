-- How many elements of a list pass a test, and what permutations keep.
-- Assumes nothing.
use Prim.Native.Nat.{ℕ, suc, ◌+◌}
use mathlib.Core.Bool.{Bool}
use mathlib.Core.Path.{◌≡◌, refl, ap, ◌∙◌}
use mathlib.Core.List.Permᴰ
use mathlib.Core.List.{List, [], ◌∷◌, ◌++◌, Permᴰ}
use native.Mathlib.Omega.{arith}
use lib.ListN.{length}
use Rattle.wire.specs.Tests.{pick}
use Rattle.wire.proofs.Booleans.{either}

module _ {A : Type 0} (test : A → Bool) where
  -- how many pass
  unfoldable pub passing : List A → ℕ
  passing [] = 0
  passing (x ∷ xs) = pick (test x) (suc (passing xs)) (passing xs)

  pub passing_append : (xs ys : List A) → passing (xs ++ ys) ≡ passing xs + passing ys
  unfolding passing
  passing_append [] ys = omega arith
  passing_append (x ∷ xs) ys =
      either (test x) (λ t. rw t (omega (arith, passing_append xs ys))) (λ t. rw t (passing_append xs ys))

  -- in any order
  pub passing_permuted : {xs ys : List A} → Permᴰ xs ys → passing xs ≡ passing ys
  unfolding passing
  passing_permuted Permᴰ.nil = refl
  passing_permuted (Permᴰ.cons e d) = rw (e, passing_permuted d)
  passing_permuted (Permᴰ.swap {a = a} {b = b} e f) =
      rw (← e, ← f)
      (either (test a)
      (λ t. either (test b) (λ u. rw (t, u)) (λ u. rw (t, u)))
      (λ t. either (test b) (λ u. rw (t, u)) (λ u. rw (t, u))))
  passing_permuted (Permᴰ.trans d f) = passing_permuted d ∙ passing_permuted f

-- a permutation has the same length
pub length_permuted : {A : Type 0} {xs ys : List A} → Permᴰ xs ys → length xs ≡ length ys
length_permuted Permᴰ.nil = refl
length_permuted (Permᴰ.cons e d) = ap suc (length_permuted d)
length_permuted (Permᴰ.swap e f) = refl
length_permuted (Permᴰ.trans d f) = length_permuted d ∙ length_permuted f

-- a list in front of two others changes places with the next
pub fronts_swapped : {A : Type 0} (xs ys zs : List A) → Permᴰ (xs ++ (ys ++ zs)) (ys ++ (xs ++ zs))
fronts_swapped [] ys zs = Permᴰ.refl (ys ++ zs)
fronts_swapped (x ∷ xs) ys zs =
    Permᴰ.trans (Permᴰ.cons refl (fronts_swapped xs ys zs)) (Permᴰ.symm (Permᴰ.middle x ys (xs ++ zs)))

-- the first element goes to the end
pub first_to_the_end : {A : Type 0} (x : A) (xs : List A) → Permᴰ (x ∷ xs) (xs ++ x ∷ [])
first_to_the_end x xs =
    Permᴰ.symm (Permᴰ.trans (Permᴰ.middle x xs []) (Permᴰ.cons refl (Permᴰ.append-nil xs)))
