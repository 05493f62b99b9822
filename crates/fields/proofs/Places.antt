-- The place of the first element that passes, as std's searches give it.
-- Assumes nothing.
use mathlib.Core.Path.{◌≡◌, refl}
use mathlib.Core.Bool.{Bool, true, false, cond, not}
use mathlib.Core.List.{List}
use Prim.Native.Nat.{ℕ, suc, ◌+◌}
use native.Mathlib.Omega.{arith}
use borrow.Author.Tests.{ltb-false}
use lib.Dec.{ltb}
use lib.ListN.{length}
use Rattle.std.specs.List.{position, position_or_len}
use Rattle.std.proofs.Common.{unwrap_or}
use Rattle.std.proofs.lemmas.List.Recursion.{is_position_or_len}
use Rattle.std.proofs.lemmas.List.Sums.{prefix_len-le-length}
use Rattle.wire.proofs.Booleans.{either}
use Rattle.wire.specs.Search.{first_place}
use Rattle.wire.specs.Tests.{pick}

-- where `position` finds one, and the length where it finds none
pub first_place_found : {A : Type 0} (test : A → Bool) (xs : List A) → unwrap_or (position test xs) (length xs) ≡ first_place test xs
unfolding first_place
first_place_found test xs =
    either (ltb (position_or_len test xs) (length xs))
    (λ t. rw (t, same))
    (λ t.
    let past = ltb-false (position_or_len test xs) (length xs) t in
    let all : length xs ≡ position_or_len test xs = omega (arith, past, prefix_len-le-length (λ x. not (test x)) xs) in
    rw (t, all, same))
  where
    same : first_place test xs ≡ position_or_len test xs
    same = is_position_or_len (first_place test) test refl (λ x rest. by (test x) (first_place test rest)) xs
      where
        by : (b : Bool) (n : ℕ) → pick b 0 (suc n) ≡ cond b 0 (1 + n)
        by true n = refl
        by false n = let e : suc n ≡ 1 + n = omega arith in e
