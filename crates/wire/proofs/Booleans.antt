-- Tests: decided either way, and the parts of a conjunction.
-- Assumes nothing.
use mathlib.Core.Path.{◌≡◌, refl}
use mathlib.Core.Bool.{Bool, true, false}
use Prim.Native.Nat.{ℕ}
use native.Mathlib.Omega.{arith}
use Rattle.wire.specs.Tests.{◌and◌}

-- a test is decided either way
pub either {ℓ} : {P : Type ℓ} (b : Bool) → (b ≡ true → P) → (b ≡ false → P) → P
either true holds fails = holds refl
either false holds fails = fails refl

pub true_or_false : {b : Bool} → b ≡ true → b ≡ false → ⊥
true_or_false p q = let z : ◌≡◌ {A = ℕ} 0 1 = cc in omega arith

pub and_left : (a b : Bool) → (a and b) ≡ true → a ≡ true
and_left true b e = refl
and_left false b e = e

pub and_right : (a b : Bool) → (a and b) ≡ true → b ≡ true
and_right true b e = e
and_right false b e = absurd (true_or_false e refl)

pub and_false : (a b : Bool) → b ≡ false → (a and b) ≡ false
and_false true b e = e
and_false false b e = refl
