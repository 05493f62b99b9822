-- Laws of what a refusal number decides.
-- Assumes nothing.
use mathlib.Core.Path.{◌≡◌, refl}
use mathlib.Core.Bool.{Bool, true, false}
use Prim.Native.Nat.{ℕ, zero, suc}
use native.Mathlib.Omega.{arith}
use Rattle.std.proofs.Common.{Ok}
use Rattle.wire.specs.Refusals.{unless_refused, result_by, ◌when◌otherwise◌}
use Rattle.wire.proofs.Booleans.{true_or_false}

-- a number other than 0 leaves things as they were
pub unless-refused : {A : Type 0} (n : ℕ) (after before : A) → (n ≡ 0 → ⊥) → before ≡ unless_refused n after before
unless-refused zero after before h = absurd (h refl)
unless-refused (suc n) after before h = refl

-- a chain of tests gives no refusal exactly where its first test fails and the rest gives none
pub not-refused : (n : ℕ) (test : Bool) (rest : ℕ) → (suc n when test otherwise rest) ≡ 0 → (test ≡ false) × (rest ≡ 0)
not-refused n true rest e = absurd (omega (arith, e))
not-refused n false rest e = (refl, e)

pub passed_on : (n : ℕ) (test : Bool) (rest : ℕ) → test ≡ false → rest ≡ 0 → (n when test otherwise rest) ≡ 0
passed_on n true rest t e = absurd (true_or_false refl t)
passed_on n false rest t e = e

-- an `Ok` is answered only where nothing refuses, and holds the value
pub ok_by : {A : Type 0} (n : ℕ) (a b : A) → Ok b ≡ result_by n a → (n ≡ 0) × (b ≡ a)
ok_by zero a b e = (refl, cc)
ok_by (suc n) a b e = cc
