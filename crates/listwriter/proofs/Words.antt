-- Laws of numbers written as two bytes each.
-- Assumes nothing.
use mathlib.Core.Path.{◌≡◌, refl, ap, ◌∙◌}
use mathlib.Core.List.{List, [], ◌∷◌, ◌++◌}
use Prim.Native.Nat.{ℕ, suc, ◌+◌, ◌*◌, ◌/◌, ◌%◌, ◌<◌}
use native.Mathlib.Numerals.{add-one}
use native.Mathlib.Omega.{arith}
use lib.ListN.{length, get_or, take}
use lib.Seq.{take-suc}
use Rattle.std.proofs.lemmas.Grind.{flat_map-append}
use Rattle.wire.specs.Bytes.{word_bytes}
use Rattle.listwriter.specs.Writer.{words_bytes}

pub words_length : (xs : List ℕ) → length (words_bytes xs) ≡ length xs * 2
words_length [] = refl
words_length (x ∷ xs) = ap (λ (n : ℕ). suc (suc n)) (words_length xs) ∙ omega arith

-- one number more
pub words_one_more : (xs : List ℕ) (i : ℕ) → i < length xs
    → words_bytes (take (i + 1) xs) ≡ words_bytes (take i xs) ++ word_bytes (get_or xs i 0)
words_one_more xs i h = rw (add-one i, take-suc xs i 0 h) (flat_map-append word_bytes (take i xs) (get_or xs i 0 ∷ []))

-- what the library's `to_be_bytes` answers
pub word_of : (n : ℕ) → n < 65536 → n / 256 % 256 ∷ n % 256 ∷ [] ≡ word_bytes n
word_of n h = let high : n / 256 % 256 ≡ n / 256 = omega arith in rw high
