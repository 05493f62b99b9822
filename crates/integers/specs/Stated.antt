-- What holds of every integer that is read, and RFC 9000's examples.
use Rattle.std.specs.Prelude.{ℕ, ◌+◌, ◌-◌, ◌<◌, ◌≤◌, ◌^◌, List, [], ◌∷◌, ◌≡◌, length, replicate, None}
use Rattle.wire.specs.Bytes.{byte_at}
use Rattle.integers.specs.Integers.{integer_at, whole}

-- numbers below 256
abbrev pub AreBytes : List ℕ → Type 0
AreBytes bytes = (i : ℕ) → byte_at bytes i < 256

-- values up to 2^62 − 1, at most 8 bytes, and never past the end
pub record IntegerBounds : Type 0 where
  pub value : (bytes : List ℕ) (at value end : ℕ) → AreBytes bytes → integer_at bytes at ≡ whole value end
      → (value < 2 ^ 62) × (end ≤ at + 8)
  pub inside : (bytes : List ℕ) (at value end : ℕ) → integer_at bytes at ≡ whole value end → (at < end) × (end ≤ length bytes)

-- RFC 9000, A.1, "Sample Variable-Length Integer Decoding"; 37 in two bytes too; the largest; one that is cut
pub record IntegerExamples : Type 0 where
  pub eight : integer_at (0xc2 ∷ 0x19 ∷ 0x7c ∷ 0x5e ∷ 0xff ∷ 0x14 ∷ 0xe8 ∷ 0x8c ∷ []) 0 ≡ whole 151288809941952652 8
  pub four : integer_at (0x9d ∷ 0x7f ∷ 0x3e ∷ 0x7d ∷ []) 0 ≡ whole 494878333 4
  pub two : integer_at (0x7b ∷ 0xbd ∷ []) 0 ≡ whole 15293 2
  pub one : integer_at (0x25 ∷ []) 0 ≡ whole 37 1
  pub one_in_two : integer_at (0x40 ∷ 0x25 ∷ []) 0 ≡ whole 37 2
  pub largest : integer_at (replicate 9 0xff) 1 ≡ whole (2 ^ 62 - 1) 9
  pub cut : integer_at (replicate 9 0xff) 2 ≡ None
  pub none : integer_at [] 0 ≡ None
