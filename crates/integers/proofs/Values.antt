-- Laws of an integer's size and value.
-- Assumes nothing.
use mathlib.Core.Path.{◌≡◌, sym, ap, ◌∙◌}
use mathlib.Core.Bool.{true}
use mathlib.Core.List.{List}
use Prim.Native.Nat.{ℕ, ◌+◌, ◌*◌, ◌/◌, ◌%◌, ◌^◌, ◌≤◌, ◌<◌}
use native.Mathlib.Nat.{lt_of_lt_of_le}
use native.Mathlib.Omega.{arith}
use borrow.Author.Tests.{le-leb, lt-leb, leb-true, leb-false}
use lib.Dec.{leb}
use lib.ListN.{length, drop}
use lib.Pow.{pow-add, pow_mono}
use Rattle.std.specs.Prelude.{None}
use Rattle.std.specs.Slice.Scan.{big_endian}
use Rattle.std.proofs.lemmas.List.{at_drop_more, drop_all}
use Rattle.std.proofs.lemmas.Option.{none-some, same_Some}
use Rattle.wire.specs.Bytes.{byte_at}
use Rattle.wire.proofs.Booleans.{either}
use Rattle.integers.specs.Integers.{size_of, integer_at, integer_value, whole}
use Rattle.integers.specs.declared.Integer.{Integer}

-- the size is 1 to 8, whatever stands there
pub size_least : (first : ℕ) → 1 ≤ size_of first
size_least first = pow_mono {i = 0} {j = first / 64} (omega arith)

pub size_most : (first : ℕ) → first < 256 → size_of first ≤ 8
size_most first h = pow_mono {i = first / 64} {j = 3} (omega arith)

-- it is cut, or it lies whole
pub is_cut : (bytes : List ℕ) (at : ℕ) → length bytes < at + size_of (byte_at bytes at) → None ≡ integer_at bytes at
unfolding integer_at
is_cut bytes at h = rw (lt-leb _ _ h)

pub is_whole : (bytes : List ℕ) (at : ℕ) → at + size_of (byte_at bytes at) ≤ length bytes
    → whole (integer_value bytes at) (at + size_of (byte_at bytes at)) ≡ integer_at bytes at
unfolding integer_at
is_whole bytes at h = rw (le-leb _ _ h)

-- what lies whole is this value, and ends here
pub whole_is : (bytes : List ℕ) (at value end : ℕ) → integer_at bytes at ≡ whole value end
    → (value ≡ integer_value bytes at) × (end ≡ at + size_of (byte_at bytes at)) × (at + size_of (byte_at bytes at) ≤ length bytes)
unfolding integer_at
whole_is bytes at value end e =
    either (leb (at + size_of (byte_at bytes at)) (length bytes))
    (λ (t : leb (at + size_of (byte_at bytes at)) (length bytes) ≡ true).
    let same = same_Some _ _ (rw t at e) in
    (sym (ap (λ (i : Integer). i.value) same), sym (ap (λ (i : Integer). i.end) same), leb-true _ _ t))
    (λ t. absurd (none-some _ (rw t at e)))

pub cut_is : (bytes : List ℕ) (at : ℕ) → integer_at bytes at ≡ None → length bytes < at + size_of (byte_at bytes at)
unfolding integer_at
cut_is bytes at e =
    either (leb (at + size_of (byte_at bytes at)) (length bytes))
    (λ t. absurd (none-some _ (sym (rw t at e))))
    (λ t. leb-false (at + size_of (byte_at bytes at)) (length bytes) t)

-- a byte more is eight bits more
pub grown : (n byte bits : ℕ) → n < 2 ^ bits → byte < 256 → n * 256 + byte < 2 ^ (bits + 8)
grown n byte bits h k = rw (pow-add 2 bits 8) (omega arith)

-- what a loop has read of an integer: its first byte, of the bytes behind it so many, and the value so far
pub record ReadTo (first : ℕ) (rest : List ℕ) (value count : ℕ) : Type 0 where
  pub short : length rest ≤ 7
  pub bits : value < 2 ^ (6 + 8 * count)
  pub left : big_endian value (drop count rest) ≡ big_endian (first % 64) rest

module _ {first : ℕ} {rest : List ℕ} {value count : ℕ} (r : ReadTo first rest value count) where
  -- a number that has room for one byte more
  pub has_room : count < length rest → value < 2 ^ 54
  has_room h = lt_of_lt_of_le r.bits (pow_mono {j = 54} (omega (arith, r.short)))

  pub next_byte : count < length rest → byte_at rest count < 256 → ReadTo first rest (value * 256 + byte_at rest count) (count + 1)
  next_byte h k =
      let e : 6 + 8 * (count + 1) ≡ (6 + 8 * count) + 8 = omega arith in
      record {
        short = r.short;
        bits = rw e (grown value (byte_at rest count) _ r.bits k);
        left = sym (at_drop_more (big_endian value) rest count 0 h) ∙ r.left;
      }

  -- all of it
  pub read_all : length rest ≤ count → value ≡ big_endian (first % 64) rest
  read_all h = sym (ap (big_endian value) (drop_all count rest h)) ∙ r.left
