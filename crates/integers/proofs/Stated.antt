-- The statements about integers, proved.
-- Assumes nothing.
use mathlib.Core.Path.{◌≡◌, refl}
use mathlib.Core.List.{List, [], ◌∷◌}
use Prim.Native.Nat.{ℕ, suc, ◌+◌, ◌*◌, ◌-◌, ◌%◌, ◌^◌, ◌≤◌, ◌<◌}
use native.Mathlib.Nat.{lt_of_lt_of_le}
use native.Mathlib.Omega.{arith}
use lib.Dec.{ltb}
use borrow.Author.Tests.{ltb-true, ltb-false}
use lib.ListN.{length, drop, length-take, get_or-eq_default}
use lib.Seq.{get_or-take, get_or-drop}
use lib.Pow.{pow_mono}
use Rattle.std.specs.Slice.Scan.{big_endian}
use Rattle.wire.specs.Bytes.{byte_at, part}
use Rattle.wire.proofs.Booleans.{either}
use Rattle.integers.specs.Integers.{size_of, integer_at}
use Rattle.integers.specs.Stated.{IntegerBounds, IntegerExamples}
use Rattle.integers.proofs.Values.{grown, size_least, size_most, whole_is}

-- bytes behind a number add eight bits each
bits : (n before : ℕ) (bytes : List ℕ) → n < 2 ^ before → ((i : ℕ) → byte_at bytes i < 256) → big_endian n bytes < 2 ^ (before + 8 * length bytes)
bits n before [] h k = let e : before + 8 * 0 ≡ before = omega arith in rw e h
bits n before (byte ∷ bytes) h k =
    let e : before + 8 * suc (length bytes) ≡ (before + 8) + 8 * length bytes = omega arith in
    rw e (bits (n * 256 + byte) (before + 8) bytes (grown n byte before h (k 0)) (λ i. k (suc i)))

-- the bytes of a part are bytes
part_byte : (bytes : List ℕ) (at count i : ℕ) → ((i : ℕ) → byte_at bytes i < 256) → byte_at (part bytes at count) i < 256
part_byte bytes at count i k =
    either (ltb i count)
    (λ t. rw (get_or-take count (drop at bytes) i 0 (ltb-true _ _ t), get_or-drop at bytes i 0) (k (at + i)))
    (λ t. rw (get_or-eq_default (part bytes at count) 0 {n = i} (rw (length-take count (drop at bytes)) (omega (arith, ltb-false i count t)))) (omega arith))

pub integer_bounds : IntegerBounds
integer_bounds =
    record {
      value = λ bytes at value end k e.
          let w = whole_is bytes at value end e in
          let first = byte_at bytes at in
          let size = size_of first in
          let most : length (part bytes (at + 1) (size - 1)) ≤ 7 = rw (length-take (size - 1) (drop (at + 1) bytes)) (omega (arith, size_most first (k at))) in
          let low : big_endian (first % 64) (part bytes (at + 1) (size - 1)) < 2 ^ 62 =
          lt_of_lt_of_le
          (bits (first % 64) 6 (part bytes (at + 1) (size - 1)) (omega arith) (λ i. part_byte bytes (at + 1) (size - 1) i k))
          (pow_mono {j = 62} (omega arith)) in
          (rw w.0 low, omega (arith, w.1, size_most first (k at)));
      inside = λ bytes at value end e.
          let w = whole_is bytes at value end e in
          (omega (arith, w.1, size_least (byte_at bytes at)), omega (arith, w.1, w.2));
    }

pub integer_examples : IntegerExamples
unfolding integer_at
integer_examples =
    record {
      eight = refl;
      four = refl;
      two = refl;
      one = refl;
      one_in_two = refl;
      largest = refl;
      cut = refl;
      none = refl;
    }
