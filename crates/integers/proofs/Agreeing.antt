-- An integer in two lists that agree on its bytes.
-- Assumes nothing.
use mathlib.Core.Path.{◌≡◌, sym, ap, ◌∙◌}
use mathlib.Core.List.{List}
use Prim.Native.Nat.{ℕ, ◌+◌, ◌-◌, ◌≤◌, ◌<◌}
use native.Mathlib.Omega.{arith}
use lib.ListN.{length, take, drop}
use lib.Seq.{get_or-take, take-take}
use Rattle.wire.specs.Bytes.{byte_at, part}
use Rattle.wire.proofs.Agreeing.{Agree, drop-take, one}
use Rattle.std.specs.Prelude.{None}
use Rattle.integers.specs.Integers.{integer_at, size_of, integer_value, whole}
use Rattle.integers.proofs.Values.{cut_is, is_cut, is_whole, size_least, whole_is}

-- one that lies whole in the first list, and in the second too
pub integer_in : (a b : List ℕ) (n at value end : ℕ) → take n a ≡ take n b → end ≤ n → end ≤ length b → integer_at a at ≡ whole value end
    → integer_at b at ≡ whole value end
integer_in a b n at value end front h k e =
    let w = whole_is a at value end e in
    let least = size_least (byte_at a at) in
    let inside : at < n = omega (arith, w.1, least) in
    let first : byte_at b at ≡ byte_at a at = sym (get_or-take n b at 0 inside) ∙ ap (λ (xs : List ℕ). byte_at xs at) (sym front) ∙ get_or-take n a at 0 inside in
    let size : size_of (byte_at b at) ≡ size_of (byte_at a at) = ap size_of first in
    let count = size_of (byte_at a at) - 1 in
    let fewer : (xs : List ℕ) → take (at + 1 + count) (take n xs) ≡ take (at + 1 + count) xs =
    λ xs. take-take (at + 1 + count) n xs (omega (arith, w.1, least)) in
    let rest : part b (at + 1) count ≡ part a (at + 1) count =
    sym (drop-take (at + 1) count b)
    ∙ ap (drop (at + 1)) (sym (fewer b) ∙ ap (take (at + 1 + count)) (sym front) ∙ fewer a)
    ∙ drop-take (at + 1) count a in
    let values : integer_value b at ≡ integer_value a at = rw (first, rest) in
    let ends : at + size_of (byte_at b at) ≡ end = ap (λ (k : ℕ). at + k) size ∙ sym w.1 in
    sym (is_whole b at (omega (arith, ends)))
    ∙ ap (λ (v : ℕ). whole v (at + size_of (byte_at b at))) (values ∙ sym w.0)
    ∙ ap (whole value) ends

module _ {n : ℕ} {a b : List ℕ} (agree : Agree n a b) (at : ℕ) where
  -- one that lies whole
  pub same_integer : (value end : ℕ) → integer_at a at ≡ whole value end → end ≤ n → integer_at b at ≡ whole value end
  same_integer value end e h =
      integer_in a b n at value end agree.front h (omega (arith, whole_is a at value end e, agree.same)) e

  -- one that is cut
  pub same_cut : integer_at a at ≡ None → at < n → integer_at b at ≡ None
  same_cut e h =
      let size : size_of (byte_at b at) ≡ size_of (byte_at a at) = ap size_of (sym (one agree at h)) in
      sym (is_cut b at (omega (arith, cut_is a at e, size, agree.same)))
