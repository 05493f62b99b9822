-- Two lists of one length that agree on their first elements.
-- Assumes nothing.
use mathlib.Core.Path.{◌≡◌, refl, sym, ap, ◌∙◌}
use mathlib.Core.Bool.{Bool, true, false}
use mathlib.Core.List.{List, [], ◌∷◌}
use Prim.Native.Nat.{ℕ, zero, suc, ◌+◌, ◌-◌, ◌≤◌, ◌<◌, min}
use native.Mathlib.Nat.{zero-add, suc-add}
use native.Mathlib.Omega.{arith}
use lib.ListN.{length, get_or, take, drop, length-take, length-drop}
use lib.Seq.{get_or-take, take_all, take-take}
use Rattle.wire.specs.Bytes.{byte_at, part}
use Rattle.wire.specs.Search.{first_from, first_place}
use Rattle.wire.proofs.Booleans.{either}

pub drop-take : (at count : ℕ) (xs : List ℕ) → drop at (take (at + count) xs) ≡ part xs at count
drop-take zero count xs = ap (λ (n : ℕ). take n xs) (zero-add count)
drop-take (suc at) count [] = rw (suc-add at count) (sym (take_none count))
  where
    take_none : (n : ℕ) → ◌≡◌ {A = List ℕ} (take n []) []
    take_none zero = refl
    take_none (suc n) = refl
drop-take (suc at) count (x ∷ xs) = rw (suc-add at count) (drop-take at count xs)

-- a part of the elements up to an offset is one of all
pub part_before : (end at count : ℕ) (xs : List ℕ) → at + count ≤ end → part (take end xs) at count ≡ part xs at count
part_before end at count xs h =
    sym (drop-take at count (take end xs)) ∙ ap (drop at) (take-take (at + count) end xs h) ∙ drop-take at count xs

pub take_comm : (m n : ℕ) (xs : List ℕ) → take m (take n xs) ≡ take n (take m xs)
take_comm zero zero xs = refl
take_comm zero (suc n) [] = refl
take_comm zero (suc n) (x ∷ xs) = refl
take_comm (suc m) zero [] = refl
take_comm (suc m) zero (x ∷ xs) = refl
take_comm (suc m) (suc n) [] = refl
take_comm (suc m) (suc n) (x ∷ xs) = ap (λ (r : List ℕ). x ∷ r) (take_comm m n xs)

-- they have one length, and so many elements at the front in common
pub record Agree (n : ℕ) (a b : List ℕ) : Type 0 where
  pub same : length a ≡ length b
  pub front : take n a ≡ take n b

module _ {n : ℕ} {a b : List ℕ} (agree : Agree n a b) where
  pub fewer : (m : ℕ) → m ≤ n → Agree m a b
  fewer m h = record { same = agree.same; front = sym (take-take m n a h) ∙ ap (take m) agree.front ∙ take-take m n b h }

  pub one : (at : ℕ) → at < n → byte_at a at ≡ byte_at b at
  one at h = sym (get_or-take n a at 0 h) ∙ ap (λ (xs : List ℕ). byte_at xs at) agree.front ∙ get_or-take n b at 0 h

  pub every : length a ≤ n → a ≡ b
  every h = sym (take_all n a h) ∙ agree.front ∙ take_all n b (omega (arith, agree.same))

  -- up to an offset
  pub before : (end : ℕ) → Agree n (take end a) (take end b)
  before end =
      record {
        same = length-take end a ∙ ap (min end) agree.same ∙ sym (length-take end b);
        front = take_comm n end a ∙ ap (take end) agree.front ∙ sym (take_comm n end b);
      }

-- on some that stand together
pub some : {n : ℕ} {a b : List ℕ} → Agree n a b → (at count : ℕ) → at + count ≤ n → part a at count ≡ part b at count
some {a = a} {b = b} agree at count h =
    sym (drop-take at count a) ∙ ap (drop at) (fewer agree (at + count) h).front ∙ drop-take at count b

-- on a part up to its end, where that lies within
pub whole_before : {n : ℕ} {a b : List ℕ} → Agree n a b → (end : ℕ) → end ≤ n → take end a ≡ take end b
whole_before agree end h = (fewer agree end h).front

-- the first match, where they agree on it and on all before it
same_first : (test : ℕ → Bool) (a b : List ℕ) → length a ≡ length b → take (suc (first_place test a)) a ≡ take (suc (first_place test a)) b
    → first_place test b ≡ first_place test a
unfolding first_place
same_first test [] [] same e = refl
same_first test [] (y ∷ ys) same e = absurd (omega (arith, same))
same_first test (x ∷ xs) [] same e = absurd (omega (arith, same))
same_first test (x ∷ xs) (y ∷ ys) same e =
    let heads : x ≡ y = ap (λ (zs : List ℕ). get_or zs 0 0) e in
    either (test x)
    (λ t. let u : test y ≡ true = ap test (sym heads) ∙ t in rw (t, u))
    (λ t.
    let u : test y ≡ false = ap test (sym heads) ∙ t in
    let rest : take (suc (first_place test xs)) xs ≡ take (suc (first_place test xs)) ys = ap (drop 1) (rw t at e) in
    rw (t, u) (ap suc (same_first test xs ys (omega (arith, same)) rest)))

-- and from an offset on
pub same_from : {n : ℕ} {a b : List ℕ} (test : ℕ → Bool) (from : ℕ) → Agree n a b → first_from test a from < n → first_from test b from ≡ first_from test a from
same_from {n} {a} {b} test from agree h =
    ap (λ (k : ℕ). from + k)
    (same_first test (drop from a) (drop from b)
    (length-drop from a ∙ ap (λ (k : ℕ). k - from) agree.same ∙ sym (length-drop from b))
    (some agree from (suc (first_place test (drop from a))) (omega arith)))
