-- Laws of what is read, and of parts that lie in the bytes.
-- Assumes nothing.
use mathlib.Core.Path.{◌≡◌, refl, sym, ap, ◌∙◌}
use mathlib.Core.List.{List}
use mathlib.Core.Logic.{◌⊎◌, inl, inr}
use Prim.Native.Nat.{ℕ, ◌+◌, ◌-◌, ◌≤◌, ◌<◌}
use native.Mathlib.Omega.{arith}
use borrow.Author.Tests.{le-leb, lt-leb, leb-true, leb-false, ltb-true, ltb-false}
use lib.Dec.{leb, ltb}
use lib.ListN.{length}
use Rattle.std.specs.Prelude.{Option, None, Some, Result, Ok, Err}
use Rattle.wire.proofs.Booleans.{either}
use Rattle.integers.specs.Integers.{integer_at, whole}
use Rattle.integers.specs.declared.Integer.{Integer}
use Rattle.integers.proofs.Stated.{integer_bounds}
use Rattle.fields.specs.Parts.{wrong_at, ◌and_then◌, judged, prefixed_at}
use Rattle.fields.specs.declared.fault.BadMessage.{BadMessage}
use Rattle.wire.specs.declared.span.Span.{Span}

-- what is read is good or wrong, and of one thing
pub differ : {A : Type 0} {bad : BadMessage} {a : A} → Err bad ≡ Ok a → ⊥
differ e = cc

pub same_good : {A : Type 0} {a b : A} → ◌≡◌ {A = Result A BadMessage} (Ok a) (Ok b) → a ≡ b
same_good e = cc

pub same_place : {A : Type 0} {p q : ℕ} → ◌≡◌ {A = Result A BadMessage} (wrong_at p) (wrong_at q) → p ≡ q
same_place {p = p} {q = q} e = let same : ◌≡◌ {A = BadMessage} (record { place = p }) (record { place = q }) = cc in ap (λ (bad : BadMessage). bad.place) same

-- what was read behind what was read
pub then_good : {A B : Type 0} (reading : Result A BadMessage) (next : A → Result B BadMessage) {b : B} → (reading and_then next) ≡ Ok b
    → (a : A) × (reading ≡ Ok a) × (next a ≡ Ok b)
then_good (Ok a) next e = (a, refl, e)
then_good (Err bad) next e = absurd (differ e)

pub then_wrong : {A B : Type 0} (reading : Result A BadMessage) (next : A → Result B BadMessage) {place : ℕ} → (reading and_then next) ≡ wrong_at place
    → (reading ≡ wrong_at place) ⊎ ((a : A) × (reading ≡ Ok a) × (next a ≡ wrong_at place))
then_wrong (Ok a) next e = inr (a, refl, e)
then_wrong (Err bad) next e = inl (ap wrong_at (same_place e))

-- where all that follows is good, it is the first that is wrong
pub first_wrong : {A B : Type 0} (reading : Result A BadMessage) (make : A → B) {place : ℕ} → (reading and_then (λ a. Ok (make a))) ≡ wrong_at place
    → reading ≡ wrong_at place
first_wrong (Ok a) make e = absurd (differ (sym e))
first_wrong (Err bad) make e = ap wrong_at (same_place e)

-- a part that was judged good is that part
pub judged_good : (span : Span) (place : ℕ) (s : Span) → judged span place ≡ Ok s → span ≡ s
judged_good span place s e =
    either (ltb place span.end)
    (λ t. absurd (differ (let z : wrong_at place ≡ Ok s = rw t at e in z)))
    (λ t. same_good (let z : Ok span ≡ Ok s = rw t at e in z))

pub judged_end : (span : Span) (place : ℕ) (s : Span) → judged span place ≡ Ok s → span.end ≤ place
judged_end span place s e =
    either (ltb place span.end)
    (λ t. absurd (differ (let z : wrong_at place ≡ Ok s = rw t at e in z)))
    (λ t. ltb-false place span.end t)

pub judged_wrong : (span : Span) (place p : ℕ) → judged span place ≡ wrong_at p → (p ≡ place) × (place < span.end)
judged_wrong span place p e =
    either (ltb place span.end)
    (λ t. (sym (same_place (let z : wrong_at place ≡ wrong_at p = rw t at e in z)), ltb-true place span.end t))
    (λ t. absurd (differ (sym (let z : Ok span ≡ wrong_at p = rw t at e in z))))

module _ (bytes : List ℕ) (at place : ℕ) where
  -- a part behind its length, by what the integer is
  pub prefixed_cut : integer_at bytes at ≡ None → prefixed_at bytes at place ≡ wrong_at place
  unfolding prefixed_at
  prefixed_cut e = rw e

  pub prefixed_past : (size start : ℕ) → integer_at bytes at ≡ whole size start → length bytes < start + size → prefixed_at bytes at place ≡ wrong_at place
  unfolding prefixed_at
  prefixed_past size start e h = rw (e, lt-leb (start + size) (length bytes) h)

  pub prefixed_whole : (size start : ℕ) → integer_at bytes at ≡ whole size start → start + size ≤ length bytes
      → prefixed_at bytes at place ≡ Ok (record { start = start; end = start + size })
  unfolding prefixed_at
  prefixed_whole size start e h = rw (e, le-leb (start + size) (length bytes) h)

  -- it stands behind its length, in the bytes
  pub prefixed_stands : (span : Span) → prefixed_at bytes at place ≡ Ok span
      → (integer_at bytes at ≡ whole (span.end - span.start) span.start) × (span.start ≤ span.end) × (span.end ≤ length bytes)
  prefixed_stands span e = by_integer (integer_at bytes at) refl
    where
      by_integer : (i : Option Integer) → integer_at bytes at ≡ i
          → (integer_at bytes at ≡ whole (span.end - span.start) span.start) × (span.start ≤ span.end) × (span.end ≤ length bytes)
      by_integer None d = absurd (differ (sym (prefixed_cut d) ∙ e))
      by_integer (Some integer) d =
          let size = integer.value in
          let start = integer.end in
          either (leb (start + size) (length bytes))
          (λ t.
          let spans : span ≡ record { start = start; end = start + size } =
          sym (same_good (sym (prefixed_whole size start d (leb-true (start + size) (length bytes) t)) ∙ e)) in
          let long : start + size - start ≡ size = omega arith in
          rw (spans, long) (d, omega arith, leb-true (start + size) (length bytes) t))
          (λ t. absurd (differ (sym (prefixed_past size start d (leb-false (start + size) (length bytes) t)) ∙ e)))

  pub prefixed_inside : (span : Span) → prefixed_at bytes at place ≡ Ok span → (at < span.start) × (span.start ≤ span.end) × (span.end ≤ length bytes)
  prefixed_inside span e =
      let stands = prefixed_stands span e in
      ((integer_bounds.inside bytes at (span.end - span.start) span.start stands.0).0, stands.1, stands.2)

  -- where it does not, the place given is wrong: the integer is cut, or says too much
  pub prefixed_wrong : (p : ℕ) → prefixed_at bytes at place ≡ wrong_at p
      → (p ≡ place)
      × ((integer_at bytes at ≡ None)
      ⊎ ((size : ℕ) × (start : ℕ) × (integer_at bytes at ≡ whole size start) × (length bytes < start + size)))
  prefixed_wrong p e = by_integer (integer_at bytes at) refl
    where
      by_integer : (i : Option Integer) → integer_at bytes at ≡ i
          → (p ≡ place)
          × ((integer_at bytes at ≡ None)
          ⊎ ((size : ℕ) × (start : ℕ) × (integer_at bytes at ≡ whole size start) × (length bytes < start + size)))
      by_integer None d = (same_place (sym e ∙ prefixed_cut d), inl d)
      by_integer (Some integer) d =
          let size = integer.value in
          let start = integer.end in
          either (leb (start + size) (length bytes))
          (λ t. absurd (differ (sym e ∙ prefixed_whole size start d (leb-true (start + size) (length bytes) t))))
          (λ t.
          let past = leb-false (start + size) (length bytes) t in
          (same_place (sym e ∙ prefixed_past size start d past), inr (size, start, d, past)))
