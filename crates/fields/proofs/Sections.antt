-- Laws of fields and sections: what a field that was read is made of, and the fields of a section one after the other.
-- Assumes nothing.
use mathlib.Core.Path.{◌≡◌, refl, sym, ap, ◌∙◌}
use mathlib.Core.List.{List, [], ◌∷◌}
use mathlib.Core.Logic.{◌⊎◌, inl, inr}
use Prim.Native.Nat.{ℕ, zero, suc, ◌+◌, ◌≤◌, ◌<◌}
use native.Mathlib.Nat.{add-zero, zero-add}
use native.Mathlib.Omega.{arith}
use borrow.Author.Tests.{le-leb, lt-leb}
use lib.ListN.{length, take}
use Rattle.fields.specs.Fields.{count_in, field_at, fields_from, fields_in, name_at, name_fault, value_at, value_fault}
use Rattle.std.specs.Prelude.{Result, Ok, Err}
use Rattle.fields.specs.Parts.{wrong_at, ◌and_then◌, judged, prefixed_at}
use Rattle.wire.specs.declared.span.Span.{Span}
use Rattle.fields.specs.declared.fault.BadMessage.{BadMessage}
use Rattle.fields.specs.declared.field.Field.{Field}
use Rattle.fields.proofs.Readings.{first_wrong, judged_good, prefixed_inside, same_good, same_place, then_good}

module _ (bytes : List ℕ) (at : ℕ) where
  -- a name or a value that was read lies as its length says
  pub name_lies : (span : Span) → name_at bytes at ≡ Ok span → prefixed_at bytes at at ≡ Ok span
  unfolding name_at
  name_lies span e =
      let read = then_good (prefixed_at bytes at at) (λ name. judged name (name_fault (take name.end bytes) name.start at)) e in
      read.1 ∙ ap Ok (judged_good read.0 _ span read.2)

  pub value_lies : (span : Span) → value_at bytes at ≡ Ok span → prefixed_at bytes at at ≡ Ok span
  unfolding value_at
  value_lies span e =
      let read = then_good (prefixed_at bytes at at) (λ value. judged value (value_fault (take value.end bytes) value.start)) e in
      read.1 ∙ ap Ok (judged_good read.0 _ span read.2)

module _ (bytes : List ℕ) (at : ℕ) where
  -- a field that was read is its name and its value
  pub field-parts : (field : Field) → field_at bytes at ≡ Ok field
      → (name_at bytes at ≡ Ok field.name) × (value_at bytes field.name.end ≡ Ok field.value)
  unfolding field_at
  field-parts field e =
      let first = then_good (name_at bytes at) _ e in
      let second = then_good (value_at bytes first.0.end) _ first.2 in
      let whole : ◌≡◌ {A = Field} (record { name = first.0; value = second.0 }) field = same_good second.2 in
      rw (← whole) (first.1, second.1)

  pub field_of : (field : Field) → name_at bytes at ≡ Ok field.name → value_at bytes field.name.end ≡ Ok field.value
      → field_at bytes at ≡ Ok field
  unfolding field_at
  field_of field e d = rw (e, d)

  -- one that is wrong is so in its name, or behind that in its value
  pub field_wrong : (p : ℕ) → field_at bytes at ≡ wrong_at p
      → (name_at bytes at ≡ wrong_at p) ⊎ ((name : Span) × (name_at bytes at ≡ Ok name) × (value_at bytes name.end ≡ wrong_at p))
  unfolding field_at
  field_wrong p e = by_reason (name_at bytes at) refl
    where
      by_reason : (reading : Result Span BadMessage) → name_at bytes at ≡ reading
          → (name_at bytes at ≡ wrong_at p) ⊎ ((name : Span) × (name_at bytes at ≡ Ok name) × (value_at bytes name.end ≡ wrong_at p))
      by_reason (Err bad) d = inl (d ∙ ap wrong_at (same_place {A = Field} (rw d at e)))
      by_reason (Ok name) d =
          inr (name, d, first_wrong (value_at bytes name.end) (λ value. record { name = name; value = value }) (rw d at e))

  pub field_wrong_name : (p : ℕ) → name_at bytes at ≡ wrong_at p → field_at bytes at ≡ wrong_at p
  unfolding field_at
  field_wrong_name p e = rw e

  pub field_wrong_value : (p : ℕ) (name : Span) → name_at bytes at ≡ Ok name → value_at bytes name.end ≡ wrong_at p → field_at bytes at ≡ wrong_at p
  unfolding field_at
  field_wrong_value p name e d = rw (e, d)

  -- and lies behind its place, in the bytes
  pub field_inside : (field : Field) → field_at bytes at ≡ Ok field
      → (at < field.name.start) × (field.name.start ≤ field.name.end) × (field.name.end < field.value.start)
      × (field.value.start ≤ field.value.end) × (field.value.end ≤ length bytes)
  field_inside field e =
      let parts = field-parts field e in
      let name = prefixed_inside bytes at at field.name (name_lies bytes at field.name parts.0) in
      let value = prefixed_inside bytes field.name.end field.name.end field.value (value_lies bytes field.name.end field.value parts.1) in
      (name.0, name.1, value.0, value.1, value.2)

-- the fields from a place on: none at the end, one and those behind it, or the fault of one
module _ (bytes : List ℕ) (at : ℕ) where
  pub fields_end : (more : ℕ) → length bytes ≤ at → fields_from more bytes at ≡ Ok []
  unfolding fields_from
  fields_end zero h = refl
  fields_end (suc more) h = rw (le-leb (length bytes) at h)

  pub fields_next : (more : ℕ) (field : Field) → at < length bytes → field_at bytes at ≡ Ok field
      → fields_from (suc more) bytes at ≡ (fields_from more bytes field.value.end and_then (λ fields. Ok (field ∷ fields)))
  unfolding fields_from
  fields_next more field h e = rw (lt-leb (length bytes) at h, e)

  pub fields_wrong : (more place : ℕ) → at < length bytes → field_at bytes at ≡ wrong_at place → fields_from (suc more) bytes at ≡ wrong_at place
  unfolding fields_from
  fields_wrong more place h e = rw (lt-leb (length bytes) at h, e)

-- so many fields and those that are read
abbrev pub counted_from : ℕ → Result (List Field) BadMessage → Result ℕ BadMessage
counted_from n reading = reading and_then (λ fields. Ok (n + length fields))

counted-cons : (n : ℕ) (field : Field) (reading : Result (List Field) BadMessage)
    → counted_from n (reading and_then (λ fields. Ok (field ∷ fields))) ≡ counted_from (n + 1) reading
counted-cons n field (Ok fields) = ap Ok (let e : n + suc (length fields) ≡ n + 1 + length fields = omega arith in e)
counted-cons n field (Err bad) = refl

-- a loop over a section that starts at an offset has counted so many fields before its place
pub record Counting (bytes : List ℕ) (start at n : ℕ) : Type 0 where
  pub more : ℕ
  pub enough : length bytes ≤ more + at
  pub few : n ≤ at
  pub so_far : count_in bytes start ≡ counted_from n (fields_from more bytes at)

pub counting_start : (bytes : List ℕ) (start : ℕ) → Counting bytes start start 0
counting_start bytes start =
    record { more = length bytes; enough = omega arith; few = omega arith; so_far = from_none (fields_in bytes start) }
  where
    from_none : (reading : Result (List Field) BadMessage) → (reading and_then (λ fields. Ok (length fields))) ≡ counted_from 0 reading
    from_none (Ok fields) = ap Ok (sym (zero-add (length fields)))
    from_none (Err bad) = refl

module _ {bytes : List ℕ} {start at n : ℕ} (c : Counting bytes start at n) where
  pub counted_end : length bytes ≤ at → count_in bytes start ≡ Ok n
  counted_end h = c.so_far ∙ ap (counted_from n) (fields_end bytes at c.more h) ∙ ap Ok (add-zero n)

  module _ (h : at < length bytes) where
    -- there is a field more to be counted
    some_more : (more : ℕ) × (c.more ≡ suc more)
    some_more = by c.more refl
      where
        by : (m : ℕ) → c.more ≡ m → (more : ℕ) × (c.more ≡ suc more)
        by zero e = absurd (omega (arith, c.enough, e))
        by (suc m) e = (m, e)

    pub counted_next : (field : Field) → field_at bytes at ≡ Ok field → Counting bytes start field.value.end (n + 1)
    counted_next field e =
        let inside = field_inside bytes at field e in
        record {
          more = some_more.0;
          enough = omega (arith, c.enough, some_more.1, inside);
          few = omega (arith, c.few, inside);
          so_far = c.so_far
              ∙ ap (λ (m : ℕ). counted_from n (fields_from m bytes at)) some_more.1
              ∙ ap (counted_from n) (fields_next bytes at some_more.0 field h e)
              ∙ counted-cons n field (fields_from some_more.0 bytes field.value.end);
        }

    pub counted_wrong : (bad : BadMessage) → field_at bytes at ≡ Err bad → count_in bytes start ≡ Err bad
    counted_wrong bad e =
        c.so_far
        ∙ ap (λ (m : ℕ). counted_from n (fields_from m bytes at)) some_more.1
        ∙ ap (counted_from n) (fields_wrong bytes at some_more.0 bad.place h e)
