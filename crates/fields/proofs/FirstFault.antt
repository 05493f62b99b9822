-- What is read of a section, in two lists that agree: a fault up to seven bytes behind its place, what is good up to its end.
-- Assumes nothing.
use mathlib.Core.Path.{◌≡◌, sym, ap, ◌∙◌}
use mathlib.Core.Bool.{true, false}
use mathlib.Core.List.{List, [], ◌∷◌}
use mathlib.Core.Logic.{◌⊎◌, inl, inr}
use Prim.Native.Nat.{ℕ, zero, suc, ◌+◌, ◌-◌, ◌≤◌, ◌<◌}
use native.Mathlib.Nat.{le_of_lt, le_trans}
use native.Mathlib.Omega.{arith}
use borrow.Author.Tests.{leb-true, leb-false}
use lib.Dec.{leb, ltb}
use lib.ListN.{length, take}
use lib.Seq.{length-take-le}
use Rattle.wire.specs.Bytes.{byte_at}
use Rattle.wire.proofs.Agreeing.{Agree, before, every, one, same_from, whole_before}
use Rattle.wire.proofs.Booleans.{either}
use Rattle.integers.specs.Integers.{integer_at, whole}
use Rattle.integers.specs.Stated.{AreBytes}
use Rattle.integers.proofs.Agreeing.{same_cut, same_integer}
use Rattle.integers.proofs.Stated.{integer_bounds}
use Rattle.fields.specs.Fields.{field_at, fields_from, name_at, name_fault, value_at, value_fault}
use Rattle.fields.specs.Octets.{blank, class_of, first_below, text, token}
use Rattle.std.specs.Prelude.{None, Result, Ok}
use Rattle.fields.specs.Parts.{wrong_at, ◌and_then◌, judged, prefixed_at}
use Rattle.fields.specs.declared.fault.BadMessage.{BadMessage}
use Rattle.fields.specs.declared.field.Field.{Field}
use Rattle.wire.specs.declared.span.Span.{Span}
use Rattle.fields.proofs.Readings.{differ, first_wrong, judged_good, judged_wrong, prefixed_inside, prefixed_past, prefixed_stands, prefixed_whole, prefixed_cut, prefixed_wrong, then_good, then_wrong}
use Rattle.fields.proofs.Sections.{field_inside, field_of, field-parts, field_wrong, field_wrong_name, field_wrong_value, name_lies}

module _ {n : ℕ} {a b : List ℕ} (agree : Agree n a b) (at : ℕ) where
  -- a part behind its length, where they agree on that
  pub same_prefixed : (place other : ℕ) (span : Span) → prefixed_at a at place ≡ Ok span → span.start ≤ n → prefixed_at b at other ≡ Ok span
  same_prefixed place other span e h =
      let stands = prefixed_stands a at place span e in
      let whole = same_integer agree at (span.end - span.start) span.start stands.0 h in
      let end : span.start + (span.end - span.start) ≡ span.end = omega (arith, stands.1) in
      prefixed_whole b at other (span.end - span.start) span.start whole (omega (arith, stands.1, stands.2, agree.same))
      ∙ ap (λ (k : ℕ). Ok (record { start = span.start; end = k })) end

  pub same_not_prefixed : (place p : ℕ) → AreBytes a → prefixed_at a at place ≡ wrong_at p → at + 8 ≤ n → prefixed_at b at place ≡ wrong_at p
  same_not_prefixed place p bytes e h = by_reason (prefixed_wrong a at place p e).1 ∙ ap wrong_at (sym (prefixed_wrong a at place p e).0)
    where
      by_reason : ((integer_at a at ≡ None)
          ⊎ ((size : ℕ) × (start : ℕ) × (integer_at a at ≡ whole size start) × (length a < start + size)))
          → prefixed_at b at place ≡ wrong_at place
      by_reason (inl cut) = prefixed_cut b at place (same_cut agree at cut (omega arith))
      by_reason (inr r) =
          let bound = integer_bounds.value a at r.0 r.1 bytes r.2 in
          prefixed_past b at place r.0 r.1 (same_integer agree at r.0 r.1 r.2 (omega (arith, bound.1))) (omega (arith, r.3, agree.same))

-- where a name or a value is wrong: no sooner than the name's length or the value's start, and at the same place where they agree on it
pub name_fault_from : (bytes : List ℕ) (start at : ℕ) → at ≤ start → at ≤ name_fault bytes start at
unfolding name_fault first_below
name_fault_from bytes start at h =
    either (leb (length bytes) start) (λ t. rw t (omega arith)) (λ t. rw t (omega arith))

pub value_fault_from : (bytes : List ℕ) (start : ℕ) → start ≤ length bytes → start ≤ value_fault bytes start
unfolding value_fault first_below
value_fault_from bytes start h =
    either (leb (length bytes) start)
    (λ t. rw t h)
    (λ t. either (ltb (class_of (byte_at bytes start)) text)
    (λ u. rw (t, u) (omega arith))
    (λ u. either (ltb (first_below blank bytes start) (length bytes))
    (λ v. rw (t, u, v) (omega arith))
    (λ v. either (ltb (class_of (byte_at bytes (length bytes - 1))) text)
    (λ w. rw (t, u, v, w) (omega (arith, leb-false (length bytes) start t)))
    (λ w. rw (t, u, v, w) h))))

module _ {n : ℕ} {a b : List ℕ} (agree : Agree n a b) (start : ℕ) where
  pub same_name_fault : (at : ℕ) → name_fault a start at < n → name_fault b start at ≡ name_fault a start at
  unfolding name_fault first_below
  same_name_fault at h =
      either (leb (length a) start)
      (λ t. let u : leb (length b) start ≡ true = rw (← agree.same) t in rw (t, u))
      (λ t.
      let u : leb (length b) start ≡ false = rw (← agree.same) t in
      rw (t, u) (same_from (λ octet. ltb (class_of octet) token) start agree (rw t at h)))

  pub same_value_fault : value_fault a start < n → value_fault b start ≡ value_fault a start
  unfolding value_fault first_below
  same_value_fault h =
      either (leb (length a) n)
      (λ t. ap (λ (bytes : List ℕ). value_fault bytes start) (sym (every agree (leb-true (length a) n t))))
      (λ t.
      let long = leb-false (length a) n t in
      either (leb (length a) start)
      (λ u. absurd (let z : length a < n = rw u at h in omega arith))
      (λ u.
      let u' : leb (length b) start ≡ false = rw (← agree.same) u in
      either (ltb (class_of (byte_at a start)) text)
      (λ v.
      let v' : ltb (class_of (byte_at b start)) text ≡ true = rw (← one agree start (rw (u, v) at h)) v in
      rw (u, u', v, v'))
      (λ v. either (ltb (first_below blank a start) (length a))
      (λ w.
      let found : first_below blank a start < n = rw (u, v, w) at h in
      let same : first_below blank b start ≡ first_below blank a start = same_from (λ octet. ltb (class_of octet) blank) start agree found in
      let v' : ltb (class_of (byte_at b start)) text ≡ false = rw (← one agree start (omega arith)) v in
      let w' : ltb (first_below blank a start) (length b) ≡ true = rw (← agree.same) w in
      rw (u, u', v, v', w, same, w'))
      (λ w. either (ltb (class_of (byte_at a (length a - 1))) text)
      (λ x. absurd (let z : length a - 1 < n = rw (u, v, w, x) at h in omega arith))
      (λ x. absurd (let z : length a < n = rw (u, v, w, x) at h in omega arith))))))

-- a way to judge a part: it is wrong no sooner than its length, and at the same place where two lists agree on it
pub record Judging (fault : List ℕ → Span → ℕ) (at : ℕ) : Type 0 where
  pub from : (bytes : List ℕ) (span : Span) → at < span.start → span.start ≤ length bytes → at ≤ fault bytes span
  pub same : (n : ℕ) (a b : List ℕ) → Agree n a b → (span : Span) → fault a span < n → fault b span ≡ fault a span

-- a part behind its length that is judged so
module _ {fault : List ℕ → Span → ℕ} {at : ℕ} (judging : Judging fault at) where
  abbrev judged_part : List ℕ → Result Span BadMessage
  judged_part bytes = prefixed_at bytes at at and_then (λ span. judged span (fault (take span.end bytes) span))

  -- where its bytes are wrong
  wrong_inside : (bytes : List ℕ) (p : ℕ) (span : Span) → prefixed_at bytes at at ≡ Ok span → judged span (fault (take span.end bytes) span) ≡ wrong_at p
      → (p ≡ fault (take span.end bytes) span) × (at ≤ p)
  wrong_inside bytes p span e d =
      let inside = prefixed_inside bytes at at span e in
      let wrong = judged_wrong span (fault (take span.end bytes) span) p d in
      let from = judging.from (take span.end bytes) span inside.0 (rw (length-take-le span.end bytes inside.2) inside.1) in
      (wrong.0, omega (arith, wrong.0, from))

  judged_part_from : (bytes : List ℕ) (p : ℕ) → judged_part bytes ≡ wrong_at p → at ≤ p
  judged_part_from bytes p e = by_reason (then_wrong (prefixed_at bytes at at) _ e)
    where
      by_reason : ((prefixed_at bytes at at ≡ wrong_at p)
          ⊎ ((span : Span) × (prefixed_at bytes at at ≡ Ok span) × (judged span (fault (take span.end bytes) span) ≡ wrong_at p))) → at ≤ p
      by_reason (inl wrong) = omega (arith, (prefixed_wrong bytes at at p wrong).0)
      by_reason (inr r) = (wrong_inside bytes p r.0 r.1 r.2).1

  judged_part_wrong : {a b : List ℕ} (p : ℕ) → AreBytes a → Agree (p + 8) a b → judged_part a ≡ wrong_at p → judged_part b ≡ wrong_at p
  judged_part_wrong {a} {b} p bytes agree e = by_reason (then_wrong (prefixed_at a at at) _ e)
    where
      by_reason : ((prefixed_at a at at ≡ wrong_at p)
          ⊎ ((span : Span) × (prefixed_at a at at ≡ Ok span) × (judged span (fault (take span.end a) span) ≡ wrong_at p))) → judged_part b ≡ wrong_at p
      by_reason (inl wrong) =
          let same = same_not_prefixed agree at at p bytes wrong (omega (arith, (prefixed_wrong a at at p wrong).0)) in
          rw same
      by_reason (inr r) =
          let inside = wrong_inside a p r.0 r.1 r.2 in
          let stands = prefixed_stands a at at r.0 r.1 in
          let bound = integer_bounds.value a at (r.0.end - r.0.start) r.0.start bytes stands.0 in
          let same = same_prefixed agree at at at r.0 r.1 (omega (arith, bound.1, inside.1)) in
          let faults = judging.same (p + 8) (take r.0.end a) (take r.0.end b) (before agree r.0.end) r.0 (omega (arith, inside.0)) in
          rw (same, faults) r.2

  judged_part_good : {n : ℕ} {a b : List ℕ} (span : Span) → Agree n a b → span.end ≤ n → judged_part a ≡ Ok span → judged_part b ≡ Ok span
  judged_part_good {n} {a} {b} span agree h e =
      let read = then_good (prefixed_at a at at) (λ span. judged span (fault (take span.end a) span)) e in
      let spans : read.0 ≡ span = judged_good read.0 (fault (take read.0.end a) read.0) span read.2 in
      let inside = prefixed_inside a at at read.0 read.1 in
      let ends : read.0.end ≡ span.end = ap (λ (s : Span). s.end) spans in
      let same = same_prefixed agree at at at read.0 read.1 (omega (arith, inside.1, ends)) in
      let bytes : take read.0.end b ≡ take read.0.end a = sym (whole_before agree read.0.end (omega (arith, ends))) in
      rw (same, bytes) read.2

-- a name and a value
pub judging_name : (at : ℕ) → Judging (λ bytes span. name_fault bytes span.start at) at
judging_name at =
    record {
      from = λ bytes span h k. name_fault_from bytes span.start at (omega arith);
      same = λ n a b agree span h. same_name_fault agree span.start at h;
    }

pub judging_value : (at : ℕ) → Judging (λ bytes span. value_fault bytes span.start) at
judging_value at =
    record {
      from = λ bytes span h k. le_trans (le_of_lt h) (value_fault_from bytes span.start k);
      same = λ n a b agree span h. same_value_fault agree span.start h;
    }

-- a name and a value: as they are defined
module _ {n : ℕ} {a b : List ℕ} (at : ℕ) where
  same_name : (name : Span) → Agree n a b → name.end ≤ n → name_at a at ≡ Ok name → name_at b at ≡ Ok name
  unfolding name_at
  same_name = judged_part_good (judging_name at)

  same_value : (value : Span) → Agree n a b → value.end ≤ n → value_at a at ≡ Ok value → value_at b at ≡ Ok value
  unfolding value_at
  same_value = judged_part_good (judging_value at)

module _ {a b : List ℕ} (at p : ℕ) where
  same_wrong_name : AreBytes a → Agree (p + 8) a b → name_at a at ≡ wrong_at p → name_at b at ≡ wrong_at p
  unfolding name_at
  same_wrong_name = judged_part_wrong (judging_name at) p

  same_wrong_value : AreBytes a → Agree (p + 8) a b → value_at a at ≡ wrong_at p → value_at b at ≡ wrong_at p
  unfolding value_at
  same_wrong_value = judged_part_wrong (judging_value at) p

name_from : (bytes : List ℕ) (at p : ℕ) → name_at bytes at ≡ wrong_at p → at ≤ p
unfolding name_at
name_from bytes at p = judged_part_from (judging_name at) bytes p

value_from : (bytes : List ℕ) (at p : ℕ) → value_at bytes at ≡ wrong_at p → at ≤ p
unfolding value_at
value_from bytes at p = judged_part_from (judging_value at) bytes p

-- a field: where it is good, and where it is wrong
same_field : {n : ℕ} {a b : List ℕ} (at : ℕ) (field : Field) → Agree n a b → field.value.end ≤ n → field_at a at ≡ Ok field → field_at b at ≡ Ok field
same_field {n} {a} {b} at field agree h e =
    let parts = field-parts a at field e in
    let inside = field_inside a at field e in
    field_of b at field (same_name at field.name agree (omega (arith, inside)) parts.0) (same_value field.name.end field.value agree h parts.1)

field_from : (bytes : List ℕ) (at p : ℕ) → field_at bytes at ≡ wrong_at p → at ≤ p
field_from bytes at p e = by_reason (field_wrong bytes at p e)
  where
    by_reason : ((name_at bytes at ≡ wrong_at p) ⊎ ((name : Span) × (name_at bytes at ≡ Ok name) × (value_at bytes name.end ≡ wrong_at p))) → at ≤ p
    by_reason (inl wrong) = name_from bytes at p wrong
    by_reason (inr r) =
        let inside = prefixed_inside bytes at at r.0 (name_lies bytes at r.0 r.1) in
        omega (arith, inside, value_from bytes r.0.end p r.2)

same_wrong_field : {a b : List ℕ} (at p : ℕ) → AreBytes a → Agree (p + 8) a b → field_at a at ≡ wrong_at p → field_at b at ≡ wrong_at p
same_wrong_field {a} {b} at p bytes agree e = by_reason (field_wrong a at p e)
  where
    by_reason : ((name_at a at ≡ wrong_at p) ⊎ ((name : Span) × (name_at a at ≡ Ok name) × (value_at a name.end ≡ wrong_at p))) → field_at b at ≡ wrong_at p
    by_reason (inl wrong) = field_wrong_name b at p (same_wrong_name at p bytes agree wrong)
    by_reason (inr r) =
        let from = value_from a r.0.end p r.2 in
        field_wrong_value b at p r.0 (same_name at r.0 agree (omega (arith, from)) r.1) (same_wrong_value r.0.end p bytes agree r.2)

-- the fields of a section: the fault of one of them
pub fields-from : (bytes : List ℕ) (more at p : ℕ) → fields_from more bytes at ≡ wrong_at p → at ≤ p
unfolding fields_from
fields-from bytes zero at p e = absurd (differ (sym e))
fields-from bytes (suc more) at p e =
    either (leb (length bytes) at)
    (λ t. absurd (differ (sym (let z : Ok [] ≡ wrong_at p = rw t at e in z))))
    (λ t. by_reason (λ next. fields-from bytes more next p) (then_wrong (field_at bytes at) _ (rw t at e)))
  where
    by_reason : ((next : ℕ) → fields_from more bytes next ≡ wrong_at p → next ≤ p)
        → ((field_at bytes at ≡ wrong_at p)
        ⊎ ((field : Field) × (field_at bytes at ≡ Ok field)
        × ((fields_from more bytes field.value.end and_then (λ fields. Ok (field ∷ fields))) ≡ wrong_at p))) → at ≤ p
    by_reason again (inl wrong) = field_from bytes at p wrong
    by_reason again (inr r) =
        let later = again r.0.value.end (first_wrong (fields_from more bytes r.0.value.end) (λ fields. r.0 ∷ fields) r.2) in
        omega (arith, later, field_inside bytes at r.0 r.1)

pub same_wrong_fields : {a b : List ℕ} (more at p : ℕ) → AreBytes a → Agree (p + 8) a b → fields_from more a at ≡ wrong_at p → fields_from more b at ≡ wrong_at p
unfolding fields_from
same_wrong_fields zero at p bytes agree e = absurd (differ (sym e))
same_wrong_fields {a} {b} (suc more) at p bytes agree e =
    either (leb (length a) at)
    (λ t. absurd (differ (sym (let z : Ok [] ≡ wrong_at p = rw t at e in z))))
    (λ t.
    let t' : leb (length b) at ≡ false = rw (← agree.same) t in
    rw t' (by_reason (λ next. same_wrong_fields more next p bytes agree) (then_wrong (field_at a at) _ (rw t at e))))
  where
    by_reason : ((next : ℕ) → fields_from more a next ≡ wrong_at p → fields_from more b next ≡ wrong_at p)
        → ((field_at a at ≡ wrong_at p)
        ⊎ ((field : Field) × (field_at a at ≡ Ok field)
        × ((fields_from more a field.value.end and_then (λ fields. Ok (field ∷ fields))) ≡ wrong_at p)))
        → (field_at b at and_then (λ field. fields_from more b field.value.end and_then (λ fields. Ok (field ∷ fields)))) ≡ wrong_at p
    by_reason again (inl wrong) = rw (same_wrong_field at p bytes agree wrong)
    by_reason again (inr r) =
        let later = first_wrong (fields_from more a r.0.value.end) (λ fields. r.0 ∷ fields) r.2 in
        let from = fields-from a more r.0.value.end p later in
        rw (same_field at r.0 agree (omega (arith, from)) r.1, again r.0.value.end later)
