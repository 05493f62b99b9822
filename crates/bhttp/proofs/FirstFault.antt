-- The refusal is of the first fault: only the bytes up to seven behind its place decide on it.
-- Assumes nothing.
use mathlib.Core.Path.{◌≡◌, refl, sym, ap}
use mathlib.Core.Bool.{true, false}
use mathlib.Core.List.{List}
use mathlib.Core.Logic.{◌⊎◌, inl, inr}
use Prim.Native.Nat.{ℕ, ◌+◌, ◌≤◌, ◌<◌}
use native.Mathlib.Omega.{arith}
use borrow.Author.Tests.{ltb-true, ltb-false}
use lib.Dec.{eqb, leb, ltb}
use lib.ListN.{length, take, length-take, get_or-eq_default}
use lib.Seq.{get_or-take}
use Rattle.wire.specs.Search.{first_from}
use Rattle.wire.proofs.Agreeing.{Agree, before, every, same_from, whole_before}
use Rattle.wire.proofs.Booleans.{either}
use Rattle.integers.specs.Integers.{integer_at}
use Rattle.integers.specs.Stated.{AreBytes}
use Rattle.integers.specs.declared.Integer.{Integer}
use Rattle.integers.proofs.Agreeing.{same_integer}
use Rattle.integers.proofs.Stated.{integer_bounds}
use Rattle.std.specs.Prelude.{Option, None, Some, Result, Ok, Err}
use Rattle.fields.specs.declared.fault.BadMessage.{BadMessage}
use Rattle.fields.specs.Fields.{fields_in}
use Rattle.fields.specs.Parts.{wrong_at, ◌and_then◌}
use Rattle.wire.specs.declared.span.Span.{Span}
use Rattle.fields.proofs.FirstFault.{fields-from, same_prefixed, same_wrong_fields}
use Rattle.fields.proofs.Readings.{differ, first_wrong, judged_wrong, prefixed_inside, prefixed_wrong, same_good, same_place, then_good, then_wrong}
use Rattle.bhttp.specs.Contents.{contents_at, FieldSection, framed, is_other, optional_at, padding_at, part_at, section_at}
use Rattle.bhttp.specs.Request.{control_at, request_in}
use Rattle.bhttp.specs.Stated.{RefusalOfTheFirstFault}
use Rattle.bhttp.specs.declared.requests.Control.{Control}
use Rattle.bhttp.proofs.Reading.{optional_inside}

-- of two readings, each with what follows: wrong at one place, if they are so wherever the first one is
then_same : {A B : Type 0} (Q : Type 0) (x y : Result A BadMessage) (k l : A → Result B BadMessage) (p : ℕ) → (x ≡ wrong_at p → Q × (y ≡ wrong_at p))
    → ((a : A) → x ≡ Ok a → k a ≡ wrong_at p → Q × (y ≡ Ok a) × (l a ≡ wrong_at p)) → (x and_then k) ≡ wrong_at p → Q × ((y and_then l) ≡ wrong_at p)
then_same Q (Ok a) y k l p here behind e = let r = behind a refl e in (r.0, rw r.1 r.2)
then_same Q (Err bad) y k l p here behind e = let r = here (ap wrong_at (same_place e)) in (r.0, rw r.1)

-- neither the first nor what follows can be so
or_behind : {A B : Type 0} (x : Result A BadMessage) {k : A → Result B BadMessage} {p : ℕ} → (x ≡ wrong_at p → ⊥) → ((a : A) → k a ≡ wrong_at p → ⊥) → (x and_then k) ≡ wrong_at p → ⊥
or_behind (Ok a) here behind e = behind a e
or_behind (Err bad) here behind e = here (ap wrong_at (same_place e))

-- bytes up to an offset are bytes
bytes_before : (bytes : List ℕ) (end : ℕ) → AreBytes bytes → AreBytes (take end bytes)
bytes_before bytes end are i =
    either (ltb i end)
    (λ t. rw (get_or-take end bytes i 0 (ltb-true i end t)) (are i))
    (λ t.
    rw (get_or-eq_default (take end bytes) 0 {n = i} (rw (length-take end bytes) (omega (arith, ltb-false i end t)))) (omega arith))

-- a message that is wrong at a place before its end, and another that agrees with it up to seven bytes behind the place
module _ {a b : List ℕ} (p : ℕ) (are : AreBytes a) (agree : Agree (p + 8) a b) (before_end : p < length a) where
  -- missing bytes count at the end, so none are missing
  none_missing : (at : ℕ) → part_at a at ≡ wrong_at p → ⊥
  none_missing at e = omega (arith, (prefixed_wrong a at (length a) p e).0)

  optional_not_wrong : (at : ℕ) → optional_at a at ≡ wrong_at p → ⊥
  unfolding optional_at
  optional_not_wrong at e =
      either (leb (length a) at)
      (λ t. differ (sym (let z : Ok (record { start = at; end = at }) ≡ wrong_at p = rw t at e in z)))
      (λ t. none_missing at (rw t at e))

  same_optional : (at : ℕ) (span : Span) → optional_at a at ≡ Ok span → span.start ≤ p + 8 → optional_at b at ≡ Ok span
  unfolding optional_at
  same_optional at span e h =
      either (leb (length a) at)
      (λ t. let t' : leb (length b) at ≡ true = rw (← agree.same) t in rw t' (rw t at e))
      (λ t.
      let t' : leb (length b) at ≡ false = rw (← agree.same) t in
      rw t' (same_prefixed agree at (length a) (length b) span (rw t at e) h))

  -- a section: where it is good, and where it is wrong
  same_section : (at : ℕ) (section : FieldSection) → at ≤ length a → section_at a at ≡ Ok section
      → (at ≤ section.lies.end) × (section.lies.end ≤ length a) × (section.lies.end ≤ p + 8 → section_at b at ≡ Ok section)
  unfolding section_at
  same_section at section h e =
      let lies = then_good (optional_at a at) _ e in
      let fields = then_good (fields_in (take lies.0.end a) lies.0.start) _ lies.2 in
      let whole : ◌≡◌ {A = FieldSection} (record { lies = lies.0; fields = fields.0 }) section = same_good fields.2 in
      let ends : lies.0.end ≡ section.lies.end = ap (λ (s : FieldSection). s.lies.end) whole in
      let inside = optional_inside a at lies.0 h lies.1 in (
        omega (arith, ends, inside),
        omega (arith, ends, inside),
        λ within.
            let bytes : take lies.0.end b ≡ take lies.0.end a = sym (whole_before agree lies.0.end (omega (arith, ends))) in
            rw (same_optional at lies.0 lies.1 (omega (arith, ends, inside)), bytes, fields.1) (ap Ok whole),
      )

  same_wrong_section : (at : ℕ) → at ≤ length a → section_at a at ≡ wrong_at p → (at ≤ p) × (section_at b at ≡ wrong_at p)
  unfolding section_at
  same_wrong_section at h e = by_reason (then_wrong (optional_at a at) _ e)
    where
      by_reason : ((optional_at a at ≡ wrong_at p)
          ⊎ ((lies : Span) × (optional_at a at ≡ Ok lies)
          × (◌and_then◌ {B = FieldSection} (fields_in (take lies.end a) lies.start) (λ fields. Ok (record { lies = lies; fields = fields }))
          ≡ wrong_at p)))
          → (at ≤ p) × (section_at b at ≡ wrong_at p)
      by_reason (inl wrong) = absurd (optional_not_wrong at wrong)
      by_reason (inr r) =
          let inside = optional_inside a at r.0 h r.1 in
          let end = r.0.end in
          let wrong = first_wrong (fields_in (take end a) r.0.start) (λ fields. record { lies = r.0; fields = fields }) r.2 in
          let from = fields-from (take end a) (length (take end a)) r.0.start p wrong in
          let long : length (take end b) ≡ length (take end a) = sym (before agree end).same in
          let same = same_wrong_fields (length (take end a)) r.0.start p (bytes_before a end are) (before agree end) wrong in
          (omega (arith, inside, from), rw (same_optional at r.0 r.1 (omega (arith, from)), long, same))

  -- padding that is not zero
  same_wrong_padding : (at : ℕ) → padding_at a at ≡ wrong_at p → (at ≤ p) × (padding_at b at ≡ wrong_at p)
  unfolding padding_at
  same_wrong_padding at e =
      let wrong = judged_wrong (record { start = at; end = length a }) (first_from is_other a at) p e in
      let found : first_from is_other b at ≡ first_from is_other a at = same_from is_other at agree (omega (arith, wrong.0)) in
      (omega (arith, wrong.0), rw (← agree.same, found) e)

  -- what lies behind the control data
  same_wrong_contents : (at : ℕ) → at ≤ length a → contents_at a at ≡ wrong_at p → (at ≤ p) × (contents_at b at ≡ wrong_at p)
  unfolding contents_at
  same_wrong_contents at h e =
      then_same (at ≤ p) (section_at a at) (section_at b at) _ _ p (same_wrong_section at h) (λ headers read_headers behind_headers.
      let headers_same = same_section at headers h read_headers in
      let content_on =
      then_same (headers.lies.end ≤ p) (optional_at a headers.lies.end) (optional_at b headers.lies.end) _ _ p
      (λ wrong. absurd (optional_not_wrong headers.lies.end wrong)) (λ content read_content behind-content.
      let content_inside = optional_inside a headers.lies.end content headers_same.1 read_content in
      let trailers_on =
      then_same (content.end ≤ p) (section_at a content.end) (section_at b content.end) _ _ p
      (same_wrong_section content.end content_inside.2) (λ trailers read_trailers behind_trailers.
      let trailers_same = same_section content.end trailers content_inside.2 read_trailers in
      let padding_on =
      then_same (trailers.lies.end ≤ p) (padding_at a trailers.lies.end) (padding_at b trailers.lies.end) _ _ p
      (same_wrong_padding trailers.lies.end) (λ padding read_padding wrong. absurd (differ (sym wrong))) behind_trailers in
      (omega (arith, trailers_same, padding_on.0), trailers_same.2 (omega (arith, padding_on.0)), padding_on.1))
      behind-content in (
        omega (arith, content_inside, trailers_on.0),
        same_optional headers.lies.end content read_content (omega (arith, content_inside, trailers_on.0)),
        trailers_on.1,
      ))
      behind_headers in
      (omega (arith, headers_same.0, content_on.0), headers_same.2 (omega (arith, content_on.0)), content_on.1))
      e

  -- the control data, where they are good
  same_part : (at : ℕ) (span : Span) → part_at a at ≡ Ok span → span.end ≤ p + 8 → part_at b at ≡ Ok span
  same_part at span e h = same_prefixed agree at (length a) (length b) span e (omega (arith, prefixed_inside a at (length a) span e))

  same_control : (at : ℕ) (control : Control) → control_at a at ≡ Ok control
      → (at ≤ control.path.end) × (control.path.end ≤ length a) × (control.path.end ≤ p + 8 → control_at b at ≡ Ok control)
  unfolding control_at
  same_control at control e =
      let method = then_good (part_at a at) _ e in
      let scheme = then_good (part_at a method.0.end) _ method.2 in
      let authority = then_good (part_at a scheme.0.end) _ scheme.2 in
      let path = then_good (part_at a authority.0.end) _ authority.2 in
      let whole : ◌≡◌ {A = Control} (record { method = method.0; scheme = scheme.0; authority = authority.0; path = path.0 }) control =
      same_good path.2 in
      let ends : path.0.end ≡ control.path.end = ap (λ (c : Control). c.path.end) whole in
      let scheme_inside = prefixed_inside a method.0.end (length a) scheme.0 scheme.1 in
      let authority_inside = prefixed_inside a scheme.0.end (length a) authority.0 authority.1 in
      let path_inside = prefixed_inside a authority.0.end (length a) path.0 path.1 in
      let method_inside = prefixed_inside a at (length a) method.0 method.1 in (
        omega (arith, ends, method_inside, scheme_inside, authority_inside, path_inside),
        omega (arith, ends, path_inside),
        λ within.
            rw (
              same_part at method.0 method.1 (omega (arith, ends, scheme_inside, authority_inside, path_inside)),
              same_part method.0.end scheme.0 scheme.1 (omega (arith, ends, authority_inside, path_inside)),
              same_part scheme.0.end authority.0 authority.1 (omega (arith, ends, path_inside)),
              same_part authority.0.end path.0 path.1 (omega (arith, ends)),
            )
            (ap Ok whole),
      )

  control_not_wrong : (at : ℕ) → control_at a at ≡ wrong_at p → ⊥
  unfolding control_at
  control_not_wrong at e =
      or_behind (part_at a at) (none_missing at) (λ method. or_behind (part_at a method.end) (none_missing method.end) (λ scheme.
      or_behind (part_at a scheme.end) (none_missing scheme.end) (λ authority.
      or_behind (part_at a authority.end) (none_missing authority.end) (λ path wrong. differ (sym wrong))))) e

  -- the framing
  same_framing : (span : Span) → framed 0 (integer_at a 0) (length a) ≡ Ok span → span.end ≤ p + 8 → framed 0 (integer_at b 0) (length b) ≡ Ok span
  same_framing span e h = by_integer (integer_at a 0) refl
    where
      by_integer : (i : Option Integer) → integer_at a 0 ≡ i → framed 0 (integer_at b 0) (length b) ≡ Ok span
      by_integer None d = absurd (differ (rw d at e))
      by_integer (Some integer) d =
          let value = integer.value in
          let end = integer.end in
          either (eqb value 0)
          (λ t.
          let spans : ◌≡◌ {A = Span} (record { start = 0; end = end }) span = same_good (rw (d, t) at e) in
          let ends : end ≡ span.end = ap (λ (s : Span). s.end) spans in
          rw (same_integer agree 0 value end d (omega (arith, ends)), t) (ap Ok spans))
          (λ t. absurd (differ (let z : wrong_at 0 ≡ Ok span = rw (d, t) at e in z)))

  same_wrong_framing : framed 0 (integer_at a 0) (length a) ≡ wrong_at p → framed 0 (integer_at b 0) (length b) ≡ wrong_at p
  same_wrong_framing e = by_integer (integer_at a 0) refl
    where
      by_integer : (i : Option Integer) → integer_at a 0 ≡ i → framed 0 (integer_at b 0) (length b) ≡ wrong_at p
      by_integer None d =
          let place : length a ≡ p = same_place (let z : ◌≡◌ {A = Result Span BadMessage} (wrong_at (length a)) (wrong_at p) = rw d at e in z) in
          absurd (omega (arith, place))
      by_integer (Some integer) d =
          let value = integer.value in
          let end = integer.end in
          let same = same_integer agree 0 value end d (omega (arith, (integer_bounds.value a 0 value end are d).1)) in
          rw same (rw d at e)

  -- the request
  same_wrong_request : request_in a ≡ wrong_at p → request_in b ≡ wrong_at p
  unfolding request_in
  same_wrong_request e =
      (then_same (Unit {0}) (framed 0 (integer_at a 0) (length a)) (framed 0 (integer_at b 0) (length b)) _ _ p
      (λ wrong. (tt, same_wrong_framing wrong)) (λ framing read_framing behind_framing.
      let control_on =
      then_same (framing.end ≤ p) (control_at a framing.end) (control_at b framing.end) _ _ p
      (λ wrong. absurd (control_not_wrong framing.end wrong)) (λ control read-control behind_control.
      let control_same = same_control framing.end control read-control in
      let contents_on =
      then_same (control.path.end ≤ p) (contents_at a control.path.end) (contents_at b control.path.end) _ _ p
      (same_wrong_contents control.path.end control_same.1) (λ contents read_contents wrong. absurd (differ (sym wrong))) behind_control in
      (omega (arith, control_same.0, contents_on.0), control_same.2 (omega (arith, contents_on.0)), contents_on.1))
      behind_framing in
      (tt, same_framing framing read_framing (omega (arith, control_on.0)), control_on.1))
      e).1

pub refusal_of_the_first_fault : RefusalOfTheFirstFault
refusal_of_the_first_fault a b place are same front e =
    let agree : Agree (place + 8) a b = record { same = same; front = front } in
    either (ltb place (length a))
    (λ t. same_wrong_request place are agree (ltb-true place (length a) t) e)
    (λ t. rw (← every agree (omega (arith, ltb-false place (length a) t))) e)
