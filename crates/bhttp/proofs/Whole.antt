-- Nothing is invented: the parts of a message that was read, its integers and its padding are the whole of it; and the reader gives its fields.
-- Assumes nothing.
use mathlib.Core.Path.{◌≡◌, refl, sym, ap, subst, ◌∙◌}
use mathlib.Core.Bool.{false, not}
use mathlib.Core.List.{List, [], ◌∷◌, map}
use Prim.Native.Nat.{ℕ, zero, suc, ◌+◌, ◌-◌, ◌≤◌, ◌<◌}
use native.Mathlib.Omega.{arith}
use lib.Dec.{eqb, leb}
use lib.ListN.{length, take, drop, replicate, length-take, get_or-eq_default}
use Rattle.integers.specs.Integers.{integer_at, whole}
use Rattle.integers.specs.declared.Integer.{Integer}
use Rattle.integers.proofs.Stated.{integer_bounds}
use Rattle.integers.proofs.Agreeing.{integer_in}
use Rattle.wire.specs.Search.{first_from}
use Rattle.wire.proofs.Agreeing.{part_before}
use Rattle.wire.proofs.Matches.{before_first}
use Rattle.wire.proofs.Booleans.{either}
use Rattle.std.specs.Prelude.{Option, None, Some, Ok}
use Rattle.fields.specs.Fields.{field_at, fields_from, fields_in}
use Rattle.fields.specs.Parts.{bytes_of, wrong_at}
use Rattle.fields.specs.Reader.{field_bytes}
use Rattle.fields.specs.declared.field.Field.{Field}
use Rattle.wire.specs.declared.span.Span.{Span}
use Rattle.fields.proofs.Readings.{differ, judged_end, judged_good, prefixed_stands, same_good, then_good}
use Rattle.fields.proofs.Sections.{field_inside, field-parts, name_lies, value_lies}
use Rattle.fields.proofs.Walking.{reader_gives_the_fields}
use Rattle.bhttp.specs.Contents.{Contents, contents_at, FieldSection, framed, is_other, optional_at, padding_at, part_at, section_at}
use Rattle.bhttp.specs.Request.{control_at, Message, request_in}
use Rattle.bhttp.specs.declared.requests.Control.{Control}
use Rattle.bhttp.proofs.Reading.{optional_inside}
use Rattle.bhttp.specs.Stated.{field_parts, FieldsStand, NothingInvented, ReaderGivesTheMessagesFields, StandFrom, walked_in}
use borrow.Author.Tests.{eqb-true, le-leb, leb-true, leb-false, not-false}
use lib.Seq.{get_or-drop, length-take-le, take-take}
use Rattle.wire.specs.Bytes.{byte_at}

-- an integer of the message up to an offset is one of the message
integer_before : (bytes : List ℕ) (end at value next : ℕ) → integer_at (take end bytes) at ≡ whole value next → integer_at bytes at ≡ whole value next
integer_before bytes end at value next e =
    let inside = integer_bounds.inside (take end bytes) at value next e in
    let long = length-take end bytes in
    integer_in (take end bytes) bytes end at value next (take-take end end bytes (omega arith)) (omega (arith, inside.1, long)) (omega (arith, inside.1, long)) e

-- names and values from a place on to the end of the section, where there are turns enough
fields_stand : (more : ℕ) (bytes : List ℕ) (end at : ℕ) (fields : List Field) → end ≤ length bytes → at ≤ end → end ≤ more + at
    → fields_from more (take end bytes) at ≡ Ok fields → StandFrom bytes at (field_parts fields) end
unfolding fields_from StandFrom field_parts
fields_stand zero bytes end at fields h k more e = rw (← same_good e) (omega arith)
fields_stand (suc more) bytes end at fields h k enough e =
    let long : length (take end bytes) ≡ end = length-take-le end bytes h in
    either (leb (length (take end bytes)) at)
    (λ t.
    let none : [] ≡ fields = same_good (rw t at e) in
    rw (← none) (omega (arith, long, leb-true (length (take end bytes)) at t)))
    (λ t.
    let first = then_good (field_at (take end bytes) at) _ (rw t at e) in
    let rest = then_good (fields_from more (take end bytes) first.0.value.end) _ first.2 in
    let all : first.0 ∷ rest.0 ≡ fields = same_good rest.2 in
    let parts = field-parts (take end bytes) at first.0 first.1 in
    let inside = field_inside (take end bytes) at first.0 first.1 in
    let name = prefixed_stands (take end bytes) at at first.0.name (name_lies (take end bytes) at first.0.name parts.0) in
    let place = first.0.name.end in
    let value = prefixed_stands (take end bytes) place place first.0.value (value_lies (take end bytes) place first.0.value parts.1) in
    let behind = fields_stand more bytes end first.0.value.end rest.0 h (omega (arith, long, inside)) (omega (arith, inside)) rest.1 in
    subst (λ (fields : List Field). StandFrom bytes at (field_parts fields) end) all
    (integer_before bytes end at _ _ name.0, name.1, (integer_before bytes end place _ _ value.0, value.1, behind)))

-- an empty part at the message's end
abbrev at-end : List ℕ → Span
at-end bytes = record { start = length bytes; end = length bytes }

-- parts that are read one behind the other, each of which may be missing at the message's end
abbrev Run : List ℕ → ℕ → List Span → ℕ → Type 0
Run bytes at [] to = at ≡ to
Run bytes at (span ∷ spans) to = (optional_at bytes at ≡ Ok span) × Run bytes span.end spans to

-- from the end on, all are
missing-at-end : (bytes : List ℕ) (spans : List Span) (to : ℕ) → Run bytes (length bytes) spans to
    → (spans ≡ replicate (length spans) (at-end bytes)) × (to ≡ length bytes)
unfolding optional_at
missing-at-end bytes [] to run = (refl, sym run)
missing-at-end bytes (span ∷ spans) to run =
    let first : at-end bytes ≡ span = same_good (rw (le-leb (length bytes) (length bytes) (omega arith)) at run.0) in
    let rest = missing-at-end bytes spans to (subst (λ (s : Span). Run bytes s.end spans to) (sym first) run.1) in
    (ap (λ (s : Span). s ∷ spans) (sym first) ∙ ap (λ (ss : List Span). at-end bytes ∷ ss) rest.0, rest.1)

-- so many are there, and the others are missing
some_there : (bytes : List ℕ) (spans : List Span) (at to : ℕ) → at ≤ length bytes → Run bytes at spans to
    → (k : ℕ) × (k ≤ length spans) × StandFrom bytes at (take k spans) to
    × (drop k spans ≡ replicate (length spans - k) (at-end bytes)) × (k < length spans → to ≡ length bytes)
unfolding optional_at StandFrom
some_there bytes [] at to h run = (0, omega arith, run, refl, λ k. absurd (omega arith))
some_there bytes (span ∷ spans) at to h run =
    either (leb (length bytes) at)
    (λ t.
    let here : at ≡ length bytes = omega (arith, leb-true (length bytes) at t) in
    let missing = missing-at-end bytes (span ∷ spans) to (subst (λ (n : ℕ). Run bytes n (span ∷ spans) to) here run) in
    (0, omega arith, here ∙ sym missing.1, missing.0 ∙ ap (λ (n : ℕ). replicate n (at-end bytes)) (let e : suc (length spans) ≡ suc (length spans) - 0 = omega arith in e), λ k. missing.1))
    (λ t.
    let stands = prefixed_stands bytes at (length bytes) span (rw t at run.0) in
    let rest = some_there bytes spans span.end to stands.2 run.1 in (
      suc rest.0,
      omega (arith, rest.1),
      (stands.0, stands.1, rest.2),
      rest.3 ∙ ap (λ (n : ℕ). replicate n (at-end bytes)) (let e : length spans - rest.0 ≡ suc (length spans) - suc rest.0 = omega arith in e),
      λ k. rest.4 (omega arith),
    ))

-- the steps in which control data, what is behind them, and a request were read
abbrev ControlSteps : List ℕ → ℕ → Control → Type 0
ControlSteps bytes at control =
    (part_at bytes at ≡ Ok control.method)
    × (part_at bytes control.method.end ≡ Ok control.scheme)
    × (part_at bytes control.scheme.end ≡ Ok control.authority)
    × (part_at bytes control.authority.end ≡ Ok control.path)

control_steps : (bytes : List ℕ) (at : ℕ) (control : Control) → control_at bytes at ≡ Ok control → ControlSteps bytes at control
unfolding control_at
control_steps bytes at control e =
    let method = then_good (part_at bytes at) _ e in
    let scheme = then_good (part_at bytes method.0.end) _ method.2 in
    let authority = then_good (part_at bytes scheme.0.end) _ scheme.2 in
    let path = then_good (part_at bytes authority.0.end) _ authority.2 in
    subst (ControlSteps bytes at) (same_good path.2) (method.1, scheme.1, authority.1, path.1)

abbrev ContentsSteps : List ℕ → ℕ → Contents → Type 0
ContentsSteps bytes at contents =
    (section_at bytes at ≡ Ok contents.headers)
    × (optional_at bytes contents.headers.lies.end ≡ Ok contents.content)
    × (section_at bytes contents.content.end ≡ Ok contents.trailers)
    × (padding_at bytes contents.trailers.lies.end ≡ Ok contents.padding)

contents_steps : (bytes : List ℕ) (at : ℕ) (contents : Contents) → contents_at bytes at ≡ Ok contents → ContentsSteps bytes at contents
unfolding contents_at
contents_steps bytes at contents e =
    let headers = then_good (section_at bytes at) _ e in
    let content = then_good (optional_at bytes headers.0.lies.end) _ headers.2 in
    let trailers = then_good (section_at bytes content.0.end) _ content.2 in
    let padding = then_good (padding_at bytes trailers.0.lies.end) _ trailers.2 in
    subst (ContentsSteps bytes at) (same_good padding.2) (headers.1, content.1, trailers.1, padding.1)

abbrev RequestSteps : List ℕ → Message → Type 0
RequestSteps bytes message =
    (framing : Span) × (framed 0 (integer_at bytes 0) (length bytes) ≡ Ok framing)
    × ControlSteps bytes framing.end message.control × ContentsSteps bytes message.control.path.end message.contents

request_steps : (bytes : List ℕ) (message : Message) → request_in bytes ≡ Ok message → RequestSteps bytes message
unfolding request_in
request_steps bytes message e =
    let framing = then_good (framed 0 (integer_at bytes 0) (length bytes)) _ e in
    let control = then_good (control_at bytes framing.0.end) _ framing.2 in
    let contents = then_good (contents_at bytes control.0.path.end) _ control.2 in
    subst (RequestSteps bytes) (same_good contents.2)
    (framing.0, framing.1, control_steps bytes framing.0.end control.0 control.1, contents_steps bytes control.0.path.end contents.0 contents.1)

-- framing 0
framing_is : (bytes : List ℕ) (span : Span) → framed 0 (integer_at bytes 0) (length bytes) ≡ Ok span → integer_at bytes 0 ≡ whole 0 span.end
framing_is bytes span e = by_integer (integer_at bytes 0) refl
  where
    by_integer : (i : Option Integer) → integer_at bytes 0 ≡ i → integer_at bytes 0 ≡ whole 0 span.end
    by_integer None d = absurd (differ (let z : wrong_at (length bytes) ≡ Ok span = rw d at e in z))
    by_integer (Some integer) d =
        let value = integer.value in
        let end = integer.end in
        either (eqb value 0)
        (λ t.
        let spans : ◌≡◌ {A = Span} (record { start = 0; end = end }) span = same_good (rw (d, t) at e) in
        d ∙ ap (λ (v : ℕ). whole v end) (eqb-true value 0 t) ∙ ap (λ (s : Span). whole 0 s.end) spans)
        (λ t. absurd (differ (let z : wrong_at 0 ≡ Ok span = rw (d, t) at e in z)))

-- a section and its fields
section_steps : (bytes : List ℕ) (at : ℕ) (section : FieldSection) → section_at bytes at ≡ Ok section
    → (optional_at bytes at ≡ Ok section.lies) × (fields_in (take section.lies.end bytes) section.lies.start ≡ Ok section.fields)
unfolding section_at
section_steps bytes at section e =
    let lies = then_good (optional_at bytes at) _ e in
    let fields = then_good (fields_in (take lies.0.end bytes) lies.0.start) _ lies.2 in
    subst
    (λ (s : FieldSection). (optional_at bytes at ≡ Ok s.lies) × (fields_in (take s.lies.end bytes) s.lies.start ≡ Ok s.fields))
    (same_good fields.2) (lies.1, fields.1)

section_stands : (bytes : List ℕ) (at : ℕ) (section : FieldSection) → at ≤ length bytes → section_at bytes at ≡ Ok section → FieldsStand bytes section
section_stands bytes at section h e =
    let read = section_steps bytes at section e in
    let inside = optional_inside bytes at section.lies h read.0 in
    fields_stand (length (take section.lies.end bytes)) bytes section.lies.end section.lies.start section.fields inside.2 inside.1
    (rw (length-take-le section.lies.end bytes inside.2) (omega arith)) read.1

-- padding: its end, and that it is zero
padding_is : (bytes : List ℕ) (at : ℕ) (span : Span) → padding_at bytes at ≡ Ok span
    → (span ≡ record { start = at; end = length bytes }) × ((i : ℕ) → at ≤ i → byte_at bytes i ≡ 0)
unfolding padding_at
padding_is bytes at span e =
    let all : ◌≡◌ {A = Span} (record { start = at; end = length bytes }) span = judged_good (record { start = at; end = length bytes }) (first_from is_other bytes at) span e in
    let end = judged_end (record { start = at; end = length bytes }) (first_from is_other bytes at) span e in (
      sym all,
      λ i h.
          either (leb (length bytes) i)
          (λ t. get_or-eq_default bytes 0 {n = i} (leb-true (length bytes) i t))
          (λ t.
          let place : at + (i - at) ≡ i = omega arith in
          let zero_there : not (eqb (byte_at (drop at bytes) (i - at)) 0) ≡ false =
          before_first 0 is_other (drop at bytes) (i - at) (omega (arith, end, leb-false (length bytes) i t)) in
          ap (byte_at bytes) (sym place) ∙ sym (get_or-drop at bytes (i - at) 0) ∙ eqb-true (byte_at (drop at bytes) (i - at)) 0 (not-false _ zero_there)),
    )

-- all of it
pub nothing_invented : NothingInvented
unfolding StandFrom
nothing_invented bytes message e =
    let read = request_steps bytes message e in
    let control = read.2 in
    let contents = read.3 in
    let stands : (at : ℕ) (span : Span) → part_at bytes at ≡ Ok span
    → (integer_at bytes at ≡ whole (span.end - span.start) span.start) × (span.start ≤ span.end) × (span.end ≤ length bytes) =
    λ at span d. prefixed_stands bytes at (length bytes) span d in
    let method = stands read.0.end message.control.method control.0 in
    let scheme = stands message.control.method.end message.control.scheme control.1 in
    let authority = stands message.control.scheme.end message.control.authority control.2 in
    let path = stands message.control.authority.end message.control.path control.3 in
    let headers = section_steps bytes message.control.path.end message.contents.headers contents.0 in
    let headers_inside = optional_inside bytes message.control.path.end message.contents.headers.lies path.2 headers.0 in
    let content_inside = optional_inside bytes message.contents.headers.lies.end message.contents.content headers_inside.2 contents.1 in
    let trailers = section_steps bytes message.contents.content.end message.contents.trailers contents.2 in
    let trailers_inside =
    optional_inside bytes message.contents.content.end message.contents.trailers.lies content_inside.2 trailers.0 in
    let padding = padding_is bytes message.contents.trailers.lies.end message.contents.padding contents.3 in
    let start : message.contents.trailers.lies.end ≡ message.contents.padding.start = ap (λ (s : Span). s.start) (sym padding.0) in
    let there =
    some_there bytes (message.contents.headers.lies ∷ message.contents.content ∷ message.contents.trailers.lies ∷ [])
    message.control.path.end message.contents.padding.start path.2
    (headers.0, (contents.1, (trailers.0, start))) in
    record {
      framing_end = read.0.end;
      framing = framing_is bytes read.0 read.1;
      there = suc (suc (suc (suc there.0)));
      at_least_control = omega arith;
      parts = (method.0, method.1, (scheme.0, scheme.1, (authority.0, authority.1, (path.0, path.1, there.2))));
      missing = there.3 ∙ ap (λ (n : ℕ). replicate n (at-end bytes)) (let e : 3 - there.0 ≡ 7 - suc (suc (suc (suc there.0))) = omega arith in e);
      missing_at_end = λ k. there.4 (omega arith);
      headers = section_stands bytes message.control.path.end message.contents.headers path.2 contents.0;
      trailers = section_stands bytes message.contents.content.end message.contents.trailers content_inside.2 contents.2;
      padding_inside = omega (arith, start, trailers_inside);
      padding_end = ap (λ (s : Span). s.end) padding.0;
      padding = λ i h. padding.1 i (omega (arith, start));
    }

-- fields of the message up to a section's end are parts of the message
fields_bytes : (more : ℕ) (bytes : List ℕ) (end at : ℕ) (fields : List Field) → end ≤ length bytes → fields_from more (take end bytes) at ≡ Ok fields
    → map (field_bytes (take end bytes)) fields ≡ map (field_bytes bytes) fields
unfolding fields_from
fields_bytes zero bytes end at fields h e = rw (← same_good e)
fields_bytes (suc more) bytes end at fields h e =
    either (leb (length (take end bytes)) at)
    (λ t. let none : [] ≡ fields = same_good (rw t at e) in rw (← none))
    (λ t.
    let first = then_good (field_at (take end bytes) at) _ (rw t at e) in
    let rest = then_good (fields_from more (take end bytes) first.0.value.end) _ first.2 in
    let all : first.0 ∷ rest.0 ≡ fields = same_good rest.2 in
    let inside = field_inside (take end bytes) at first.0 first.1 in
    let long : length (take end bytes) ≡ end = length-take-le end bytes h in
    let name : bytes_of (take end bytes) first.0.name ≡ bytes_of bytes first.0.name =
    part_before end first.0.name.start (first.0.name.end - first.0.name.start) bytes (omega (arith, inside, long)) in
    let value : bytes_of (take end bytes) first.0.value ≡ bytes_of bytes first.0.value =
    part_before end first.0.value.start (first.0.value.end - first.0.value.start) bytes (omega (arith, inside, long)) in
    let behind = fields_bytes more bytes end first.0.value.end rest.0 h rest.1 in
    subst (λ (fields : List Field). map (field_bytes (take end bytes)) fields ≡ map (field_bytes bytes) fields) all (rw (name, value, behind)))

-- a section walked
section_walked : (turns : ℕ) (bytes : List ℕ) (at : ℕ) (section : FieldSection) → length bytes ≤ turns → at ≤ length bytes → section_at bytes at ≡ Ok section
    → walked_in turns bytes section ≡ map (field_bytes bytes) section.fields
section_walked turns bytes at section enough h e =
    let read = section_steps bytes at section e in
    let inside = optional_inside bytes at section.lies h read.0 in
    let end = section.lies.end in
    reader_gives_the_fields.fields (take end bytes) section.lies.start turns section.fields
    (rw (length-take-le end bytes inside.2) (omega (arith, inside))) read.1
    ∙ fields_bytes (length (take end bytes)) bytes end section.lies.start section.fields inside.2 read.1

pub reader_gives_the_messages_fields : ReaderGivesTheMessagesFields
reader_gives_the_messages_fields bytes message turns enough e =
    let read = request_steps bytes message e in
    let path = prefixed_stands bytes message.control.authority.end (length bytes) message.control.path read.2.3 in
    let headers = section_steps bytes message.control.path.end message.contents.headers read.3.0 in
    let headers_inside = optional_inside bytes message.control.path.end message.contents.headers.lies path.2 headers.0 in
    let content_inside = optional_inside bytes message.contents.headers.lies.end message.contents.content headers_inside.2 read.3.1 in (
      section_walked turns bytes message.control.path.end message.contents.headers enough path.2 read.3.0,
      section_walked turns bytes message.contents.content.end message.contents.trailers enough content_inside.2 read.3.2,
    )
