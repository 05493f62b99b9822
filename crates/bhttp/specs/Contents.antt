-- RFC 9292, 3.1, the known-length message behind its control data: header section, content, trailer section and padding; 02, A3.
use Rattle.std.specs.Prelude.{ℕ, Bool, not, List, eqb, leb, length, take, Option, None, Some, Result, Ok}
use Rattle.wire.specs.Tests.{pick}
use Rattle.wire.specs.Search.{first_from}
use Rattle.integers.specs.declared.Integer.{Integer}
use Rattle.fields.specs.Parts.{wrong_at, ◌and_then◌, judged, prefixed_at}
use Rattle.fields.specs.Fields.{fields_in}
use Rattle.fields.specs.declared.fault.BadMessage.{BadMessage}
use Rattle.fields.specs.declared.field.Field.{Field}
use Rattle.wire.specs.declared.span.Span.{Span}

-- a field section: where it lies, and its fields
pub record FieldSection : Type 0 where
  pub lies : Span
  pub fields : List Field

pub record Contents : Type 0 where
  pub headers : FieldSection
  pub content : Span
  pub trailers : FieldSection
  pub padding : Span

-- the framing indicator, of a message of so many bytes: where it lies, if it is this number; "a bad framing … at that integer's first byte"
abbrev pub framed : ℕ → Option Integer → ℕ → Result Span BadMessage
framed framing (Some integer) size = pick (eqb integer.value framing) (Ok (record { start = 0; end = integer.end })) (wrong_at 0)
framed framing None size = wrong_at size

-- a length and as many bytes: missing bytes count at the message's length
abbrev pub part_at : List ℕ → ℕ → Result Span BadMessage
part_at bytes at = prefixed_at bytes at (length bytes)

-- the same, but that it may be missing, and is empty then, where the message ends: "Empty trailers may be missing at the end, and empty content
-- too if trailers are missing. A header section must be there unless the message ends exactly after the path"
unfoldable pub optional_at : List ℕ → ℕ → Result Span BadMessage
optional_at bytes at = pick (leb (length bytes) at) (Ok (record { start = at; end = at })) (part_at bytes at)

-- "A section longer than the message is missing bytes, before its fields are read"
unfoldable pub section_at : List ℕ → ℕ → Result FieldSection BadMessage
section_at bytes at =
    optional_at bytes at and_then (λ lies.
    fields_in (take lies.end bytes) lies.start and_then (λ fields.
    Ok (record { lies = lies; fields = fields })))

-- what follows is zero padding: the first byte that is not 0 is wrong
abbrev pub is_other : ℕ → Bool
is_other byte = not (eqb byte 0)

unfoldable pub padding_at : List ℕ → ℕ → Result Span BadMessage
padding_at bytes at =
    judged (record { start = at; end = length bytes }) (first_from is_other bytes at)

unfoldable pub contents_at : List ℕ → ℕ → Result Contents BadMessage
contents_at bytes at =
    section_at bytes at and_then (λ headers.
    optional_at bytes headers.lies.end and_then (λ content.
    section_at bytes content.end and_then (λ trailers.
    padding_at bytes trailers.lies.end and_then (λ padding.
    Ok (record { headers = headers; content = content; trailers = trailers; padding = padding })))))
