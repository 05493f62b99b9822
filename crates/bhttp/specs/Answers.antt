-- What the entries answer of a request that was read.
use Rattle.std.specs.Prelude.{ℕ, List, [], ◌∷◌, length, get_or, Result, Ok, Err}
use Rattle.wire.specs.Refusals.{refused_at}
use Rattle.wire.specs.declared.refusal.Refusal.{Refusal}
use Rattle.wire.specs.declared.span.Span.{Span}
use Rattle.fields.specs.Parts.{bytes_of}
use Rattle.fields.specs.declared.fault.BadMessage.{BadMessage}
use Rattle.bhttp.specs.Contents.{Contents, FieldSection}
use Rattle.bhttp.specs.Request.{Message}
use Rattle.bhttp.specs.declared.contents.Section.{Section}
use Rattle.bhttp.specs.declared.contents.Layout.{Layout}
use Rattle.bhttp.specs.declared.requests.Request.{Request}

-- a section with how many fields it has
abbrev pub counted : FieldSection → Section
counted section = record { lies = section.lies; fields = length section.fields }

abbrev pub layout_of : Contents → Layout
layout_of contents =
    record {
      headers = counted contents.headers;
      content = contents.content;
      trailers = counted contents.trailers;
      padding = contents.padding;
    }

-- where the parts lie
abbrev pub places_of : Message → Request
places_of message = record { control = message.control; layout = layout_of message.contents }

-- the checking entry: where the parts lie and how many fields each section has, or 23 with its place
abbrev pub checked : Result Message BadMessage → Result Request Refusal
checked (Ok message) = Ok (places_of message)
checked (Err bad) = Err (refused_at 23 bad.place)

-- the parts, numbered from 0: method, scheme, authority, path, header section, content, trailer section, padding
abbrev pub parts_of : Request → List Span
parts_of request =
    request.control.method ∷ request.control.scheme ∷ request.control.authority ∷ request.control.path
    ∷ request.layout.headers.lies ∷ request.layout.content ∷ request.layout.trailers.lies ∷ request.layout.padding ∷ []

-- no part, which is empty
abbrev pub no_part : Span
no_part = record { start = 0; end = 0 }

-- the part of a number; any other number has none
unfoldable pub numbered : ℕ → Request → Span
numbered number request = get_or (parts_of request) number no_part

-- where it lies, or 23 with its place
abbrev pub part_place : ℕ → Result Message BadMessage → Result Span Refusal
part_place number (Ok message) = Ok (numbered number (places_of message))
part_place number (Err bad) = Err (refused_at 23 bad.place)

-- its bytes, as a part of the message; empty on refusal
abbrev pub part_bytes : ℕ → List ℕ → Result Message BadMessage → List ℕ
part_bytes number bytes (Ok message) = bytes_of bytes (numbered number (places_of message))
part_bytes number bytes (Err bad) = []
