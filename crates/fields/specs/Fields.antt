-- RFC 9292, 3.6, a field section, in 02, A3's profile. `bytes` is the message up to the section's end, so that every offset is one of the message.
use Rattle.std.specs.Prelude.{ℕ, zero, suc, ◌-◌, List, [], ◌∷◌, leb, ltb, length, take, Result, Ok}
use Rattle.wire.specs.Tests.{pick}
use Rattle.wire.specs.Bytes.{byte_at}
use Rattle.wire.specs.Refusals.{◌when◌otherwise◌}
use Rattle.fields.specs.Octets.{blank, class_of, first_below, text, token}
use Rattle.fields.specs.Parts.{◌and_then◌, judged, prefixed_at}
use Rattle.wire.specs.declared.span.Span.{Span}
use Rattle.fields.specs.declared.fault.BadMessage.{BadMessage}
use Rattle.fields.specs.declared.field.Field.{Field}

-- Where a name and a value are wrong that end with the bytes and start at an offset; the end where they are right.
-- "a field name is one or more lower-case token characters"; "an empty name … at that integer's first byte"
unfoldable pub name_fault : List ℕ → ℕ → ℕ → ℕ
name_fault bytes start length_place =
    length_place when leb (length bytes) start otherwise
    first_below token bytes start

-- "a value has no NUL, CR or LF and no space or tab at either end": its first byte, then bytes in order, then "trailing blanks at the last"
unfoldable pub value_fault : List ℕ → ℕ → ℕ
value_fault bytes start =
    length bytes when leb (length bytes) start otherwise
    start when ltb (class_of (byte_at bytes start)) text otherwise
    first_below blank bytes start when ltb (first_below blank bytes start) (length bytes) otherwise
    length bytes - 1 when ltb (class_of (byte_at bytes (length bytes - 1))) text otherwise
    length bytes

-- a name and a value: "a field past its section's end" counts "at that integer's first byte", which is the section's end where that ends behind a name
unfoldable pub name_at : List ℕ → ℕ → Result Span BadMessage
name_at bytes at = prefixed_at bytes at at and_then (λ name. judged name (name_fault (take name.end bytes) name.start at))

unfoldable pub value_at : List ℕ → ℕ → Result Span BadMessage
value_at bytes at = prefixed_at bytes at at and_then (λ value. judged value (value_fault (take value.end bytes) value.start))

-- a field: its name is judged before its value's length is read
unfoldable pub field_at : List ℕ → ℕ → Result Field BadMessage
field_at bytes at =
    name_at bytes at and_then (λ name.
    value_at bytes name.end and_then (λ value.
    Ok (record { name = name; value = value })))

-- the fields from an offset to the end, at most so many
unfoldable pub fields_from : ℕ → List ℕ → ℕ → Result (List Field) BadMessage
fields_from zero bytes at = Ok []
fields_from (suc more) bytes at =
    pick (leb (length bytes) at) (Ok [])
    (field_at bytes at and_then (λ field.
    fields_from more bytes field.value.end and_then (λ fields.
    Ok (field ∷ fields))))

-- all of them: a field has more than one byte
abbrev pub fields_in : List ℕ → ℕ → Result (List Field) BadMessage
fields_in bytes at = fields_from (length bytes) bytes at

-- how many there are
abbrev pub count_in : List ℕ → ℕ → Result ℕ BadMessage
count_in bytes at = fields_in bytes at and_then (λ fields. Ok (length fields))
