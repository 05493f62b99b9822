-- 02, A3: "Fields are walked by a small reader that holds the lent message and its place": the message up to the section's end.
use Rattle.std.specs.Prelude.{ℕ, zero, suc, ◌+◌, ◌≤◌, ◌<◌, List, [], ◌∷◌, map, ◌≡◌, leb, length, Result, Ok, Err}
use Rattle.wire.specs.Tests.{pick}
use Rattle.fields.specs.Parts.{◌and_then◌, bytes_of, prefixed_at}
use Rattle.fields.specs.Fields.{fields_in}
use Rattle.fields.specs.declared.fault.BadMessage.{BadMessage}
use Rattle.fields.specs.declared.field.Field.{Field}

-- the field at a place by its lengths alone: a section that was checked is not judged again
unfoldable pub next_field : List ℕ → ℕ → Result Field BadMessage
next_field bytes at =
    prefixed_at bytes at at and_then (λ name.
    prefixed_at bytes name.end name.end and_then (λ value.
    Ok (record { name = name; value = value })))

-- name and value as parts of the message, empty where there is no field
abbrev pub name_in : List ℕ → Result Field BadMessage → List ℕ
name_in bytes (Ok field) = bytes_of bytes field.name
name_in bytes (Err bad) = []

abbrev pub value_in : List ℕ → Result Field BadMessage → List ℕ
value_in bytes (Ok field) = bytes_of bytes field.value
value_in bytes (Err bad) = []

-- the place behind the field; the end where there is none
abbrev pub place_behind : List ℕ → Result Field BadMessage → ℕ
place_behind bytes (Ok field) = field.value.end
place_behind bytes (Err bad) = length bytes

-- what the reader gives, called until the end: name and value of the next field, and on from the place behind it; at most so many
unfoldable pub walked : ℕ → List ℕ → ℕ → List (List ℕ × List ℕ)
walked zero bytes at = []
walked (suc more) bytes at =
    pick (leb (length bytes) at) []
    ((name_in bytes (next_field bytes at), value_in bytes (next_field bytes at)) ∷ walked more bytes (place_behind bytes (next_field bytes at)))

-- all that the reader gives from a place on: a field has more than one byte
abbrev pub fields_left : List ℕ → ℕ → List (List ℕ × List ℕ)
fields_left bytes at = walked (length bytes) bytes at

-- name and value of a field, as parts of the message
abbrev pub field_bytes : List ℕ → Field → List ℕ × List ℕ
field_bytes bytes field = (bytes_of bytes field.name, bytes_of bytes field.value)

pub record ReaderGivesTheFields : Type 0 where
  -- of a section that is right, exactly its fields, in order, however many turns it is given beyond those that it needs
  pub fields : (bytes : List ℕ) (at turns : ℕ) (fields : List Field) → length bytes ≤ turns + at → fields_in bytes at ≡ Ok fields
      → walked turns bytes at ≡ map (field_bytes bytes) fields
  -- of any, each call moves the reader on, so that it comes to the end
  pub moves_on : (bytes : List ℕ) (at : ℕ) → at < length bytes → at < place_behind bytes (next_field bytes at)
