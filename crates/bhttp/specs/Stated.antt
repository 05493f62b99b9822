-- What holds of every message: the refusal is of its first fault, nothing is invented, and the reader gives its fields.
use Rattle.std.specs.Prelude.{ℕ, ◌+◌, ◌-◌, ◌≤◌, ◌<◌, List, [], ◌∷◌, map, ◌≡◌, length, take, drop, replicate, Ok}
use Rattle.wire.specs.Bytes.{byte_at}
use Rattle.integers.specs.Integers.{integer_at, whole}
use Rattle.integers.specs.Stated.{AreBytes}
use Rattle.fields.specs.Parts.{wrong_at}
use Rattle.fields.specs.Reader.{field_bytes, walked}
use Rattle.fields.specs.declared.field.Field.{Field}
use Rattle.wire.specs.declared.span.Span.{Span}
use Rattle.bhttp.specs.Answers.{parts_of, places_of}
use Rattle.bhttp.specs.Contents.{FieldSection}
use Rattle.bhttp.specs.Request.{Message, request_in}

-- The refusal is of the first fault: another message of the same length that agrees on the place's byte, on all before it and on the seven
-- behind it gets the same refusal. Where bytes are missing the place is the length, and no other message agrees so far
abbrev pub RefusalOfTheFirstFault : Type 0
RefusalOfTheFirstFault =
    (a b : List ℕ) (place : ℕ) → AreBytes a → length a ≡ length b → take (place + 8) a ≡ take (place + 8) b → request_in a ≡ wrong_at place
    → request_in b ≡ wrong_at place

-- parts that stand one behind the other from an offset to another, each behind an integer that says how long it is
unfoldable pub StandFrom : List ℕ → ℕ → List Span → ℕ → Type 0
StandFrom bytes at [] to = at ≡ to
StandFrom bytes at (span ∷ spans) to =
    (integer_at bytes at ≡ whole (span.end - span.start) span.start)
    × (span.start ≤ span.end)
    × StandFrom bytes span.end spans to

-- names and values stand so in their section
unfoldable pub field_parts : List Field → List Span
field_parts [] = []
field_parts (field ∷ fields) = field.name ∷ field.value ∷ field_parts fields

abbrev pub FieldsStand : List ℕ → FieldSection → Type 0
FieldsStand bytes section =
    StandFrom bytes section.lies.start (field_parts section.fields) section.lies.end

-- Nothing is invented: framing 0, then the parts one behind the other up to the padding, which is zero and ends with the message. At least four
-- of them are there; the others are empty, and the message ends where they would stand
pub record IsWhole (bytes : List ℕ) (message : Message) : Type 0 where
  pub framing_end : ℕ
  pub framing : integer_at bytes 0 ≡ whole 0 framing_end
  pub there : ℕ
  pub at_least_control : 4 ≤ there
  pub parts : StandFrom bytes framing_end (take there (take 7 (parts_of (places_of message)))) message.contents.padding.start
  pub missing : drop there (take 7 (parts_of (places_of message))) ≡ replicate (7 - there) (record { start = length bytes; end = length bytes })
  pub missing_at_end : there < 7 → message.contents.padding.start ≡ length bytes
  pub headers : FieldsStand bytes message.contents.headers
  pub trailers : FieldsStand bytes message.contents.trailers
  pub padding_inside : message.contents.padding.start ≤ length bytes
  pub padding_end : message.contents.padding.end ≡ length bytes
  pub padding : (i : ℕ) → message.contents.padding.start ≤ i → byte_at bytes i ≡ 0

abbrev pub NothingInvented : Type 0
NothingInvented = (bytes : List ℕ) (message : Message) → request_in bytes ≡ Ok message → IsWhole bytes message

-- the reader, made for a section and called until the end, gives its fields as parts of the message, in order; with turns enough
abbrev pub walked_in : ℕ → List ℕ → FieldSection → List (List ℕ × List ℕ)
walked_in turns bytes section = walked turns (take section.lies.end bytes) section.lies.start

abbrev pub ReaderGivesTheMessagesFields : Type 0
ReaderGivesTheMessagesFields =
    (bytes : List ℕ) (message : Message) (turns : ℕ) → length bytes ≤ turns → request_in bytes ≡ Ok message
    → (walked_in turns bytes message.contents.headers ≡ map (field_bytes bytes) message.contents.headers.fields)
    × (walked_in turns bytes message.contents.trailers ≡ map (field_bytes bytes) message.contents.trailers.fields)
