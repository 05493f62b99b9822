-- 02, A3: what is read of a message, or the place that is wrong in it; and the parts of a message that stand behind their length.
use Rattle.std.specs.Prelude.{ℕ, ◌+◌, ◌-◌, List, leb, ltb, length, Option, None, Some, Result, Ok, Err}
use Rattle.wire.specs.Tests.{pick}
use Rattle.wire.specs.Bytes.{part}
use Rattle.wire.specs.declared.span.Span.{Span}
use Rattle.integers.specs.Integers.{integer_at}
use Rattle.integers.specs.declared.Integer.{Integer}
use Rattle.fields.specs.declared.fault.BadMessage.{BadMessage}

-- nothing was read: this place is wrong, which 23 is given with
abbrev pub wrong_at : {A : Type 0} → ℕ → Result A BadMessage
wrong_at place = Err (record { place = place })

infixr 4 ◌and_then◌
-- "from the front, and the first fault that is met counts"
abbrev pub ◌and_then◌ : {A B : Type 0} → Result A BadMessage → (A → Result B BadMessage) → Result B BadMessage
◌and_then◌ (Ok a) next = next a
◌and_then◌ (Err bad) next = Err bad

-- the bytes of a part
abbrev pub bytes_of : List ℕ → Span → List ℕ
bytes_of bytes span = part bytes span.start (span.end - span.start)

-- as many bytes as an integer in front of them says, where they lie in `bytes` and the integer too; else this place is wrong
abbrev pub bytes_behind : List ℕ → Option Integer → ℕ → Result Span BadMessage
bytes_behind bytes (Some size) place =
    pick (leb (size.end + size.value) (length bytes)) (Ok (record { start = size.end; end = size.end + size.value })) (wrong_at place)
bytes_behind bytes None place = wrong_at place

-- a length at an offset and as many bytes; else the place given is wrong
unfoldable pub prefixed_at : List ℕ → ℕ → ℕ → Result Span BadMessage
prefixed_at bytes at place = bytes_behind bytes (integer_at bytes at) place

-- a part that was judged: a place before its end is wrong
abbrev pub judged : Span → ℕ → Result Span BadMessage
judged span place = pick (ltb place span.end) (wrong_at place) (Ok span)
