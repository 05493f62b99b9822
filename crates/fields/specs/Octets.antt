-- 02, A3, "our profile": the classes of octets that field names and values are judged by.
use Rattle.std.specs.Prelude.{ℕ, List, [], ◌∷◌, ltb}
use Rattle.wire.specs.Refusals.{◌when◌otherwise◌}
use Rattle.wire.specs.Search.{among, first_from}
use Rattle.wire.specs.Texts.{ascii}

-- The four classes. A name has octets of class `token` alone; a value has none below `blank`, and neither its first nor its last below `text`
abbrev pub forbidden : ℕ
forbidden = 0

abbrev pub blank : ℕ
blank = 1

abbrev pub text : ℕ
text = 2

abbrev pub token : ℕ
token = 3

-- RFC 9110, 5.6.2, `tchar` without upper-case letters; space and tab; NUL, CR and LF; any other octet
unfoldable pub class_of : ℕ → ℕ
class_of octet =
    token when among (ascii "!#$%&'*+-.^_`|~0123456789abcdefghijklmnopqrstuvwxyz") octet otherwise
    blank when among (32 ∷ 9 ∷ []) octet otherwise
    forbidden when among (0 ∷ 13 ∷ 10 ∷ []) octet otherwise
    text

-- from an offset on, the first byte of a class below this one; the end where there is none
unfoldable pub first_below : ℕ → List ℕ → ℕ → ℕ
first_below class bytes from = first_from (λ octet. ltb (class_of octet) class) bytes from
