-- Reads of bytes and of big-endian numbers of two bytes, parts, and buffers with bytes written into them.
use Rattle.std.specs.Prelude.{ℕ, ◌+◌, ◌*◌, ◌/◌, ◌%◌, List, [], ◌∷◌, ◌++◌, length, get_or, take, drop}

-- the byte at an offset, 0 past the end
abbrev pub byte_at : List ℕ → ℕ → ℕ
byte_at bytes at = get_or bytes at 0

-- the big-endian number of the two bytes at an offset
abbrev pub word_at : List ℕ → ℕ → ℕ
word_at bytes at = byte_at bytes at * 256 + byte_at bytes (at + 1)

-- a number below 65,536 as two bytes, big-endian
abbrev pub word_bytes : ℕ → List ℕ
word_bytes n = n / 256 ∷ n % 256 ∷ []

-- the `count` elements from an offset, or as many as there are
abbrev pub part : List ℕ → ℕ → ℕ → List ℕ
part bytes at count = take count (drop at bytes)

-- a buffer with bytes written at its front; the rest stays
abbrev pub with_front : List ℕ → List ℕ → List ℕ
with_front bytes buffer = bytes ++ drop (length bytes) buffer
