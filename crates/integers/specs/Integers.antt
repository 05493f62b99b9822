-- RFC 9000, 16, variable-length integers, read at an offset of a list of bytes; 02, A3: "of 1, 2, 4 or 8 bytes, any size accepted".
use Rattle.std.specs.Prelude.{ℕ, ◌+◌, ◌-◌, ◌/◌, ◌%◌, ◌^◌, List, leb, length, Option, None, Some}
use Rattle.std.specs.Slice.Scan.{big_endian}
use Rattle.wire.specs.Tests.{pick}
use Rattle.wire.specs.Bytes.{byte_at, part}
use Rattle.integers.specs.declared.Integer.{Integer}

-- "reserves the two most significant bits of the first byte to encode the base-2 logarithm of the integer encoding length in bytes"
abbrev pub size_of : ℕ → ℕ
size_of first = 2 ^ (first / 64)

-- "the integer value is encoded on the remaining bits, in network byte order": of the first byte six, and the bytes behind it
abbrev pub integer_value : List ℕ → ℕ → ℕ
integer_value bytes at = big_endian (byte_at bytes at % 64) (part bytes (at + 1) (size_of (byte_at bytes at) - 1))

-- one that was read: its value, and where it ends
abbrev pub whole : ℕ → ℕ → Option Integer
whole value end = Some (record { value = value; end = end })

-- the integer at an offset; none where it does not lie whole in the bytes
unfoldable pub integer_at : List ℕ → ℕ → Option Integer
integer_at bytes at =
    pick (leb (at + size_of (byte_at bytes at)) (length bytes)) (whole (integer_value bytes at) (at + size_of (byte_at bytes at))) None
