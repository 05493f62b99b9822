-- The seven bytes in front of a request, info with its fixed text, and the longest request and plain response (01, "Layouts").
use Rattle.std.specs.Prelude.{ℕ, List, [], ◌∷◌, ◌++◌}
use Prim.Native.Char.{code}
use Prim.Native.String.{String, [] as end, ◌∷◌ as ◌then◌}
use Rattle.wire.specs.Bytes.{word_bytes}

-- a text as its ASCII bytes
unfoldable pub ascii : String → List ℕ
ascii end = []
ascii (c then s) = code c ∷ ascii s

-- a request's bytes before enc
abbrev pub head_length : ℕ
head_length = 7

-- these bytes: key id, KEM, KDF, AEAD
abbrev pub head_bytes : ℕ → ℕ → ℕ → ℕ → List ℕ
head_bytes key_id kem kdf aead = key_id ∷ word_bytes kem ++ word_bytes kdf ++ word_bytes aead

-- the 21 ASCII bytes and the zero byte that info begins with
unfoldable pub request_label : List ℕ
request_label = ascii "message/bhttp request" ++ 0 ∷ []

-- the length of info
abbrev pub info_length : ℕ
info_length = 29

-- info, of the request's first 7 bytes
abbrev pub info_bytes : List ℕ → List ℕ
info_bytes head = request_label ++ head

-- the most bytes of a request, and of a plain response
abbrev pub longest_request : ℕ
longest_request = 65536

abbrev pub longest_plain : ℕ
longest_plain = 65536
