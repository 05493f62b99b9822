-- 01, "Algorithm sizes": which numbers are known, and the sizes that belong to each algorithm. A size of an unknown number is 0
-- or made of 0, and no entry answers it.
use Rattle.std.specs.Prelude.{ℕ, ◌+◌, max, Bool, Option, Some, None, is_some}
use Rattle.wire.specs.Texts.{head_length}
use Rattle.wire.specs.Tests.{◌and◌}
use Rattle.algorithms.specs.declared.Kind.{Kind}
use Rattle.algorithms.specs.declared.Row.{Row}
use Rattle.algorithms.specs.Table.{row_of}

-- the tag of every AEAD
abbrev pub tag_length : ℕ
tag_length = 16

-- Nn of every AEAD
abbrev pub nonce_length : ℕ
nonce_length = 12

unfoldable pub known_kem : ℕ → Bool
known_kem kem = is_some (row_of Kind.Kem kem)

unfoldable pub known_kdf : ℕ → Bool
known_kdf kdf = is_some (row_of Kind.Kdf kdf)

unfoldable pub known_aead : ℕ → Bool
known_aead aead = is_some (row_of Kind.Aead aead)

-- a pair is known where both its numbers are
abbrev pub known_pair : ℕ → ℕ → Bool
known_pair kdf aead = known_kdf kdf and known_aead aead

-- a size of the row that was found; 0 where there is none
abbrev pub size_in : (Row → ℕ) → Option Row → ℕ
size_in size None = 0
size_in size (Some row) = size row

-- Nenc
unfoldable pub enc_length : ℕ → ℕ
enc_length kem = size_in (λ row. row.enc) (row_of Kind.Kem kem)

-- Npk
unfoldable pub public_key_length : ℕ → ℕ
public_key_length kem = size_in (λ row. row.public_key) (row_of Kind.Kem kem)

-- Nk
unfoldable pub key_length : ℕ → ℕ
key_length aead = size_in (λ row. row.key) (row_of Kind.Aead aead)

-- head, enc, and a ciphertext that is only its tag
abbrev pub shortest_request : ℕ → ℕ
shortest_request kem = head_length + enc_length kem + tag_length

-- max(Nn, Nk)
abbrev pub response_nonce_length : ℕ → ℕ
response_nonce_length aead = max nonce_length (key_length aead)

-- the exported secret is as long as the response nonce
abbrev pub secret_length : ℕ → ℕ
secret_length aead = response_nonce_length aead
