-- What 01's table says, as one computed statement about the definitions; which numbers are known, over every number; that a lookup
-- reads the table alone, over every table; and the facts about sizes that other crates use, over every number.
use Rattle.std.specs.List.{list_any}
use Rattle.std.specs.Prelude.{ℕ, ◌+◌, max, ◌≤◌, ◌<◌, ◌≡◌, Bool, true, false, List, [], ◌∷◌, ◌++◌, map, Some, None, is_some, option_map, find}
use Rattle.wire.specs.Texts.{head_length}
use Rattle.wire.specs.Tests.{pick}
use Rattle.wire.specs.Search.{among}
use Rattle.algorithms.specs.declared.Kind.{Kind}
use Rattle.algorithms.specs.declared.Row.{Row}
use Rattle.algorithms.specs.Table.{table_row, table, is_row, row_in}
use Rattle.algorithms.specs.Sizes.{tag_length, nonce_length, size_in, known_kem, known_kdf, known_aead, enc_length, public_key_length, key_length, shortest_request, response_nonce_length}

-- 01's KEMs, KDFs and AEADs, in its order
abbrev pub kems : List ℕ
kems = 0x0010 ∷ 0x0011 ∷ 0x0012 ∷ 0x0020 ∷ 0x0021 ∷ []

abbrev pub kdfs : List ℕ
kdfs = 0x0001 ∷ 0x0002 ∷ 0x0003 ∷ []

abbrev pub aeads : List ℕ
aeads = 0x0001 ∷ 0x0002 ∷ 0x0003 ∷ []

-- 01's columns
pub record SizesOfThePaper : Type 0 where
  pub nenc : map enc_length kems ≡ 65 ∷ 97 ∷ 133 ∷ 32 ∷ 56 ∷ []
  pub npk : map public_key_length kems ≡ 65 ∷ 97 ∷ 133 ∷ 32 ∷ 56 ∷ []
  pub shortest : map shortest_request kems ≡ 88 ∷ 120 ∷ 156 ∷ 55 ∷ 79 ∷ []
  pub nk : map key_length aeads ≡ 16 ∷ 32 ∷ 32 ∷ []
  pub nonce : map response_nonce_length aeads ≡ 16 ∷ 32 ∷ 32 ∷ []

-- "No other number is known; AEAD 0xFFFF is not", for every number
pub record KnownNumbers : Type 0 where
  pub kem : (number : ℕ) → known_kem number ≡ among kems number
  pub kdf : (number : ℕ) → known_kdf number ≡ among kdfs number
  pub aead : (number : ℕ) → known_aead number ≡ among aeads number
  pub export_only : known_aead 0xFFFF ≡ false

-- 02, A4, "only one row's Nenc changed": a row with this Nenc where it is the KEM's, and else as it is
abbrev pub with_nenc : ℕ → ℕ → Row → Row
with_nenc kem nenc row = pick (is_row Kind.Kem kem row) (table_row row.kind row.number nenc row.public_key row.key) row

-- 02, A4: for every number the sizes are those of the row that a lookup in the table finds; and whatever rows a table has, a lookup gives the first
-- row of its kind and number as it stands there, and none where there is none. With only one row's Nenc changed it gives that row with the
-- new Nenc, and every other as before. The last three say the same of a lookup by any test of a row.
pub record ReadFromTheTable : Type 0 where
  pub kem_sizes : (number : ℕ) → let row = row_in table Kind.Kem number in
      (known_kem number ≡ is_some row) × (enc_length number ≡ size_in (λ r. r.enc) row) × (public_key_length number ≡ size_in (λ r. r.public_key) row)
  pub shortest_requests : (number : ℕ) → shortest_request number ≡ head_length + size_in (λ r. r.enc) (row_in table Kind.Kem number) + tag_length
  pub kdf_known : (number : ℕ) → known_kdf number ≡ is_some (row_in table Kind.Kdf number)
  pub aead_sizes : (number : ℕ) → let row = row_in table Kind.Aead number in (known_aead number ≡ is_some row) × (key_length number ≡ size_in (λ r. r.key) row)
  pub response_nonces : (number : ℕ) → response_nonce_length number ≡ max nonce_length (size_in (λ r. r.key) (row_in table Kind.Aead number))
  pub found : (before behind : List Row) (row : Row) → list_any (is_row row.kind row.number) before ≡ false
      → row_in (before ++ row ∷ behind) row.kind row.number ≡ Some row
  pub unknown : (rows : List Row) (kind : Kind) (number : ℕ) → list_any (is_row kind number) rows ≡ false → row_in rows kind number ≡ None
  pub nenc_changed : (rows : List Row) (kem nenc : ℕ) (kind : Kind) (number : ℕ)
      → row_in (map (with_nenc kem nenc) rows) kind number ≡ option_map (with_nenc kem nenc) (row_in rows kind number)
  pub found_by : (test : Row → Bool) (before behind : List Row) (row : Row) → test row ≡ true → list_any test before ≡ false
      → find test (before ++ row ∷ behind) ≡ Some row
  pub unknown_by : (test : Row → Bool) (rows : List Row) → list_any test rows ≡ false → find test rows ≡ None
  pub nenc_changed_by : (test : Row → Bool) (rows : List Row) (kem nenc : ℕ) → ((row : Row) → test (with_nenc kem nenc row) ≡ test row)
      → find test (map (with_nenc kem nenc) rows) ≡ option_map (with_nenc kem nenc) (find test rows)

-- a bound for sums, not a size: neither a key nor a response nonce is longer
abbrev pub size_bound : ℕ
size_bound = 4096

-- a key length is above 0 exactly where the KEM is known, and what sums are made of has a bound
pub record SizeBounds : Type 0 where
  pub key_is_there : (kem : ℕ) → known_kem kem ≡ true → 0 < public_key_length kem
  pub no_key_unknown : (kem : ℕ) → known_kem kem ≡ false → public_key_length kem ≡ 0
  pub key_bound : (kem : ℕ) → public_key_length kem ≤ size_bound
  pub nonce_bound : (aead : ℕ) → response_nonce_length aead ≤ size_bound
