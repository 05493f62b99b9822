-- What holds of reading and writing key lists together.
use Rattle.std.specs.Prelude.{ℕ, ◌<◌, ◌≡◌, List, [], ◌∷◌, map, flat_map, length, get_or, Ok}
use Rattle.keylist.specs.declared.Pair.{Pair}
use Rattle.keylist.specs.Answers.{skipped_in}
use Rattle.keylist.specs.Layout.{Configuration, parse}
use Rattle.listwriter.specs.Writer.{Fields, fields, encode}

-- each element is a byte, as every element of a lent slice is
abbrev pub AreBytes : List ℕ → Type 0
AreBytes bytes = (i : ℕ) → get_or bytes i 0 < 256

-- pairs as numbers, KDF and AEAD by turns
abbrev pub pair_numbers : List Pair → List ℕ
pair_numbers pairs = flat_map (λ pair. pair.kdf ∷ pair.aead ∷ []) pairs

-- the configurations that were read, as the list writer takes them
abbrev pub ids_of : List Configuration → List ℕ
ids_of cs = map (λ c. c.key_id) cs

abbrev pub as_fields : List Configuration → Fields
as_fields cs =
    fields (map (λ c. c.kem) cs)
    (map (λ c. length c.public_key) cs) (flat_map (λ c. c.public_key) cs)
    (map (λ c. length (pair_numbers c.pairs)) cs) (flat_map (λ c. pair_numbers c.pairs) cs)

-- 02, A1: a list "without skipped entries"
abbrev pub NoneSkipped : List ℕ → Type 0
NoneSkipped bytes = skipped_in bytes ≡ 0

-- "reading by the layout rules gives them back": every field that was written, and nothing that would be skipped
abbrev pub ReadAfterWrite : Type 0
ReadAfterWrite =
    (ids : List ℕ) (f : Fields) (bytes : List ℕ) → encode ids f ≡ Ok bytes
    → (cs : List Configuration) × (parse bytes ≡ Ok cs) × NoneSkipped bytes × (ids_of cs ≡ ids) × (as_fields cs ≡ f)

-- "writing what was read gives the same bytes"
abbrev pub WriteAfterRead : Type 0
WriteAfterRead =
    (bytes : List ℕ) (cs : List Configuration) → AreBytes bytes → NoneSkipped bytes → parse bytes ≡ Ok cs
    → encode (ids_of cs) (as_fields cs) ≡ Ok bytes
