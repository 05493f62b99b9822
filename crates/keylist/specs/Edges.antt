-- 01, "Edges": the starred ones that need no gateway, and 02, A1 and A2, at their bounds; each a computed statement about the definitions.
use Rattle.std.specs.Prelude.{ℕ, ◌≡◌, Ok, Err, length, replicate}
use mathlib.Core.List.{List, [], ◌∷◌, ◌++◌, map, flatten}
use Rattle.wire.specs.Refusals.{refused, refused_at}
use Rattle.wire.specs.Bytes.{word_bytes}
pub use Rattle.wire.specs.Hex.{digit}
unfoldable pub use Rattle.wire.specs.Hex.{hex}
use Rattle.wire.specs.Texts.{head_bytes, info_bytes}
use Rattle.keylist.specs.Answers.{checked, counts, key_place_in, span}
use Rattle.keylist.specs.Layout.{parse}

-- 01's list: one X25519 key, id 7, with the pair (1, 3)
unfoldable pub edge_list : List ℕ
unfolding hex
edge_list = hex "0029070020" ++ replicate 32 0x11 ++ hex "000400010003"

pub record ListEdges : Type 0 where
  pub bytes : length edge_list ≡ 43
  pub one_key :
      parse edge_list
      ≡ Ok
      (record { start = 0; key_id = 7; kem = 0x0020; public_key = replicate 32 0x11; pairs = record { kdf = 1; aead = 3 } ∷ [] } ∷ [])
  pub twice : checked (edge_list ++ edge_list) ≡ Err (refused_at 21 45)
  pub empty : checked [] ≡ Err (refused_at 18 0)
  pub info : info_bytes (head_bytes 7 0x0020 1 3) ≡ hex "6d6573736167652f626874747020726571756573740007002000010003"

-- 02, A1: a configuration of 3 bytes with the key id of 01's list and an unknown KEM
abbrev pub unknown_kem : List ℕ
unknown_kem = hex "0003070030"

pub record SkippingEdges : Type 0 where
  -- in front, its key id not taken; the offset is that of the list as it came
  pub in_front :
      parse (unknown_kem ++ edge_list)
      ≡ Ok
      (record { start = 5; key_id = 7; kem = 0x0020; public_key = replicate 32 0x11; pairs = record { kdf = 1; aead = 3 } ∷ [] } ∷ [])
  -- read and skipped: at each place, and where all are
  pub counted :
      map checked ((unknown_kem ++ edge_list) ∷ (edge_list ++ unknown_kem) ∷ (unknown_kem ++ edge_list ++ unknown_kem) ∷ unknown_kem ∷ [])
      ≡ Ok (counts 1 1) ∷ Ok (counts 1 1) ∷ Ok (counts 1 2) ∷ Ok (counts 0 1) ∷ []
  -- a key id twice, with one that is skipped between them
  pub id_twice : checked (edge_list ++ unknown_kem ++ edge_list) ≡ Err (refused_at 21 50)
  -- of 2 bytes, and cut by one byte
  pub too_short : checked (edge_list ++ hex "00020700") ≡ Err (refused_at 19 43)
  pub cut : checked (edge_list ++ hex "00030700") ≡ Err (refused_at 18 43)
  -- sixteen, and a seventeenth, which would be skipped
  pub sixteen : checked (flatten (replicate 16 unknown_kem)) ≡ Ok (counts 0 16)
  pub seventeen : checked (edge_list ++ flatten (replicate 16 unknown_kem)) ≡ Err (refused_at 22 118)
  -- the key reader: 4 where all are skipped, and the key behind a skipped one of the same key id
  pub no_key : key_place_in 7 (parse unknown_kem) ≡ Err (refused 4)
  pub key : key_place_in 7 (parse (unknown_kem ++ edge_list)) ≡ Ok (span 10 42)

-- 02, A2: a list of one X25519 key, id 7, with this L, this S and what stands behind it
abbrev pub list_with : ℕ → ℕ → List ℕ → List ℕ
list_with size pair_bytes behind = word_bytes size ++ hex "070020" ++ replicate 32 0x11 ++ word_bytes pair_bytes ++ behind

pub record FaultEdges : Type 0 where
  -- 18: one byte, and L one more than there is
  pub past_end : map checked ((0 ∷ []) ∷ list_with 42 4 (hex "00010003") ∷ []) ≡ replicate 2 (Err (refused_at 18 0))
  -- 19: no byte, and one too few for S, though S would break its rule
  pub ends_before_pairs : map checked (hex "0000" ∷ list_with 36 6 [] ∷ []) ≡ replicate 2 (Err (refused_at 19 0))
  -- 20, at byte 37: S is 0, and S is 6, where L disagrees as well
  pub pair_length : map checked (list_with 37 0 [] ∷ list_with 41 6 (hex "00010003") ∷ []) ≡ replicate 2 (Err (refused_at 20 37))
  -- sixteen pairs are read; a seventeenth is 20
  pub pairs :
      map checked (list_with 101 64 (replicate 64 0) ∷ list_with 105 68 (replicate 68 0) ∷ [])
      ≡ Ok (counts 1 0) ∷ Err (refused_at 20 37) ∷ []
  -- 19 before 21, in a second configuration: S keeps its rule, L is one too long, and the key id is taken
  pub disagrees : checked (edge_list ++ list_with 42 4 (hex "0001000300")) ≡ Err (refused_at 19 43)
  -- 22 before 18: a seventeenth that is cut
  pub too_many : checked (flatten (replicate 16 unknown_kem) ++ 0xff ∷ []) ≡ Err (refused_at 22 80)
