-- Choose, head and split at their bounds, as one computed statement: the orders of 01, and the key configuration of RFC 9458,
-- Appendix A, with its length in front.
use Rattle.std.specs.Prelude.{List, [], ◌∷◌, map, ◌≡◌, ℕ, Ok, Err, replicate}
use Rattle.wire.specs.Hex.{hex}
use Rattle.wire.specs.Refusals.{refused, refused_at}
use Rattle.keylist.specs.Answers.{span}
use Rattle.keylist.specs.Layout.{parse}
use Rattle.client.specs.Choose.{choose_from}
use Rattle.client.specs.Head.{head_refusal}
use Rattle.client.specs.Split.{split_refusal}

-- key id 1, X25519, pairs (1, 1) and (1, 3)
unfoldable pub appendix_list : List ℕ
unfolding hex
appendix_list = hex "002d01002031e1f05a740102115220e9af918f738674aec95f54db6e04eb705aae8e79815500080001000100010003"

pub record ClientEdges : Type 0 where
  -- the first pair of the list, in whatever order the client has them
  pub chosen :
      choose_from (0x0020 ∷ []) (1 ∷ 3 ∷ 1 ∷ 1 ∷ []) (parse appendix_list)
      ≡ Ok (record { key_id = record { 0 = 1 }; kem = 0x0020; pair = record { kdf = 1; aead = 1 }; key = span 5 37 })
  -- halves that are listed in different pairs
  pub crossed : choose_from (0x0020 ∷ []) (1 ∷ 2 ∷ 2 ∷ 3 ∷ []) (parse appendix_list) ≡ Err (refused 16)
  pub other_kem : choose_from (0x0021 ∷ []) (1 ∷ 3 ∷ []) (parse appendix_list) ≡ Err (refused 16)
  pub odd_pairs : choose_from (0x0021 ∷ []) (1 ∷ 3 ∷ 1 ∷ []) (parse appendix_list) ≡ Err (refused 13)
  pub bad_first : choose_from [] (1 ∷ []) (parse (0 ∷ [])) ≡ Err (refused_at 18 0)
  -- room one byte short in either buffer; enc, pair and KEM wrong, each with all that follows wrong too
  pub head_order :
      head_refusal 0x0020 1 1 (replicate 32 0) 39 29
      ∷ head_refusal 0x0020 1 1 (replicate 32 0) 38 29
      ∷ head_refusal 0x0020 1 1 (replicate 32 0) 39 28
      ∷ head_refusal 0x0020 1 1 (replicate 31 0) 0 0
      ∷ head_refusal 0x0020 1 9 (replicate 31 0) 0 0
      ∷ head_refusal 0x0030 1 9 (replicate 31 0) 0 0
      ∷ [] ≡ 0 ∷ 14 ∷ 14 ∷ 13 ∷ 6 ∷ 3 ∷ []
  -- nonces of 16 and of 32 bytes; an unknown AEAD with a response of any length
  pub split16 : map (split_refusal 1) (0 ∷ 31 ∷ 32 ∷ 65568 ∷ 65569 ∷ []) ≡ 1 ∷ 1 ∷ 0 ∷ 0 ∷ 2 ∷ []
  pub split32 : map (split_refusal 3) (0 ∷ 47 ∷ 48 ∷ 65584 ∷ 65585 ∷ []) ≡ 1 ∷ 1 ∷ 0 ∷ 0 ∷ 2 ∷ []
  pub split_unknown : map (split_refusal 0xFFFF) (0 ∷ 48 ∷ 1000000 ∷ []) ≡ 6 ∷ 6 ∷ 6 ∷ []
