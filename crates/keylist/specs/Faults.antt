-- 02, A2: what stands at the place of a refused list, said apart from the chain of faults; and that the same lists are read as before.
use Rattle.std.specs.Prelude.{ℕ, zero, suc, ◌+◌, ◌≤◌, ◌<◌, ◌≡◌, true, false, List, ◌↔◌, ◌⊎◌, Ok, Err, IsSomeAnd, length}
use Rattle.wire.specs.Bytes.{byte_at, word_at}
use Rattle.wire.specs.declared.refusal.Refusal.{Refusal}
use Rattle.algorithms.specs.Sizes.{public_key_length}
use Rattle.keylist.specs.Before.{layout_holds, parse_before}
use Rattle.keylist.specs.Layout.{Configuration, is_skipped, key_end, key_id_at, kem_at, most_configurations, next_start, pair_bytes_at, pair_bytes_hold, parse}

-- where the configuration behind so many others starts
unfoldable pub start_behind : ℕ → List ℕ → ℕ
start_behind zero bytes = 0
start_behind (suc n) bytes = next_start bytes (start_behind n bytes)

-- a configuration behind so many others can be read: it keeps the layout's rules, and none before it that keeps them has its key id
abbrev pub IsReadable : List ℕ → ℕ → Type 0
IsReadable bytes before =
    (layout_holds bytes (start_behind before bytes) ≡ true)
    × ((earlier : ℕ) → earlier < before → layout_holds bytes (start_behind earlier bytes) ≡ true
    → key_id_at bytes (start_behind earlier bytes) ≡ key_id_at bytes (start_behind before bytes) → ⊥)

-- each of so many configurations is skipped or read
abbrev pub NoneBadBefore : List ℕ → ℕ → Type 0
NoneBadBefore bytes before =
    (earlier : ℕ) → earlier < before → (is_skipped bytes (start_behind earlier bytes) ≡ true) ⊎ IsReadable bytes earlier

-- a configuration behind so many others may still come, lies whole in the list, and is not skipped
abbrev pub IsJudged : List ℕ → ℕ → ℕ → Type 0
IsJudged bytes before start = (before < most_configurations) × (next_start bytes start ≤ length bytes) × (is_skipped bytes start ≡ false)

-- what stands at the place of a refusal, by its number, where the configuration at fault starts here, behind so many others
pub data StandsAtFault (bytes : List ℕ) (before start number place : ℕ) : Type 0 where
  -- no configuration at all
  none_at_all : number ≡ 18 → place ≡ 0 → length bytes ≡ 0 → StandsAtFault bytes before start number place
  -- the length of the seventeenth configuration
  too_many : number ≡ 22 → place ≡ start → place < length bytes → before ≡ most_configurations → StandsAtFault bytes before start number place
  -- the length: fewer bytes follow than it announces, or it does not stand there whole
  past_end : number ≡ 18 → place ≡ start → place < length bytes → before < most_configurations
      → length bytes < place + 2 + word_at bytes place → StandsAtFault bytes before start number place
  -- the length: with it the configuration ends before its pair length can be read
  ends_before_pairs : number ≡ 19 → place ≡ start → IsJudged bytes before start
      → word_at bytes place < 5 + public_key_length (kem_at bytes start) → StandsAtFault bytes before start number place
  -- the pair length, whole in its configuration: it breaks its rule
  pair_length : number ≡ 20 → place ≡ key_end bytes start → IsJudged bytes before start → place + 2 ≤ next_start bytes start
      → pair_bytes_hold (word_at bytes place) ≡ false → StandsAtFault bytes before start number place
  -- the length: the pair length keeps its rule, and with it the contents have another length
  disagrees : number ≡ 19 → place ≡ start → IsJudged bytes before start → 5 + public_key_length (kem_at bytes start) ≤ word_at bytes place
      → pair_bytes_hold (pair_bytes_at bytes start) ≡ true
      → (word_at bytes place ≡ 5 + public_key_length (kem_at bytes start) + pair_bytes_at bytes start → ⊥)
      → StandsAtFault bytes before start number place
  -- the key id of a configuration that keeps the layout's rules: an earlier one that was read has the same
  id_twice : number ≡ 21 → place ≡ start + 2 → before < most_configurations → layout_holds bytes start ≡ true
      → (earlier : ℕ) → earlier < before → layout_holds bytes (start_behind earlier bytes) ≡ true
      → key_id_at bytes (start_behind earlier bytes) ≡ byte_at bytes place → StandsAtFault bytes before start number place

-- "The place becomes the offset of the first byte of the field at fault": of every list that is refused, and of its first bad configuration
abbrev pub PlaceOfTheField : Type 0
PlaceOfTheField =
    (bytes : List ℕ) (r : Refusal) → parse bytes ≡ Err r
    → IsSomeAnd r.place (λ place. (before : ℕ) × NoneBadBefore bytes before × StandsAtFault bytes before (start_behind before bytes) r.number place)

-- what the reader takes, and what it hands back, is as before
abbrev pub ReadAsBefore : Type 0
ReadAsBefore = (bytes : List ℕ) (cs : List Configuration) → (parse bytes ≡ Ok cs) ↔ (parse_before bytes ≡ Ok cs)
