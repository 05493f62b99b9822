-- 01, "Choose": the first configuration in list order, and of its pairs the first, that the client can use; what is wrong with the list, 13, 16.
use Rattle.std.specs.List.{list_any}
use Rattle.std.specs.Prelude.{◌≡◌, Bool, true, List, [], ◌∷◌, ℕ, ◌+◌, ◌*◌, ◌%◌, ◌<◌, Result, Ok, Err, eqb, length, get_or}
use Rattle.wire.specs.Tests.{pick, ◌and◌}
use Rattle.wire.specs.Search.{first_place, among}
use Rattle.wire.specs.Refusals.{refused}
use Rattle.wire.specs.declared.refusal.Refusal.{Refusal}
use Rattle.keylist.specs.Stated.{IsRefused}
use Rattle.algorithms.specs.Sizes.{known_kem, known_pair}
use Rattle.keylist.specs.declared.Pair.{Pair}
use Rattle.keylist.specs.Answers.{key_of}
use Rattle.keylist.specs.Layout.{Configuration, parse, is_pair}
use Rattle.client.specs.declared.choose.Choice.{Choice}

-- pairs from numbers, KDF and AEAD by turns
unfoldable pub pairs_of : List ℕ → List Pair
pairs_of [] = []
pairs_of (kdf ∷ []) = []
pairs_of (kdf ∷ aead ∷ numbers) = record { kdf = kdf; aead = aead } ∷ pairs_of numbers

-- a pair that is in the client's list
abbrev pub listed : List ℕ → Pair → Bool
listed numbers p = list_any (is_pair p.kdf p.aead) (pairs_of numbers)

-- a pair that is in the client's list and known
abbrev pub usable_pair : List ℕ → Pair → Bool
usable_pair numbers p = listed numbers p and known_pair p.kdf p.aead

-- a configuration with a KEM that is in the client's list, and a usable pair
abbrev pub usable : List ℕ → List ℕ → Configuration → Bool
usable kems numbers c = among kems c.kem and list_any (usable_pair numbers) c.pairs

-- the first usable one of pairs of which one is
abbrev pub first_usable : List ℕ → List Pair → Pair
first_usable numbers pairs = get_or pairs (first_place (usable_pair numbers) pairs) (record { kdf = 0; aead = 0 })

-- the answer: key id, KEM, pair, and where the public key lies in the list
abbrev pub choice : Configuration → Pair → Choice
choice c p = record { key_id = record { 0 = c.key_id }; kem = c.kem; pair = p; key = key_of c }

-- the first usable configuration; 16 where there is none
abbrev pub choose_first : List ℕ → List ℕ → List Configuration → Result Choice Refusal
choose_first kems numbers [] = Err (refused 16)
choose_first kems numbers (c ∷ cs) =
    pick (usable kems numbers c) (Ok (choice c (first_usable numbers c.pairs))) (choose_first kems numbers cs)

-- choose, of what the list was read into; 13 where the pair list is of odd length
abbrev pub choose_from : List ℕ → List ℕ → Result (List Configuration) Refusal → Result Choice Refusal
choose_from kems numbers (Err r) = Err r
choose_from kems numbers (Ok cs) =
    pick (eqb (length numbers % 2) 0) (choose_first kems numbers cs) (Err (refused 13))

-- what the client can use: a KEM of its list that is known, and a pair of its list, both halves from one place, that is known
pub record CanUse (kems numbers : List ℕ) (x : Choice) : Type 0 where
  pub kem : among kems x.kem ≡ true
  pub kem_known : known_kem x.kem ≡ true
  pub pair : (i : ℕ) × (i * 2 + 1 < length numbers) × (get_or numbers (i * 2) 0 ≡ x.pair.kdf) × (get_or numbers (i * 2 + 1) 0 ≡ x.pair.aead)
  pub pair_known : known_pair x.pair.kdf x.pair.aead ≡ true

-- whatever is chosen, the client can use; without a KEM or without a pair nothing is chosen
pub record ChosenIsUsable : Type 0 where
  pub can_use : (kems numbers bytes : List ℕ) (x : Choice) → choose_from kems numbers (parse bytes) ≡ Ok x
      → CanUse kems numbers x
  pub no_kems : (numbers bytes : List ℕ) → IsRefused (choose_from [] numbers (parse bytes))
  pub no_pairs : (kems bytes : List ℕ) → IsRefused (choose_from kems [] (parse bytes))
