-- 02, A1: write-after-read needs its condition that none is skipped, by a computed example; and A2: the list writer's numbers and places,
-- computed.
use Rattle.std.specs.Prelude.{ℕ, ◌+◌, true, ◌≡◌, List, [], ◌∷◌, ◌++◌, length, replicate, Result, Ok, Err}
use Rattle.wire.specs.Refusals.{refused_at}
use Rattle.wire.specs.declared.refusal.Refusal.{Refusal}
use Rattle.keylist.specs.Answers.{skipped_in}
use Rattle.keylist.specs.Edges.{edge_list, unknown_kem}
use Rattle.keylist.specs.Layout.{Configuration, configuration_at, parse}
use Rattle.listwriter.specs.Writer.{encode, fault_of_given, fields}
use Rattle.listwriter.specs.Stated.{ids_of, as_fields}

-- 01's list behind a configuration that is skipped, and what is read of it
abbrev pub behind_skipped : List ℕ
behind_skipped = unknown_kem ++ edge_list

abbrev pub read_behind : List Configuration
read_behind = configuration_at behind_skipped 5 ∷ []

-- it is written as 01's list alone
pub record SkippedIsNotWritten : Type 0 where
  pub skipped : skipped_in behind_skipped ≡ 1
  pub read : parse behind_skipped ≡ Ok read_behind
  pub written : encode (ids_of read_behind) (as_fields read_behind) ≡ Ok edge_list
  pub lengths : length behind_skipped ∷ length edge_list ∷ [] ≡ 48 ∷ 43 ∷ []

-- 02, A2: 01's configuration, and a second one with this key id, KEM, public key length and so many pair numbers; all that is announced is
-- there
abbrev pub second_with : ℕ → ℕ → ℕ → ℕ → Result (List ℕ) Refusal
second_with key_id kem key_length pair_count =
    encode (7 ∷ key_id ∷ [])
    (fields (0x0020 ∷ kem ∷ []) (32 ∷ key_length ∷ []) (replicate (32 + key_length) 0x11) (2 ∷ pair_count ∷ []) (replicate (2 + pair_count) 1))

-- 01's configuration with so many key bytes and pair numbers there
abbrev pub one_with : ℕ → ℕ → Result (List ℕ) Refusal
one_with key_bytes pair_numbers =
    encode (7 ∷ []) (fields (0x0020 ∷ []) (32 ∷ []) (replicate key_bytes 0x11) (2 ∷ []) (replicate pair_numbers 1))

-- each number, where the configuration has every fault that is tested later as well
pub record WriterFaults : Type 0 where
  pub none_given : encode [] (fields (0x0030 ∷ []) [] [] [] []) ≡ Err (refused_at 18 0)
  pub too_many : fault_of_given 16 true 0x0030 1 0 1 0 ≡ 22
  pub unknown : second_with 7 0x0030 31 3 ≡ Err (refused_at 3 46)
  pub key_length : second_with 7 0x0020 31 3 ≡ Err (refused_at 19 43)
  pub pair_count : second_with 7 0x0020 32 3 ≡ Err (refused_at 20 80)
  pub id_twice : second_with 7 0x0020 32 2 ≡ Err (refused_at 21 45)
  -- a key byte or a pair number that is not there, and one that is left over
  pub key_missing : one_with 31 1 ≡ Err (refused_at 19 0)
  pub pairs_missing : one_with 32 1 ≡ Err (refused_at 20 37)
  pub left_over : one_with 33 2 ∷ one_with 32 3 ∷ [] ≡ replicate 2 (Err (refused_at 19 43))
  -- a seventeenth, of sixteen that are good
  pub seventeenth :
      encode (0 ∷ 1 ∷ 2 ∷ 3 ∷ 4 ∷ 5 ∷ 6 ∷ 7 ∷ 8 ∷ 9 ∷ 10 ∷ 11 ∷ 12 ∷ 13 ∷ 14 ∷ 15 ∷ 16 ∷ [])
      (fields (replicate 17 0x0020) (replicate 17 32) (replicate 544 0x11) (replicate 17 2) (replicate 34 1))
      ≡ Err (refused_at 22 688)
