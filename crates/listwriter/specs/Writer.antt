-- 01, "List writer", with 02, A2: the fields are cut into configurations, and each is written by the layout or refused. The fields are lists: key ids,
-- KEMs, public key lengths, the key bytes of all, how many pair numbers each has, and the pair numbers of all, KDF and AEAD by turns.
use Rattle.std.specs.Prelude.{ℕ, ◌+◌, ◌*◌, Bool, not, List, [], ◌∷◌, ◌++◌, eqb, leb, length, get_or, take, drop, flat_map, Ok, Err, Result}
use Rattle.wire.specs.Tests.{pick, ◌and◌}
use Rattle.wire.specs.Bytes.{word_bytes, with_front}
use Rattle.wire.specs.Search.{among}
use Rattle.wire.specs.Refusals.{◌when◌otherwise◌, refused, refused_at}
use Rattle.algorithms.specs.Sizes.{known_kem, public_key_length}
use Rattle.keylist.specs.Layout.{key_start, most_configurations, pair_bytes_hold, unless_fault}
use Rattle.wire.specs.declared.refusal.Refusal.{Refusal}

-- the fields beside the key ids
pub record Fields : Type 0 where
  pub kems : List ℕ
  pub key_lengths : List ℕ
  pub keys : List ℕ
  pub pair_counts : List ℕ
  pub pairs : List ℕ

abbrev pub fields : List ℕ → List ℕ → List ℕ → List ℕ → List ℕ → Fields
fields kems key_lengths keys pair_counts pairs =
    record { kems = kems; key_lengths = key_lengths; keys = keys; pair_counts = pair_counts; pairs = pairs }

-- a configuration as it is given, with the lengths announced and what there is of its key and its pair numbers; or fields left over
pub data Given : Type 0 where
  configuration : (key_id kem key_length : ℕ) (key : List ℕ) (pair_count : ℕ) (pairs : List ℕ) → Given
  left_over : Given

-- the first number; a missing one counts as 0
abbrev pub first : List ℕ → ℕ
first numbers = get_or numbers 0 0

-- the first configuration: its KEM, its public key length and its public key, how many pair numbers it has and those; of the key and the
-- pair numbers, what there is
abbrev pub first_kem : Fields → ℕ
first_kem f = first f.kems

abbrev pub first_key_length : Fields → ℕ
first_key_length f = first f.key_lengths

abbrev pub first_key : Fields → List ℕ
first_key f = take (first_key_length f) f.keys

abbrev pub first_pair_count : Fields → ℕ
first_pair_count f = first f.pair_counts

abbrev pub first_pairs : Fields → List ℕ
first_pairs f = take (first_pair_count f) f.pairs

-- the fields behind it
abbrev pub behind_first : Fields → Fields
behind_first f =
    fields (drop 1 f.kems) (drop 1 f.key_lengths) (drop (first_key_length f) f.keys) (drop 1 f.pair_counts)
    (drop (first_pair_count f) f.pairs)

-- no field is left
abbrev pub none_left : Fields → Bool
none_left f = eqb (length (f.kems ++ f.key_lengths ++ f.keys ++ f.pair_counts ++ f.pairs)) 0

-- the fields cut into configurations, one for each key id; what is left over behind them counts as one more
unfoldable pub cut : List ℕ → Fields → List Given
cut [] f = pick (none_left f) [] (left_over ∷ [])
cut (id ∷ ids) f =
    configuration id (first_kem f) (first_key_length f) (first_key f) (first_pair_count f) (first_pairs f) ∷ cut ids (behind_first f)

-- numbers one after the other, two bytes each
abbrev pub words_bytes : List ℕ → List ℕ
words_bytes numbers = flat_map word_bytes numbers

-- 02, A2: "the writer's order is 18 (none given), 22, 3 (unknown KEM, at the KEM), 19 (public key of wrong length), 20, 21, then 14". The
-- first fault of a configuration that is given behind so many others, its key id taken or not, with the key bytes announced and there and the
-- pair numbers announced and there; 0 where it has none
unfoldable pub fault_of_given : ℕ → Bool → ℕ → ℕ → ℕ → ℕ → ℕ → ℕ
fault_of_given before is_taken kem key_length keys_there pair_count pairs_there =
    22 when leb most_configurations before otherwise
    3 when not (known_kem kem) otherwise
    19 when not (eqb key_length (public_key_length kem) and leb key_length keys_there) otherwise
    20 when not (pair_bytes_hold (pair_count * 2) and leb pair_count pairs_there) otherwise
    21 when is_taken otherwise
    0

-- the bytes of one configuration: L, key id, KEM, public key, S, pairs
abbrev pub configuration_bytes : ℕ → ℕ → ℕ → List ℕ → ℕ → List ℕ → List ℕ
configuration_bytes key_id kem key_length key pair_count pairs =
    word_bytes (5 + key_length + pair_count * 2) ++ key_id ∷ word_bytes kem ++ key
    ++ word_bytes (pair_count * 2) ++ words_bytes pairs

-- the list with the configurations written behind its front, in which these key ids are taken; the next one starts where the front ends
unfoldable pub encode_behind : List ℕ → List ℕ → List Given → Result (List ℕ) Refusal
encode_behind front taken [] = Ok front
encode_behind front taken (left_over ∷ more) = Err (refused_at 19 (length front))
encode_behind front taken (configuration key_id kem key_length key pair_count pairs ∷ more) =
    unless_fault (length front) (key_start (length front) + public_key_length kem)
    (fault_of_given (length taken) (among taken key_id) kem key_length (length key) pair_count (length pairs))
    (encode_behind (front ++ configuration_bytes key_id kem key_length key pair_count pairs) (taken ++ key_id ∷ []) more)

-- a list is one configuration or more
unfoldable pub encode : List ℕ → Fields → Result (List ℕ) Refusal
encode [] f = Err (refused_at 18 0)
encode (id ∷ ids) f = encode_behind [] [] (cut (id ∷ ids) f)

-- the answer for a buffer of a length: what is wrong with the fields, then 14, or the length written
abbrev pub written_in : ℕ → Result (List ℕ) Refusal → Result ℕ Refusal
written_in room (Ok bytes) = pick (leb (length bytes) room) (Ok (length bytes)) (Err (refused 14))
written_in room (Err r) = Err r

-- the buffer after it
abbrev pub written_to : List ℕ → Result (List ℕ) Refusal → List ℕ
written_to buffer (Ok bytes) = pick (leb (length bytes) (length buffer)) (with_front bytes buffer) buffer
written_to buffer (Err r) = buffer
