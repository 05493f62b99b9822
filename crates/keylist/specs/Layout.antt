-- 01, "Layouts", the key list (RFC 9458, 3.1 and 3.2), with 02, A1 and A2: a list of bytes read into configurations, those with an unknown
-- KEM left out, or refused with what is wrong and its place.
use Rattle.std.specs.Prelude.{ℕ, zero, suc, ◌+◌, ◌/◌, ◌%◌, Bool, not, List, [], ◌∷◌, ◌++◌, Result, Ok, Err, eqb, leb, ltb, length}
use Rattle.wire.specs.Tests.{pick, ◌and◌}
use Rattle.wire.specs.Bytes.{byte_at, word_at, part}
use Rattle.wire.specs.Search.{among}
use Rattle.wire.specs.Refusals.{◌when◌otherwise◌, refused_at}
use Rattle.wire.specs.declared.refusal.Refusal.{Refusal}
use Rattle.algorithms.specs.Sizes.{known_kem, public_key_length}
use Rattle.keylist.specs.declared.Pair.{Pair}

-- the house limits
abbrev pub most_configurations : ℕ
most_configurations = 16

abbrev pub most_pair_bytes : ℕ
most_pair_bytes = 64

-- a configuration, and the offset of its length in the list
pub record Configuration : Type 0 where
  pub start : ℕ
  pub key_id : ℕ
  pub kem : ℕ
  pub public_key : List ℕ
  pub pairs : List Pair

-- The fields of the configuration whose length stands at an offset: L, key id, KEM, S, and where its parts lie.
abbrev pub length_at : List ℕ → ℕ → ℕ
length_at bytes at = word_at bytes at

abbrev pub key_id_at : List ℕ → ℕ → ℕ
key_id_at bytes at = byte_at bytes (at + 2)

abbrev pub kem_at : List ℕ → ℕ → ℕ
kem_at bytes at = word_at bytes (at + 3)

abbrev pub key_start : ℕ → ℕ
key_start at = at + 5

abbrev pub key_end : List ℕ → ℕ → ℕ
key_end bytes at = key_start at + public_key_length (kem_at bytes at)

abbrev pub pair_bytes_at : List ℕ → ℕ → ℕ
pair_bytes_at bytes at = word_at bytes (key_end bytes at)

abbrev pub pairs_start : List ℕ → ℕ → ℕ
pairs_start bytes at = key_end bytes at + 2

abbrev pub next_start : List ℕ → ℕ → ℕ
next_start bytes at = at + 2 + length_at bytes at

-- the pair has these two numbers
abbrev pub is_pair : ℕ → ℕ → Pair → Bool
is_pair kdf aead pair = eqb pair.kdf kdf and eqb pair.aead aead

-- as many pairs, one after the other
unfoldable pub pairs_at : ℕ → List ℕ → ℕ → List Pair
pairs_at zero bytes at = []
pairs_at (suc count) bytes at =
    record { kdf = word_at bytes at; aead = word_at bytes (at + 2) } ∷ pairs_at count bytes (at + 4)

unfoldable pub configuration_at : List ℕ → ℕ → Configuration
configuration_at bytes at =
    record {
      start = at;
      key_id = key_id_at bytes at;
      kem = kem_at bytes at;
      public_key = part bytes (key_start at) (public_key_length (kem_at bytes at));
      pairs = pairs_at (pair_bytes_at bytes at / 4) bytes (pairs_start bytes at);
    }

-- S is a multiple of 4, at least 4 and within the house limit
abbrev pub pair_bytes_hold : ℕ → Bool
pair_bytes_hold size = eqb (size % 4) 0 and leb 4 size and leb size most_pair_bytes

-- it lies whole in the list
abbrev pub is_whole : List ℕ → ℕ → Bool
is_whole bytes at = leb (next_start bytes at) (length bytes)

-- 02, A1: "a configuration of at least 3 bytes that lies whole in the list and has an unknown KEM is now skipped"
unfoldable pub is_skipped : List ℕ → ℕ → Bool
is_skipped bytes at = is_whole bytes at and leb 3 (length_at bytes at) and not (known_kem (kem_at bytes at))

-- how many bytes of L lie before the pairs: key id, KEM, public key and S
abbrev pub bytes_before_pairs : List ℕ → ℕ → ℕ
bytes_before_pairs bytes at = 5 + public_key_length (kem_at bytes at)

-- 02, A2: "tested in the order 22, 18, 20, 19, 21 for each configuration; where the configuration ends before its pair length can be read,
-- it is 19". The first fault of a configuration, where so many may still come, this one counted, and these key ids are taken; 0 where it has
-- none or is skipped
unfoldable pub fault_of : ℕ → List ℕ → List ℕ → ℕ → ℕ
fault_of more taken bytes at =
    22 when eqb more 0 otherwise
    18 when not (is_whole bytes at) otherwise
    0 when is_skipped bytes at otherwise
    19 when ltb (length_at bytes at) (bytes_before_pairs bytes at) otherwise
    20 when not (pair_bytes_hold (pair_bytes_at bytes at)) otherwise
    19 when not (eqb (length_at bytes at) (bytes_before_pairs bytes at + pair_bytes_at bytes at)) otherwise
    21 when among taken (key_id_at bytes at) otherwise
    0

-- "the offset of the first byte of the field at fault", of a configuration whose length stands at an offset and whose public key ends at
-- another: the KEM for the list writer's 3, the pair length for 20, the key id for 21, and the length for 18, 19 and 22
abbrev pub field_at_fault : ℕ → ℕ → ℕ → ℕ
field_at_fault at end number =
    at + 3 when eqb number 3 otherwise
    end when eqb number 20 otherwise
    at + 2 when eqb number 21 otherwise
    at

-- the refusal of such a configuration for a fault
abbrev pub refused_for : ℕ → ℕ → ℕ → Refusal
refused_for at end fault = refused_at fault (field_at_fault at end fault)

-- by its first fault: with 0 the result, else the refusal
abbrev pub unless_fault : {A : Type 0} → ℕ → ℕ → ℕ → Result A Refusal → Result A Refusal
unless_fault at end zero result = result
unless_fault at end (suc n) result = Err (refused_for at end (suc n))

-- a configuration in front of those that follow
abbrev pub followed_by : Configuration → Result (List Configuration) Refusal → Result (List Configuration) Refusal
followed_by c (Ok cs) = Ok (c ∷ cs)
followed_by c (Err r) = Err r

-- the configurations from an offset on, where so many may still come and these key ids are taken; a skipped one is one of so many, and
-- takes no key id
unfoldable pub parse_from : ℕ → List ℕ → List ℕ → ℕ → Result (List Configuration) Refusal
parse_from zero taken bytes at = pick (leb (length bytes) at) (Ok []) (Err (refused_for at (key_end bytes at) (fault_of zero taken bytes at)))
parse_from (suc more) taken bytes at =
    pick (leb (length bytes) at) (Ok [])
    (unless_fault at (key_end bytes at) (fault_of (suc more) taken bytes at)
    (pick (is_skipped bytes at) (parse_from more taken bytes (next_start bytes at))
    (followed_by (configuration_at bytes at) (parse_from more (taken ++ key_id_at bytes at ∷ []) bytes (next_start bytes at)))))

-- a list is one configuration or more, and none at all is 18; a bad one is refused whole, for its first bad configuration
unfoldable pub parse : List ℕ → Result (List Configuration) Refusal
parse [] = Err (refused_at 18 0)
parse (byte ∷ bytes) = parse_from most_configurations [] (byte ∷ bytes) 0
