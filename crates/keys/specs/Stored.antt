-- How the gateway stores its keys: arrays of a fixed length whose first elements count.
use Rattle.std.specs.Prelude.{ℕ, ◌/◌, ◌+◌, ◌-◌, ◌^◌, min, List, map, length, get_or, set, replicate}
use Rattle.wire.specs.Search.{first_place}
use Rattle.keylist.specs.declared.Pair.{Pair}
use Rattle.keylist.specs.Layout.{Configuration, most_configurations, most_pair_bytes}
use Rattle.keys.specs.declared.KeyState.{KeyState}
use Rattle.keys.specs.Keys.{Key, has_id, padded}
use Rattle.keys.specs.declared.Keys.{Keys}

-- the most pairs of a key, of four bytes each
abbrev pub most_pairs : ℕ
most_pairs = most_pair_bytes / 4

abbrev pub no_pair : Pair
no_pair = record { kdf = 0; aead = 0 }

abbrev pub blank_key : KeyState
blank_key =
    record {
      count = 0;
      kem = 0;
      id = record { 0 = 0 };
      retired = 0;
      pair_count = 0;
      pairs = replicate most_pairs no_pair;
    }

-- a configuration as it is stored at setup
abbrev pub stored_key : Configuration → KeyState
stored_key c =
    record {
      count = 0;
      kem = c.kem;
      id = record { 0 = c.key_id };
      retired = 0;
      pair_count = length c.pairs;
      pairs = padded most_pairs no_pair c.pairs;
    }

unfoldable pub stored_keys : List Configuration → Keys
stored_keys cs = record { list = padded most_configurations blank_key (map stored_key cs); count = length cs }

-- the place of the key with the id, the number of keys where none has it
abbrev pub place_of_key : ℕ → List Key → ℕ
place_of_key id keys = first_place (has_id id) keys

-- one more, or the same where it is the largest number of so many bits; no number of a gateway that calls reached is the largest
-- (`NothingWraps` of book)
abbrev pub one_more : ℕ → ℕ → ℕ
one_more bits n = min (n + 1) (2 ^ bits - 1)

abbrev pub used_state : KeyState → KeyState
used_state k =
    record {
      count = one_more 32 k.count;
      kem = k.kem;
      id = k.id;
      retired = k.retired;
      pair_count = k.pair_count;
      pairs = k.pairs;
    }

abbrev pub retired_state : KeyState → KeyState
retired_state k =
    record {
      count = k.count;
      kem = k.kem;
      id = k.id;
      retired = 1;
      pair_count = k.pair_count;
      pairs = k.pairs;
    }

-- the stored keys with the one at a place changed
abbrev pub changed_state : (KeyState → KeyState) → ℕ → Keys → Keys
changed_state change place keys =
    record { list = set keys.list place (change (get_or keys.list place blank_key)); count = keys.count }
