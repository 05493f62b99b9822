-- 01's keys, "in list order, each with id, KEM, pairs, count and retirement": how one is looked up and changed, retire's refusals, and the
-- keys that a gateway holds.
use Rattle.std.specs.List.{list_any}
use Rattle.std.specs.Prelude.{ℕ, ◌+◌, ◌-◌, Bool, true, false, not, List, [], ◌∷◌, ◌++◌, map, eqb, length, take, replicate}
use Rattle.std.proofs.Math.Option.{Option}
use Rattle.wire.specs.Tests.{pick, ◌and◌}
use Rattle.wire.specs.Search.{is_none, find, is_some_and}
use Rattle.wire.specs.Refusals.{◌when◌otherwise◌}
use Rattle.algorithms.specs.Sizes.{known_pair}
use Rattle.keylist.specs.declared.Pair.{Pair}
use Rattle.keylist.specs.Layout.{Configuration, is_pair, most_configurations}
use Rattle.keys.specs.declared.KeyState.{KeyState}
use Rattle.keys.specs.declared.Keys.{Keys}
use Rattle.keys.specs.declared.KeyReport.{KeyReport}

pub record Key : Type 0 where
  pub id : ℕ
  pub kem : ℕ
  pub pairs : List Pair
  pub count : ℕ
  pub retired : Bool

-- a key of a fresh gateway
abbrev pub fresh_key : Configuration → Key
fresh_key c = record { id = c.key_id; kem = c.kem; pairs = c.pairs; count = 0; retired = false }

abbrev pub has_id : ℕ → Key → Bool
has_id id key = eqb key.id id

-- the key that has the id, if there is one
abbrev pub key_with : ℕ → List Key → Option Key
key_with id keys = find (has_id id) keys

-- the pair is known and listed for the key, both its numbers in one pair
abbrev pub offers : ℕ → ℕ → Key → Bool
offers kdf aead key = known_pair kdf aead and list_any (is_pair kdf aead) key.pairs

-- 01, "Order", retire: 4, 7; 0: no refusal
unfoldable pub retire_refusal : Option Key → ℕ
retire_refusal key =
    4 when is_none key otherwise
    7 when is_some_and (λ k. k.retired) key otherwise
    0

-- the key has one use more
abbrev pub with_use : Key → Key
with_use key = record { id = key.id; kem = key.kem; pairs = key.pairs; count = key.count + 1; retired = key.retired }

-- the key is retired
abbrev pub with_retirement : Key → Key
with_retirement key = record { id = key.id; kem = key.kem; pairs = key.pairs; count = key.count; retired = true }

-- the keys with the one that has the id changed
unfoldable pub with_key : (Key → Key) → ℕ → List Key → List Key
with_key change id [] = []
with_key change id (key ∷ keys) = pick (has_id id key) (change key ∷ keys) (key ∷ with_key change id keys)

-- a key, as report shows it; the keys, first in an array that holds sixteen
abbrev pub report_of : Key → KeyReport
report_of key = record { id = record { 0 = key.id }; count = key.count; retired = key.retired }

abbrev pub blank_report : KeyReport
blank_report = record { id = record { 0 = 0 }; count = 0; retired = false }

-- the elements first, then blanks up to a length
abbrev pub padded : {A : Type 0} → ℕ → A → List A → List A
padded size blank xs = xs ++ replicate (size - length xs) blank

abbrev pub stored_reports : List Key → List KeyReport
stored_reports keys = padded most_configurations blank_report (map report_of keys)

-- the keys that a gateway holds: the first ones of its array, as many as it counts
abbrev pub key_of : KeyState → Key
key_of k =
    record { id = k.id.0; kem = k.kem; pairs = take k.pair_count k.pairs; count = k.count; retired = not (eqb k.retired 0) }

unfoldable pub keys_of : Keys → List Key
keys_of keys = map key_of (take keys.count keys.list)
