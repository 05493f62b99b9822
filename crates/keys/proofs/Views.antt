-- What a change of the stored keys, and the keys read from a list, are to those that hold them.
-- Assumes nothing.
use mathlib.Core.Path.{◌≡◌, refl, sym, ap, ap₂, ◌∙◌}
use mathlib.Core.List.{List, [], ◌∷◌, map}
use Rattle.std.specs.Prelude.{Ok}
use Prim.Native.Nat.{ℕ, ◌+◌, ◌-◌, ◌^◌, ◌≤◌, ◌<◌}
use native.Mathlib.Omega.{arith}
use lib.ListN.{length, get_or, take, set, length-map}
use lib.Seq.{take-set-lt}
use Rattle.keylist.specs.Layout.{Configuration, parse, most_configurations}
use Rattle.keys.specs.declared.KeyState.{KeyState}
use Rattle.keys.specs.declared.Keys.{Keys}
use Rattle.keys.specs.Keys.{Key, fresh_key, with_use, with_retirement, key_of, keys_of, padded}
use Rattle.keys.specs.Helpers.{no_key, key_at, keys_from}
use Rattle.keys.specs.Stored.{most_pairs, no_pair, blank_key, stored_key, stored_keys, one_more, used_state, retired_state, changed_state}
use Rattle.keys.proofs.Named.{changed_at}
use Rattle.keys.proofs.Arrays.{take-padded, map-set, length_stored, stored_at}
use Rattle.keys.proofs.Parsed.{Distinct, ids, parsed}

-- the key with another count
abbrev with_count : Key → ℕ → Key
with_count key n = record { id = key.id; kem = key.kem; pairs = key.pairs; count = n; retired = key.retired }

module _ (ks : Keys) (place : ℕ) (h : place < length (keys_of ks)) where
  here : (place < ks.count) × (key_at (keys_of ks) place ≡ key_of (get_or ks.list place blank_key))
  unfolding keys_of
  here =
      let both = length_stored key_of ks.count ks.list in
      (omega arith, stored_at key_of ks.count ks.list place blank_key no_key (omega arith) (omega arith))

  -- a change of the stored key at a place is one of the key there
  changed_view : (change : KeyState → KeyState) (to : Key → Key)
      → key_of (change (get_or ks.list place blank_key)) ≡ to (key_of (get_or ks.list place blank_key))
      → keys_of (changed_state change place ks) ≡ changed_at to place (keys_of ks)
  unfolding keys_of
  changed_view change to e =
      let stored = change (get_or ks.list place blank_key) in
      ap (map key_of) (take-set-lt ks.count ks.list place stored here.0)
      ∙ map-set key_of (take ks.count ks.list) place stored
      ∙ ap (set (map key_of (take ks.count ks.list)) place) (e ∙ ap to (sym here.1))

  -- one use more, as long as the count is not the largest number
  pub used_view : (key_at (keys_of ks) place).count < 2 ^ 32 - 1
      → keys_of (changed_state used_state place ks) ≡ changed_at with_use place (keys_of ks)
  used_view l =
      let k = key_of (get_or ks.list place blank_key) in
      let count : (key_at (keys_of ks) place).count ≡ k.count = ap (λ (key : Key). key.count) here.1 in
      let one : one_more 32 k.count ≡ k.count + 1 = omega arith in
      changed_view used_state with_use
      (ap (λ (n : ℕ). with_count k n) one)

  pub retired_view : keys_of (changed_state retired_state place ks) ≡ changed_at with_retirement place (keys_of ks)
  retired_view = changed_view retired_state with_retirement refl

-- a configuration that is stored is a fresh key
stored_one : (c : Configuration) → key_of (stored_key c) ≡ fresh_key c
stored_one c = rw (take-padded most_pairs no_pair c.pairs)

stored_all : (cs : List Configuration) → map key_of (map stored_key cs) ≡ map fresh_key cs
stored_all [] = refl
stored_all (c ∷ cs) = ap₂ (λ (k : Key) (ks : List Key). k ∷ ks) (stored_one c) (stored_all cs)

pub stored_view : (cs : List Configuration) → keys_of (stored_keys cs) ≡ map fresh_key cs
unfolding keys_of stored_keys
stored_view cs =
    let counted : take (length cs) (padded most_configurations blank_key (map stored_key cs)) ≡ map stored_key cs =
    rw (sym (length-map cs stored_key)) (take-padded most_configurations blank_key (map stored_key cs)) in
    ap (map key_of) counted ∙ stored_all cs

-- the keys of a good list are its configurations, fresh; they are at most 16, and no key id stands twice
pub parsed_view : (bytes : List ℕ) (cs : List Configuration) → parse bytes ≡ Ok cs
    → (keys_of (keys_from (parse bytes)) ≡ map fresh_key cs) × (length cs ≤ most_configurations)
unfolding keys_from
parsed_view bytes cs e = (rw e (stored_view cs), (parsed bytes cs e).few)

pub parsed_distinct : (bytes : List ℕ) (cs : List Configuration) → parse bytes ≡ Ok cs → Distinct (ids cs)
parsed_distinct bytes cs e = (parsed bytes cs e).distinct
