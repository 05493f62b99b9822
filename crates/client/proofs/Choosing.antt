-- The choice in a good list, one configuration at a time, and the statement of specs/Choose.
-- Assumes nothing.
use mathlib.Core.Path.{◌≡◌, refl}
use mathlib.Core.Bool.{true, false}
use mathlib.Core.List.{List, []}
use Rattle.std.specs.List.{list_any}
use Rattle.std.specs.Prelude.{Some, None, Result, Ok, Err}
use Prim.Native.Nat.{ℕ, ◌/◌, ◌%◌}
use native.Mathlib.Omega.{arith}
use lib.Dec.{eqb}
use lib.ListN.{length}
use Rattle.wire.specs.Search.{among}
use Rattle.keylist.specs.Stated.{IsRefused}
use Rattle.wire.specs.declared.refusal.Refusal.{Refusal}
use Rattle.wire.proofs.Matches.{any_first}
use Rattle.wire.proofs.Booleans.{either, true_or_false, and_left, and_right, and_false}
use Rattle.algorithms.specs.Sizes.{known_kem, known_pair}
use Rattle.keylist.specs.declared.Pair.{Pair}
use Rattle.keylist.specs.Layout.{Configuration, parse, configuration_at, pairs_at, key_id_at, kem_at, key_start, key_end, pair_bytes_at, pairs_start, most_configurations}
use Rattle.keylist.specs.Answers.{span}
use Rattle.keylist.proofs.Parsing.{by_reading, holding}
use Rattle.keylist.proofs.Walk.{GoodNext, parse_all, key_length_at}
use Rattle.client.specs.declared.choose.Choice.{Choice}
use Rattle.client.specs.Choose.{listed, usable_pair, usable, first_usable, choice, choose_first, choose_from, CanUse, ChosenIsUsable}
use Rattle.client.specs.Helpers.{pair_found}
use Rattle.client.proofs.Pairs.{pair_there, none_there, listed_place}

-- the pairs of the configuration at an offset
abbrev pub pairs_here : List ℕ → ℕ → List Pair
pairs_here bytes at = pairs_at (pair_bytes_at bytes at / 4) bytes (pairs_start bytes at)

-- the choice, one configuration on
module _ (kems numbers bytes : List ℕ) (at : ℕ) {rest : List Configuration} (n : GoodNext bytes at rest) where
  -- not the client's KEM
  pub other_kem : among kems (kem_at bytes at) ≡ false → choose_first kems numbers rest ≡ choose_first kems numbers n.next.rest
  unfolding configuration_at
  other_kem e = rw n.first (rw e)

  -- no usable pair
  pub no_pair : pair_found numbers (pairs_here bytes at) ≡ None → choose_first kems numbers rest ≡ choose_first kems numbers n.next.rest
  unfolding configuration_at
  no_pair e =
      let some = list_any (usable_pair numbers) (pairs_here bytes at) in
      let none = none_there some (first_usable numbers (pairs_here bytes at)) e in
      rw n.first (rw (and_false (among kems (kem_at bytes at)) some none))

  -- a configuration that can be used, and its pair
  pub chosen_here : {pair : Pair} → among kems (kem_at bytes at) ≡ true → pair_found numbers (pairs_here bytes at) ≡ Some pair
      → choose_first kems numbers rest
      ≡ Ok
      (record { key_id = record { 0 = key_id_at bytes at }; kem = kem_at bytes at; pair = pair; key = span (key_start at) (key_end bytes at) })
  unfolding configuration_at
  chosen_here k e =
      let t = pair_there (list_any (usable_pair numbers) (pairs_here bytes at)) (first_usable numbers (pairs_here bytes at)) e in
      rw n.first (rw (k, t.0, t.1, key_length_at bytes at n.holding))

module _ (kems numbers : List ℕ) where
  -- a usable configuration, and the first of its usable pairs
  can_use_first : (c : Configuration) → known_kem c.kem ≡ true → usable kems numbers c ≡ true
      → CanUse kems numbers (choice c (first_usable numbers c.pairs))
  can_use_first c k u =
      let p = first_usable numbers c.pairs in
      let passes : usable_pair numbers p ≡ true =
      any_first (record { kdf = 0; aead = 0 }) (usable_pair numbers) c.pairs
      (and_right (among kems c.kem) (list_any (usable_pair numbers) c.pairs) u) in
      record {
        kem = and_left (among kems c.kem) (list_any (usable_pair numbers) c.pairs) u;
        kem_known = k;
        pair = listed_place numbers p (and_left (listed numbers p) (known_pair p.kdf p.aead) passes);
        pair_known = and_right (listed numbers p) (known_pair p.kdf p.aead) passes;
      }

  -- what is chosen among the configurations of a good list
  can_use_among : (bytes : List ℕ) (x : Choice) (cs : List Configuration) → parse bytes ≡ Ok cs
      → choose_first kems numbers cs ≡ Ok x → CanUse kems numbers x
  unfolding configuration_at
  can_use_among bytes x cs e =
      by_reading bytes (λ more taken at rest. choose_first kems numbers rest ≡ Ok x → CanUse kems numbers x)
      (λ more taken at h f. cc f)
      (λ more taken at rest k parsed is. is)
      (λ more taken at rest g parsed is f.
      let c = configuration_at bytes at in
      either (usable kems numbers c)
      (λ u.
      let answer = rw u at f in
      let same : choice c (first_usable numbers c.pairs) ≡ x = cc in
      rw same at (can_use_first c (holding bytes taken at g).kem u))
      (λ u. is (rw u at f)))
      most_configurations [] 0 cs (parse_all bytes cs e)

  -- what is chosen in a list
  can-use : (bytes : List ℕ) (x : Choice) (p : Result (List Configuration) Refusal) → parse bytes ≡ p
      → choose_from kems numbers p ≡ Ok x → CanUse kems numbers x
  can-use bytes x (Err r) e f = cc f
  can-use bytes x (Ok cs) e f =
      either (eqb (length numbers % 2) 0)
      (λ even. can_use_among bytes x cs e (rw even at f))
      (λ odd. cc (rw odd at f))

refused_unless : (answer : Result Choice Refusal) → ((x : Choice) → answer ≡ Ok x → ⊥) → IsRefused answer
refused_unless (Ok x) never = absurd (never x refl)
refused_unless (Err r) never = (r, refl)

pub chosen_is_usable : ChosenIsUsable
chosen_is_usable =
    record {
      can_use = λ kems numbers bytes x e. can-use kems numbers bytes x (parse bytes) refl e;
      no_kems = λ numbers bytes.
          refused_unless (choose_from [] numbers (parse bytes))
          (λ x e. true_or_false (can-use [] numbers bytes x (parse bytes) refl e).kem refl);
      no_pairs = λ kems bytes.
          refused_unless (choose_from kems [] (parse bytes))
          (λ x e. let p = (can-use kems [] bytes x (parse bytes) refl e).pair in omega arith);
    }
