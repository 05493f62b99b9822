-- Laws of reading a key list into stored keys: the pairs of a configuration one by one, and the configurations one by one.
-- Assumes nothing.
use mathlib.Core.Path.{◌≡◌, refl, sym, ap, ◌∙◌}
use mathlib.Core.Bool.{true}
use mathlib.Core.List.{List, [], ◌∷◌, ◌++◌, map, append-nil}
use Rattle.std.specs.Prelude.{Result, Ok, Err}
use Prim.Native.Nat.{ℕ, zero, suc, ◌+◌, ◌*◌, ◌/◌, ◌≤◌, ◌<◌}
use native.Mathlib.Omega.{arith}
use lib.ListN.{length, set, length-append, length-map}
use lib.Seq.{append_snoc}
use Rattle.wire.specs.Bytes.{word_at}
use Rattle.keylist.specs.declared.Pair.{Pair}
use Rattle.keylist.specs.Before.{layout_holds}
use Rattle.keylist.specs.Layout.{Configuration, parse, configuration_at, key_id_at, kem_at, pair_bytes_at, pairs_start, next_start, pairs_at, most_configurations}
use Rattle.keylist.specs.Helpers.{first_read}
use Rattle.keylist.proofs.LayoutLaws.{good_layout}
use Rattle.keylist.proofs.Walk.{GoodFrom, walk_start, walk_next, walk_end}
use Rattle.keys.specs.declared.KeyState.{KeyState}
use Rattle.keys.specs.declared.Keys.{Keys}
use Rattle.keys.specs.Stored.{most_pairs, no_pair, blank_key, stored_key, stored_keys}
use Rattle.keys.specs.Keys.{padded}
use Rattle.keys.specs.declared.KeysRead.{KeysRead}
use Rattle.keys.specs.Helpers.{keys_from, keys_of_parsed}
use Rattle.keylist.specs.declared.Counts.{Counts}
use Rattle.keylist.specs.Answers.{counts, checked_from}
use Rattle.wire.specs.declared.refusal.Refusal.{Refusal}
use Rattle.keys.proofs.Arrays.{set-padded, map-append}
use Rattle.keys.proofs.Parsed.{parsed}

-- the pair at an offset
abbrev pub pair_at : List ℕ → ℕ → Pair
pair_at bytes at = record { kdf = word_at bytes at; aead = word_at bytes (at + 2) }

module _ (bytes : List ℕ) where
  pub length_pairs : (count from : ℕ) → length (pairs_at count bytes from) ≡ count
  unfolding pairs_at
  length_pairs zero from = refl
  length_pairs (suc count) from = ap suc (length_pairs count (from + 4))

  -- one pair more
  pub pairs_more : (count from : ℕ) → pairs_at (count + 1) bytes from ≡ pairs_at count bytes from ++ pair_at bytes (from + count * 4) ∷ []
  unfolding pairs_at
  pairs_more zero from = let same : from + 0 * 4 ≡ from = omega arith in rw same
  pairs_more (suc count) from =
      let one : suc count + 1 ≡ suc (count + 1) = omega arith in
      let on : from + suc count * 4 ≡ from + 4 + count * 4 = omega arith in
      rw (one, on) (ap (λ (ps : List Pair). pair_at bytes from ∷ ps) (pairs_more count (from + 4)))

-- the fields that were read make the stored key of the configuration
pub stored_here : (bytes : List ℕ) (at : ℕ) {id kem count : ℕ} {pairs : List Pair}
    → id ≡ key_id_at bytes at → kem ≡ kem_at bytes at → count ≡ pair_bytes_at bytes at / 4
    → pairs ≡ padded most_pairs no_pair (pairs_at (pair_bytes_at bytes at / 4) bytes (pairs_start bytes at))
    → ◌≡◌ {A = KeyState}
    (record { count = 0; kem = kem; id = record { 0 = id }; retired = 0; pair_count = count; pairs = pairs })
    (stored_key (configuration_at bytes at))
unfolding configuration_at
stored_here bytes at i k n p =
    rw (i, k, n, p, length_pairs bytes (pair_bytes_at bytes at / 4) (pairs_start bytes at))

-- a list that is read up to an offset: the configurations before it are stored, and from it on the list is good
pub record Read (bytes : List ℕ) (at : ℕ) (stored : List KeyState) (count : ℕ) : Type 0 where
  pub walk : GoodFrom bytes at
  pub done : List Configuration
  pub whole : parse bytes ≡ Ok (done ++ walk.rest)
  pub filled : stored ≡ padded most_configurations blank_key (map stored_key done)
  pub counted : count ≡ length done

module _ (bytes : List ℕ) where
  pub read_start : (cs : List Configuration) → parse bytes ≡ Ok cs
      → Read bytes (first_read bytes 0) (padded most_configurations blank_key []) 0
  unfolding walk_start
  read_start cs e =
      record { walk = walk_start bytes cs e; done = []; whole = e; filled = refl; counted = refl }

  module _ {at count : ℕ} {stored : List KeyState} (r : Read bytes at stored count) where
    -- there is room for the next key
    pub read_room : at < length bytes → count < 16
    read_room h =
        let n = walk_next bytes at r.walk h in
        let all = (parsed bytes (r.done ++ r.walk.rest) r.whole).few in
        omega (arith, r.counted, simp length-append at (rw n.first at all))

    pub read_next : (h : at < length bytes)
        → Read bytes (first_read bytes (next_start bytes at)) (set stored count (stored_key (configuration_at bytes at))) (count + 1)
    read_next h =
        let n = walk_next bytes at r.walk h in
        let c = configuration_at bytes at in
        record {
          walk = n.next;
          done = r.done ++ c ∷ [];
          whole = rw (append_snoc r.done c n.next.rest, sym n.first) r.whole;
          filled = rw (r.filled, map-append stored_key r.done (c ∷ []))
              (set-padded most_configurations blank_key (map stored_key r.done) count (stored_key c)
              (length-map r.done stored_key ∙ sym r.counted) (read_room h));
          counted = simp length-append (omega (arith, r.counted));
        }

    pub read_onward : at < length bytes → at < first_read bytes (next_start bytes at)
    read_onward h = (walk_next bytes at r.walk h).onward

    -- no more keys were read than there is room for
    pub read_few : count ≤ 16
    read_few =
        let all = (parsed bytes (r.done ++ r.walk.rest) r.whole).few in
        omega (arith, r.counted, simp length-append at all)

    -- the next configuration keeps the layout's rules
    pub read_holds : at < length bytes → layout_holds bytes at ≡ true
    read_holds h = good_layout bytes at (walk_next bytes at r.walk h).holding

    -- at the end all are stored
    pub read_end : length bytes ≤ at → ◌≡◌ {A = Keys} (record { list = stored; count = count }) (keys_from (parse bytes))
    unfolding keys_from stored_keys
    read_end h =
        rw (r.whole, walk_end bytes at r.walk h, append-nil r.done, r.filled, r.counted)

-- what is read of a list that check calls good
pub read_of : (p : Result (List Configuration) Refusal) (skips : ℕ) (n : Counts) → Ok n ≡ checked_from p skips
    → ◌≡◌ {A = Result KeysRead Refusal} (Ok (record { keys = keys_from p; counts = n })) (keys_of_parsed p skips)
unfolding keys_from
read_of (Ok cs) skips n e = let same : n ≡ counts (length cs) skips = cc in rw same refl
read_of (Err r) skips n e = cc
