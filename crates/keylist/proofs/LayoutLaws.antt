-- When one configuration keeps the layout's rules, when it is skipped, and its first fault: one law for each way that the code finds it.
-- Assumes nothing.
use mathlib.Core.Path.{◌≡◌, ◌∙◌}
use mathlib.Core.Bool.{Bool, true, false, not}
use mathlib.Core.List.{List}
use Prim.Native.Nat.{ℕ, suc, ◌+◌, ◌%◌, ◌≤◌, ◌<◌}
use native.Mathlib.Omega.{arith}
use borrow.Author.Tests.{lt-leb, le-leb, lt-ltb, le-ltb, eq-eqb, ne_eqb, leb-true, ltb-false, eqb-true, not-false}
use lib.Dec.{eqb, leb, ltb}
use lib.ListN.{length}
use Rattle.wire.specs.Tests.{◌and◌}
use Rattle.wire.specs.Refusals.{◌when◌otherwise◌}
use Rattle.wire.specs.Search.{among}
use Rattle.wire.proofs.Booleans.{either, and_left, and_right, and_false, true_or_false}
use Rattle.wire.proofs.Numbers.{not-refused}
use Rattle.std.specs.Bool.{then_some}
use Rattle.std.specs.Option.{unwrap_or}
use Rattle.algorithms.specs.Sizes.{known_kem, public_key_length}
use Rattle.algorithms.specs.Stated.{size_bound}
use Rattle.algorithms.proofs.Stated.{size_bounds}
use Rattle.keylist.specs.Before.{layout_holds}
use Rattle.keylist.specs.Layout.{bytes_before_pairs, fault_of, field_at_fault, is_skipped, is_whole, next_start, key_id_at, kem_at, length_at, pair_bytes_at, pair_bytes_hold, most_pair_bytes}

-- a KEM with a key length above 0 is known, and one with 0 is not
pub known_by_length : (kem : ℕ) → 0 < public_key_length kem → known_kem kem ≡ true
known_by_length kem h =
    either (known_kem kem) (λ e. e) (λ e. absurd (omega (arith, size_bounds.no_key_unknown kem e)))

pub unknown_by_length : (kem : ℕ) → public_key_length kem ≡ 0 → known_kem kem ≡ false
unknown_by_length kem h =
    either (known_kem kem) (λ e. absurd (omega (arith, size_bounds.key_is_there kem e))) (λ e. e)

-- the same as a test
pub unknown_test : (kem : ℕ) → not (known_kem kem) ≡ eqb (public_key_length kem) 0
unknown_test kem =
    either (known_kem kem)
    (λ e. rw (e, ne_eqb (public_key_length kem) 0 (λ z. omega (arith, z, size_bounds.key_is_there kem e))))
    (λ e. rw (e, eq-eqb (public_key_length kem) 0 (size_bounds.no_key_unknown kem e)))

-- Npk, as a lookup gives it, with 0 where it gives none
pub key_length_or_0 : (kem : ℕ) → unwrap_or (then_some (known_kem kem) (public_key_length kem)) 0 ≡ public_key_length kem
key_length_or_0 kem = either (known_kem kem) (λ e. rw e) (λ e. rw (e, size_bounds.no_key_unknown kem e))

pub key_bound : (kem : ℕ) → public_key_length kem ≤ size_bound
key_bound = size_bounds.key_bound

pub ruleset key_or_0 = (key_length_or_0, key_bound)

-- above the house limit no number of pair bytes holds
pub pairs_above : (size : ℕ) → most_pair_bytes < size → pair_bytes_hold size ≡ false
pairs_above size h =
    and_false (eqb (size % 4) 0) (leb 4 size and leb size most_pair_bytes)
    (and_false (leb 4 size) (leb size most_pair_bytes) (lt-leb size most_pair_bytes h))

module _ (bytes : List ℕ) (at : ℕ) where
  -- not skipped: the list ends first, or there is no room for a KEM
  pub skips_not_whole : length bytes < next_start bytes at → is_skipped bytes at ≡ false
  unfolding is_skipped
  skips_not_whole h = rw (lt-leb _ _ h)

  pub skips_not_short : next_start bytes at ≤ length bytes → length_at bytes at < 3 → is_skipped bytes at ≡ false
  unfolding is_skipped
  skips_not_short h l = rw (le-leb _ _ h, lt-leb _ _ l)

  -- what is left to test is the KEM
  pub skips_by_kem : next_start bytes at ≤ length bytes → 3 ≤ length_at bytes at
      → is_skipped bytes at ≡ eqb (public_key_length (kem_at bytes at)) 0
  unfolding is_skipped
  skips_by_kem h l = rw (le-leb _ _ h, le-leb _ _ l) (unknown_test (kem_at bytes at))

  -- a known KEM
  pub skips_not_known : known_kem (kem_at bytes at) ≡ true → is_skipped bytes at ≡ false
  unfolding is_skipped
  skips_not_known k =
      and_false (is_whole bytes at) (leb 3 (length_at bytes at) and not (known_kem (kem_at bytes at)))
      (and_false (leb 3 (length_at bytes at)) (not (known_kem (kem_at bytes at))) (rw k))

-- the first fault of a configuration, one law for each way that the code finds it
module _ (more : ℕ) (taken bytes : List ℕ) (at : ℕ) where
  pub fault_too_many : more ≡ 0 → fault_of more taken bytes at ≡ 22
  unfolding fault_of
  fault_too_many e = rw e

  module _ (m : more ≡ 0 → ⊥) where
    -- the list ends first
    pub fault_cut : length bytes < next_start bytes at → fault_of more taken bytes at ≡ 18
    unfolding fault_of
    fault_cut h = rw (ne_eqb more 0 m, lt-leb _ _ h)

    module _ (h : next_start bytes at ≤ length bytes) where
      -- no room for a KEM
      pub fault_short : length_at bytes at < 3 → fault_of more taken bytes at ≡ 19
      unfolding fault_of
      fault_short l =
          rw (
            ne_eqb more 0 m,
            le-leb _ _ h,
            skips_not_short bytes at h l,
            lt-ltb (length_at bytes at) (bytes_before_pairs bytes at) (omega arith),
          )

      -- an unknown KEM
      pub fault_skipped : 3 ≤ length_at bytes at → public_key_length (kem_at bytes at) ≡ 0 → fault_of more taken bytes at ≡ 0
      unfolding fault_of
      fault_skipped l k = rw (ne_eqb more 0 m, le-leb _ _ h, skips_by_kem bytes at h l ∙ eq-eqb _ _ k)

      module _ (k : 0 < public_key_length (kem_at bytes at)) where
        -- it ends before its pair length can be read
        pub fault_before_pairs : length_at bytes at < bytes_before_pairs bytes at → fault_of more taken bytes at ≡ 19
        unfolding fault_of
        fault_before_pairs l =
            rw (ne_eqb more 0 m, le-leb _ _ h, skips_not_known bytes at (known_by_length _ k), lt-ltb _ _ l)

        module _ (l : bytes_before_pairs bytes at ≤ length_at bytes at) where
          pub fault_pairs : pair_bytes_hold (pair_bytes_at bytes at) ≡ false → fault_of more taken bytes at ≡ 20
          unfolding fault_of
          fault_pairs p = rw (ne_eqb more 0 m, le-leb _ _ h, skips_not_known bytes at (known_by_length _ k), le-ltb _ _ l, p)

          module _ (p : pair_bytes_hold (pair_bytes_at bytes at) ≡ true) where
            -- L is not 5 + Npk + S
            pub fault_disagrees : (length_at bytes at ≡ bytes_before_pairs bytes at + pair_bytes_at bytes at → ⊥) → fault_of more taken bytes at ≡ 19
            unfolding fault_of
            fault_disagrees e =
                rw (ne_eqb more 0 m, le-leb _ _ h, skips_not_known bytes at (known_by_length _ k), le-ltb _ _ l, p, ne_eqb _ _ e)

            -- what is left to test is the key id
            pub fault_by_id : length_at bytes at ≡ bytes_before_pairs bytes at + pair_bytes_at bytes at
                → fault_of more taken bytes at ≡ (21 when among taken (key_id_at bytes at) otherwise 0)
            unfolding fault_of
            fault_by_id e =
                rw (ne_eqb more 0 m, le-leb _ _ h, skips_not_known bytes at (known_by_length _ k), le-ltb _ _ l, p, eq-eqb _ _ e)

-- the first fault, and what is skipped, as `check::fault` and `check::is_skipped` find them
pub ruleset faults = (fault_too_many, fault_cut, fault_short, fault_skipped, fault_before_pairs, fault_pairs, fault_disagrees, fault_by_id)

pub ruleset skips = (skips_not_whole, skips_not_short, skips_by_kem)

-- what a conjunction of tests says, part by part
pub both : {a b : Bool} {P Q : Type 0} → (a ≡ true → P) → (b ≡ true → Q) → (a and b) ≡ true → P × Q
both {a} {b} p q h = (p (and_left a b h), q (and_right a b h))

-- the numbers of S, beside the test
abbrev pub PairBytes : ℕ → Type 0
PairBytes size = (pair_bytes_hold size ≡ true) × ((size % 4 ≡ 0) × ((4 ≤ size) × (size ≤ most_pair_bytes)))

pub pair-bytes : (size : ℕ) → pair_bytes_hold size ≡ true → PairBytes size
pair-bytes size h = (h, both (eqb-true (size % 4) 0) (both (leb-true 4 size) (leb-true size most_pair_bytes)) h)

-- the numbers of a configuration that keeps the rules
pub record Holds (bytes : List ℕ) (at : ℕ) : Type 0 where
  pub whole : next_start bytes at ≤ length bytes
  pub kem : known_kem (kem_at bytes at) ≡ true
  pub sizes : length_at bytes at ≡ 5 + public_key_length (kem_at bytes at) + pair_bytes_at bytes at
  pub pairs : PairBytes (pair_bytes_at bytes at)

pub holds : (bytes : List ℕ) (at : ℕ) → layout_holds bytes at ≡ true → Holds bytes at
unfolding layout_holds
holds bytes at e =
    let (whole, (kem, (sizes, pairs))) =
    both (leb-true (next_start bytes at) (length bytes))
    (both (λ known. known)
    (both (eqb-true (length_at bytes at) (5 + public_key_length (kem_at bytes at) + pair_bytes_at bytes at)) (pair-bytes (pair_bytes_at bytes at)))) e in
    record { whole = whole; kem = kem; sizes = sizes; pairs = pairs }

-- the rules that hold, as the test of them
pub good_layout : (bytes : List ℕ) (at : ℕ) → Holds bytes at → layout_holds bytes at ≡ true
unfolding layout_holds
good_layout bytes at h = rw (le-leb _ _ h.whole, h.kem, eq-eqb _ _ h.sizes, h.pairs.0)

-- a configuration that keeps the rules is not skipped
pub held_not_skipped : (bytes : List ℕ) (at : ℕ) → Holds bytes at → is_skipped bytes at ≡ false
held_not_skipped bytes at h = skips_not_known bytes at h.kem

-- what is known of a configuration that is skipped
pub record Skipped (bytes : List ℕ) (at : ℕ) : Type 0 where
  pub whole : next_start bytes at ≤ length bytes
  pub size : 3 ≤ length_at bytes at
  pub kem : not (known_kem (kem_at bytes at)) ≡ true

pub skipped : (bytes : List ℕ) (at : ℕ) → is_skipped bytes at ≡ true → Skipped bytes at
unfolding is_skipped
skipped bytes at e =
    let (whole, (size, kem)) =
    both (leb-true (next_start bytes at) (length bytes)) (both (leb-true 3 (length_at bytes at)) (λ unknown. unknown)) e in
    record { whole = whole; size = size; kem = kem }

-- one may still come
one_more : (more : ℕ) → eqb (suc more) 0 ≡ false
one_more more = ne_eqb (suc more) 0 (λ e. omega (arith, e))

-- no fault: a configuration that is skipped, and one that keeps the rules and whose key id is not taken
pub skipped_no_fault : (more : ℕ) (taken bytes : List ℕ) (at : ℕ) → is_skipped bytes at ≡ true → fault_of (suc more) taken bytes at ≡ 0
unfolding fault_of
skipped_no_fault more taken bytes at k = rw (one_more more, le-leb _ _ (skipped bytes at k).whole, k)

pub held_no_fault : (more : ℕ) (taken bytes : List ℕ) (at : ℕ) → Holds bytes at → among taken (key_id_at bytes at) ≡ false
    → fault_of (suc more) taken bytes at ≡ 0
held_no_fault more taken bytes at h new =
    fault_by_id (suc more) taken bytes at (λ e. omega (arith, e)) h.whole (size_bounds.key_is_there (kem_at bytes at) h.kem)
    (omega (arith, h.sizes)) h.pairs.0 h.sizes ∙ rw new

-- and no other: where there is no fault, it is skipped or it is such a one
pub no_fault : (more : ℕ) (taken bytes : List ℕ) (at : ℕ) → fault_of (suc more) taken bytes at ≡ 0 → is_skipped bytes at ≡ false
    → Holds bytes at × (among taken (key_id_at bytes at) ≡ false)
unfolding fault_of
no_fault more taken bytes at e k =
    let pairs = pair_bytes_at bytes at in
    let size = bytes_before_pairs bytes at in
    let twice = 21 when among taken (key_id_at bytes at) otherwise 0 in
    let disagrees = 19 when not (eqb (length_at bytes at) (size + pairs)) otherwise twice in
    let unruly = 20 when not (pair_bytes_hold pairs) otherwise disagrees in
    let short = 19 when ltb (length_at bytes at) size otherwise unruly in
    let a = not-refused 17 (not (is_whole bytes at)) (0 when is_skipped bytes at otherwise short) (rw (one_more more) at e) in
    let b = not-refused 18 (ltb (length_at bytes at) size) unruly (rw k at a.1) in
    let c = not-refused 19 (not (pair_bytes_hold pairs)) disagrees b.1 in
    let d = not-refused 18 (not (eqb (length_at bytes at) (size + pairs))) twice c.1 in
    let f = not-refused 20 (among taken (key_id_at bytes at)) 0 d.1 in
    let whole = leb-true (next_start bytes at) (length bytes) (not-false (is_whole bytes at) a.0) in
    let room = ltb-false (length_at bytes at) size b.0 in
    let known : known_kem (kem_at bytes at) ≡ true =
    either (known_kem (kem_at bytes at)) (λ i. i)
    (λ i. absurd (true_or_false (skips_by_kem bytes at whole (omega (arith, room)) ∙ eq-eqb _ _ (size_bounds.no_key_unknown (kem_at bytes at) i)) k)) in
    let sizes = eqb-true (length_at bytes at) (size + pairs) (not-false (eqb (length_at bytes at) (size + pairs)) d.0) in
    (record { whole = whole; kem = known; sizes = sizes; pairs = pair-bytes pairs (not-false (pair_bytes_hold pairs) c.0) }, f.0)

-- the field at fault lies as far behind a configuration's start, wherever that is
pub field_from_start : (at end number : ℕ) → at + field_at_fault 0 end number ≡ field_at_fault at (at + end) number
field_from_start at end number =
    either (eqb number 3) (λ a. rw a)
    (λ a. either (eqb number 20) (λ b. rw (a, b)) (λ b. either (eqb number 21) (λ c. rw (a, b, c)) (λ c. rw (a, b, c) (omega arith))))
