-- A configuration whose bytes stand in two lists, at whatever offsets, is skipped in both or read alike in both.
-- Assumes nothing.
use mathlib.Core.Path.{◌≡◌, refl, ap}
use mathlib.Core.Bool.{true, not}
use mathlib.Core.List.{List, [], ◌∷◌, ◌++◌}
use Prim.Native.Nat.{ℕ, zero, suc, ◌+◌, ◌*◌, ◌/◌, ◌≤◌, ◌<◌}
use native.Mathlib.Nat.{add_assoc, add-zero}
use native.Mathlib.Omega.{arith}
use borrow.Author.Tests.{le-leb}
use lib.ListN.{length, length-append, length-drop, drop, get_or-append}
use lib.Seq.{drop-append-le, drop-drop, get_or-drop, take-append-le}
use Rattle.wire.specs.Bytes.{byte_at, word_at, part}
use Rattle.wire.specs.Search.{among}
use Rattle.wire.proofs.Booleans.{and_right}
use Rattle.algorithms.specs.Sizes.{public_key_length}
use Rattle.keylist.specs.Before.{layout_holds}
use Rattle.keylist.specs.Layout.{Configuration, configuration_at, followed_by, is_skipped, key_id_at, kem_at, length_at, next_start, pair_bytes_at, pairs_at, parse_from}
use Rattle.keylist.proofs.LayoutLaws.{Holds, Skipped, good_layout, held_not_skipped, skipped}
use Rattle.keylist.proofs.Parsing.{good_at, holding, parse_more, parse_skip, skips_from, skips_none, skips_one}

-- a configuration with another offset
abbrev pub starting_at : ℕ → Configuration → Configuration
starting_at at c = record { start = at; key_id = c.key_id; kem = c.kem; public_key = c.public_key; pairs = c.pairs }

-- the bytes of a configuration of B stand in A too
pub record Standing (A : List ℕ) (a : ℕ) (B : List ℕ) (b : ℕ) : Type 0 where
  pub own : List ℕ
  pub behind_a : List ℕ
  pub behind_b : List ℕ
  pub in_a : drop a A ≡ own ++ behind_a
  pub in_b : drop b B ≡ own ++ behind_b
  pub exact : length own ≡ 2 + length_at B b

module _ {A B : List ℕ} {a b : ℕ} (s : Standing A a B b) where
  byte_alike : (i : ℕ) → i < length s.own → byte_at A (a + i) ≡ byte_at B (b + i)
  byte_alike i h =
      rw (
        ← get_or-drop a A i 0,
        ← get_or-drop b B i 0,
        s.in_a,
        s.in_b,
        get_or-append s.own s.behind_a 0 i h,
        get_or-append s.own s.behind_b 0 i h,
      )

  word_alike : (i : ℕ) → i + 1 < length s.own → word_at A (a + i) ≡ word_at B (b + i)
  word_alike i h = rw (add_assoc a i 1, add_assoc b i 1, byte_alike i (omega arith), byte_alike (i + 1) h)

  part_alike : (i n : ℕ) → i + n ≤ length s.own → part A (a + i) n ≡ part B (b + i) n
  part_alike i n h =
      let enough : n ≤ length (drop i s.own) = rw length-drop (omega arith) in
      rw (
        ← drop-drop i a A,
        ← drop-drop i b B,
        s.in_a,
        s.in_b,
        drop-append-le i s.own s.behind_a (omega arith),
        drop-append-le i s.own s.behind_b (omega arith),
        take-append-le n (drop i s.own) s.behind_a enough,
        take-append-le n (drop i s.own) s.behind_b enough,
      )

  pairs_alike : (n i : ℕ) → i + n * 4 ≤ length s.own → pairs_at n A (a + i) ≡ pairs_at n B (b + i)
  unfolding pairs_at
  pairs_alike zero i h = refl
  pairs_alike (suc n) i h =
      rw (
        add_assoc a i 2,
        add_assoc b i 2,
        add_assoc a i 4,
        add_assoc b i 4,
        word_alike i (omega arith),
        word_alike (i + 2) (omega arith),
        pairs_alike n (i + 4) (omega arith),
      )

  length_alike : length_at A a ≡ length_at B b
  length_alike = rw (add-zero a, add-zero b) at (word_alike 0 (omega (arith, s.exact)))

  pub next_alike : next_start A a ≡ a + length s.own
  next_alike = omega (arith, length_alike, s.exact)

  inside : next_start A a ≤ length A
  inside = omega (arith, next_alike, s.exact, simp (length-drop, length-append) at (ap length s.in_a))

  pub skipped_alike : Skipped B b → is_skipped A a ≡ true
  unfolding is_skipped
  skipped_alike k =
      rw (
        le-leb (next_start A a) (length A) inside,
        le-leb 3 (length_at A a) (omega (arith, length_alike, k.size)),
        word_alike 3 (omega (arith, s.exact, k.size)),
      )
      k.kem

  module _ (h : Holds B b) where
    kem_alike : kem_at A a ≡ kem_at B b
    kem_alike = word_alike 3 (omega (arith, s.exact, h.sizes))

    pub id_alike : key_id_at A a ≡ key_id_at B b
    id_alike = byte_alike 2 (omega (arith, s.exact, h.sizes))

    abbrev key : ℕ
    key = public_key_length (kem_at B b)

    pair_bytes_alike : pair_bytes_at A a ≡ pair_bytes_at B b
    pair_bytes_alike =
        rw (kem_alike, add_assoc a 5 key, add_assoc b 5 key) (word_alike (5 + key) (omega (arith, s.exact, h.sizes, h.pairs)))

    pub holds_alike : Holds A a
    holds_alike =
        record {
          whole = inside;
          kem = rw kem_alike h.kem;
          sizes = rw (length_alike, pair_bytes_alike, kem_alike) h.sizes;
          pairs = rw pair_bytes_alike h.pairs;
        }

    pub configuration_alike : configuration_at A a ≡ starting_at a (configuration_at B b)
    unfolding configuration_at
    configuration_alike =
        let pairs = pairs_alike (pair_bytes_at B b / 4) (5 + key + 2) (omega (arith, s.exact, h.sizes, h.pairs)) in
        rw (
          id_alike,
          pair_bytes_alike,
          kem_alike,
          part_alike 5 key (omega (arith, s.exact, h.sizes)),
          (rw (← add_assoc a (5 + key) 2, ← add_assoc b (5 + key) 2, ← add_assoc a 5 key, ← add_assoc b 5 key) at pairs),
        )

-- reading goes on alike in both lists: behind one that is skipped, and behind one that is read
module _ {A B : List ℕ} {a b : ℕ} (s : Standing A a B b) (more : ℕ) (taken : List ℕ) (next : ℕ) (on : a + length s.own ≡ next) where
  pub skip_alike : is_skipped B b ≡ true
      → (parse_from (suc more) taken A a ≡ parse_from more taken A next) × (skips_from (suc more) A a ≡ suc (skips_from more A next))
  skip_alike k =
      let is = skipped_alike s (skipped B b k) in
      rw (← on, ← next_alike s) (parse_skip more taken A a is, skips_one more A a is)

  pub read_alike : good_at taken B b ≡ true
      → (parse_from (suc more) taken A a ≡ followed_by (starting_at a (configuration_at B b)) (parse_from more (taken ++ key_id_at B b ∷ []) A next))
      × (skips_from (suc more) A a ≡ skips_from more A next)
  read_alike g =
      let h = holding B taken b g in
      let is = holds_alike s h in
      let new = and_right (layout_holds B b) (not (among taken (key_id_at B b))) g in
      let good : good_at taken A a ≡ true = rw (good_layout A a is, id_alike s h) new in
      rw (← on, ← next_alike s, ← configuration_alike s h, ← id_alike s h) (
        parse_more more taken A a good,
        skips_none more A a (omega (arith, is.whole)) (held_not_skipped A a is),
      )
