-- The walk over a list that is good: at each offset where a configuration that is read starts, what is left of the configurations, and what
-- is known of the next one.
-- Assumes nothing.
use mathlib.Core.Path.{◌≡◌, refl, sym, ◌∙◌}
use mathlib.Core.Bool.{true, false}
use mathlib.Core.List.{List, [], ◌∷◌, ◌++◌}
use Rattle.std.specs.Prelude.{Result, Ok, Err}
use Prim.Native.Nat.{ℕ, zero, suc, ◌≤◌, ◌<◌}
use mathlib.Core.Logic.{⊎_elim}
use native.Mathlib.Nat.{eq-zero-or-pos}
use native.Mathlib.Omega.{arith}
use lib.ListN.{length, length-take, length-drop}
use Rattle.wire.specs.declared.refusal.Refusal.{Refusal}
use Rattle.wire.proofs.Booleans.{either}
use Rattle.algorithms.specs.Sizes.{public_key_length}
use Rattle.keylist.specs.declared.Counts.{Counts}
use Rattle.keylist.specs.Layout.{Configuration, parse, parse_from, configuration_at, is_skipped, key_id_at, kem_at, next_start, most_configurations}
use Rattle.keylist.specs.Answers.{checked_from}
use Rattle.keylist.specs.Helpers.{read_from, first_read}
use Rattle.keylist.proofs.LayoutLaws.{Holds, skipped}
use Rattle.keylist.proofs.Parsing.{good_at, parse_end, parse_bad, parse_too_many, parse_skip, parse_more, parse_some, parse_none, no_refusal, followed, holding}

-- where no configuration that is skipped starts: from there on the list is good, and these configurations are left
pub record GoodFrom (bytes : List ℕ) (at : ℕ) : Type 0 where
  pub more : ℕ
  pub taken : List ℕ
  pub rest : List Configuration
  pub parsed : parse_from more taken bytes at ≡ Ok rest
  pub few : more ≤ most_configurations
  pub unskipped : is_skipped bytes at ≡ false

-- what is known where one more configuration starts
pub record GoodNext (bytes : List ℕ) (at : ℕ) (rest : List Configuration) : Type 0 where
  pub next : GoodFrom bytes (first_read bytes (next_start bytes at))
  pub first : rest ≡ configuration_at bytes at ∷ next.rest
  pub holding : Holds bytes at
  pub onward : at < first_read bytes (next_start bytes at)

module _ (bytes : List ℕ) where
  pub walk_end : (at : ℕ) (w : GoodFrom bytes at) → length bytes ≤ at → w.rest ≡ []
  walk_end at w h =
      let e : ◌≡◌ {A = Result (List Configuration) Refusal} (Ok []) (Ok w.rest) = sym (parse_end w.more w.taken bytes at h) ∙ w.parsed in
      cc

  -- skipping, one configuration at a time
  pub read_skip : (more at : ℕ) → is_skipped bytes at ≡ true → read_from (suc more) bytes at ≡ read_from more bytes (next_start bytes at)
  unfolding read_from
  read_skip more at k = rw k

  pub read_here : (more at : ℕ) → is_skipped bytes at ≡ false → read_from more bytes at ≡ at
  unfolding read_from
  read_here zero at k = refl
  read_here (suc more) at k = rw k

  -- it goes on from where it starts
  skip_onward : (fuel at : ℕ) → at ≤ read_from fuel bytes at
  unfolding read_from
  skip_onward zero at = omega arith
  skip_onward (suc fuel) at =
      either (is_skipped bytes at) (λ k. rw k (omega (arith, skip_onward fuel (next_start bytes at)))) (λ k. rw k (omega arith))

  -- a good list is good from the next configuration that is read
  pub skip_good : (fuel more : ℕ) (taken : List ℕ) (at : ℕ) (rest : List Configuration) → more ≤ fuel → parse_from more taken bytes at ≡ Ok rest
      → (left : ℕ) × (left ≤ more) × (parse_from left taken bytes (read_from fuel bytes at) ≡ Ok rest)
      × (is_skipped bytes (read_from fuel bytes at) ≡ false)
  unfolding read_from
  skip_good zero more taken at rest h e = (
    more,
    omega arith,
    e,
    either (is_skipped bytes at)
        (λ k. no_refusal (sym (parse_too_many more taken bytes at (omega (arith, (skipped bytes at k).whole)) (omega arith)) ∙ e)) (λ k. k),
  )
  skip_good (suc fuel) zero taken at rest h e =
      either (is_skipped bytes at)
      (λ k. no_refusal (sym (parse_too_many zero taken bytes at (omega (arith, (skipped bytes at k).whole)) refl) ∙ e))
      (λ k. rw k (zero, omega arith, e, k))
  skip_good (suc fuel) (suc more) taken at rest h e =
      either (is_skipped bytes at)
      (λ k.
      let (left, less, parsed, here) = skip_good fuel more taken (next_start bytes at) rest (omega arith) (sym (parse_skip more taken bytes at k) ∙ e) in
      rw k (left, omega arith, parsed, here))
      (λ k. rw k (suc more, omega arith, e, k))

  -- the walk goes on at the first configuration from an offset on that is read
  unfoldable walk_from : (at more : ℕ) (taken : List ℕ) (rest : List Configuration) → more ≤ most_configurations
      → parse_from more taken bytes at ≡ Ok rest → GoodFrom bytes (first_read bytes at)
  walk_from at more taken rest h e =
      let s = skip_good most_configurations more taken at rest h e in
      record { more = s.0; taken = taken; rest = rest; parsed = s.2; few = omega (arith, s.1); unskipped = s.3 }

  good_here : (at : ℕ) (w : GoodFrom bytes at) → at < length bytes → good_at w.taken bytes at ≡ true
  good_here at w h =
      either (good_at w.taken bytes at) (λ e. e)
      (λ e. no_refusal (sym (parse_bad w.more w.taken bytes at h w.unskipped e) ∙ w.parsed))

  step : (at more : ℕ) (taken : List ℕ) (rest : List Configuration) → more ≤ most_configurations → parse_from more taken bytes at ≡ Ok rest
      → at < length bytes → good_at taken bytes at ≡ true → GoodNext bytes at rest
  unfolding walk_from
  step at zero taken rest few e h g = no_refusal (sym (parse_too_many zero taken bytes at h refl) ∙ e)
  step at (suc more) taken rest few e h g =
      let behind = parse_from more (taken ++ key_id_at bytes at ∷ []) bytes (next_start bytes at) in
      let s = followed (configuration_at bytes at) behind rest (sym (parse_more more taken bytes at g) ∙ e) in
      record {
        next = walk_from (next_start bytes at) more (taken ++ key_id_at bytes at ∷ []) s.0 (omega arith) s.1;
        first = s.2;
        holding = holding bytes taken at g;
        onward = omega (arith, skip_onward most_configurations (next_start bytes at));
      }

  pub walk_next : (at : ℕ) (w : GoodFrom bytes at) → at < length bytes → GoodNext bytes at w.rest
  walk_next at w h = step at w.more w.taken w.rest w.few w.parsed h (good_here at w h)

  pub not_empty : (cs : List Configuration) → parse bytes ≡ Ok cs → 0 < length bytes
  not_empty cs e =
      ⊎_elim (λ z. no_refusal (sym (parse_none bytes z) ∙ e)) (λ p. p) (eq-zero-or-pos (length bytes))

  -- reading starts at 0, with no key id taken
  pub parse_all : (cs : List Configuration) → parse bytes ≡ Ok cs → parse_from most_configurations [] bytes 0 ≡ Ok cs
  parse_all cs e = sym (parse_some bytes (not_empty cs e)) ∙ e

  -- the walk starts at the first configuration that is read, over all configurations
  unfoldable pub walk_start : (cs : List Configuration) → parse bytes ≡ Ok cs → GoodFrom bytes (first_read bytes 0)
  unfolding walk_from
  walk_start cs e = walk_from 0 most_configurations [] cs (omega arith) (parse_all cs e)

-- a list that check calls good is good
pub checked_good : (p : Result (List Configuration) Refusal) (skips : ℕ) (n : Counts) → checked_from p skips ≡ Ok n
    → (cs : List Configuration) × (p ≡ Ok cs)
checked_good (Ok cs) skips n e = (cs, refl)
checked_good (Err r) skips n e = cc

pub checked_bad : (p : Result (List Configuration) Refusal) (skips : ℕ) (r : Refusal) → checked_from p skips ≡ Err r → p ≡ Err r
checked_bad (Ok cs) skips r e = cc
checked_bad (Err s) skips r e = cc

-- the public key of a configuration that lies in the list has its Npk bytes
pub key_length_at : (bytes : List ℕ) (at : ℕ) → Holds bytes at
    → length (configuration_at bytes at).public_key ≡ public_key_length (kem_at bytes at)
unfolding configuration_at
key_length_at bytes at h = simp (length-take, length-drop) (omega (arith, h.whole, h.sizes))
