-- How reading a list goes on from an offset: at the end, at a bad configuration, at one that is skipped, at a good one; and how check counts.
-- Assumes nothing.
use mathlib.Core.Path.{◌≡◌, refl, sym, ap, ◌∙◌}
use mathlib.Core.Bool.{Bool, true, false, not}
use mathlib.Core.List.{List, [], ◌∷◌, ◌++◌}
use Rattle.std.specs.Prelude.{Result, Ok, Err}
use Prim.Native.Nat.{ℕ, zero, suc, ◌+◌, ◌≤◌, ◌<◌}
use native.Mathlib.Omega.{arith}
use borrow.Author.Tests.{le-leb, lt-leb, ltb-true, ltb-false, not-true}
use lib.Dec.{ltb}
use lib.ListN.{length}
use Rattle.wire.specs.Tests.{◌and◌}
use Rattle.wire.specs.Search.{among, filtered}
use Rattle.wire.specs.Reasons.{number_of}
use Rattle.wire.specs.Refusals.{refused_at}
use Rattle.wire.specs.declared.refusal.Reason.{Reason}
use Rattle.wire.specs.declared.refusal.Refusal.{Refusal}
use Rattle.wire.proofs.Booleans.{either, and_left, and_right, true_or_false}
use Rattle.algorithms.specs.Sizes.{known_kem, public_key_length}
use Rattle.algorithms.proofs.Stated.{size_bounds}
use Rattle.keylist.specs.declared.Counts.{Counts}
use Rattle.keylist.specs.Before.{layout_holds}
use Rattle.keylist.specs.Layout.{Configuration, parse, parse_from, refused_for, unless_fault, fault_of, key_end, followed_by, configuration_at, is_skipped, key_id_at, kem_at, next_start, most_configurations}
use Rattle.keylist.specs.Answers.{checked_from, counts, starts_from}
use Rattle.keylist.proofs.LayoutLaws.{Holds, fault_too_many, good_layout, held_no_fault, held_not_skipped, holds, no_fault, skipped, skipped_no_fault}

-- a refusal is no result
pub no_refusal : {A P : Type 0} {r : Refusal} {a : A} → Err r ≡ Ok a → P
no_refusal e = cc

-- the test of one configuration
abbrev pub good_at : List ℕ → List ℕ → ℕ → Bool
good_at taken bytes at = layout_holds bytes at and not (among taken (key_id_at bytes at))

pub holding : (bytes taken : List ℕ) (at : ℕ) → good_at taken bytes at ≡ true → Holds bytes at
holding bytes taken at g = holds bytes at (and_left (layout_holds bytes at) (not (among taken (key_id_at bytes at))) g)

pub not_taken : (bytes taken : List ℕ) (at : ℕ) → good_at taken bytes at ≡ true → among taken (key_id_at bytes at) ≡ false
not_taken bytes taken at g =
    not-true (among taken (key_id_at bytes at)) (and_right (layout_holds bytes at) (not (among taken (key_id_at bytes at))) g)

pub good-at : (bytes taken : List ℕ) (at : ℕ) → Holds bytes at → among taken (key_id_at bytes at) ≡ false → good_at taken bytes at ≡ true
good-at bytes taken at h new = rw (good_layout bytes at h, new)

-- a fault is refused
pub refused-for : {A : Type 0} (at end fault : ℕ) (result : Result A Refusal) → (fault ≡ 0 → ⊥) → unless_fault at end fault result ≡ Err (refused_for at end fault)
refused-for at end zero result h = absurd (h refl)
refused-for at end (suc n) result h = refl

-- a reason is a fault, and where there is none there is no fault
pub is_fault : (reason : Reason) → number_of reason ≡ 0 → ⊥
is_fault Reason.TooShort e = omega (arith, e)
is_fault _ e = omega (arith, e)

-- where there is no fault, one more may come
pub some_more : (more : ℕ) (taken bytes : List ℕ) (at : ℕ) → fault_of more taken bytes at ≡ 0
    → (fewer : ℕ) × (more ≡ suc fewer) × (fault_of (suc fewer) taken bytes at ≡ 0)
some_more zero taken bytes at e = absurd (omega (arith, e, fault_too_many zero taken bytes at refl))
some_more (suc fewer) taken bytes at e = (fewer, refl, e)

-- and where the key length is 0 the configuration is skipped, else it is good
module _ (taken bytes : List ℕ) (at more : ℕ) (none : fault_of (suc more) taken bytes at ≡ 0) where
  pub skipped_by_key : public_key_length (kem_at bytes at) ≡ 0 → is_skipped bytes at ≡ true
  skipped_by_key key =
      either (is_skipped bytes at) (λ k. k)
      (λ k. absurd (omega (arith, key, size_bounds.key_is_there (kem_at bytes at) (no_fault more taken bytes at none k).0.kem)))

  pub good_by_key : (public_key_length (kem_at bytes at) ≡ 0 → ⊥) → good_at taken bytes at ≡ true
  good_by_key key =
      let unskipped =
      either (is_skipped bytes at)
      (λ k. absurd (key (size_bounds.no_key_unknown (kem_at bytes at) (not-true (known_kem (kem_at bytes at)) (skipped bytes at k).kem)))) (λ k. k) in
      let (h, new) = no_fault more taken bytes at none unskipped in
      good-at bytes taken at h new

module _ (more : ℕ) (taken bytes : List ℕ) (at : ℕ) where
  pub parse_end : length bytes ≤ at → parse_from more taken bytes at ≡ Ok []
  unfolding parse_from
  parse_end h = elim more as (λ k. parse_from k taken bytes at ≡ Ok []) [ zero ↦ rw (le-leb (length bytes) at h) | suc n ↦ rw (le-leb (length bytes) at h) ]

  pub parse_fault : at < length bytes → (fault_of more taken bytes at ≡ 0 → ⊥) → parse_from more taken bytes at ≡ Err (refused_for at (key_end bytes at) (fault_of more taken bytes at))
  unfolding parse_from
  parse_fault h =
      elim more as (λ k. (fault_of k taken bytes at ≡ 0 → ⊥) → parse_from k taken bytes at ≡ Err (refused_for at (key_end bytes at) (fault_of k taken bytes at))) [
        | zero ↦ λ e. rw (lt-leb (length bytes) at h)
        | suc n ↦ λ e. rw (lt-leb (length bytes) at h) (refused-for at (key_end bytes at) (fault_of (suc n) taken bytes at) _ e)
      ]

  pub parse_too_many : at < length bytes → more ≡ 0 → parse_from more taken bytes at ≡ Err (refused_for at (key_end bytes at) (fault_of more taken bytes at))
  parse_too_many h e = parse_fault h (λ z. omega (arith, z, fault_too_many more taken bytes at e))

  -- one that is neither skipped nor good has a fault
  faulty : (n : ℕ) → fault_of (suc n) taken bytes at ≡ 0 → is_skipped bytes at ≡ false → good_at taken bytes at ≡ false → ⊥
  faulty n z k e = let (h, new) = no_fault n taken bytes at z k in true_or_false (good-at bytes taken at h new) e

  pub parse_bad : at < length bytes → is_skipped bytes at ≡ false → good_at taken bytes at ≡ false
      → parse_from more taken bytes at ≡ Err (refused_for at (key_end bytes at) (fault_of more taken bytes at))
  unfolding parse_from
  parse_bad h k =
      elim more as (λ m. good_at taken bytes at ≡ false → parse_from m taken bytes at ≡ Err (refused_for at (key_end bytes at) (fault_of m taken bytes at))) [
        | zero ↦ λ e. rw (lt-leb (length bytes) at h)
        | suc n ↦ λ e. rw (lt-leb (length bytes) at h) (refused-for at (key_end bytes at) (fault_of (suc n) taken bytes at) _ (λ z. faulty n z k e))
      ]

  pub parse_skip : is_skipped bytes at ≡ true → parse_from (suc more) taken bytes at ≡ parse_from more taken bytes (next_start bytes at)
  unfolding parse_from
  parse_skip k =
      rw (lt-leb (length bytes) at (omega (arith, (skipped bytes at k).whole)), skipped_no_fault more taken bytes at k, k)

  pub parse_more : good_at taken bytes at ≡ true
      → parse_from (suc more) taken bytes at
      ≡ followed_by (configuration_at bytes at) (parse_from more (taken ++ key_id_at bytes at ∷ []) bytes (next_start bytes at))
  unfolding parse_from
  parse_more e =
      let is = holding bytes taken at e in
      rw (lt-leb (length bytes) at (omega (arith, is.whole)), held_no_fault more taken bytes at is (not_taken bytes taken at e), held_not_skipped bytes at is)

pub parse_some : (bytes : List ℕ) → 0 < length bytes → parse bytes ≡ parse_from most_configurations [] bytes 0
unfolding parse
parse_some [] h = absurd (omega arith)
parse_some (b ∷ bytes) h = refl

pub parse_none : (bytes : List ℕ) → length bytes ≡ 0 → parse bytes ≡ Err (refused_at 18 0)
unfolding parse
parse_none [] h = refl
parse_none (b ∷ bytes) h = absurd (omega arith)

-- a good outcome behind a first configuration is that configuration and a good outcome
pub followed : (c : Configuration) (p : Result (List Configuration) Refusal) (cs : List Configuration) → followed_by c p ≡ Ok cs
    → (rest : List Configuration) × (p ≡ Ok rest) × (cs ≡ c ∷ rest)
followed c (Ok rest) cs e = (rest, refl, cc)
followed c (Err r) cs e = no_refusal e

-- what is left of the configurations of a good list from an offset on, by induction: none at the end; behind one that is skipped the same;
-- and one that is read in front of what is left behind it
module _ (bytes : List ℕ) (P : ℕ → List ℕ → ℕ → List Configuration → Type 0)
    (at-end : (more : ℕ) (taken : List ℕ) (at : ℕ) → length bytes ≤ at → P more taken at [])
    (at_skipped : (more : ℕ) (taken : List ℕ) (at : ℕ) (cs : List Configuration) → is_skipped bytes at ≡ true
    → parse_from more taken bytes (next_start bytes at) ≡ Ok cs → P more taken (next_start bytes at) cs → P (suc more) taken at cs)
    (at_read : (more : ℕ) (taken : List ℕ) (at : ℕ) (cs : List Configuration) → good_at taken bytes at ≡ true
    → parse_from more (taken ++ key_id_at bytes at ∷ []) bytes (next_start bytes at) ≡ Ok cs
    → P more (taken ++ key_id_at bytes at ∷ []) (next_start bytes at) cs → P (suc more) taken at (configuration_at bytes at ∷ cs)) where
  none_left : (more : ℕ) (taken : List ℕ) (at : ℕ) (cs : List Configuration) → length bytes ≤ at → parse_from more taken bytes at ≡ Ok cs
      → P more taken at cs
  none_left more taken at cs h e =
      let none : [] ≡ cs = cc (sym (parse_end more taken bytes at h) ∙ e) in
      rw (← none) (at-end more taken at h)

  pub by_reading : (more : ℕ) (taken : List ℕ) (at : ℕ) (cs : List Configuration) → parse_from more taken bytes at ≡ Ok cs
      → P more taken at cs
  by_reading zero taken at cs e =
      either (ltb at (length bytes))
      (λ h. no_refusal (sym (parse_too_many zero taken bytes at (ltb-true at (length bytes) h) refl) ∙ e))
      (λ h. none_left zero taken at cs (ltb-false at (length bytes) h) e)
  by_reading (suc more) taken at cs e =
      either (ltb at (length bytes))
      (λ h.
      either (is_skipped bytes at)
      (λ k.
      let behind = sym (parse_skip more taken bytes at k) ∙ e in
      at_skipped more taken at cs k behind (by_reading more taken (next_start bytes at) cs behind))
      (λ k.
      either (good_at taken bytes at)
      (λ g.
      let ids = taken ++ key_id_at bytes at ∷ [] in
      let (rest, behind, whole) = followed (configuration_at bytes at) (parse_from more ids bytes (next_start bytes at)) cs (sym (parse_more more taken bytes at g) ∙ e) in
      rw whole (at_read more taken at rest g behind (by_reading more ids (next_start bytes at) rest behind)))
      (λ g. no_refusal (sym (parse_bad (suc more) taken bytes at (ltb-true at (length bytes) h) k g) ∙ e))))
      (λ h. none_left (suc more) taken at cs (ltb-false at (length bytes) h) e)

-- what check answers, where so many were read and skipped before, of what is read and how many are skipped behind
unfoldable pub counted : ℕ → ℕ → Result (List Configuration) Refusal → ℕ → Result Counts Refusal
counted read skips (Ok cs) more = Ok (counts (read + length cs) (skips + more))
counted read skips (Err r) more = Err r

pub counted_none : (p : Result (List Configuration) Refusal) (more : ℕ) → checked_from p more ≡ counted 0 0 p more
unfolding counted
counted_none (Ok cs) more =
    let same : 0 + length cs ≡ length cs = omega arith in
    let skips : 0 + more ≡ more = omega arith in
    rw (same, skips)
counted_none (Err r) more = refl

pub counted_read : (read skips more : ℕ) (c : Configuration) (p : Result (List Configuration) Refusal)
    → counted read skips (followed_by c p) more ≡ counted (read + 1) skips p more
unfolding counted
counted_read read skips more c (Ok cs) = ap (λ n. Ok (counts n (skips + more))) (omega arith)
counted_read read skips more c (Err r) = refl

pub counted_skip : (read skips more : ℕ) (p : Result (List Configuration) Refusal) → counted read skips p (suc more) ≡ counted read (skips + 1) p more
unfolding counted
counted_skip read skips more (Ok cs) = ap (λ n. Ok (counts (read + length cs) n)) (omega arith)
counted_skip read skips more (Err r) = refl

-- how many are skipped from an offset on
abbrev pub skips_from : ℕ → List ℕ → ℕ → ℕ
skips_from more bytes at = length (filtered (is_skipped bytes) (starts_from more bytes at))

module _ (more : ℕ) (bytes : List ℕ) (at : ℕ) where
  pub skips_end : length bytes ≤ at → skips_from more bytes at ≡ 0
  unfolding starts_from filtered
  skips_end h = elim more as (λ k. skips_from k bytes at ≡ 0) [ zero ↦ refl | suc n ↦ rw (le-leb (length bytes) at h) ]

  pub skips_one : is_skipped bytes at ≡ true → skips_from (suc more) bytes at ≡ suc (skips_from more bytes (next_start bytes at))
  unfolding starts_from filtered
  skips_one k = rw (lt-leb (length bytes) at (omega (arith, (skipped bytes at k).whole)), k)

  pub skips_none : at < length bytes → is_skipped bytes at ≡ false → skips_from (suc more) bytes at ≡ skips_from more bytes (next_start bytes at)
  unfolding starts_from filtered
  skips_none h k = rw (lt-leb (length bytes) at h, k)
