-- Laws of the first match: what a loop that passed over the elements before it has shown.
-- Assumes nothing.
use mathlib.Core.Path.{◌≡◌, refl, ap}
use mathlib.Core.Bool.{Bool, true, false, not, ◌||◌}
use mathlib.Core.List.{List, [], ◌∷◌}
use mathlib.Core.Option.{none as nothing, some}
use Prim.Native.Nat.{ℕ, zero, suc, ◌+◌, ◌-◌, ◌≤◌, ◌<◌, suc-le-suc}
use native.Mathlib.Nat.{add-zero, not-suc-le-zero, le_of_suc-le-suc}
use native.Mathlib.Omega.{arith}
use borrow.Author.Tests.{eq-eqb, ne_eqb, le-leb, lt-leb, ltb-true, ltb-false}
use lib.Dec.{eqb, leb, ltb}
use lib.ListN.{length, get_or, drop, drop_of_length-le}
use lib.Seq.{drop-cons}
use Rattle.std.specs.List.{list_any}
use Rattle.wire.proofs.Booleans.{either, true_or_false}
use Rattle.wire.specs.Search.{first_from, first_place, among, find}

later : (b : Bool) {rest : Bool} → rest ≡ true → (b || rest) ≡ true
later true e = refl
later false e = e

module _ {A : Type 0} (default : A) (test : A → Bool) where
  -- the element at k passes and none before it does
  pub first_at : (xs : List A) (k : ℕ) → k < length xs → ((j : ℕ) → j < k → test (get_or xs j default) ≡ false)
      → test (get_or xs k default) ≡ true → first_place test xs ≡ k
  unfolding first_place
  first_at [] k h none here = absurd (not-suc-le-zero h)
  first_at (x ∷ xs) zero h none here = rw here
  first_at (x ∷ xs) (suc k) h none here =
      rw (none 0 (omega arith))
      (ap suc (first_at xs k (le_of_suc-le-suc h) (λ j l. none (suc j) (suc-le-suc l)) here))

  -- none passes
  pub first_none : (xs : List A) → ((j : ℕ) → j < length xs → test (get_or xs j default) ≡ false) → first_place test xs ≡ length xs
  unfolding first_place
  first_none [] none = refl
  first_none (x ∷ xs) none =
      rw (none 0 (omega arith)) (ap suc (first_none xs (λ j l. none (suc j) (suc-le-suc l))))

  -- the first match passes, where there is one
  pub first_passes : (xs : List A) → first_place test xs < length xs → test (get_or xs (first_place test xs) default) ≡ true
  unfolding first_place
  first_passes [] h = absurd (not-suc-le-zero h)
  first_passes (x ∷ xs) h =
      either (test x) (λ e. rw e e) (λ e. rw e (first_passes xs (le_of_suc-le-suc (rw e at h))))

  -- none before it does
  pub before_first : (xs : List A) (j : ℕ) → j < first_place test xs → test (get_or xs j default) ≡ false
  unfolding first_place
  before_first [] j h = absurd (not-suc-le-zero h)
  before_first (x ∷ xs) zero h = either (test x) (λ t. absurd (let z : 0 < 0 = rw t at h in omega arith)) (λ t. t)
  before_first (x ∷ xs) (suc j) h =
      either (test x)
      (λ t. absurd (let z : suc j < 0 = rw t at h in omega arith))
      (λ t. before_first xs j (le_of_suc-le-suc (rw t at h)))

  -- the first match from an offset on: here, further on, and none
  pub from_here : (xs : List A) (at : ℕ) → at < length xs → test (get_or xs at default) ≡ true → first_from test xs at ≡ at
  unfolding first_place
  from_here xs at h here = rw (drop-cons xs at default h, here) (add-zero at)

  pub from_next : (xs : List A) (at : ℕ) → at < length xs → test (get_or xs at default) ≡ false → first_from test xs at ≡ first_from test xs (at + 1)
  unfolding first_place
  from_next xs at h passed =
      let next : drop (at + 1) xs ≡ drop (suc at) xs = ap (λ (n : ℕ). drop n xs) (let e : at + 1 ≡ suc at = omega arith in e) in
      rw (drop-cons xs at default h, passed, next) (omega arith)

  pub from_end : (xs : List A) (at : ℕ) → length xs ≤ at → first_from test xs at ≡ at
  unfolding first_place
  from_end xs at h = rw (drop_of_length-le xs h) (add-zero at)

  -- where some element passes, there is a first match
  pub any_inside : (xs : List A) → list_any test xs ≡ true → first_place test xs < length xs
  unfolding first_place
  any_inside [] e = absurd (true_or_false e refl)
  any_inside (x ∷ xs) e = either (test x) (λ h. rw h (omega arith)) (λ h. rw h (suc-le-suc (any_inside xs (rw h at e))))

  -- where some element passes, the first match does
  pub any_first : (xs : List A) → list_any test xs ≡ true → test (get_or xs (first_place test xs) default) ≡ true
  unfolding first_place
  any_first [] e = absurd (true_or_false e refl)
  any_first (x ∷ xs) e = either (test x) (λ h. rw h h) (λ h. rw h (any_first xs (rw h at e)))

  pub any_at : (xs : List A) (k : ℕ) → k < length xs → test (get_or xs k default) ≡ true → list_any test xs ≡ true
  any_at [] k h here = absurd (not-suc-le-zero h)
  any_at (x ∷ xs) zero h here = rw here
  any_at (x ∷ xs) (suc k) h here = later (test x) (any_at xs k (le_of_suc-le-suc h) here)

  pub any_none : (xs : List A) → ((j : ℕ) → j < length xs → test (get_or xs j default) ≡ false) → list_any test xs ≡ false
  any_none [] none = refl
  any_none (x ∷ xs) none = rw (none 0 (omega arith)) (any_none xs (λ j l. none (suc j) (suc-le-suc l)))

  -- the first match as an element, where there is one
  pub that_inside : (xs : List A) → first_place test xs < length xs → find test xs ≡ some (get_or xs (first_place test xs) default)
  unfolding first_place find
  that_inside [] h = absurd (not-suc-le-zero h)
  that_inside (x ∷ xs) h = either (test x) (λ e. rw e) (λ e. rw e (that_inside xs (le_of_suc-le-suc (rw e at h))))

  pub that_outside : (xs : List A) → length xs ≤ first_place test xs → find test xs ≡ nothing
  unfolding first_place find
  that_outside [] h = refl
  that_outside (x ∷ xs) h =
      either (test x) (λ e. absurd (not-suc-le-zero (rw e at h))) (λ e. rw e (that_outside xs (le_of_suc-le-suc (rw e at h))))

  -- whether some element passes is whether the first match is inside
  pub any_by_place : (xs : List A) → not (list_any test xs) ≡ leb (length xs) (first_place test xs)
  any_by_place xs =
      either (list_any test xs)
      (λ e. rw (e, lt-leb (length xs) (first_place test xs) (any_inside xs e)))
      (λ e. rw (e, le-leb (length xs) (first_place test xs) (outside xs e)))
    where
      outside : (xs : List A) → list_any test xs ≡ false → length xs ≤ first_place test xs
      outside xs e =
          either (ltb (first_place test xs) (length xs))
          (λ l. absurd (true_or_false (any_at xs (first_place test xs) (ltb-true _ _ l) (first_passes xs (ltb-true _ _ l))) e))
          (λ l. ltb-false _ _ l)

-- a number in a list of numbers
pub among_at : (xs : List ℕ) (x k : ℕ) → k < length xs → get_or xs k 0 ≡ x → among xs x ≡ true
among_at xs x k h here = any_at 0 (λ n. eqb n x) xs k h (eq-eqb (get_or xs k 0) x here)

pub among_none : (xs : List ℕ) (x k : ℕ) → length xs ≤ k → ((j : ℕ) → j < k → get_or xs j 0 ≡ x → ⊥) → among xs x ≡ false
among_none xs x k h none = any_none 0 (λ n. eqb n x) xs (λ j l. ne_eqb (get_or xs j 0) x (none j (omega arith)))

-- a loop that seeks a number in a list: its invariant, none before the place is the one sought, and its measure
abbrev pub NoneBefore : List ℕ → ℕ → ℕ → ℕ → Type 0
NoneBefore xs x at₀ at = (j : ℕ) → j < at → get_or xs j 0 ≡ x → ⊥

abbrev pub behind : List ℕ → ℕ → ℕ → ℕ → ℕ
behind xs x at₀ at = length xs - at
