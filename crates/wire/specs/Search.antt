-- The elements of a list that pass a test, the first of them, and its place.
use Rattle.std.specs.Prelude.{ℕ, suc, ◌+◌, Bool, true, false, List, [], ◌∷◌, eqb, drop}
use Rattle.std.proofs.Math.Option.{Option, none, some}
use Rattle.std.specs.List.{list_any}
use Rattle.wire.specs.Tests.{pick}

-- the place of the first element that passes; the list's length where none does
unfoldable pub first_place : {A : Type 0} → (A → Bool) → List A → ℕ
first_place test [] = 0
first_place test (x ∷ xs) = pick (test x) 0 (suc (first_place test xs))

-- from an offset on, the place of the first element that passes; the end where none does
abbrev pub first_from : {A : Type 0} → (A → Bool) → List A → ℕ → ℕ
first_from test xs from = from + first_place test (drop from xs)

-- the elements that pass, in their order
unfoldable pub filtered : {A : Type 0} → (A → Bool) → List A → List A
filtered test [] = []
filtered test (x ∷ xs) = pick (test x) (x ∷ filtered test xs) (filtered test xs)

-- the number is in the list
abbrev pub among : List ℕ → ℕ → Bool
among numbers number = list_any (λ n. eqb n number) numbers

-- the first element that passes, if there is one
unfoldable pub find : {A : Type 0} → (A → Bool) → List A → Option A
find test [] = none
find test (x ∷ xs) = pick (test x) (some x) (find test xs)

-- there is none
abbrev pub is_none : {A : Type 0} → Option A → Bool
is_none none = true
is_none (some x) = false

-- there is one, and it passes
abbrev pub is_some_and : {A : Type 0} → (A → Bool) → Option A → Bool
is_some_and test none = false
is_some_and test (some x) = test x
