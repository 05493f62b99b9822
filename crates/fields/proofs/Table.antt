-- The rule of the table of octet classes, shown at all of its entries by one test that antt computes, and carried to each by one law.
-- Assumes nothing.
use mathlib.Core.Path.{◌≡◌, sym, ap, ◌∙◌}
use mathlib.Core.Bool.{Bool, true}
use mathlib.Core.List.{List, [], ◌∷◌}
use Prim.Native.Nat.{ℕ, zero, suc, ◌+◌, ◌<◌}
use native.Mathlib.Nat.{add-zero, zero-add, not-suc-le-zero, le_of_suc-le-suc}
use native.Mathlib.Omega.{arith}
use borrow.Author.Tests.{eqb-true}
use lib.Dec.{eqb}
use lib.ListN.{length, get_or}
use Rattle.wire.specs.Tests.{◌and◌}
use Rattle.wire.proofs.Booleans.{and_left, and_right}
use Rattle.fields.specs.Octets.{class_of}

-- each entry, its place counted from the first one, has its octet's class
abbrev pub have_classes : ℕ → List ℕ → Bool
have_classes octet [] = true
have_classes octet (class ∷ classes) = eqb class (class_of octet) and have_classes (suc octet) classes

carried : (first : ℕ) (classes : List ℕ) → have_classes first classes ≡ true → (k : ℕ) → k < length classes → get_or classes k 0 ≡ class_of (first + k)
carried first [] t k h = absurd (not-suc-le-zero h)
carried first (class ∷ classes) t zero h =
    eqb-true class (class_of first) (and_left (eqb class (class_of first)) (have_classes (suc first) classes) t) ∙ ap class_of (sym (add-zero first))
carried first (class ∷ classes) t (suc k) h =
    let e : suc first + k ≡ first + suc k = omega arith in
    carried (suc first) classes (and_right (eqb class (class_of first)) (have_classes (suc first) classes) t) k (le_of_suc-le-suc h)
    ∙ ap class_of e

-- the table, of 256 entries
pub has_classes : (classes : List ℕ) → length classes ≡ 256 → have_classes 0 classes ≡ true → (octet : ℕ) → octet < 256
    → get_or classes octet 0 ≡ class_of octet
has_classes classes e t octet h = carried 0 classes t octet (omega arith) ∙ ap class_of (zero-add octet)
