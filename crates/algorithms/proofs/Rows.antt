-- A fact about every row, shown once: a test that antt computes over the table, carried to whatever a lookup gives.
-- Assumes nothing.
use Rattle.std.proofs.Common.{◌≡◌, ℕ, Bool, true, List, [], ◌∷◌, find, IfSome}
use Rattle.wire.specs.Tests.{◌and◌}
use Rattle.wire.proofs.Booleans.{either, and_left, and_right}
use Rattle.algorithms.specs.declared.Kind.{Kind}
use Rattle.algorithms.specs.declared.Row.{Row}
use Rattle.algorithms.specs.Table.{table, row_of, is_row}

abbrev pub every : (Row → Bool) → List Row → Bool
every test [] = true
every test (row ∷ rows) = test row and every test rows

-- what passes at every row passes at the row that a lookup by any test finds, and that row passes the lookup's
pub at_found : (test sought : Row → Bool) (rows : List Row) → every test rows ≡ true
    → IfSome (find sought rows) (λ row. (test row ≡ true) × (sought row ≡ true))
at_found test sought [] t = tt
at_found test sought (row ∷ rows) t =
    either (sought row)
    (λ is. rw is (and_left (test row) (every test rows) t, is))
    (λ is. rw is (at_found test sought rows (and_right (test row) (every test rows) t)))

-- what passes at every row of the table passes at every row that is looked up, and that is the row of the kind and the number
pub of_row : (test : Row → Bool) → every test table ≡ true → (kind : Kind) (number : ℕ)
    → IfSome (row_of kind number) (λ row. (test row ≡ true) × (is_row kind number row ≡ true))
unfolding row_of
of_row test t kind number = at_found test (is_row kind number) table t
