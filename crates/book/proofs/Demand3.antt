-- Demand 3 from its two halves: the gateway does as the book does (`Refinement`), and on the book the kept calls can be moved.
-- Assumes nothing.
use Prim.Native.Nat.{ℕ}
use mathlib.Core.List.{List}
use Rattle.gateway.specs.Calls.{Call}
use Rattle.book.specs.Demand3.{Refinement, Demand3, Demand3Holds}
use Rattle.book.proofs.Refinement.{refinement_holds}
use Rattle.book.proofs.Moving.{Moved, book_moved}

of_halves : (list : List ℕ) (cap : ℕ) (calls : List Call) → Refinement list cap calls → Moved list cap calls → Demand3 list cap calls
of_halves list cap calls same book_stepped =
    record {
      rearranged = rw same.same_answers book_stepped.rearranged;
      same_answers = rw same.same_answers book_stepped.same_answers;
      same_registry = rw (same.same_answers, book_stepped.same_book) same.same_registry;
      same_pending = rw (same.same_answers, book_stepped.same_book) same.same_pending;
    }

pub demand3_holds : Demand3Holds
demand3_holds list cap calls = of_halves list cap calls (refinement_holds list cap calls) (book_moved list cap calls)
