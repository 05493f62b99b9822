-- A call on the book by its refusal number: what it gives where it is accepted, and that the book stays where it is not.
-- Assumes nothing.
use Prim.Native.Nat.{ℕ, ◌+◌}
use mathlib.Core.Path.{◌≡◌, refl, sym}
use mathlib.Core.Bool.{Bool, true, false}
use mathlib.Core.List.{[]}
use borrow.Author.Tests.{eqb-false}
use lib.Dec.{eqb}
use lib.ListN.{length}
use Rattle.wire.specs.Tests.{◌and◌}
use Rattle.wire.specs.Refusals.{result_by, unless_refused, written}
use Rattle.wire.proofs.Booleans.{and_false}
use Rattle.wire.proofs.Numbers.{unless-refused}
use Rattle.request.specs.Request.{info_of}
use Rattle.exchange.specs.Exchange.{exchange_of}
use Rattle.exchange.specs.Steps.{answer, buffer}
use Rattle.gateway.specs.Registry.{admit_answer, report}
use Rattle.gateway.specs.Calls.{Call, admit, retire, on_ticket, reporting, of_admit, of_retire, of_step, of_report, Done}
use Rattle.book.specs.Book.{Book, book_stepped, book_does, book_admitted, book_retired, book_admit_number, book_retire_number, book_step_number}
use Rattle.book.specs.History.{event, is_accepted}
use Rattle.book.specs.Demand3.{is_kept}
use Rattle.book.proofs.Numbers.{admit-number, retire-number, step-number}

-- the refusal number of a call; a report, which is struck out as refused calls are, has one too
abbrev pub number_of : Book → Call → ℕ
number_of b (admit request info) = book_admit_number request info b
number_of b (retire id) = book_retire_number id b
number_of b (on_ticket ticket step) = book_step_number ticket step b
number_of b reporting = 1

-- what an accepted call gives
abbrev pub given : Book → Call → Done Book
given b (admit request info) =
    record {
      answer = of_admit (admit_answer 0 (b.registry.last_ticket + 1) request);
      buffer = written 0 (info_of request) info;
      state = book_admitted request b;
    }
given b (retire id) = record { answer = of_retire (result_by 0 tt); buffer = []; state = book_retired id b }
given b (on_ticket ticket step) =
    record {
      answer = of_step (answer step (exchange_of ticket b.pending));
      buffer = buffer step (exchange_of ticket b.pending);
      state = book_stepped ticket step b;
    }
given b reporting = record { answer = of_report (report b.registry (length b.pending)); buffer = []; state = b }

-- and gives it, where its number is 0
pub does_given : (b : Book) (call : Call) → number_of b call ≡ 0 → book_does b call ≡ given b call
unfolding book_does
does_given b (admit request info) e = rw e
does_given b (retire id) e = rw e
does_given b (on_ticket ticket step) e = rw e
does_given b reporting e = refl

-- a test and one that holds
and_true : (a : Bool) → (a and true) ≡ a
and_true true = refl
and_true false = refl

-- a call is kept where its number is 0
pub kept_number : (b : Book) (call : Call) → is_kept (event call (book_does b call)) ≡ eqb (number_of b call) 0
unfolding book_does
kept_number b (admit request info) = rw admit-number (and_true (eqb (book_admit_number request info b) 0))
kept_number b (retire id) = rw retire-number (and_true (eqb (book_retire_number id b) 0))
kept_number b (on_ticket ticket step) = rw step-number (and_true (eqb (book_step_number ticket step b) 0))
kept_number b reporting = and_false (is_accepted (event reporting (book_does b reporting))) false refl

-- what stays by a number other than 0
stays : (n : ℕ) (after before : Book) → eqb n 0 ≡ false → unless_refused n after before ≡ before
stays n after before e = sym (unless-refused n after before (eqb-false n 0 e))

-- and where its number is another, the book stays
pub refused_stays : (b : Book) (call : Call) → eqb (number_of b call) 0 ≡ false → (book_does b call).state ≡ b
unfolding book_does
refused_stays b (admit request info) e = stays (book_admit_number request info b) (book_admitted request b) b e
refused_stays b (retire id) e = stays (book_retire_number id b) (book_retired id b) b e
refused_stays b (on_ticket ticket step) e = stays (book_step_number ticket step b) (book_stepped ticket step b) b e
refused_stays b reporting e = refl
