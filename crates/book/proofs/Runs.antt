-- Histories of accepted calls on the book: the events happen one after the other from a book, and lead to a book.
-- Assumes nothing.
use mathlib.Core.Path.{◌≡◌, refl, sym, ap, ◌∙◌}
use mathlib.Core.List.{List, [], ◌∷◌, ◌++◌}
use borrow.Author.Tests.{eqb-true}
use Rattle.wire.proofs.Booleans.{either}
use Rattle.gateway.specs.Calls.{Call, Done}
use Rattle.book.specs.Book.{Book, book_does}
use Rattle.book.specs.History.{Event, event, trace, final}
use Rattle.wire.specs.Search.{filtered}
use Rattle.book.specs.Demand3.{is_kept, struck, calls_of}
use Rattle.book.proofs.Accepted.{number_of, given, does_given, kept_number, refused_stays}

-- the event's call is accepted, and gives what the event says
pub record Happens (b : Book) (e : Event) : Type 0 where
  pub accepted : number_of b e.call ≡ 0
  pub told : event e.call (given b e.call) ≡ e

-- the book after it
abbrev pub after : Book → Event → Book
after b e = (given b e.call).state

-- the events happen from the first book and lead to the second
abbrev pub Run : Book → List Event → Book → Type 0
Run b [] c = b ≡ c
Run b (e ∷ es) c = Happens b e × Run (after b e) es c

-- one history behind another
pub run_append : (b m c : Book) (es fs : List Event) → Run b es m → Run m fs c → Run b (es ++ fs) c
run_append b m c [] fs p r = rw p r
run_append b m c (e ∷ es) fs r s = (r.0, run_append (after b e) m c es fs r.1 s)

-- the events are what the book says to their calls
pub run_trace : (b c : Book) (es : List Event) → Run b es c → trace book_does b (calls_of es) ≡ es
unfolding trace
run_trace b c [] r = refl
run_trace b c (e ∷ es) r =
    rw (does_given b e.call r.0.accepted, r.0.told) (ap (λ (l : List Event). e ∷ l) (run_trace (after b e) c es r.1))

-- and the book at the end is the one that they lead to
pub run_final : (b c : Book) (es : List Event) → Run b es c → final book_does b (calls_of es) ≡ c
unfolding final
run_final b c [] r = r
run_final b c (e ∷ es) r =
    ap (λ (d : Done Book). final book_does d.state (calls_of es)) (does_given b e.call r.0.accepted)
    ∙ run_final (after b e) c es r.1

-- struck out calls leave the book as it is, so that the others happen without them
pub struck_run : (b : Book) (calls : List Call) → Run b (struck (trace book_does b calls)) (final book_does b calls)
unfolding trace final filtered
struck_run b [] = refl
struck_run b (call ∷ calls) =
    either
    (is_kept (event call (book_does b call)))
    (λ e.
    let accepted : number_of b call ≡ 0 = eqb-true (number_of b call) 0 (sym (kept_number b call) ∙ e) in
    rw (e, does_given b call accepted)
    ((record { accepted = accepted; told = refl }, struck_run (given b call).state calls)))
    (λ e. rw (e, refused_stays b call (sym (kept_number b call) ∙ e)) (struck_run b calls))
