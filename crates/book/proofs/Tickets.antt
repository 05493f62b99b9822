-- What holds of the exchange of a given ticket, and is kept by the calls on it, holds after every list of calls: no other call
-- changes the exchange, and the ticket is not given again.
-- Assumes nothing.
use Prim.Native.Nat.{ℕ, ◌+◌, ◌≤◌}
use mathlib.Core.Path.{◌≡◌}
use mathlib.Core.List.{List, [], ◌∷◌}
use native.Mathlib.Omega.{arith}
use borrow.Author.Tests.{eqb-true, eqb-false}
use lib.Dec.{eqb}
use Rattle.wire.specs.Search.{first_place}
use Rattle.wire.proofs.Booleans.{either}
use Rattle.exchange.specs.declared.Exchange.{Exchange}
use Rattle.request.specs.Request.{fields_of}
use Rattle.exchange.specs.Exchange.{free, is_free, has_ticket, exchange_of, asked}
use Rattle.exchange.specs.Steps.{Step, refusal, next}
use Rattle.gateway.specs.Calls.{Call, admit, retire, on_ticket, reporting}
use Rattle.book.specs.Book.{Book, replaced, book_does, book_admit_number, book_retire_number, book_step_number}
use Rattle.book.specs.History.{final}
use Rattle.book.proofs.Accepting.{unless_kept}
use Rattle.book.proofs.Pending.{asked_other, next_other, exchange_behind, exchange_beside}

-- the ticket was given, and its exchange has the property
pub record GivenHas (P : Exchange → Type 0) (ticket : ℕ) (b : Book) : Type 0 where
  pub given : ticket ≤ b.registry.last_ticket
  pub found : P (exchange_of ticket b.pending)

-- a property that a free place has
module _ (P : Exchange → Type 0) (none : P free) where
  -- where an exchange is replaced, the new one is found, or none
  pub replaced_found : (ticket : ℕ) (new : Exchange) (es : List Exchange) → P new → P (exchange_of ticket (replaced ticket new es))
  unfolding replaced first_place
  replaced_found ticket new [] p = none
  replaced_found ticket new (e ∷ es) p =
      let rest = replaced_found ticket new es p in
      either (has_ticket ticket e)
      (λ t. either (is_free new)
      (λ f. rw (t, f) rest)
      (λ f. either (has_ticket ticket new) (λ u. rw (t, f) (rw u p)) (λ u. rw (t, f) (rw u rest))))
      (λ t. rw (t, t) rest)

  -- and that accepted calls on an exchange keep
  module _ (kept : (step : Step) (e : Exchange) → refusal step e ≡ 0 → P e → P (next step e)) (ticket : ℕ) where
    -- is kept by every call
    has_kept : (b : Book) (call : Call) → GivenHas P ticket b → GivenHas P ticket (book_does b call).state
    unfolding book_does
    has_kept b (admit request info) h =
        let new = b.registry.last_ticket + 1 in
        let other = asked_other ticket new (fields_of request) (omega (arith, h.given)) in
        unless_kept (GivenHas P ticket) (book_admit_number request info b)
        (λ e. record {
          given = omega (arith, h.given);
          found = rw (exchange_behind ticket (asked new (fields_of request)) other b.pending) h.found;
        }) h
    has_kept b (retire id) h =
        unless_kept (GivenHas P ticket) (book_retire_number id b) (λ e. record { given = h.given; found = h.found }) h
    has_kept b (on_ticket other step) h =
        let found = exchange_of other b.pending in
        unless_kept (GivenHas P ticket) (book_step_number other step b)
        (λ e. record {
          given = h.given;
          found =
              either (eqb ticket other)
              (λ same.
              let equal = eqb-true ticket other same in
              rw equal (replaced_found other (next step found) b.pending (kept step found e (rw (← equal) h.found))))
              (λ differ.
              let apart = eqb-false ticket other differ in
              rw (exchange_beside ticket other apart (next step found) (next_other ticket other step b.pending apart) b.pending)
              h.found);
        }) h
    has_kept b reporting h = h

    -- and by every list of calls
    pub has_after : (b : Book) (calls : List Call) → GivenHas P ticket b → GivenHas P ticket (final book_does b calls)
    unfolding final
    has_after b [] h = h
    has_after b (call ∷ calls) h = has_after (book_does b call).state calls (has_kept b call h)
