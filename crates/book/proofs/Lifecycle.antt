-- Over every history: one exchange has a ticket, once opened nothing of it goes out unprotected, once closed it is never pending
-- again.
-- Assumes nothing.
use Prim.Native.Nat.{ℕ, zero, suc, ◌≤◌, ◌<◌}
use mathlib.Core.Bool.{true, false}
use mathlib.Core.Path.{◌≡◌, refl, sym, ap, ◌∙◌}
use mathlib.Core.List.{List, [], ◌∷◌, ◌++◌}
use native.Mathlib.Omega.{arith}
use borrow.Author.Tests.{leb-true, leb-false, ltb-true, ltb-false}
use lib.Dec.{leb, ltb}
use lib.ListN.{length, get_or, set, get_or-eq_default}
use Rattle.wire.specs.Search.{first_place, filtered}
use Rattle.wire.proofs.Booleans.{either, true_or_false}
use Rattle.exchange.specs.declared.Exchange.{Exchange}
use Rattle.exchange.specs.Exchange.{free, is_free, is_asked, has_ticket, exchange_of}
use Rattle.exchange.specs.Steps.{Step, refusal, next, closes}
use Rattle.exchange.proofs.Moves.{next_not_asked, closed_free}
use Rattle.exchange.proofs.Steps.{accepted_pending, free_refuses, not_asked_silent}
use Rattle.gateway.specs.declared.Gateway.{Gateway}
use Rattle.gateway.specs.declared.table.Engine.{Engine}
use Rattle.gateway.specs.Engines.{pending_with}
use Rattle.gateway.specs.Gateway.{fresh_gateway, gateway_does}
use Rattle.gateway.specs.Calls.{Call, on_ticket, number, unprotected_status}
use Rattle.book.specs.Book.{Book, fresh_book, book_does, book_step_number}
use Rattle.book.specs.History.{final, gateway_after, Accepts}
use Rattle.book.specs.Demand3.{book_after}
use Rattle.book.specs.Lifecycle.{LifecycleHolds}
use Rattle.book.specs.Storage.{place_after, ClosedPlaceIsFree}
use Rattle.book.proofs.Passing.{passing, passing_permuted}
use Rattle.book.proofs.Table.{holding, holding_pending}
use Rattle.book.proofs.Numbers.{step-number}
use Rattle.book.proofs.Sound.{Sound}
use Rattle.book.proofs.Refining.{Alike, found_told}
use Rattle.book.proofs.Refinement.{final_append, alike_end}
use Rattle.book.proofs.Tickets.{GivenHas, replaced_found, has_after}

-- the number of exchanges that have a ticket, in a table and in a set that is alike
holders_counted : (ticket : ℕ) (es : List Exchange) → length (filtered (has_ticket ticket) es) ≡ holding ticket es
unfolding filtered passing
holders_counted ticket [] = refl
holders_counted ticket (e ∷ es) =
    either (has_ticket ticket e) (λ t. rw (t, holders_counted ticket es)) (λ t. rw t (holders_counted ticket es))

holding_told : (ticket : ℕ) (g : Gateway) (b : Book) → Alike g b → length (filtered (has_ticket ticket) g.table) ≡ holding ticket b.pending
holding_told ticket g b r =
    holders_counted ticket g.table
    ∙ sym (holding_pending ticket g.table)
    ∙ passing_permuted (has_ticket ticket) r.pending

-- a list of length 0
none_there : {A : Type 0} (xs : List A) → length xs ≡ 0 → xs ≡ []
none_there [] e = refl
none_there (x ∷ xs) e = absurd (omega (arith, e))

-- where none has the ticket, none is found
none_found : (ticket : ℕ) (es : List Exchange) → holding ticket es ≡ 0 → exchange_of ticket es ≡ free
unfolding first_place passing
none_found ticket [] h = refl
none_found ticket (e ∷ es) h =
    either (has_ticket ticket e)
    (λ t. absurd (omega (arith, rw t at h)))
    (λ t. rw t (none_found ticket es (rw t at h)))

-- a call on a ticket is accepted only where the ticket was given
accepted_given : (ticket : ℕ) (step : Step) (b : Book) → Sound b → book_step_number ticket step b ≡ 0 → ticket ≤ b.registry.last_ticket
accepted_given ticket step b s e =
    either (leb ticket b.registry.last_ticket)
    (leb-true ticket b.registry.last_ticket)
    (λ l.
    let none = none_found ticket b.pending (s.given ticket (leb-false ticket b.registry.last_ticket l)) in
    absurd (true_or_false (rw none) (accepted_pending step (exchange_of ticket b.pending) e)))

-- a place that is made free
place_freed : (es : List Exchange) (place : ℕ) → get_or (set es place free) place free ≡ free
place_freed [] place = refl
place_freed (e ∷ es) zero = refl
place_freed (e ∷ es) (suc place) = place_freed es place

-- the number of an answer to a call on a ticket
pub step_told : (g : Gateway) (ticket : ℕ) (step : Step)
    → number (gateway_does Engine.Fast g (on_ticket ticket step)).answer ≡ refusal step (pending_with Engine.Fast ticket g.table)
unfolding gateway_does
step_told g ticket step = step-number step (pending_with Engine.Fast ticket g.table)

-- a call on a ticket that the gateway accepts
module _ (list : List ℕ) (cap : ℕ) (calls : List Call) (ticket : ℕ) (step : Step) (accepted : Accepts list cap calls (on_ticket ticket step)) where
  -- is accepted by the book
  book_accepts : book_step_number ticket step (book_after list cap calls) ≡ 0
  book_accepts =
      rw (← found_told Engine.Fast ticket _ _ (alike_end list cap calls)) (sym (step_told (gateway_after list cap calls) ticket step) ∙ accepted)

  -- where what it leaves has a property that lasts, what later calls find has it
  left_lasts : (P : Exchange → Type 0) → P free → ((later : Step) (e : Exchange) → refusal later e ≡ 0 → P e → P (next later e))
      → P (next step (exchange_of ticket (book_after list cap calls).pending)) → (between : List Call)
      → P (pending_with Engine.Fast ticket (gateway_after list cap (calls ++ on_ticket ticket step ∷ between)).table)
  unfolding final book_does
  left_lasts P none kept left between =
      let b = book_after list cap calls in
      let start : GivenHas P ticket (book_does b (on_ticket ticket step)).state =
      rw book_accepts (record {
        given = accepted_given ticket step b (alike_end list cap calls).sound book_accepts;
        found = replaced_found P none ticket (next step (exchange_of ticket b.pending)) b.pending left;
      }) in
      rw (
        found_told Engine.Fast ticket _ _ (alike_end list cap (calls ++ on_ticket ticket step ∷ between)),
        final_append book_does (fresh_book list cap) calls (on_ticket ticket step ∷ between),
      ) (has_after P none kept ticket (book_does b (on_ticket ticket step)).state between start).found

  -- where it closes, later calls find none
  closed_lasts : closes step.kind ≡ true → (between : List Call)
      → is_free (pending_with Engine.Fast ticket (gateway_after list cap (calls ++ on_ticket ticket step ∷ between)).table) ≡ true
  closed_lasts closing =
      left_lasts (λ e. is_free e ≡ true) refl
      (λ later e z f. absurd (true_or_false f (accepted_pending later e z)))
      (rw (closed_free step.kind (exchange_of ticket (book_after list cap calls).pending) closing))

  -- the exchange stands in the table
  place_inside : place_after list cap calls ticket < length (gateway_after list cap calls).table
  place_inside =
      let table = (gateway_after list cap calls).table in
      let place = place_after list cap calls ticket in
      let found = accepted_pending step (pending_with Engine.Fast ticket table) (sym (step_told (gateway_after list cap calls) ticket step) ∙ accepted) in
      either (ltb place (length table)) (λ l. ltb-true place (length table) l)
      (λ l. absurd (true_or_false (ap is_free (get_or-eq_default table free (ltb-false place (length table) l))) found))

  -- and the place where the exchange stood is free
  place_free : closes step.kind ≡ true
      → get_or (gateway_after list cap (calls ++ on_ticket ticket step ∷ [])).table
      (place_after list cap calls ticket) free
      ≡ free
  unfolding final gateway_does
  place_free closing =
      let g = gateway_after list cap calls in
      let e = pending_with Engine.Fast ticket g.table in
      rw (final_append (gateway_does Engine.Fast) (fresh_gateway list cap) calls (on_ticket ticket step ∷ []), sym (step_told g ticket step) ∙ accepted, closed_free step.kind e closing)
      (place_freed g.table (place_after list cap calls ticket))

pub lifecycle_holds : LifecycleHolds
unfolding gateway_does unprotected_status
lifecycle_holds list cap calls ticket =
    let end = alike_end list cap calls in
    let told = holding_told ticket (gateway_after list cap calls) (book_after list cap calls) end in
    record {
      one_holder = rw told (end.sound.once ticket);
      given = λ later. none_there _ (told ∙ end.sound.given ticket (rw (← end.registry) later));
      after_opening = λ opening n between step opens accepted.
          not_asked_silent step _
          (left_lasts list cap calls ticket opening accepted (λ e. is_asked e ≡ false) refl
          (λ later e z a. next_not_asked later.kind e) (next_not_asked opening.kind _) between);
      after_closing = λ step between later closing accepted.
          step-number later _ ∙ free_refuses later _ (closed_lasts list cap calls ticket step accepted closing between);
    }

pub closed_place_is_free : ClosedPlaceIsFree
closed_place_is_free list cap calls ticket step accepted =
    record {
      inside = place_inside list cap calls ticket step accepted;
      left_free = place_free list cap calls ticket step accepted;
    }
