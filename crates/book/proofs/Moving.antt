-- The second half of demand 3, about the book alone: the calls that are left when refused calls and reports are struck out, and each
-- call on a ticket moved up behind its admission, get the answers and bytes that they had, and lead to the same book.
-- Assumes nothing.
use Prim.Native.Nat.{ℕ, zero, suc, ◌+◌, ◌≤◌, ◌<◌}
use native.Mathlib.Nat.{not-suc-le-zero}
use mathlib.Core.Path.{◌≡◌, refl, sym, ap, ◌∙◌}
use mathlib.Core.Bool.{false, not}
use mathlib.Core.List.Permᴰ
use mathlib.Core.List.{List, [], ◌∷◌, Perm, Permᴰ}
use native.Mathlib.Omega.{arith}
use borrow.Author.Tests.{eqb-true, eqb-false, eq-eqb}
use lib.Dec.{eqb}
use lib.ListN.{length}
use Rattle.wire.specs.Search.{filtered}
use Rattle.wire.proofs.Booleans.{either, true_or_false}
use Rattle.request.specs.Request.{fields_of}
use Rattle.exchange.specs.Exchange.{is_free, exchange_of, asked}
use Rattle.exchange.specs.Steps.{Step}
use Rattle.exchange.proofs.Steps.{accepted_pending}
use Rattle.gateway.specs.Registry.{Registry}
use Rattle.gateway.specs.Calls.{Call, admit, retire, on_ticket, reporting}
use Rattle.book.specs.Book.{Book, fresh_book, book_does}
use Rattle.book.specs.History.{Event, event, trace, final, tickets_of}
use Rattle.book.specs.Demand3.{struck, is_on, with_own_calls, moved_up, calls_of}
use Rattle.book.proofs.Pending.{asked_other, exchange_behind}
use Rattle.book.proofs.Accepted.{number_of, given}
use Rattle.book.proofs.Runs.{Run, run_append, run_trace, run_final, struck_run}
use Rattle.book.proofs.Pulling.{Pulled, pull, its_calls, other_calls}
use Rattle.book.proofs.Chosen.{filtered_short, filtered_both, among_one, not_among_one, on_none, in_order, order_of_others, others_of_others, own_of_others}

-- a list of events, all of them again in another order, that leads from one book to another
record Sorted (b c : Book) (sorted events : List Event) : Type 0 where
  pub run : Run b sorted c
  pub perm : Permᴰ sorted events

-- all events, and the book at their end
module _ (all : List Event) (c : Book) where
  -- what is left of them at a book: no calls on its pending exchanges, and all calls on the tickets that are not given yet
  record Rest (b : Book) (events : List Event) : Type 0 where
    pub old : (t : ℕ) → is_free (exchange_of t b.pending) ≡ false → its_calls (t ∷ []) events ≡ []
    pub new : (t : ℕ) → b.registry.last_ticket < t → its_calls (t ∷ []) events ≡ its_calls (t ∷ []) all

  abbrev CanSort : List Event → Type 0
  CanSort events = (b : Book) → Rest b events → Run b events c → Sorted b c (with_own_calls all (in_order events)) events

  -- the first of them is what a call gives at the book
  module _ (b : Book) (events : List Event) where
    abbrev told : Call → Event
    told call = event call (given b call)

    -- it is not a call on a ticket of whose calls none are left
    on_pending : (t : ℕ) (step : Step) → its_calls (t ∷ []) (told (on_ticket t step) ∷ events) ≡ [] → ⊥
    unfolding filtered
    on_pending t step e = let none = rw (eq-eqb t t refl) at e in let z : ◌≡◌ {A = ℕ} 0 1 = cc in omega arith

    -- a key retirement has no calls of its own
    sort_retire : (id : ℕ) → number_of b (retire id) ≡ 0 → Rest b (told (retire id) ∷ events) → Run (given b (retire id)).state events c
        → CanSort events → Sorted b c (with_own_calls all (in_order (told (retire id) ∷ events))) (told (retire id) ∷ events)
    unfolding with_own_calls filtered tickets_of
    sort_retire id e rest r sort =
        let s = sort (given b (retire id)).state (record { old = rest.old; new = rest.new }) r in
        rw (on_none all)
        (record { run = (record { accepted = e; told = refl }, s.run); perm = Permᴰ.cons refl s.perm })

    -- the ticket of an admission there, and the rest without the calls on it
    abbrev ticket : ℕ
    ticket = b.registry.last_ticket + 1

    abbrev others : List Event
    others = other_calls (ticket ∷ []) events

    module _ (request info : List ℕ) where
      abbrev opened : Book
      opened = (given b (admit request info)).state

      -- those others are a rest at the book to which the calls on the ticket lead
      rest_others : Rest b (told (admit request info) ∷ events) → (p : Pulled (ticket ∷ []) opened c events) → Rest p.between others
      unfolding filtered
      rest_others rest p =
          let last : p.between.registry.last_ticket ≡ ticket = ap (λ (h : Registry). h.last_ticket) p.beside.registry in
          record {
            old = λ t h.
                either
                (eqb ticket t)
                (λ e. rw (← eqb-true ticket t e) (own_of_others (ticket ∷ []) events))
                (λ e.
                let apart = eqb-false ticket t e in
                let its_not = asked_other t ticket (fields_of request) (λ q. apart (sym q)) in
                let same =
                p.beside.others t (not_among_one ticket t apart)
                ∙ exchange_behind t (asked ticket (fields_of request)) its_not b.pending in
                others_of_others ticket t apart events ∙ rest.old t (rw same at h));
            new = λ t h. others_of_others ticket t (λ q. omega arith) events ∙ rest.new t (omega arith);
          }

      -- an admission, its own calls behind it, and then the others in their order
      sort_admit : number_of b (admit request info) ≡ 0 → Rest b (told (admit request info) ∷ events) → Run opened events c → CanSort others
          → Sorted b c (with_own_calls all (in_order (told (admit request info) ∷ events))) (told (admit request info) ∷ events)
      unfolding with_own_calls filtered tickets_of
      sort_admit e rest r sort =
          let p = pull (ticket ∷ []) opened c events (λ t on. omega (arith, among_one ticket t on)) r in
          let s = sort p.between (rest_others rest p) p.rest in
          let own = its_calls (ticket ∷ []) events in
          let run = run_append opened p.between c own (with_own_calls all (in_order others)) p.first s.run in
          let perm = Permᴰ.trans (Permᴰ.append_left own s.perm) (filtered_both (λ e. is_on (ticket ∷ []) e.call) events) in
          rw (← rest.new ticket (omega arith), ← order_of_others (ticket ∷ []) events)
          (record { run = (record { accepted = e; told = refl }, run); perm = Permᴰ.cons refl perm })

    -- whichever call it is
    sort_call : (call : Call) → number_of b call ≡ 0 → Rest b (told call ∷ events) → Run (given b call).state events c
        → ((es : List Event) → length es ≤ length events → CanSort es)
        → Sorted b c (with_own_calls all (in_order (told call ∷ events))) (told call ∷ events)
    sort_call (admit request info) e rest r sort =
        sort_admit request info e rest r (sort others (filtered_short (λ e. not (is_on (ticket ∷ []) e.call)) events))
    sort_call (retire id) e rest r sort = sort_retire id e rest r (sort events (omega arith))
    sort_call (on_ticket t step) e rest r sort = absurd (on_pending t step (rest.old t (accepted_pending step (exchange_of t b.pending) e)))
    sort_call reporting e rest r sort = absurd (omega arith)

  -- the first event is such a call
  sort_first : (k : Event) (events : List Event) → ((es : List Event) → length es ≤ length events → CanSort es) → CanSort (k ∷ events)
  sort_first k events sort b rest r =
      rw (← r.0.told) (sort_call b events k.call r.0.accepted (rw (← r.0.told) at rest) r.1 sort)

  sort_none : CanSort []
  unfolding with_own_calls filtered
  sort_none b rest r = record { run = r; perm = Permᴰ.nil }

  -- by the number of events, since others are left out before the rest is sorted
  sort : (n : ℕ) (events : List Event) → length events ≤ n → CanSort events
  sort zero [] h = sort_none
  sort zero (k ∷ events) h = absurd (not-suc-le-zero h)
  sort (suc n) [] h = sort_none
  sort (suc n) (k ∷ events) h = sort_first k events (λ es less. sort n es (omega arith))

-- the calls that are kept, from a fresh book
abbrev pub kept_events : List ℕ → ℕ → List Call → List Event
kept_events list cap calls = struck (trace book_does (fresh_book list cap) calls)

-- the half of demand 3 that is about the book
pub record Moved (list : List ℕ) (cap : ℕ) (calls : List Call) : Type 0 where
  -- without the calls that are struck out the others get what they had, and lead to the same book
  pub kept_answers : trace book_does (fresh_book list cap) (calls_of (kept_events list cap calls)) ≡ kept_events list cap calls
  pub kept_book : final book_does (fresh_book list cap) (calls_of (kept_events list cap calls)) ≡ final book_does (fresh_book list cap) calls
  -- and so they do when they are moved
  pub rearranged : Perm (moved_up (kept_events list cap calls)) (kept_events list cap calls)
  pub same_answers :
      trace book_does (fresh_book list cap) (calls_of (moved_up (kept_events list cap calls))) ≡ moved_up (kept_events list cap calls)
  pub same_book :
      final book_does (fresh_book list cap) (calls_of (moved_up (kept_events list cap calls))) ≡ final book_does (fresh_book list cap) calls

pub book_moved : (list : List ℕ) (cap : ℕ) (calls : List Call) → Moved list cap calls
book_moved list cap calls =
    let b = fresh_book list cap in
    let c = final book_does b calls in
    let kept = kept_events list cap calls in
    let run : Run b kept c = struck_run b calls in
    let rest : Rest kept c b kept = record { old = λ t h. absurd (true_or_false refl h); new = λ t h. refl } in
    let sorted = sort kept c (length kept) kept (omega arith) b rest run in
    record {
      kept_answers = run_trace b c kept run;
      kept_book = run_final b c kept run;
      rearranged = ∣ sorted.perm ∣₁;
      same_answers = run_trace b c (moved_up kept) sorted.run;
      same_book = run_final b c (moved_up kept) sorted.run;
    }
