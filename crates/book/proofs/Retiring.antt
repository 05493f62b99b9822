-- A retired key stays retired, so that every later admission refuses it; and the exchange of a ticket goes by its own calls only.
-- Assumes nothing.
use Prim.Native.Nat.{ℕ, zero, suc, ◌+◌, ◌≤◌}
use mathlib.Core.Bool.{Bool, true, false, not}
use mathlib.Core.Path.{◌≡◌, refl, sym, ap, ◌∙◌}
use mathlib.Core.List.{List, [], ◌∷◌, ◌++◌}
use native.Mathlib.Omega.{arith}
use borrow.Author.Tests.{eqb-true, eqb-false, eq-eqb}
use lib.Dec.{eqb, leb, ltb}
use lib.ListN.{length}
use Rattle.wire.specs.Tests.{pick}
use Rattle.wire.specs.Search.{first_place, among, is_none, find, is_some_and}
use Rattle.wire.specs.Refusals.{◌when◌otherwise◌, unless_refused}
use Rattle.wire.proofs.Booleans.{either, true_or_false}
use Rattle.wire.proofs.Numbers.{not-refused}
use Rattle.wire.specs.Texts.{head_length, info_length, longest_request}
use Rattle.algorithms.specs.Sizes.{known_kem, shortest_request}
use Rattle.request.specs.Request.{key_id_of, kem_of, kdf_of, aead_of, fields_of}
use Rattle.exchange.specs.declared.Exchange.{Exchange}
use Rattle.exchange.specs.Exchange.{free, is_free, has_ticket, exchange_of, asked}
use Rattle.exchange.specs.Steps.{Step, refusal, next, leaves, answer, buffer}
use Rattle.exchange.proofs.Moves.{next-ticket, left-free}
use Rattle.exchange.proofs.Steps.{accepted_pending}
use Rattle.keys.specs.Keys.{Key, has_id, key_with, offers, retire_refusal, with_key, with_use, with_retirement}
use Rattle.gateway.specs.declared.table.Engine.{Engine}
use Rattle.gateway.specs.Registry.{Registry, admit_refusal}
use Rattle.gateway.specs.Gateway.{gateway_does}
use Rattle.gateway.specs.Calls.{Call, admit, retire, on_ticket, reporting, of_step, number}
use Rattle.book.specs.Book.{Book, fresh_book, replaced, book_stepped, book_admit_number, book_retire_number, book_step_number, book_does}
use Rattle.book.specs.History.{final, Accepts}
use Rattle.book.specs.Demand3.{book_after}
use Rattle.book.specs.Retirement.{RetirementHolds, event_after}
use Rattle.book.proofs.Numbers.{admit-number, retire-number, set_is_full}
use Rattle.book.proofs.Accepting.{unless_kept}
use Rattle.book.proofs.Pending.{asked_other, next_other, exchange_behind, exchange_beside}
use Rattle.book.proofs.Tickets.{replaced_found}
use Rattle.book.proofs.Table.{found_has}
use Rattle.book.proofs.Refining.{found_told, same_answer}
use Rattle.book.proofs.Refinement.{final_append, alike_end}

-- the key with the id is there, and retired
abbrev is_retired : ℕ → List Key → Bool
is_retired id keys = is_some_and (λ key. key.retired) (key_with id keys)

-- a change of one key that keeps ids and retirements
still_retired : (change : Key → Key) → ((key : Key) → (change key).id ≡ key.id) → ((key : Key) → key.retired ≡ true → (change key).retired ≡ true)
    → (id other : ℕ) (keys : List Key) → is_retired id keys ≡ true → is_retired id (with_key change other keys) ≡ true
unfolding with_key find
still_retired change same keeps id other [] h = h
still_retired change same keeps id other (key ∷ keys) h =
    either (has_id other key)
    (λ o. rw o (either (has_id id key)
    (λ i. rw (same key, i) (keeps key (rw i at h)))
    (λ i. rw (same key, i) (rw i at h))))
    (λ o. rw o (either (has_id id key)
    (λ i. rw i (rw i at h))
    (λ i. rw i (still_retired change same keeps id other keys (rw i at h)))))

-- the retirement of a key that is there
marked : (id : ℕ) (keys : List Key) → is_none (key_with id keys) ≡ false → is_retired id (with_key with_retirement id keys) ≡ true
unfolding with_key find
marked id [] h = absurd (true_or_false refl h)
marked id (key ∷ keys) h = either (has_id id key) (λ i. rw i (rw i)) (λ i. rw i (rw i (marked id keys (rw i at h))))

-- it lasts, call by call and along a history
retired_kept : (id : ℕ) (b : Book) (call : Call) → is_retired id b.registry.keys ≡ true
    → is_retired id (book_does b call).state.registry.keys ≡ true
unfolding book_does
retired_kept id b (admit request info) h =
    unless_kept (λ (c : Book). is_retired id c.registry.keys ≡ true) (book_admit_number request info b)
    (λ e. still_retired with_use (λ key. refl) (λ key r. r) id (key_id_of request) b.registry.keys h) h
retired_kept id b (retire other) h =
    unless_kept (λ (c : Book). is_retired id c.registry.keys ≡ true) (book_retire_number other b)
    (λ e. still_retired with_retirement (λ key. refl) (λ key r. refl) id other b.registry.keys h) h
retired_kept id b (on_ticket ticket step) h =
    unless_kept (λ (c : Book). is_retired id c.registry.keys ≡ true) (book_step_number ticket step b) (λ e. h) h
retired_kept id b reporting h = h

retired_after : (id : ℕ) (b : Book) (calls : List Call) → is_retired id b.registry.keys ≡ true
    → is_retired id (final book_does b calls).registry.keys ≡ true
unfolding final
retired_after id b [] h = h
retired_after id b (call ∷ calls) h = retired_after id (book_does b call).state calls (retired_kept id b call h)

-- admit's numbers up to 7
abbrev up_to_seven : List ℕ
up_to_seven = 2 ∷ 1 ∷ 3 ∷ 4 ∷ 5 ∷ 6 ∷ 7 ∷ []

up-to-seven : (a b c d e f g retired : Bool) (rest : ℕ) → retired ≡ true
    → among up_to_seven (2 when a otherwise 1 when b otherwise 3 when c otherwise 1 when d otherwise 4 when e otherwise
    5 when f otherwise 6 when g otherwise 7 when retired otherwise rest) ≡ true
up-to-seven true b c d e f g retired rest h = refl
up-to-seven false true c d e f g retired rest h = refl
up-to-seven false false true d e f g retired rest h = refl
up-to-seven false false false true e f g retired rest h = refl
up-to-seven false false false false true f g retired rest h = refl
up-to-seven false false false false false true g retired rest h = refl
up-to-seven false false false false false false true retired rest h = refl
up-to-seven false false false false false false false retired rest h = rw h

-- a request that names a retired key gets one of them
refused_by_seven : (registry : Registry) (full : Bool) (request : List ℕ) (room : ℕ) → is_retired (key_id_of request) registry.keys ≡ true
    → among up_to_seven (admit_refusal registry full request room) ≡ true
unfolding admit_refusal
refused_by_seven registry full request room h =
    let key = key_with (key_id_of request) registry.keys in
    up-to-seven (ltb longest_request (length request)) (ltb (length request) head_length) (not (known_kem (kem_of request)))
    (ltb (length request) (shortest_request (kem_of request))) (is_none key) (not (is_some_and (λ k. eqb k.kem (kem_of request)) key))
    (not (is_some_and (offers (kdf_of request) (aead_of request)) key)) (is_some_and (λ k. k.retired) key)
    (8 when is_some_and (λ k. leb registry.cap k.count) key otherwise 9 when full otherwise 14 when ltb room info_length otherwise 0) h

-- what a call leaves of the exchange that has the ticket
abbrev left_by : ℕ → Call → Exchange → Exchange
left_by ticket (admit request info) e = e
left_by ticket (retire id) e = e
left_by ticket (on_ticket other step) e = pick (eqb ticket other) (unless_refused (refusal step e) (next step e) e) e
left_by ticket reporting e = e

abbrev left_by_all : ℕ → List Call → Exchange → Exchange
left_by_all ticket [] e = e
left_by_all ticket (call ∷ calls) e = left_by_all ticket calls (left_by ticket call e)

-- where an exchange that is there is replaced by one that has the ticket, that one is found
new_found : (ticket : ℕ) (new : Exchange) (es : List Exchange) → is_free new ≡ false → has_ticket ticket new ≡ true
    → is_free (exchange_of ticket es) ≡ false → exchange_of ticket (replaced ticket new es) ≡ new
unfolding replaced first_place
new_found ticket new [] f has there = absurd (true_or_false refl there)
new_found ticket new (e ∷ es) f has there =
    either (has_ticket ticket e)
    (λ t. rw (t, f) (rw has))
    (λ t. rw (t, t) (new_found ticket new es f has (rw t at there)))

-- an accepted call leaves what it makes of the exchange
next_found : (ticket : ℕ) (step : Step) (es : List Exchange) → refusal step (exchange_of ticket es) ≡ 0
    → exchange_of ticket (replaced ticket (next step (exchange_of ticket es)) es) ≡ next step (exchange_of ticket es)
next_found ticket step es accepted =
    let e = exchange_of ticket es in
    let new = next step e in
    let there = accepted_pending step e accepted in
    either (is_free new)
    (λ f.
    let closed = left-free (leaves step.kind) e there f in
    replaced_found (λ x. x ≡ free) refl ticket new es closed ∙ sym closed)
    (λ f.
    let its : new.ticket.0 ≡ ticket = next-ticket (leaves step.kind) e f ∙ found_has ticket es there in
    new_found ticket new es f (rw (f, eq-eqb new.ticket.0 ticket its)) there)

-- by the refusal number of a call on the ticket
left_either : (ticket n : ℕ) (b c : Book) (x y : Exchange) → (n ≡ 0 → exchange_of ticket c.pending ≡ x) → exchange_of ticket b.pending ≡ y
    → exchange_of ticket (unless_refused n c b).pending ≡ unless_refused n x y
left_either ticket zero b c x y accepted refused = accepted refl
left_either ticket (suc n) b c x y accepted refused = refused

-- the exchange of a ticket that was given, after a call and along a history
module _ (ticket : ℕ) where
  left_one : (b : Book) (call : Call) → ticket ≤ b.registry.last_ticket
      → exchange_of ticket (book_does b call).state.pending ≡ left_by ticket call (exchange_of ticket b.pending)
  unfolding book_does
  left_one b (admit request info) given =
      let new = b.registry.last_ticket + 1 in
      let other = asked_other ticket new (fields_of request) (omega (arith, given)) in
      unless_kept (λ (c : Book). exchange_of ticket c.pending ≡ exchange_of ticket b.pending) (book_admit_number request info b)
      (λ e. exchange_behind ticket (asked new (fields_of request)) other b.pending) refl
  left_one b (retire id) given =
      unless_kept (λ (c : Book). exchange_of ticket c.pending ≡ exchange_of ticket b.pending) (book_retire_number id b) (λ e. refl) refl
  left_one b (on_ticket other step) given =
      either (eqb ticket other)
      (λ same. rw same (rw (← eqb-true ticket other same)
      (left_either ticket (refusal step (exchange_of ticket b.pending)) b (book_stepped ticket step b) _ _ (next_found ticket step b.pending) refl)))
      (λ differ.
      let apart = eqb-false ticket other differ in
      let new = next step (exchange_of other b.pending) in
      rw differ
      (unless_kept (λ (c : Book). exchange_of ticket c.pending ≡ exchange_of ticket b.pending) (book_step_number other step b)
      (λ e. exchange_beside ticket other apart new (next_other ticket other step b.pending apart) b.pending) refl))
  left_one b reporting given = refl

  still_given : (b : Book) (call : Call) → ticket ≤ b.registry.last_ticket → ticket ≤ (book_does b call).state.registry.last_ticket
  unfolding book_does
  still_given b (admit request info) given =
      unless_kept (λ (c : Book). ticket ≤ c.registry.last_ticket) (book_admit_number request info b) (λ e. omega (arith, given)) given
  still_given b (retire id) given = unless_kept (λ (c : Book). ticket ≤ c.registry.last_ticket) (book_retire_number id b) (λ e. given) given
  still_given b (on_ticket other step) given =
      unless_kept (λ (c : Book). ticket ≤ c.registry.last_ticket) (book_step_number other step b) (λ e. given) given
  still_given b reporting given = given

  left_all : (b : Book) (calls : List Call) → ticket ≤ b.registry.last_ticket
      → exchange_of ticket (final book_does b calls).pending ≡ left_by_all ticket calls (exchange_of ticket b.pending)
  unfolding final
  left_all b [] given = refl
  left_all b (call ∷ calls) given =
      left_all (book_does b call).state calls (still_given b call given) ∙ ap (left_by_all ticket calls) (left_one b call given)

-- of a list of calls
module _ (list : List ℕ) (cap : ℕ) (calls : List Call) where
  -- what a call on a ticket gives after it and more, by what the book holds after it
  told_after : (more : List Call) (ticket : ℕ) (step : Step) → ticket ≤ (book_after list cap calls).registry.last_ticket
      → event_after list cap (calls ++ more) (on_ticket ticket step)
      ≡ (let e = left_by_all ticket more (exchange_of ticket (book_after list cap calls).pending) in
      record { call = on_ticket ticket step; answer = of_step (answer step e); buffer = buffer step e })
  unfolding gateway_does
  told_after more ticket step given =
      ap (λ (e : Exchange). record { call = on_ticket ticket step; answer = of_step (answer step e); buffer = buffer step e })
      (found_told Engine.Fast ticket _ _ (alike_end list cap (calls ++ more))
      ∙ ap (λ (b : Book). exchange_of ticket b.pending) (final_append book_does (fresh_book list cap) calls more)
      ∙ left_all ticket (book_after list cap calls) more given)

  -- the book accepts a retirement that the gateway accepts, and the key is retired from then on
  module _ (id : ℕ) (accepted : Accepts list cap calls (retire id)) where
    book_retires : book_retire_number id (book_after list cap calls) ≡ 0
    unfolding book_does
    book_retires =
        sym (retire-number (book_retire_number id (book_after list cap calls)))
        ∙ ap number (sym (same_answer Engine.Fast _ _ (retire id) (alike_end list cap calls))) ∙ accepted

    stays_retired : (between : List Call) → is_retired id (book_after list cap (calls ++ retire id ∷ between)).registry.keys ≡ true
    unfolding final book_does retire_refusal
    stays_retired between =
        let b = book_after list cap calls in
        let there = (not-refused 3 (is_none (key_with id b.registry.keys)) _ book_retires).0 in
        let start : is_retired id (book_does b (retire id)).state.registry.keys ≡ true = rw book_retires (marked id b.registry.keys there) in
        rw (final_append book_does (fresh_book list cap) calls (retire id ∷ between)) (retired_after id (book_does b (retire id)).state between start)

pub retirement_holds : RetirementHolds
unfolding book_does
retirement_holds list cap calls id accepted =
    record {
      refuses_later = λ between request info names.
          let b = book_after list cap (calls ++ retire id ∷ between) in
          rw (
            same_answer Engine.Fast _ _ (admit request info) (alike_end list cap (calls ++ retire id ∷ between)),
            admit-number (book_admit_number request info b) (b.registry.last_ticket + 1) request,
          ) (refused_by_seven b.registry (set_is_full b) request (length info) (rw names (stays_retired list cap calls id accepted between)));
      pending_go_on = λ between ticket step given.
          let told = rw (alike_end list cap calls).registry at given in
          told_after list cap calls (retire id ∷ between) ticket step told ∙ sym (told_after list cap calls between ticket step told);
    }
