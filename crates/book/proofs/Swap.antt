-- Two accepted calls on the book, the second of them on a ticket that the first neither calls nor gives: they can change places.
-- Assumes nothing.
use Prim.Native.Nat.{ℕ, zero, suc, ◌+◌, ◌≤◌}
use mathlib.Core.Path.{◌≡◌, refl, sym, ◌∙◌}
use mathlib.Core.Bool.{Bool, true, false}
use mathlib.Core.List.{List, [], ◌∷◌, ◌++◌}
use native.Mathlib.Omega.{arith}
use borrow.Author.Tests.{leb-false, lt-leb}
use lib.Dec.{leb}
use lib.ListN.{length}
use Rattle.wire.specs.Search.{among}
use Rattle.wire.proofs.Booleans.{true_or_false}
use Rattle.exchange.specs.declared.Exchange.{Exchange}
use Rattle.request.specs.Request.{key_id_of, fields_of}
use Rattle.request.specs.Helpers.{request_refusal}
use Rattle.exchange.specs.Exchange.{has_ticket, exchange_of, asked}
use Rattle.exchange.specs.Steps.{Step, next}
use Rattle.keys.specs.Helpers.{key_refusal}
use Rattle.keys.specs.Stored.{place_of_key}
use Rattle.gateway.specs.Registry.{Registry, admit_refusal, table_size}
use Rattle.gateway.specs.Calls.{Call, admit, retire, on_ticket, reporting}
use Rattle.gateway.proofs.Deciding.{◌or_else◌, admit_order}
use Rattle.book.specs.Book.{Book, replaced}
use Rattle.book.specs.History.{event}
use Rattle.book.specs.Demand3.{is_on}
use Rattle.book.proofs.Pending.{asked_other, next_other, exchange_behind, kept_behind, exchange_beside, replaced_beside, replaced_short}
use Rattle.book.proofs.Accepted.{number_of, given}

-- the second call, made first, and the first behind it are accepted, give what they gave, and leave the same book
pub record Swapped (b : Book) (first second : Call) : Type 0 where
  pub second_accepted : number_of b second ≡ 0
  pub first_accepted : number_of (given b second).state first ≡ 0
  pub second_told : event second (given b second) ≡ event second (given (given b first).state second)
  pub first_told : event first (given (given b second).state first) ≡ event first (given b first)
  pub same_book : (given (given b first).state second).state ≡ (given (given b second).state first).state

-- a chain that ends with 9 is not 0
never_nine : (n m : ℕ) → (n or_else m or_else 9) ≡ 0 → ⊥
never_nine zero zero e = omega arith
never_nine zero (suc m) e = omega arith
never_nine (suc n) m e = omega arith

-- an accepted admission found a place
has-place : (registry : Registry) (full : Bool) (request : List ℕ) (room : ℕ) → admit_refusal registry full request room ≡ 0 → full ≡ false
has-place registry true request room e =
    let key = key_refusal registry.cap registry.keys (place_of_key (key_id_of request) registry.keys) (fields_of request) in
    absurd (never_nine (request_refusal request) key (sym (admit_order registry true request room) ∙ e))
has-place registry false request room e = refl

-- so it finds one among fewer
admitted_among_fewer : (registry : Registry) (many fewer : List Exchange) (request : List ℕ) (room : ℕ) → length fewer ≤ length many
    → admit_refusal registry (leb table_size (length many)) request room ≡ 0
    → admit_refusal registry (leb table_size (length fewer)) request room ≡ 0
admitted_among_fewer registry many fewer request room h e =
    let place : leb table_size (length many) ≡ false = has-place registry (leb table_size (length many)) request room e in
    let same : leb table_size (length fewer) ≡ false =
    lt-leb table_size (length fewer) (omega (arith, leb-false table_size (length many) place)) in
    rw same (rw place at e)

-- the tickets: all were given before, and the first call is on none of them
module _ (tickets : List ℕ) (b : Book) (given_before : (t : ℕ) → among tickets t ≡ true → t ≤ b.registry.last_ticket) where
  -- behind an admission, a key retirement, or a call on another ticket
  swap_on : (first : Call) (t : ℕ) (step : Step) → among tickets t ≡ true → is_on tickets first ≡ false → number_of b first ≡ 0
      → number_of (given b first).state (on_ticket t step) ≡ 0 → Swapped b first (on_ticket t step)
  swap_on (admit request info) t step on off e h =
      let new = asked (b.registry.last_ticket + 1) (fields_of request) in
      let its = next step (exchange_of t b.pending) in
      let other : has_ticket t new ≡ false =
      asked_other t (b.registry.last_ticket + 1) (fields_of request) (λ p. omega (arith, given_before t on)) in
      let same : exchange_of t (b.pending ++ new ∷ []) ≡ exchange_of t b.pending = exchange_behind t new other b.pending in
      record {
        second_accepted = rw same at h;
        first_accepted = admitted_among_fewer b.registry b.pending (replaced t its b.pending) request (length info) (replaced_short t its b.pending) e;
        second_told = rw same;
        first_told = refl;
        same_book = rw (same, kept_behind t new other its b.pending);
      }
  swap_on (retire id) t step on off e h =
      record { second_accepted = h; first_accepted = e; second_told = refl; first_told = refl; same_book = refl }
  swap_on (on_ticket u other) t step on off e h =
      let apart : t ≡ u → ⊥ = λ p. true_or_false (rw p at on) off in
      let back : u ≡ t → ⊥ = λ p. true_or_false on (rw p at off) in
      let it = next other (exchange_of u b.pending) in
      let its = next step (exchange_of t b.pending) in
      let not_t : has_ticket t it ≡ false = next_other t u other b.pending apart in
      let not_u : has_ticket u its ≡ false = next_other u t step b.pending back in
      let same : exchange_of t (replaced u it b.pending) ≡ exchange_of t b.pending = exchange_beside t u apart it not_t b.pending in
      let same_u : exchange_of u (replaced t its b.pending) ≡ exchange_of u b.pending = exchange_beside u t back its not_u b.pending in
      record {
        second_accepted = rw same at h;
        first_accepted = rw same_u e;
        second_told = rw same;
        first_told = rw same_u;
        same_book = rw (same, same_u, replaced_beside t u apart it not_t its not_u b.pending);
      }
  swap_on reporting t step on off e h = absurd (omega arith)

  -- any call on one of the tickets
  pub swap : (first second : Call) → is_on tickets first ≡ false → is_on tickets second ≡ true → number_of b first ≡ 0
      → number_of (given b first).state second ≡ 0 → Swapped b first second
  swap first (admit request info) off on e h = absurd (true_or_false on refl)
  swap first (retire id) off on e h = absurd (true_or_false on refl)
  swap first (on_ticket t step) off on e h = swap_on first t step on off e h
  swap first reporting off on e h = absurd (true_or_false on refl)
