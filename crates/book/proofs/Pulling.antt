-- Of a history of accepted calls, those on some tickets, all given before it, can be made first, and the others behind them.
-- Assumes nothing.
use Prim.Native.Nat.{ℕ, ◌≤◌}
use mathlib.Core.Path.{◌≡◌, refl, ◌∙◌}
use mathlib.Core.Bool.{true, false, not}
use mathlib.Core.List.{List, [], ◌∷◌}
use native.Mathlib.Omega.{arith}
use Rattle.wire.specs.Search.{among, filtered}
use Rattle.wire.proofs.Booleans.{either, true_or_false}
use Rattle.exchange.specs.Exchange.{exchange_of}
use Rattle.exchange.specs.Steps.{next}
use Rattle.gateway.specs.Calls.{Call, admit, retire, on_ticket, reporting}
use Rattle.book.specs.Book.{Book}
use Rattle.book.specs.History.{Event}
use Rattle.book.specs.Demand3.{is_on}
use Rattle.book.proofs.Pending.{next_other, exchange_beside}
use Rattle.book.proofs.Accepted.{given}
use Rattle.book.proofs.Swap.{swap}
use Rattle.book.proofs.Runs.{Happens, after, Run}

-- the last ticket does not fall
later_ticket : (b : Book) (call : Call) → b.registry.last_ticket ≤ (given b call).state.registry.last_ticket
later_ticket b (admit request info) = omega arith
later_ticket b (retire id) = omega arith
later_ticket b (on_ticket t step) = omega arith
later_ticket b reporting = omega arith

module _ (tickets : List ℕ) where
  -- calls on the tickets, and the others
  abbrev pub its_calls : List Event → List Event
  its_calls events = filtered (λ e. is_on tickets e.call) events

  abbrev pub other_calls : List Event → List Event
  other_calls events = filtered (λ e. not (is_on tickets e.call)) events

  -- calls on the tickets leave the head and the exchanges of the other tickets
  pub record Beside (b c : Book) : Type 0 where
    pub registry : c.registry ≡ b.registry
    pub others : (t : ℕ) → among tickets t ≡ false → exchange_of t c.pending ≡ exchange_of t b.pending

  -- by one call
  beside_call : (b : Book) (call : Call) → is_on tickets call ≡ true → Beside b (given b call).state
  beside_call b (admit request info) on = absurd (true_or_false on refl)
  beside_call b (retire id) on = absurd (true_or_false on refl)
  beside_call b (on_ticket u step) on =
      record {
        registry = refl;
        others = λ t off.
            let apart : t ≡ u → ⊥ = λ p. true_or_false on (rw p at off) in
            exchange_beside t u apart (next step (exchange_of u b.pending)) (next_other t u step b.pending apart) b.pending;
      }
  beside_call b reporting on = absurd (true_or_false on refl)

  -- by several calls
  beside_more : (b m c : Book) → Beside b m → Beside m c → Beside b c
  beside_more b m c r s =
      record { registry = s.registry ∙ r.registry; others = λ t off. s.others t off ∙ r.others t off }

  -- the tickets were given before
  abbrev pub GivenBefore : Book → Type 0
  GivenBefore b = (t : ℕ) → among tickets t ≡ true → t ≤ b.registry.last_ticket

  -- another call, made behind calls on the tickets instead of before them
  record Passed (b c : Book) (k : Event) (es : List Event) : Type 0 where
    pub between : Book
    pub run : Run b es between
    pub beside : Beside b between
    pub happens : Happens between k
    pub leads : after between k ≡ c

  module _ (c : Book) (k : Event) (off : is_on tickets k.call ≡ false) where
    abbrev CanPass : List Event → Type 0
    CanPass es = (b : Book) → GivenBefore b → Happens b k → Run (after b k) es c → Passed b c k es

    -- one call on the tickets is made before it
    pass_one : (x : Event) (es : List Event) → is_on tickets x.call ≡ true → CanPass es → CanPass (x ∷ es)
    pass_one x es on rest b before h r =
        let s = swap tickets b before k.call x.call off on h.accepted r.0.accepted in
        let side = beside_call b x.call on in
        let p = rest (after b x) (λ t o. rw side.registry (before t o))
        (record { accepted = s.first_accepted; told = s.first_told ∙ h.told })
        (rw s.same_book at r.1) in
        record {
          between = p.between;
          run = (record { accepted = s.second_accepted; told = s.second_told ∙ r.0.told }, p.run);
          beside = beside_more b (after b x) p.between side p.beside;
          happens = p.happens;
          leads = p.leads;
        }

    -- and one after the other. The step stands alone: in the recursion itself antt runs out of steps
    pass_more : (x : Event) (es : List Event) → CanPass (its_calls es) → CanPass (its_calls (x ∷ es))
    unfolding filtered
    pass_more x es rest =
        either (is_on tickets x.call) (λ on. rw on (pass_one x (its_calls es) on rest)) (λ on. rw on rest)

    pass_none : CanPass (its_calls [])
    unfolding filtered
    pass_none b before h r =
        record { between = b; run = refl; beside = record { registry = refl; others = λ t o. refl }; happens = h; leads = r }

    pass : (es : List Event) → CanPass (its_calls es)
    pass [] = pass_none
    pass (x ∷ es) = pass_more x es (pass es)

  -- all calls on the tickets, made first
  pub record Pulled (b c : Book) (es : List Event) : Type 0 where
    pub between : Book
    pub first : Run b (its_calls es) between
    pub rest : Run between (other_calls es) c
    pub beside : Beside b between

  pub pull : (b c : Book) (es : List Event) → GivenBefore b → Run b es c → Pulled b c es
  unfolding filtered
  pull b c [] before r =
      record { between = b; first = refl; rest = r; beside = record { registry = refl; others = λ t o. refl } }
  pull b c (k ∷ es) before r =
      let p = pull (after b k) c es (λ t o. omega (arith, before t o, later_ticket b k.call)) r.1 in
      either
      (is_on tickets k.call)
      (λ on.
      record {
        between = p.between;
        first = rw on ((r.0, p.first));
        rest = rw on p.rest;
        beside = beside_more b (after b k) p.between (beside_call b k.call on) p.beside;
      })
      (λ off.
      let q = pass p.between k off es b before r.0 p.first in
      record {
        between = q.between;
        first = rw off q.run;
        rest = rw off ((q.happens, rw q.leads p.rest));
        beside = q.beside;
      })
