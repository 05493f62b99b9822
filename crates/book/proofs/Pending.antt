-- The set of pending exchanges: what a call on one ticket, or an admission, leaves of the exchange of another ticket.
-- Assumes nothing.
use Prim.Native.Nat.{ℕ, ◌≤◌}
use mathlib.Core.Path.{◌≡◌, refl, sym, ◌∙◌}
use mathlib.Core.Bool.{true, false, not}
use mathlib.Core.List.{List, [], ◌∷◌, ◌++◌, append_assoc}
use native.Mathlib.Omega.{arith}
use borrow.Author.Tests.{eqb-true, ne_eqb}
use lib.Dec.{eqb}
use lib.ListN.{length, length-append}
use Rattle.wire.specs.Search.{first_place}
use Rattle.wire.proofs.Booleans.{either, and_right, and_false}
use Rattle.exchange.specs.declared.Exchange.{Exchange}
use Rattle.request.specs.declared.Request.{Request}
use Rattle.exchange.specs.Exchange.{is_free, has_ticket, exchange_of, asked}
use Rattle.exchange.specs.Steps.{Step, next, leaves}
use Rattle.exchange.proofs.Moves.{next-ticket}
use Rattle.book.specs.Book.{remaining, replaced}

-- an exchange that has one ticket has no other
one_ticket : (t u : ℕ) (x : Exchange) → (t ≡ u → ⊥) → has_ticket u x ≡ true → has_ticket t x ≡ false
one_ticket t u x apart has =
    let e : x.ticket.0 ≡ u = eqb-true x.ticket.0 u (and_right (not (is_free x)) (eqb x.ticket.0 u) has) in
    and_false (not (is_free x)) (eqb x.ticket.0 t) (ne_eqb x.ticket.0 t (λ p. apart (cc)))

-- nor has one that is put in with a ticket
pub asked_other : (t u : ℕ) (request : Request) → (t ≡ u → ⊥) → has_ticket t (asked u request) ≡ false
asked_other t u request apart = and_false (not (eqb u 0)) (eqb u t) (ne_eqb u t (λ p. apart (sym p)))

-- the exchange of a ticket has no other ticket
exchange_other : (t u : ℕ) (xs : List Exchange) → (t ≡ u → ⊥) → has_ticket t (exchange_of u xs) ≡ false
unfolding first_place
exchange_other t u [] apart = refl
exchange_other t u (x ∷ xs) apart =
    either (has_ticket u x) (λ e. rw e (one_ticket t u x apart e)) (λ e. rw e (exchange_other t u xs apart))

-- nor has what a call on that ticket makes of it
pub next_other : (t u : ℕ) (step : Step) (xs : List Exchange) → (t ≡ u → ⊥) → has_ticket t (next step (exchange_of u xs)) ≡ false
next_other t u step xs apart =
    let left = next step (exchange_of u xs) in
    either (is_free left) (λ f. rw f)
    (λ f. let same : left.ticket.0 ≡ (exchange_of u xs).ticket.0 = next-ticket (leaves step.kind) (exchange_of u xs) f in rw same (exchange_other t u xs apart))

-- an exchange that has not the ticket
module _ (t : ℕ) (x : Exchange) (not_its : has_ticket t x ≡ false) where
  -- stands before the others
  skipped : (xs : List Exchange) → exchange_of t (remaining x ++ xs) ≡ exchange_of t xs
  unfolding first_place
  skipped xs = either (is_free x) (λ e. rw e) (λ e. rw e (rw not_its))

  kept_before : (f : Exchange) (xs : List Exchange) → replaced t f (remaining x ++ xs) ≡ remaining x ++ replaced t f xs
  unfolding replaced
  kept_before f xs = either (is_free x) (λ e. rw e) (λ e. rw e (rw not_its))

  -- or behind them
  pub exchange_behind : (xs : List Exchange) → exchange_of t (xs ++ x ∷ []) ≡ exchange_of t xs
  unfolding first_place
  exchange_behind [] = rw not_its
  exchange_behind (y ∷ ys) = either (has_ticket t y) (λ e. rw e) (λ e. rw e (exchange_behind ys))

  pub kept_behind : (f : Exchange) (xs : List Exchange) → replaced t f (xs ++ x ∷ []) ≡ replaced t f xs ++ x ∷ []
  unfolding replaced
  kept_behind f [] = rw not_its
  kept_behind f (y ∷ ys) = rw (kept_behind f ys, append_assoc)

module _ (t u : ℕ) (apart : t ≡ u → ⊥) (f : Exchange) (not_its : has_ticket t f ≡ false) where
  -- a change of one ticket's exchange leaves that of another
  pub exchange_beside : (xs : List Exchange) → exchange_of t (replaced u f xs) ≡ exchange_of t xs
  unfolding replaced first_place
  exchange_beside [] = refl
  exchange_beside (x ∷ xs) =
      either
      (has_ticket u x)
      (λ e. rw (e, one_ticket t u x apart e) (skipped t f not_its (replaced u f xs) ∙ exchange_beside xs))
      (λ e. rw e (either (has_ticket t x) (λ h. rw h) (λ h. rw h (exchange_beside xs))))

  -- changes of the exchanges of two tickets, in either order
  pub replaced_beside : (e : Exchange) → has_ticket u e ≡ false
      → (xs : List Exchange) → replaced t e (replaced u f xs) ≡ replaced u f (replaced t e xs)
  unfolding replaced
  replaced_beside e not_u [] = refl
  replaced_beside e not_u (x ∷ xs) =
      let rest = replaced_beside e not_u xs in
      either
      (has_ticket u x)
      (λ h. rw (h, one_ticket t u x apart h, h, kept_before t f not_its e (replaced u f xs), rest))
      (λ h. rw h
      (either
      (has_ticket t x)
      (λ k. rw (k, kept_before u e not_u f (replaced t e xs), rest))
      (λ k. rw (k, h, rest))))

-- one exchange is left, or none
left_short : (e : Exchange) → length (remaining e) ≤ 1
left_short e = either (is_free e) (λ h. rw h (omega arith)) (λ h. rw h (omega arith))

-- a change adds no exchange
pub replaced_short : (t : ℕ) (e : Exchange) (xs : List Exchange) → length (replaced t e xs) ≤ length xs
unfolding replaced
replaced_short t e [] = omega arith
replaced_short t e (x ∷ xs) =
    let rest : length (replaced t e xs) ≤ length xs = replaced_short t e xs in
    either
    (has_ticket t x)
    (λ h. rw (h, length-append) (omega (arith, left_short e)))
    (λ h. rw h (omega arith))
