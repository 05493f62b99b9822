-- What is used of the calls on a ticket, each law with a case for each of them.
-- Assumes nothing.
use mathlib.Core.Path.{◌≡◌, refl}
use mathlib.Core.Bool.{true, false}
use Rattle.std.proofs.Common.{Ok}
use Prim.Native.Nat.{ℕ}
use Rattle.wire.specs.Tests.{pick}
use lib.Dec.{eqb}
use Rattle.wire.proofs.Booleans.{either, true_or_false}
use Rattle.exchange.specs.declared.Exchange.{Exchange}
use Rattle.exchange.specs.declared.Move.{Move}
use Rattle.exchange.specs.Exchange.{closed_phase, asked_phase, free, is_free, is_asked, is_opened, left_in}
use Rattle.exchange.specs.Steps.{when_opened, is_allowed, leaves, closes, fails, accepted, step_unprotected}

-- what is left of the exchange has its ticket
pub next-ticket : (phase : ℕ) (e : Exchange) → is_free (left_in phase e) ≡ false → (left_in phase e).ticket.0 ≡ e.ticket.0
unfolding left_in
next-ticket phase e h = either (eqb phase closed_phase) (λ c. absurd (true_or_false refl (rw c at h))) (λ c. rw c)

-- and where nothing is left of one that was pending, a free place is
pub left-free : (phase : ℕ) (e : Exchange) → is_free e ≡ false → is_free (left_in phase e) ≡ true → left_in phase e ≡ free
unfolding left_in
left-free phase e there h = either (eqb phase closed_phase) (λ c. rw c) (λ c. absurd (true_or_false (rw c at h) there))

-- a call that closes leaves a free place
closing_leaves : (kind : Move) → closes kind ≡ true → leaves kind ≡ closed_phase
closing_leaves (Move.Open n) c = absurd (true_or_false c refl)
closing_leaves Move.Fail c = refl
closing_leaves (Move.Respond plain) c = refl
closing_leaves Move.Abandon c = refl

pub closed_free : (kind : Move) (e : Exchange) → closes kind ≡ true → left_in (leaves kind) e ≡ free
unfolding left_in
closed_free kind e c = rw (closing_leaves kind c)

-- no call leaves an exchange asked
leaves_not_asked : (kind : Move) → eqb (leaves kind) asked_phase ≡ false
leaves_not_asked (Move.Open n) = refl
leaves_not_asked Move.Fail = refl
leaves_not_asked (Move.Respond plain) = refl
leaves_not_asked Move.Abandon = refl

pub next_not_asked : (kind : Move) (e : Exchange) → is_asked (left_in (leaves kind) e) ≡ false
unfolding left_in
next_not_asked kind e = either (eqb (leaves kind) closed_phase) (λ c. rw c) (λ c. rw c (leaves_not_asked kind))

-- only what is asked can fail
failing_not_opened : (kind : Move) → fails kind ≡ true → when_opened kind ≡ false
failing_not_opened (Move.Open n) f = absurd (true_or_false f refl)
failing_not_opened Move.Fail f = refl
failing_not_opened (Move.Respond plain) f = absurd (true_or_false f refl)
failing_not_opened Move.Abandon f = absurd (true_or_false f refl)

pub failing_asked : (kind : Move) (e : Exchange) → fails kind ≡ true → is_asked e ≡ false → is_allowed kind e ≡ false
failing_asked kind e f other = rw (other, failing_not_opened kind f) (either (is_opened e) (λ o. rw o) (λ o. rw o))

-- the answer of an accepted call is unprotected only where opening failed
pub accepted_unprotected : (kind : Move) (nonce : ℕ) → step_unprotected (Ok (accepted kind nonce)) ≡ pick (fails kind) 422 0
unfolding step_unprotected
accepted_unprotected (Move.Open n) nonce = refl
accepted_unprotected Move.Fail nonce = refl
accepted_unprotected (Move.Respond plain) nonce = refl
accepted_unprotected Move.Abandon nonce = refl
