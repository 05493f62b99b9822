-- What a call on a ticket tells, whichever it is.
-- Assumes nothing.
use mathlib.Core.Path.{◌≡◌, refl, ◌∙◌}
use mathlib.Core.Bool.{true, false}
use Prim.Native.Nat.{ℕ, zero, suc}
use lib.ListN.{length}
use Rattle.wire.specs.Tests.{pick}
use Rattle.std.proofs.Common.{Ok}
use Rattle.wire.specs.Refusals.{result_by, unless_refused}
use Rattle.wire.proofs.Booleans.{either, true_or_false}
use Rattle.exchange.specs.declared.Exchange.{Exchange}
use Rattle.exchange.specs.declared.Move.{Move}
use Rattle.exchange.specs.declared.StepAnswer.{StepAnswer}
use Rattle.exchange.specs.Exchange.{is_free, is_asked}
use Rattle.exchange.specs.Steps.{Step, refusal_by, refusal, fails, accepted, answer, step_number, step_unprotected}
use Rattle.exchange.proofs.Lengths.{Accepted, accepted_by}
use Rattle.exchange.proofs.Moves.{failing_asked, accepted_unprotected}

-- what an accepted call found
found_by : (step : Step) (e : Exchange) → refusal step e ≡ 0 → Accepted step.kind (length step.enc) (length step.nonce) (length step.salt) e
found_by step e h = accepted_by step.kind (length step.enc) (length step.nonce) (length step.salt) e h

-- 11 is tested first
pub accepted_pending : (step : Step) (e : Exchange) → refusal step e ≡ 0 → is_free e ≡ false
accepted_pending step e h = (found_by step e h).pending

pub free_refuses : (step : Step) (e : Exchange) → is_free e ≡ true → refusal step e ≡ 11
unfolding refusal_by
free_refuses step e f = rw f

-- the number of an answer is the one that decided it
answer_number : (n : ℕ) (a : StepAnswer) → step_number (result_by n a) ≡ n
unfolding step_number
answer_number zero a = refl
answer_number (suc n) a = refl

pub step-number : (step : Step) (e : Exchange) → step_number (answer step e) ≡ refusal step e
step-number step e = answer_number (refusal step e) (accepted step.kind (length step.nonce))

-- a refusal is not unprotected
answer_unprotected : (n : ℕ) (a : StepAnswer) → step_unprotected (result_by n a) ≡ unless_refused n (step_unprotected (Ok a)) 0
unfolding step_unprotected
answer_unprotected zero a = refl
answer_unprotected (suc n) a = refl

pub step-unprotected : (step : Step) (e : Exchange)
    → step_unprotected (answer step e) ≡ unless_refused (refusal step e) (pick (fails step.kind) 422 0) 0
step-unprotected step e =
    answer_unprotected (refusal step e) _ ∙ rw (accepted_unprotected step.kind (length step.nonce))

-- and nothing of an exchange that is not asked is
silent_by : (n : ℕ) (kind : Move) → (n ≡ 0 → fails kind ≡ false) → ◌≡◌ {A = ℕ} (unless_refused n (pick (fails kind) 422 0) 0) 0
silent_by zero kind h = rw (h refl)
silent_by (suc n) kind h = refl

pub not_asked_silent : (step : Step) (e : Exchange) → is_asked e ≡ false → step_unprotected (answer step e) ≡ 0
not_asked_silent step e other =
    step-unprotected step e
    ∙ silent_by (refusal step e) step.kind
    (λ z. either (fails step.kind)
    (λ f. absurd (true_or_false (found_by step e z).allowed (failing_asked step.kind e f other)))
    (λ f. f))
