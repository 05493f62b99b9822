-- 01, "An exchange, step by step": the calls on a ticket, each as what it does to the exchange that has the ticket.
use Rattle.std.specs.Prelude.{ℕ, ◌+◌, Bool, true, false, not, List, [], ◌++◌, ltb, length, Result, Ok, Err}
use Rattle.wire.specs.Tests.{pick}
use Rattle.wire.specs.Refusals.{◌when◌otherwise◌, result_by, written}
use Rattle.wire.specs.declared.refusal.Refusal.{Refusal}
use Rattle.algorithms.specs.Sizes.{tag_length}
use Rattle.exchange.specs.declared.Exchange.{Exchange}
use Rattle.exchange.specs.declared.Move.{Move}
use Rattle.exchange.specs.declared.StepAnswer.{StepAnswer}
use Rattle.exchange.specs.Exchange.{closed_phase, opened_phase, is_free, is_asked, is_opened, left_in, has_opened_length, response_holds}

-- a call on a ticket: its kind with the numbers that it brings, and the bytes that it brings: enc, nonce and salt buffer. Of 01's calls only
-- respond brings bytes; what any call brings is written, or refused, by the same rule
pub record Step : Type 0 where
  pub kind : Move
  pub enc : List ℕ
  pub nonce : List ℕ
  pub salt : List ℕ

abbrev pub step : Move → List ℕ → List ℕ → List ℕ → Step
step kind enc nonce salt = record { kind = kind; enc = enc; nonce = nonce; salt = salt }

-- a call that brings no bytes
abbrev pub bare : Move → Step
bare kind = step kind [] [] []

-- open result (success or failure, n): "Failure ignores n"
abbrev pub open_result : Bool → ℕ → Step
open_result true n = bare (Move.Open n)
open_result false n = bare Move.Fail

-- respond (enc, nonce, plain length, salt buffer)
abbrev pub respond : List ℕ → List ℕ → ℕ → List ℕ → Step
respond enc nonce plain salt = step (Move.Respond plain) enc nonce salt

abbrev pub abandon : Step
abandon = bare Move.Abandon

-- "Only when asked", open result; "Only when opened", respond; "from asked or opened", abandon
abbrev pub when_asked : Move → Bool
when_asked (Move.Open n) = true
when_asked Move.Fail = true
when_asked (Move.Respond plain) = false
when_asked Move.Abandon = true

abbrev pub when_opened : Move → Bool
when_opened (Move.Open n) = false
when_opened Move.Fail = false
when_opened (Move.Respond plain) = true
when_opened Move.Abandon = true

abbrev pub is_allowed : Move → Exchange → Bool
is_allowed kind e = pick (is_asked e) (when_asked kind) (pick (is_opened e) (when_opened kind) false)

-- the phase that an accepted call leaves: "makes the exchange opened", or "closes"
abbrev pub leaves : Move → ℕ
leaves (Move.Open n) = opened_phase
leaves Move.Fail = closed_phase
leaves (Move.Respond plain) = closed_phase
leaves Move.Abandon = closed_phase

-- the lengths that it brings, with those of enc and nonce, are the exchange's
abbrev pub lengths_hold : Move → ℕ → ℕ → Exchange → Bool
lengths_hold (Move.Open n) enc_size nonce_size e = has_opened_length n e
lengths_hold Move.Fail enc_size nonce_size e = true
lengths_hold (Move.Respond plain) enc_size nonce_size e = response_holds enc_size nonce_size plain e
lengths_hold Move.Abandon enc_size nonce_size e = true

-- 01, "Order", ticket calls: 11, 12, 13, 14; 0: no refusal. Of the bytes that a call brings the lengths decide
unfoldable pub refusal_by : Move → ℕ → ℕ → ℕ → Exchange → ℕ
refusal_by kind enc_size nonce_size room e =
    11 when is_free e otherwise
    12 when not (is_allowed kind e) otherwise
    13 when not (lengths_hold kind enc_size nonce_size e) otherwise
    14 when ltb room (enc_size + nonce_size) otherwise
    0

abbrev pub refusal : Step → Exchange → ℕ
refusal s e = refusal_by s.kind (length s.enc) (length s.nonce) (length s.salt) e

-- what an accepted call makes of the exchange
abbrev pub next : Step → Exchange → Exchange
next s e = left_in (leaves s.kind) e

-- what an accepted call answers: opened, or on failure unprotected 422; sealed, outer status 200, and the encapsulated length: nonce +
-- plain length + 16
abbrev pub accepted : Move → ℕ → StepAnswer
accepted (Move.Open n) nonce_size = StepAnswer.Opened
accepted Move.Fail nonce_size = StepAnswer.Failed 422
accepted (Move.Respond plain) nonce_size = StepAnswer.Sealed (record { status = 200; length = nonce_size + plain + tag_length })
accepted Move.Abandon nonce_size = StepAnswer.Abandoned

-- the answer, or the refusal
abbrev pub answer : Step → Exchange → Result StepAnswer Refusal
answer s e = result_by (refusal s e) (accepted s.kind (length s.nonce))

-- the salt buffer after the call: enc, then nonce, at its front
abbrev pub buffer : Step → Exchange → List ℕ
buffer s e = written (refusal s e) (s.enc ++ s.nonce) s.salt

-- 01's refusal number of an answer; 0: the call is accepted
unfoldable pub step_number : Result StepAnswer Refusal → ℕ
step_number (Ok a) = 0
step_number (Err r) = r.number

-- the status of an answer that goes out unprotected, that of a failed opening; 0 where none does
unfoldable pub step_unprotected : Result StepAnswer Refusal → ℕ
step_unprotected (Ok StepAnswer.Opened) = 0
step_unprotected (Ok (StepAnswer.Failed status)) = status
step_unprotected (Ok (StepAnswer.Sealed s)) = 0
step_unprotected (Ok StepAnswer.Abandoned) = 0
step_unprotected (Err r) = 0

-- what the theorems say of the calls, apart from the rules above: which close the exchange where they are accepted, and which is the failure of
-- open result
abbrev pub closes : Move → Bool
closes (Move.Open n) = false
closes Move.Fail = true
closes (Move.Respond plain) = true
closes Move.Abandon = true

abbrev pub fails : Move → Bool
fails (Move.Open n) = false
fails Move.Fail = true
fails (Move.Respond plain) = false
fails Move.Abandon = false
