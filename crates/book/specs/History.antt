-- Lists of calls, each of which gets the state that the one before returned: what each gave, and the state at the end.
use Rattle.std.specs.Prelude.{ℕ, Bool, ◌≡◌, List, [], ◌∷◌, eqb, Ok, Err}
use Rattle.gateway.specs.declared.Gateway.{Gateway}
use Rattle.gateway.specs.declared.table.Engine.{Engine}
use Rattle.gateway.specs.Gateway.{fresh_gateway, gateway_does}
use Rattle.gateway.specs.Calls.{Call, Answer, Done, number, of_admit, of_retire, of_step, of_report}

-- a call, its answer, and its buffer's bytes after it
pub record Event : Type 0 where
  pub call : Call
  pub answer : Answer
  pub buffer : List ℕ

abbrev pub event : {State : Type 0} → Call → Done State → Event
event call done = record { call = call; answer = done.answer; buffer = done.buffer }

module _ {State : Type 0} (does : State → Call → Done State) where
  unfoldable pub trace : State → List Call → List Event
  trace s [] = []
  trace s (call ∷ calls) = event call (does s call) ∷ trace (does s call).state calls

  unfoldable pub final : State → List Call → State
  final s [] = s
  final s (call ∷ calls) = final (does s call).state calls

-- from the gateway that setup handed back, after a refused setup too; by the fast engine, which is the one that hosts use
abbrev pub gateway_trace : List ℕ → ℕ → List Call → List Event
gateway_trace list cap calls = trace (gateway_does Engine.Fast) (fresh_gateway list cap) calls

abbrev pub gateway_after : List ℕ → ℕ → List Call → Gateway
gateway_after list cap calls = final (gateway_does Engine.Fast) (fresh_gateway list cap) calls

-- and from what they reached: the answer to one more call, and that it is accepted
abbrev pub answer_after : List ℕ → ℕ → List Call → Call → Answer
answer_after list cap calls call = (gateway_does Engine.Fast (gateway_after list cap calls) call).answer

abbrev pub Accepts : List ℕ → ℕ → List Call → Call → Type 0
Accepts list cap calls call = number (answer_after list cap calls call) ≡ 0

-- answered without a refusal number
abbrev pub is_accepted : Event → Bool
is_accepted e = eqb (number e.answer) 0

-- the ticket that an answer gives; none where it is not that of an accepted admit
unfoldable pub tickets_of : Answer → List ℕ
tickets_of (of_admit (Ok a)) = a.ticket.0 ∷ []
tickets_of (of_admit (Err r)) = []
tickets_of (of_retire r) = []
tickets_of (of_step r) = []
tickets_of (of_report r) = []
