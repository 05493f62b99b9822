-- What holds of a key once it is retired, over every history.
use Rattle.std.specs.Prelude.{ℕ, ◌≤◌, true, ◌≡◌, List, [], ◌∷◌, ◌++◌}
use Rattle.wire.specs.Search.{among}
use Rattle.request.specs.Request.{key_id_of}
use Rattle.exchange.specs.Steps.{Step}
use Rattle.gateway.specs.declared.table.Engine.{Engine}
use Rattle.gateway.specs.View.{registry_of}
use Rattle.gateway.specs.Gateway.{gateway_does}
use Rattle.gateway.specs.Calls.{Call, admit, retire, on_ticket, number}
use Rattle.book.specs.History.{Event, event, gateway_after, answer_after, Accepts}

-- what one more call gives, from what the calls reached
abbrev pub event_after : List ℕ → ℕ → List Call → Call → Event
event_after list cap calls call = event call (gateway_does Engine.Fast (gateway_after list cap calls) call)

-- 01, "Retire": "later admissions refuse it. Pending exchanges go on."
pub record Retirement (list : List ℕ) (cap : ℕ) (calls : List Call) (id : ℕ) : Type 0 where
  -- whatever comes between, an admission that names the key gets 7, or a number that comes before 7 in admit's order
  pub refuses_later : (between : List Call) (request info : List ℕ) → key_id_of request ≡ id
      → among (2 ∷ 1 ∷ 3 ∷ 4 ∷ 5 ∷ 6 ∷ 7 ∷ []) (number (answer_after list cap (calls ++ retire id ∷ between) (admit request info))) ≡ true
  -- a call on a ticket that was given before gets the answer and leaves the bytes that it would have without the retirement
  pub pending_go_on : (between : List Call) (ticket : ℕ) (step : Step) → ticket ≤ (registry_of (gateway_after list cap calls)).last_ticket
      → event_after list cap (calls ++ retire id ∷ between) (on_ticket ticket step) ≡ event_after list cap (calls ++ between) (on_ticket ticket step)

-- after every accepted retirement
abbrev pub RetirementHolds : Type 0
RetirementHolds =
    (list : List ℕ) (cap : ℕ) (calls : List Call) (id : ℕ) → Accepts list cap calls (retire id) → Retirement list cap calls id
