-- What holds of how a gateway is stored: the place of a new exchange was free, the place of a closed one is and is used again, the table is full with 128
-- pending, and no number of a fixed width wraps.
use Rattle.std.specs.Prelude.{ℕ, ◌+◌, ◌<◌, true, ◌≡◌, List, [], ◌∷◌, ◌++◌, map, eqb, length, get_or, take}
use Rattle.exchange.specs.declared.Exchange.{Exchange}
use Rattle.request.specs.Request.{fields_of}
use Rattle.exchange.specs.Exchange.{free, is_free, asked}
use Rattle.exchange.specs.Steps.{Step, closes}
use Rattle.keys.specs.Keys.{Key}
use Rattle.keys.specs.declared.KeyState.{KeyState}
use Rattle.keys.specs.Stored.{used_state}
use Rattle.gateway.specs.declared.Gateway.{Gateway}
use Rattle.gateway.specs.declared.table.Engine.{Engine}
use Rattle.gateway.specs.Registry.{table_size}
use Rattle.gateway.specs.View.{registry_of, pending_in, is_full}
use Rattle.gateway.specs.Engines.{place_of_ticket}
use Rattle.gateway.specs.Gateway.{next_ticket, gateway_does}
use Rattle.gateway.specs.Calls.{Call, admit, on_ticket, number}
use Rattle.book.specs.History.{gateway_after, Accepts}

-- 01's open point: the new exchange stands at a place that was free, and every other place keeps what it had
pub record NewPlace (before after : List Exchange) (new : Exchange) : Type 0 where
  pub place : ℕ
  pub inside : place < length before
  pub was_free : is_free (get_or before place free) ≡ true
  pub holds_new : get_or after place free ≡ new
  pub others : (other : ℕ) → (other ≡ place → ⊥) → get_or after other free ≡ get_or before other free

-- for every accepted admit, by either engine
abbrev pub PlaceIsFree : Type 0
PlaceIsFree =
    (engine : Engine) (g : Gateway) (request info : List ℕ) → number (gateway_does engine g (admit request info)).answer ≡ 0
    → NewPlace g.table (gateway_does engine g (admit request info)).state.table (asked (next_ticket g) (fields_of request))

-- where the fast engine finds a ticket after the calls
abbrev pub place_after : List ℕ → ℕ → List Call → ℕ → ℕ
place_after list cap calls ticket = place_of_ticket Engine.Fast ticket (gateway_after list cap calls).table

-- "a closed ticket gives 11 and its place is free": a ticket on which a call is accepted has a place, which the call leaves free where it closes
pub record ClosedPlace (list : List ℕ) (cap : ℕ) (calls : List Call) (ticket : ℕ) (step : Step) : Type 0 where
  pub inside : place_after list cap calls ticket < length (gateway_after list cap calls).table
  pub left_free : closes step.kind ≡ true
      → get_or (gateway_after list cap (calls ++ on_ticket ticket step ∷ [])).table (place_after list cap calls ticket) free ≡ free

abbrev pub ClosedPlaceIsFree : Type 0
ClosedPlaceIsFree =
    (list : List ℕ) (cap : ℕ) (calls : List Call) (ticket : ℕ) (step : Step) → Accepts list cap calls (on_ticket ticket step)
    → ClosedPlace list cap calls ticket step

-- A10, by the fast engine: 128 pending is full whatever the tickets are, and fewer are not; so admit's 9 is 128 pending
abbrev pub FullExactly : Type 0
FullExactly =
    (list : List ℕ) (cap : ℕ) (calls : List Call) → let table = (gateway_after list cap calls).table in
    is_full table ≡ eqb (length (pending_in table)) table_size

-- and a closed place is used again, also where homes are taken: in a table that was full the next exchange stands where the closed one stood (a call
-- that does not close leaves the table full, and no admit is accepted)
abbrev pub ClosedPlaceIsUsedAgain : Type 0
ClosedPlaceIsUsedAgain =
    (list : List ℕ) (cap : ℕ) (calls : List Call) (ticket : ℕ) (step : Step) (request info : List ℕ)
    → is_full (gateway_after list cap calls).table ≡ true → Accepts list cap calls (on_ticket ticket step)
    → let closed = calls ++ on_ticket ticket step ∷ [] in
    Accepts list cap closed (admit request info)
    → get_or (gateway_after list cap (closed ++ admit request info ∷ [])).table (place_after list cap calls ticket) free
    ≡ asked (next_ticket (gateway_after list cap closed)) (fields_of request)

-- no ticket and no count is the largest of its width, so that the next one is one more
pub record OneMore (g : Gateway) : Type 0 where
  pub ticket : next_ticket g ≡ (registry_of g).last_ticket + 1
  pub counts : map (λ (k : KeyState). (used_state k).count) (take g.keys.count g.keys.list) ≡ map (λ (key : Key). key.count + 1) (registry_of g).keys

abbrev pub NothingWraps : Type 0
NothingWraps = (list : List ℕ) (cap : ℕ) (calls : List Call) → OneMore (gateway_after list cap calls)
