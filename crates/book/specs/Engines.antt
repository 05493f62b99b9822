-- A10: "prove that both, from one setup, give equal answers, buffer bytes, key counts, tickets and pending sets on every list of demand 3."
use Rattle.std.specs.Prelude.{ℕ, ◌≡◌}
use mathlib.Core.List.{List, Perm}
use Rattle.gateway.specs.declared.Gateway.{Gateway}
use Rattle.gateway.specs.declared.table.Engine.{Engine}
use Rattle.gateway.specs.Gateway.{fresh_gateway, gateway_does}
use Rattle.gateway.specs.View.{registry_of, pending_in}
use Rattle.gateway.specs.Calls.{Call, Done}
use Rattle.book.specs.History.{trace, final, gateway_trace, gateway_after}

-- what a call does by the engine that is chosen for it, by the gateway that it gets and by the call; the choice `λ g call. Engine.Plain` is the plain engine
abbrev pub does_by : (Gateway → Call → Engine) → Gateway → Call → Done Gateway
does_by choice g call = gateway_does (choice g call) g call

-- against the fast engine, of which `gateway_trace` and `gateway_after` are
pub record EnginesAgree (choice : Gateway → Call → Engine) (list : List ℕ) (cap : ℕ) (calls : List Call) : Type 0 where
  -- answers, with the tickets in them, and buffer bytes
  pub same_answers : trace (does_by choice) (fresh_gateway list cap) calls ≡ gateway_trace list cap calls
  -- the keys with their counts, and the last ticket
  pub same_registry : registry_of (final (does_by choice) (fresh_gateway list cap) calls) ≡ registry_of (gateway_after list cap calls)
  pub same_pending : Perm (pending_in (final (does_by choice) (fresh_gateway list cap) calls).table) (pending_in (gateway_after list cap calls).table)

-- for every list of calls and every choice
abbrev pub EnginesAgreeHolds : Type 0
EnginesAgreeHolds = (choice : Gateway → Call → Engine) (list : List ℕ) (cap : ℕ) (calls : List Call) → EnginesAgree choice list cap calls
