-- What goes out unprotected: of a refused admit and of a failed opening.
-- Assumes nothing.
use mathlib.Core.Path.{◌≡◌, refl}
use mathlib.Core.List.{List}
use Prim.Native.Nat.{ℕ, zero, suc}
use Rattle.wire.specs.Refusals.{unless_refused}
use Rattle.exchange.proofs.Steps.{step-unprotected}
use Rattle.gateway.specs.Registry.{status_of, admit_answer}
use Rattle.gateway.specs.Engines.{pending_with}
use Rattle.gateway.specs.Gateway.{next_ticket, gateway_does, gateway_admit_number}
use Rattle.gateway.specs.Calls.{admit, retire, on_ticket, reporting, of_admit, unprotected_status}
use Rattle.book.specs.OneCall.{UnprotectedExactly}

-- the status of a refused admit
admit_status : (n ticket : ℕ) (request : List ℕ) → unprotected_status (of_admit (admit_answer n ticket request)) ≡ unless_refused n 0 (status_of n)
unfolding unprotected_status
admit_status zero ticket request = refl
admit_status (suc n) ticket request = refl

pub unprotected_exactly : UnprotectedExactly
unfolding gateway_does unprotected_status
unprotected_exactly engine g (admit request info) = admit_status (gateway_admit_number request info g) (next_ticket g) request
unprotected_exactly engine g (retire id) = refl
unprotected_exactly engine g (on_ticket ticket step) = step-unprotected step (pending_with engine ticket g.table)
unprotected_exactly engine g reporting = refl
