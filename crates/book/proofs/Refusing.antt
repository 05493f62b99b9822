-- A refused call changes neither the gateway nor the buffer that it lends; a refused setup hands back a gateway without keys.
-- Assumes nothing.
use Rattle.std.specs.Prelude.{Result, Ok, Err}
use mathlib.Core.Path.{◌≡◌, refl, sym, ◌∙◌}
use mathlib.Core.List.{List, []}
use Prim.Native.Nat.{ℕ, zero, suc}
use native.Mathlib.Omega.{arith}
use lib.ListN.{replicate}
use Rattle.wire.specs.Search.{filtered}
use Rattle.wire.proofs.Numbers.{unless-refused}
use Rattle.wire.specs.declared.refusal.Refusal.{Refusal}
use Rattle.keylist.specs.Layout.{Configuration}
use Rattle.exchange.specs.Exchange.{free}
use Rattle.keys.proofs.Views.{stored_view}
use Rattle.gateway.specs.declared.Gateway.{Gateway}
use Rattle.gateway.specs.declared.table.Engine.{Engine}
use Rattle.gateway.specs.Registry.{table_size, setup}
use Rattle.gateway.specs.View.{registry_of, pending_in}
use Rattle.gateway.specs.Engines.{pending_with}
use Rattle.gateway.specs.Gateway.{gateway_from, next_ticket, gateway_does, gateway_admit_number, gateway_retire_number}
use Rattle.gateway.specs.Calls.{Call, admit, retire, on_ticket, reporting, number}
use Rattle.book.specs.OneCall.{lent, RefusalChangesNothing}
use Rattle.book.proofs.Numbers.{admit-number, retire-number, step-number}

-- what is not 0 under one name is not 0 under another
differs : {a b : ℕ} → a ≡ b → (a ≡ 0 → ⊥) → b ≡ 0 → ⊥
differs e h z = h (e ∙ z)

-- a refused call
refused_call : (engine : Engine) (g : Gateway) (call : Call) → (number (gateway_does engine g call).answer ≡ 0 → ⊥)
    → ((gateway_does engine g call).state ≡ g) × ((gateway_does engine g call).buffer ≡ lent call)
unfolding gateway_does number
refused_call engine g (admit request info) h =
    let refuses = differs (admit-number (gateway_admit_number request info g) (next_ticket g) request) h in
    (sym (unless-refused _ _ g refuses), sym (unless-refused _ _ info refuses))
refused_call engine g (retire id) h =
    (sym (unless-refused _ _ g (differs (retire-number (gateway_retire_number id g)) h)), refl)
refused_call engine g (on_ticket ticket step) h =
    let refuses = differs (step-number step (pending_with engine ticket g.table)) h in
    (sym (unless-refused _ _ g refuses), sym (unless-refused _ _ step.salt refuses))
refused_call engine g reporting h = absurd (h refl)

-- free places hold nothing that is pending
pub none-pending : (n : ℕ) → pending_in (replicate n free) ≡ []
unfolding filtered
none-pending zero = refl
none-pending (suc n) = none-pending n

-- a refused setup
refused-setup : (cap : ℕ) (read : Result (List Configuration) Refusal) (r : Refusal) → read ≡ Err r
    → (registry_of (gateway_from cap read) ≡ record { cap = 1; last_ticket = 0; keys = [] }) × (pending_in (gateway_from cap read).table ≡ [])
refused-setup cap (Ok cs) r e = absurd (let z : ◌≡◌ {A = ℕ} 0 1 = cc e in omega arith)
refused-setup cap (Err s) r e = (rw (stored_view []), none-pending table_size)

pub refusal_changes_nothing : RefusalChangesNothing
refusal_changes_nothing = record { of_call = refused_call; of_setup = λ list cap r e. refused-setup cap (setup list cap) r e }
