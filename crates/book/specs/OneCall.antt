-- What holds of one call: a refusal changes nothing, when an exchange is admitted, and what goes out unprotected.
use Rattle.std.specs.Prelude.{ℕ, ◌≤◌, ◌<◌, ◌≡◌, ◌↔◌, true, false, List, [], ◌∷◌, ◌++◌, length, Err}
use Rattle.wire.specs.Tests.{pick}
use Rattle.wire.specs.Refusals.{unless_refused}
use Rattle.wire.specs.declared.refusal.Refusal.{Refusal}
use Rattle.wire.specs.Texts.{info_length, longest_request}
use Rattle.algorithms.specs.Sizes.{known_kem, known_kdf, known_aead, shortest_request}
use Rattle.exchange.specs.declared.Exchange.{Exchange}
use Rattle.request.specs.Request.{key_id_of, kem_of, kdf_of, aead_of}
use Rattle.exchange.specs.Exchange.{is_free}
use Rattle.exchange.specs.Steps.{refusal, fails}
use Rattle.keys.specs.Keys.{Key}
use Rattle.gateway.specs.declared.Gateway.{Gateway}
use Rattle.gateway.specs.declared.table.Engine.{Engine}
use Rattle.gateway.specs.Registry.{setup, admit_refusal, status_of}
use Rattle.gateway.specs.Engines.{pending_with}
use Rattle.gateway.specs.Gateway.{fresh_gateway, gateway_does}
use Rattle.gateway.specs.View.{registry_of, pending_in, is_full}
use Rattle.gateway.specs.Calls.{Call, admit, retire, on_ticket, reporting, number, unprotected_status}
use Rattle.book.specs.History.{gateway_after, Accepts}

-- the bytes of the buffer that a call lends
abbrev pub lent : Call → List ℕ
lent (admit request info) = info
lent (retire id) = []
lent (on_ticket ticket step) = step.salt
lent reporting = []

-- "A refusal changes no gateway and no byte of a lent buffer", for every gateway and every call, by either engine. Setup makes a gateway: "A refused setup
-- hands back a gateway without keys, cap 1, last ticket 0"
pub record RefusalChangesNothing : Type 0 where
  pub of_call : (engine : Engine) (g : Gateway) (call : Call) → (number (gateway_does engine g call).answer ≡ 0 → ⊥)
      → ((gateway_does engine g call).state ≡ g) × ((gateway_does engine g call).buffer ≡ lent call)
  pub of_setup : (list : List ℕ) (cap : ℕ) (r : Refusal) → setup list cap ≡ Err r
      → (registry_of (fresh_gateway list cap) ≡ record { cap = 1; last_ticket = 0; keys = [] }) × (pending_in (fresh_gateway list cap).table ≡ [])

-- Demand 2: "An exchange is admitted exactly when its request is well formed, names a live key with its KEM and a known pair it
-- offers, and there is a use, a free place and buffer for the info."
pub record WellFormed (request : List ℕ) : Type 0 where
  pub kem : known_kem (kem_of request) ≡ true
  pub long_enough : shortest_request (kem_of request) ≤ length request
  pub not_too_long : length request ≤ longest_request

-- an element of a list
abbrev pub IsElement : {A : Type 0} → A → List A → Type 0
IsElement {A} x xs = (before : List A) × (behind : List A) × (xs ≡ before ++ x ∷ behind)

pub record Admissible (g : Gateway) (request info : List ℕ) : Type 0 where
  pub well_formed : WellFormed request
  -- the key that it names
  pub key : Key
  pub is_key : IsElement key (registry_of g).keys
  pub named : key.id ≡ key_id_of request
  pub live : key.retired ≡ false
  pub kem : key.kem ≡ kem_of request
  pub kdf_known : known_kdf (kdf_of request) ≡ true
  pub aead_known : known_aead (aead_of request) ≡ true
  pub pair_offered : IsElement (record { kdf = kdf_of request; aead = aead_of request }) key.pairs
  pub uses : key.count < (registry_of g).cap
  pub free_place_there : (e : Exchange) × IsElement e g.table × (is_free e ≡ true)
  pub room : info_length ≤ length info

-- for every gateway that calls reached
abbrev pub AdmissionExactly : Type 0
AdmissionExactly =
    (list : List ℕ) (cap : ℕ) (calls : List Call) (request info : List ℕ)
    → Accepts list cap calls (admit request info) ↔ Admissible (gateway_after list cap calls) request info

-- "Errors found before or at opening go out unprotected, later ones only sealed"; "no other call's refusal sends anything": the status that
-- goes out unprotected, 0 where nothing does. It is that of a refused admit, and 422 of a failed opening.
abbrev pub unprotected_for : Engine → Gateway → Call → ℕ
unprotected_for engine g (admit request info) =
    let n = admit_refusal (registry_of g) (is_full g.table) request (length info) in unless_refused n 0 (status_of n)
unprotected_for engine g (retire id) = 0
unprotected_for engine g (on_ticket ticket step) = unless_refused (refusal step (pending_with engine ticket g.table)) (pick (fails step.kind) 422 0) 0
unprotected_for engine g reporting = 0

-- for every gateway and every call, by either engine
abbrev pub UnprotectedExactly : Type 0
UnprotectedExactly =
    (engine : Engine) (g : Gateway) (call : Call) → unprotected_status (gateway_does engine g call).answer ≡ unprotected_for engine g call
