-- Retire and report lend no buffer.
-- Assumes nothing.
use Rattle.std.proofs.Common.{◌≡◌, ℕ, List, [], refl}
use Rattle.gateway.specs.declared.Gateway.{Gateway}
use Rattle.gateway.specs.declared.table.Engine.{Engine}
use Rattle.gateway.specs.Calls.{retire, reporting}
use Rattle.gateway.specs.Gateway.{gateway_does}

pub none_retired : (engine : Engine) (g : Gateway) (id : ℕ) → ◌≡◌ {A = List ℕ} [] (gateway_does engine g (retire id)).buffer
unfolding gateway_does
none_retired engine g id = refl

pub none_reported : (engine : Engine) (g : Gateway) → ◌≡◌ {A = List ℕ} [] (gateway_does engine g reporting).buffer
unfolding gateway_does
none_reported engine g = refl
