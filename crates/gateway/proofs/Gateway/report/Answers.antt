-- `gateway::Gateway::report` meets its contract.
-- Assumes nothing.
use Rattle.std.proofs.Common.{refl}
use Rattle.gateway.specs.Gateway.{gateway_does}
use Rattle.gateway.proofs.Gateway.report.Goals as goal

pub returns : goal.returns
unfolding gateway_does
returns c = record { gateway = λ engine. refl; answer = λ engine. rw (c.count_pending.ensures, c.number.ensures.value, c.report.ensures) refl }
