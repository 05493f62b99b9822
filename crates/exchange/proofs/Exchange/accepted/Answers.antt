-- `exchange::Exchange::accepted` meets its contract: the sum fits, since the lengths hold.
-- Assumes nothing.
use mathlib.Core.Path.{refl}
use native.Mathlib.Omega.{arith}
use Rattle.exchange.proofs.Lengths.{Lengths, lengths}
use Rattle.exchange.proofs.Exchange.accepted.Goals as goal
use Rattle.exchange.proofs.Exchange.accepted.Goals.{In-Respond}

-- the lengths of a response
held : (c : In-Respond) → (let a = c.args in Lengths a.enc a.nonce c.in-Respond.plain a.self.now)
held c =
    let a = c.args in
    lengths a.enc a.nonce c.in-Respond.plain a.self.now (rw c.in-Respond.is at c.requires)

pub overflow_add-result : goal.overflow_add-result
overflow_add-result c = record { fits = omega (arith, (held c).is_short, (held c).nonce_bound) }

pub overflow_add-result-in-Respond : goal.overflow_add-result-in-Respond
overflow_add-result-in-Respond c = record { fits = omega (arith, (held c).is_short, (held c).nonce_bound) }

pub returns-in-Respond : goal.returns-in-Respond
returns-in-Respond c = rw c.in-Respond.is refl
