-- `gateway::Gateway::step` meets its contract: what the call leaves of the exchange stands in its place.
-- Assumes nothing.
use Rattle.std.proofs.Common.{◌≡◌, ◌<◌, ◌≤◌, ◌∙◌, ap, ap₂, ℕ, length, get_or, rules, arith}
use Rattle.exchange.specs.declared.Exchange.{Exchange}
use Rattle.exchange.specs.Exchange.{free}
use Rattle.exchange.specs.Steps.{step, answer}
use Rattle.exchange.specs.Moved.{of_ticket, after}
use Rattle.gateway.specs.Calls.{of_step}
use Rattle.gateway.specs.Engines.{place_by, has_number}
use Rattle.gateway.proofs.Results.{with_exchange, stepped, not_pending}
use Rattle.gateway.proofs.Gateway.step.Goals as goal

pub returns-then-place-eq-TABLE_SIZE : goal.returns-then-place-eq-TABLE_SIZE
returns-then-place-eq-TABLE_SIZE c =
    let a = c.args in
    let g = a.self.now in
    let size : length g.table ≡ 128 = search rules in
    let out : length g.table ≤ place_by a.engine a.ticket.0 (has_number a.ticket.0) g.table = omega (arith, c.find-place.ensures.value) in
    let does = not_pending a.engine g a.ticket.0 (step a.kind a.enc.now a.nonce.now a.salt.now) out in
    rw c.from.ensures (record { gateway = does.gateway; answer = does.answer; buffer = does.buffer })

pub returns : goal.returns
returns c =
    let a = c.args in
    let g = a.self.now in
    let call = step a.kind a.enc.now a.nonce.now a.salt.now in
    let at = place_by a.engine a.ticket.0 (has_number a.ticket.0) g.table in
    let size : length g.table ≡ 128 = search rules in
    let inside : at < length g.table = omega (arith, c.find-place.ensures.value, c.find-place.ensures.bound) in
    let does = stepped a.engine g a.ticket.0 call inside in
    let there = get_or g.table at free in
    let found = c.find-place.ensures.value in
    let next : c.step.new.self ≡ after a.ticket.0 call there = rw found at c.step.ensures.next in
    let told : c.step.result ≡ answer call (of_ticket a.ticket.0 there) = rw found at c.step.ensures.answer in
    record {
      gateway = ap₂ (λ (place : ℕ) (left : Exchange). with_exchange place left g) found next ∙ does.gateway;
      answer = ap of_step told ∙ does.answer;
      buffer = rw found at c.step.ensures.buffer ∙ does.buffer;
    }
