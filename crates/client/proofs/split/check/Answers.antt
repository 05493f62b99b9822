-- `client::split::check` meets its contract.
-- Assumes nothing.
use Rattle.std.proofs.Common.{◌≡◌, Some, sym, arith}
use Rattle.std.specs.Bool.{then_some}
use Rattle.algorithms.specs.Sizes.{known_aead, response_nonce_length}
use Rattle.client.proofs.Parts.{nonce_bound, too_short, too_long}
use Rattle.client.proofs.split.check.Goals as goal
use Rattle.client.proofs.split.check.Goals.{In_ok-nonce}

-- what was looked up
looked : (c : In_ok-nonce)
    → then_some (known_aead c.args.aead.0) (response_nonce_length c.args.aead.0) ≡ Some c.in_ok-nonce.nonce
looked c = grind arith

pub overflow_add-nonce : goal.overflow_add-nonce
overflow_add-nonce c = omega (arith, nonce_bound c.args.aead.0 0 _ (looked c))

pub returns-then-response-nonce : goal.returns-then-response-nonce
returns-then-response-nonce c =
    let k = looked (goal.at.returns-then-response-nonce c).In_ok-nonce in
    rw c.from.ensures (sym (too_short c.args.aead.0 _ _ k (omega arith)))

pub overflow_add-nonce-2 : goal.overflow_add-nonce-2
overflow_add-nonce-2 c = omega (arith, nonce_bound c.args.aead.0 0 _ (looked (goal.at.overflow_add-nonce-2 c).In_ok-nonce))

pub returns-then-nonce-response : goal.returns-then-nonce-response
returns-then-nonce-response c =
    let k = looked (goal.at.returns-then-nonce-response c).In_ok-nonce in
    rw c.from-then-nonce-response.ensures (sym (too_long c.args.aead.0 _ _ k (omega arith) (omega arith)))
