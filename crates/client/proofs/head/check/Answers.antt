-- `client::head::check` meets its contract: each refusal by its test, in 01's order.
-- Assumes nothing.
use Rattle.std.proofs.Common.{◌≡◌, Some, sym, ◌∙◌, arith}
use Rattle.std.specs.Bool.{then_some}
use Rattle.algorithms.specs.Sizes.{known_kem, enc_length}
use Rattle.client.proofs.Fronts.{unknown_pair, other_length, no_head_room, no_info_room, all_fits}
use Rattle.client.proofs.head.check.Goals as goal
use Rattle.client.proofs.head.check.Goals.{In_ok-size}

-- what was looked up
looked : (c : In_ok-size) → then_some (known_kem c.args.kem.0) (enc_length c.args.kem.0) ≡ Some c.in_ok-size.size
looked c = grind arith

pub returns-then-not-is_known_pair : goal.returns-then-not-is_known_pair
returns-then-not-is_known_pair c =
    let k = looked (goal.at.returns-then-not-is_known_pair c).In_ok-size in
    sym (unknown_pair _ _ _ _ _ _ _ k (sym c.is_known_pair.ensures ∙ c.if-not-is_known_pair.true))

pub returns-then-enc-size : goal.returns-then-enc-size
returns-then-enc-size c =
    let k = looked (goal.at.returns-then-enc-size c).In_ok-size in
    sym (other_length _ _ _ _ _ _ _ k (sym c.is_known_pair.ensures ∙ c.if-not-is_known_pair.false) c.if-enc-size.true)

pub returns-then-head_room-size : goal.returns-then-head_room-size
returns-then-head_room-size c =
    let k = looked (goal.at.returns-then-head_room-size c).In_ok-size in
    sym (no_head_room _ _ _ _ _ _ _ k (sym c.is_known_pair.ensures ∙ c.if-not-is_known_pair.false) (omega arith) (omega arith))

pub returns-then-info_room-lt-INFO_LENGTH : goal.returns-then-info_room-lt-INFO_LENGTH
returns-then-info_room-lt-INFO_LENGTH c =
    let k = looked (goal.at.returns-then-info_room-lt-INFO_LENGTH c).In_ok-size in
    sym (no_info_room _ _ _ _ _ _ _ k (sym c.is_known_pair.ensures ∙ c.if-not-is_known_pair.false) (omega arith) (omega arith) (omega arith))

pub returns : goal.returns
returns c =
    let k = looked (goal.at.returns c).In_ok-size in
    sym (all_fits _ _ _ _ _ _ _ k (sym c.is_known_pair.ensures ∙ c.if-not-is_known_pair.false) (omega arith) (omega arith) (omega arith))
