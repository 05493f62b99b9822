-- `client::choose::is_listed` meets its contract. The loop's invariant: the pair is listed exactly where it is among the pairs that are left. The
-- measure is how many numbers are left.
-- Assumes nothing.
use Rattle.std.proofs.Common.{◌≡◌, length}
use Rattle.client.specs.Choose.{listed}
use Rattle.client.proofs.choose.is_listed.Given as goal

abbrev pub invariant-loop-rest : goal.invariant-loop-rest
invariant-loop-rest l = listed l.pairs l.pair ≡ listed l.rest l.pair

abbrev pub decreases-loop-rest : goal.decreases-loop-rest
decreases-loop-rest l = length l.rest
