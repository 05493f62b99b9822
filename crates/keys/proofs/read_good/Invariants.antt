-- `keys::read_good` meets its contract. The loop's invariant is `Read`: the configurations before the offset are stored. The measure is
-- what is left of the list.
-- Assumes nothing.
use Prim.Native.Nat.{◌-◌}
use lib.ListN.{length}
use Rattle.keys.proofs.Reading.{Read}
use Rattle.keys.proofs.read_good.Given as goal

abbrev pub invariant-loop-place : goal.invariant-loop-place
invariant-loop-place l = Read l.list l.at l.keys.list l.count

abbrev pub decreases-loop-place : goal.decreases-loop-place
decreases-loop-place l = length l.list - l.at
