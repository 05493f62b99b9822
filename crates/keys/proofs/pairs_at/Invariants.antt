-- `keys::pairs_at` meets its contract. The loop's invariant: the pairs read so far stand first in the array.
-- Assumes nothing.
use mathlib.Core.Path.{◌≡◌}
use Prim.Native.Nat.{◌-◌, ◌≤◌}
use Rattle.keylist.specs.Layout.{pairs_at}
use Rattle.keys.specs.Stored.{most_pairs, no_pair}
use Rattle.keys.specs.Keys.{padded}
use Rattle.keys.proofs.pairs_at.Given as goal

abbrev pub invariant-loop-done : goal.invariant-loop-done
invariant-loop-done l = (l.pairs ≡ padded most_pairs no_pair (pairs_at l.done l.list l.from)) × (l.done ≤ l.count)

abbrev pub decreases-loop-done : goal.decreases-loop-done
decreases-loop-done l = l.count - l.done
