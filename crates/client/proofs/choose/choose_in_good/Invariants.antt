-- `client::choose::choose_in_good` meets its contract. The loop's invariant: the choice is the choice among the configurations that
-- are left, and at the offset the first of them starts. The measure is what is left of the list.
-- Assumes nothing.
use mathlib.Core.Path.{◌≡◌}
use Prim.Native.Nat.{◌-◌}
use lib.ListN.{length}
use Rattle.keylist.proofs.Walk.{GoodFrom}
use Rattle.keylist.specs.Layout.{parse}
use Rattle.client.specs.Choose.{choose_from, choose_first}
use Rattle.client.proofs.choose.choose_in_good.Given as goal

abbrev pub invariant-loop-place : goal.invariant-loop-place
invariant-loop-place l =
    (w : GoodFrom l.list l.at) × (choose_from l.kems l.pairs (parse l.list) ≡ choose_first l.kems l.pairs w.rest)

abbrev pub decreases-loop-place : goal.decreases-loop-place
decreases-loop-place l = length l.list - l.at
