-- `keylist::key::find_in_good` meets its contract. The loop's invariant: the key is sought among the configurations that are left of
-- a good list. The measure is what is left of the list.
-- Assumes nothing.
use Rattle.keylist.proofs.Keys.{first_with_id}
use Rattle.keylist.proofs.Walk.{GoodFrom}
use Rattle.keylist.specs.Answers.{key_place_in}
use Rattle.keylist.specs.Layout.{parse}
use mathlib.Core.Path.{◌≡◌}
use Prim.Native.Nat.{◌-◌}
use lib.ListN.{length}
use Rattle.keylist.proofs.key.find_in_good.Given as goal

abbrev pub invariant-loop-place : goal.invariant-loop-place
invariant-loop-place l =
    (w : GoodFrom l.list l.at) × (key_place_in l.id.0 (parse l.list) ≡ first_with_id l.id.0 w.rest)

abbrev pub decreases-loop-place : goal.decreases-loop-place
decreases-loop-place l = length l.list - l.at
