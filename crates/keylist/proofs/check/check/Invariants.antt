-- `keylist::check::check` meets its contract. The loop's invariant: the answer is that of reading on from the offset, with as many
-- configurations before it as were counted, and the key ids of those that were read taken. The measure is what is left of the list.
-- Assumes nothing.
use lib.ListN.{length, take}
use Rattle.keylist.proofs.Parsing.{counted, skips_from}
use Rattle.keylist.specs.Answers.{checked}
use Rattle.keylist.specs.Layout.{parse_from}
use mathlib.Core.Path.{◌≡◌}
use Prim.Native.Nat.{◌+◌, ◌-◌, ◌≤◌}
use Rattle.keylist.proofs.check.check.Given as goal

abbrev pub invariant-loop-at : goal.invariant-loop-at
invariant-loop-at l =
    (l.at ≤ length l.list) × (l.read + l.skipped ≤ 16) × (length l.taken ≡ 16)
    × (checked l.list ≡ counted l.read l.skipped (parse_from (16 - (l.read + l.skipped)) (take l.read l.taken) l.list l.at) (skips_from (16 - (l.read + l.skipped)) l.list l.at))

abbrev pub decreases-loop-at : goal.decreases-loop-at
decreases-loop-at l = length l.list - l.at
