-- `fields::field::count` meets its contract. The loop's invariant: the fields counted and those from the place on are the section's.
-- Assumes nothing.
use Prim.Native.Nat.{◌-◌}
use lib.ListN.{length}
use Rattle.fields.proofs.Sections.{Counting}
use Rattle.fields.proofs.field.count.Given as goal

abbrev pub invariant-loop-at : goal.invariant-loop-at
invariant-loop-at l = Counting l.bytes l.start l.at l.fields

abbrev pub decreases-loop-at : goal.decreases-loop-at
decreases-loop-at l = length l.bytes - l.at
