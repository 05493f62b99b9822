-- `sealwax::words::decode` is safe and ends. The loop's invariant: the line keeps its length, and the bytes end no further than where the next signs are read. The measure is how much of the line is left.
-- Assumes nothing.
use Rattle.std.proofs.Common.{◌≡◌, ◌-◌, ◌≤◌, length}
use Rattle.sealwax.proofs.words.decode.Given as goal

abbrev pub invariant-loop-from : goal.invariant-loop-from
invariant-loop-from l = (length l.line ≡ length l.initial.line) × (l.end ≤ l.from) × (l.from ≤ length l.initial.line)

abbrev pub decreases-loop-from : goal.decreases-loop-from
decreases-loop-from l = length l.initial.line - l.from
