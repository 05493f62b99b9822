-- `wire::bytes::overwrite` meets its contract. The loop's invariant: so many bytes have been copied to the offset, and the rest is as it was.
-- Assumes nothing.
use lib.ListN.{length}
use lib.Seq.{paste}
use mathlib.Core.Path.{◌≡◌}
use Rattle.wire.proofs.bytes.overwrite.Given as goal

abbrev pub invariant-loop-done : goal.invariant-loop-done
invariant-loop-done l = (length l.buffer ≡ length l.initial.buffer) × (l.buffer ≡ paste l.initial.buffer l.at l.bytes l.done)
