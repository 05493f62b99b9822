-- `listwriter::write_words` meets its contract. The loop's invariant: so many numbers stand in the buffer from the offset on.
-- Assumes nothing.
use Rattle.listwriter.specs.Writer.{words_bytes}
use Rattle.wire.specs.Helpers.{overwritten}
use mathlib.Core.Path.{◌≡◌}
use lib.ListN.{length, take}
use Rattle.listwriter.proofs.write_words.Given as goal

abbrev pub invariant-loop-done : goal.invariant-loop-done
invariant-loop-done l =
    (length l.buffer ≡ length l.initial.buffer) × (l.buffer ≡ overwritten l.initial.buffer l.at (words_bytes (take l.done l.words)))
