-- `integers::read` meets its contract. The loop's invariant: what was read, and the bytes behind it, make the value.
-- Assumes nothing.
use Rattle.integers.proofs.Values.{ReadTo}
use Rattle.integers.proofs.read.Given as goal

abbrev pub invariant-loop-byte : goal.invariant-loop-byte
invariant-loop-byte l = ReadTo l.first l.rest l.value l.byte-index
