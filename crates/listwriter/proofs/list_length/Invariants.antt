-- `listwriter::list_length` meets its contract. The loop's invariant: the answer is the offset and what the fields that are left encode to.
-- Assumes nothing.
use Rattle.listwriter.specs.Helpers.{fields_of}
use Rattle.listwriter.proofs.FieldsWalk.{Measuring}
use Rattle.listwriter.proofs.list_length.Given as goal

abbrev pub invariant-loop-before : goal.invariant-loop-before
invariant-loop-before l = Measuring l.ids (fields_of l.given) l.before l.at (fields_of l.rest)
