-- `listwriter::write_all` meets its contract. The loop's invariant is `Writing`: the list up to the offset stands at the buffer's front.
-- Assumes nothing.
use Rattle.listwriter.specs.Helpers.{fields_of}
use Rattle.listwriter.proofs.Writing.{Writing}
use Rattle.listwriter.proofs.write_all.Given as goal

abbrev pub invariant-loop-id : goal.invariant-loop-id
invariant-loop-id l = Writing l.ids (fields_of l.given) l.initial.buffer l.buffer l.id-index l.at (fields_of l.rest)
