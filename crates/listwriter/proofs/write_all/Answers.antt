-- `listwriter::write_all` meets its contract.
-- Assumes nothing.
use mathlib.Core.Path.{◌≡◌}
use Prim.Native.Nat.{◌+◌}
use native.Mathlib.Omega.{arith}
use Rattle.listwriter.specs.Helpers.{fields_of, first_length}
use Rattle.listwriter.proofs.Writing.{writing_start, writing_end, writing_sizes, writing_room, writing_more, buffer-length}
use Rattle.listwriter.proofs.write_all.Goals as goal

pub loop-id-init : goal.loop-id-init
loop-id-init c = writing_start _ _ _ c.requires

pub write_first-requires-clause-sizes : goal.write_first-requires-clause-sizes
write_first-requires-clause-sizes c = writing_sizes c.loop-id.invariant (omega arith)

pub write_first-requires-clause-room : goal.write_first-requires-clause-room
write_first-requires-clause-room c = writing_room c.loop-id.invariant (omega arith)

pub first_size-at-requires : goal.first_size-at-requires
first_size-at-requires c = writing_sizes c.loop-id.invariant (omega arith)

pub overflow_add-at : goal.overflow_add-at
overflow_add-at c = omega (arith, writing_room c.loop-id.invariant (omega arith), buffer-length c.loop-id.invariant)

pub loop-id-preserved : goal.loop-id-preserved
loop-id-preserved c =
    let l = c.loop-id in
    let next : l.at + c.first_size-at.result ≡ l.at + 2 + first_length (fields_of l.rest) = omega (arith, c.first_size-at.ensures) in
    rw (next, c.behind_first-rest.ensures) (writing_more l.invariant (omega arith) c.write_first.new.buffer c.write_first.ensures)

pub returns : goal.returns
returns c = writing_end c.loop-id.invariant (omega arith)
