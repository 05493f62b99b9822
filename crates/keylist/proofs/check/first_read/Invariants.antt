-- `keylist::check::first_read` meets its contract. The loop's invariant: what is sought is sought from the offset on, where so many more
-- may be skipped.
-- Assumes nothing.
use Rattle.std.proofs.Common.{◌≡◌, ◌-◌}
use Rattle.keylist.specs.Helpers.{first_read, read_from}
use Rattle.keylist.proofs.check.first_read.Given as goal

abbrev pub invariant-loop-skipped : goal.invariant-loop-skipped
invariant-loop-skipped l = first_read l.list l.from ≡ read_from (16 - l.skipped) l.list l.at
