-- `keys::Keys::report` meets its contract. The loop's invariant: the reports of the keys passed stand first in the array.
-- Assumes nothing.
use Rattle.std.proofs.Common.{◌≡◌}
use Rattle.keys.proofs.Stored.{reports_of}
use Rattle.keys.proofs.Keys.report.Given as goal

abbrev pub invariant-loop-at : goal.invariant-loop-at
invariant-loop-at l = l.reports ≡ reports_of l.at l.self.list
