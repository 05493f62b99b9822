-- `keylist::key::read` meets its contract: what was found lies in the list.
-- Assumes nothing.
use Rattle.std.proofs.Common.{sym, arith}
use Rattle.keylist.proofs.Keys.{found_inside}
use Rattle.keylist.proofs.key.read.Goals as goal

pub slice_bounds-result-end : goal.slice_bounds-result-end
slice_bounds-result-end c = omega (arith, found_inside _ _ _ (sym c.in-Ok.ensures))
