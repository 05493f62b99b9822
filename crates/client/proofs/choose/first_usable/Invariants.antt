-- `client::choose::first_usable` meets its contract. The loop's invariant: what is found is what is found among the pairs that are left.
-- Assumes nothing.
use Rattle.std.proofs.Common.{◌≡◌, ◌+◌, ◌-◌, ◌*◌}
use Rattle.keylist.specs.Layout.{pairs_at}
use Rattle.client.specs.Helpers.{pair_found}
use Rattle.client.proofs.choose.first_usable.Given as goal

abbrev pub invariant-loop-i : goal.invariant-loop-i
invariant-loop-i l = pair_found l.pairs (pairs_at l.count l.list l.from) ≡ pair_found l.pairs (pairs_at (l.count - l.i) l.list (l.from + l.i * 4))
