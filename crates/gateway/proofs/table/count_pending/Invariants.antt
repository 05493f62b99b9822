-- `gateway::table::count_pending` meets its contract. The loop's invariant: how many of the exchanges so far are pending, of as many as there were.
-- Assumes nothing.
use Rattle.std.proofs.Common.{◌≡◌, ◌≤◌, take, not}
use Rattle.std.specs.List.{count_by}
use Rattle.exchange.specs.Exchange.{is_free}
use Rattle.gateway.proofs.table.count_pending.Given as goal

abbrev pub invariant-loop-exchange : goal.invariant-loop-exchange
invariant-loop-exchange l =
    (l.count ≡ count_by (λ e. not (is_free e)) (take l.exchange-index l.table)) × (l.count ≤ l.exchange-index)
