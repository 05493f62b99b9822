-- What a gateway holds, as 01 tells of it: cap, last ticket and keys, and the pending exchanges, table places aside.
use Rattle.std.specs.List.{list_any}
use Rattle.std.specs.Prelude.{Bool, not, List}
use Rattle.wire.specs.Search.{filtered}
use Rattle.exchange.specs.declared.Exchange.{Exchange}
use Rattle.exchange.specs.Exchange.{is_free}
use Rattle.keys.specs.Keys.{keys_of}
use Rattle.gateway.specs.declared.Gateway.{Gateway}
use Rattle.gateway.specs.Registry.{Registry}

abbrev pub registry_of : Gateway → Registry
registry_of g = record { cap = g.cap; last_ticket = g.last_ticket.0; keys = keys_of g.keys }

-- the pending exchanges of a table
abbrev pub pending_in : List Exchange → List Exchange
pending_in table = filtered (λ e. not (is_free e)) table

-- no place is free
abbrev pub is_full : List Exchange → Bool
is_full table = not (list_any is_free table)
