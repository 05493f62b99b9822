-- A10: where the engines look. The fast one, which hosts use, looks first at a ticket's home; the plain one walks over the table.
use Rattle.std.specs.Prelude.{ℕ, ◌%◌, Bool, List, eqb, ltb, length, get_or}
use Rattle.wire.specs.Tests.{pick, ◌and◌}
use Rattle.wire.specs.Search.{first_place}
use Rattle.exchange.specs.declared.Exchange.{Exchange}
use Rattle.exchange.specs.Exchange.{free, is_free, has_ticket}
use Rattle.gateway.specs.declared.table.Engine.{Engine}
use Rattle.gateway.specs.Registry.{table_size}

-- a ticket's home
abbrev pub home : ℕ → ℕ
home ticket = ticket % table_size

-- where an engine finds, for a ticket, an exchange that passes: the plain one the first, the fast one that at the ticket's home if it
-- passes, else the first; the table's length where none passes
unfoldable pub place_by : Engine → ℕ → (Exchange → Bool) → List Exchange → ℕ
place_by Engine.Plain ticket passes table = first_place passes table
place_by Engine.Fast ticket passes table =
    pick (ltb (home ticket) (length table) and passes (get_or table (home ticket) free)) (home ticket) (first_place passes table)

-- 01's open point, the place of a new exchange in a table that is not full. The theorems use of it only that it was free (`NewPlace` of book).
abbrev pub free_place : Engine → ℕ → List Exchange → ℕ
free_place engine ticket table = place_by engine ticket is_free table

-- the place of the exchange that has the ticket, and that exchange; a free place where none has it
abbrev pub place_of_ticket : Engine → ℕ → List Exchange → ℕ
place_of_ticket engine ticket table = place_by engine ticket (has_ticket ticket) table

abbrev pub pending_with : Engine → ℕ → List Exchange → Exchange
pending_with engine ticket table = get_or table (place_of_ticket engine ticket table) free

-- what the code searches: an exchange whose ticket is this number, which is 0 in a free place
abbrev pub has_number : ℕ → Exchange → Bool
has_number number e = eqb e.ticket.0 number
