-- What `Exchange::step` leaves of the exchange at a place of the table, refused or not.
use Rattle.std.specs.Prelude.{ℕ, eqb}
use Rattle.wire.specs.Tests.{pick}
use Rattle.wire.specs.Refusals.{unless_refused}
use Rattle.exchange.specs.declared.Exchange.{Exchange}
use Rattle.exchange.specs.Exchange.{free}
use Rattle.exchange.specs.Steps.{Step, refusal, next}

-- the exchange, if it has the ticket; else as if its place were free
abbrev pub of_ticket : ℕ → Exchange → Exchange
of_ticket ticket e = pick (eqb e.ticket.0 ticket) e free

-- what a call on the ticket leaves of the exchange
abbrev pub after : ℕ → Step → Exchange → Exchange
after ticket s e = unless_refused (refusal s (of_ticket ticket e)) (next s e) e
