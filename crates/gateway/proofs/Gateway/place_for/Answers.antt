-- `gateway::Gateway::place_for` meets its contract: the table is full where no place was found.
-- Assumes nothing.
use Rattle.std.proofs.Common.{◌≡◌, ◌<◌, ◌≤◌, refl, length, rules, arith}
use borrow.Author.Tests.{lt-ltb, le-ltb}
use Rattle.exchange.specs.Exchange.{is_free}
use Rattle.gateway.specs.Engines.{free_place}
use Rattle.gateway.proofs.Places.{found_some, found_nobody}
use Rattle.gateway.proofs.Gateway.place_for.Goals as goal

pub returns-then-place-eq-TABLE_SIZE-clause-value : goal.returns-then-place-eq-TABLE_SIZE-clause-value
returns-then-place-eq-TABLE_SIZE-clause-value c =
    let table = c.args.self.now.table in
    let size : length table ≡ 128 = search rules in
    let out : length table ≤ free_place c.args.engine c.args.ticket.0 table = omega (arith, c.find-place.ensures.value) in
    rw (c.from.ensures, found_nobody c.args.engine c.args.ticket.0 is_free table out) refl

pub returns-then-room-lt-INFO_LENGTH-clause-value : goal.returns-then-room-lt-INFO_LENGTH-clause-value
returns-then-room-lt-INFO_LENGTH-clause-value c =
    let table = c.args.self.now.table in
    let size : length table ≡ 128 = search rules in
    let inside : free_place c.args.engine c.args.ticket.0 table < length table = omega (arith, c.find-place.ensures.value, c.find-place.ensures.bound) in
    rw (c.from-then-room-lt-INFO_LENGTH.ensures, found_some c.args.engine c.args.ticket.0 is_free table inside, lt-ltb _ _ c.if-room-lt-INFO_LENGTH.true) refl

pub returns-clause-value : goal.returns-clause-value
returns-clause-value c =
    let table = c.args.self.now.table in
    let size : length table ≡ 128 = search rules in
    let inside : free_place c.args.engine c.args.ticket.0 table < length table = omega (arith, c.find-place.ensures.value, c.find-place.ensures.bound) in
    rw (found_some c.args.engine c.args.ticket.0 is_free table inside, le-ltb _ _ c.if-room-lt-INFO_LENGTH.false, c.find-place.ensures.value) refl
