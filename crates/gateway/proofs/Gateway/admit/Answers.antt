-- `gateway::Gateway::admit` meets its contract: a refusal of the request, of its key, or of the place and room, else all three are there.
-- Assumes nothing.
use Rattle.std.proofs.Common.{◌≡◌, ◌∙◌, refl, ap, Ok, length, get_or, rules}
use Rattle.std.proofs.lemmas.Result.{err_from_is_err_and}
use Rattle.wire.proofs.Numbers.{ok_by}
use Rattle.request.specs.Request.{key_id_of, fields_of}
use Rattle.exchange.specs.Exchange.{asked}
use Rattle.keys.specs.Keys.{keys_of}
use Rattle.keys.specs.Stored.{used_state, place_of_key}
use Rattle.keys.proofs.Stored.{unread}
use Rattle.gateway.specs.declared.admission.Admission.{Admission}
use Rattle.gateway.specs.Registry.{admission}
use Rattle.gateway.specs.Engines.{free_place}
use Rattle.gateway.specs.Gateway.{next_ticket}
use Rattle.gateway.specs.Calls.{of_admit}
use Rattle.gateway.proofs.Results.{with_admitted, request_refuses, key_refuses, room_refuses, admitted}
use Rattle.gateway.proofs.Gateway.admit.Goals as goal

pub returns-in_err-fields : goal.returns-in_err-fields
returns-in_err-fields c =
    let a = c.args in
    let p = err_from_is_err_and c.from_residual.result c.from_residual.ensures.1 in
    let does = request_refuses a.engine a.self.now a.request.now a.info.now _ c.in_err-fields.ensures in
    rw (p.1, p.2) (record { gateway = does.gateway; answer = does.answer; buffer = does.buffer })

pub returns-in_err-key : goal.returns-in_err-key
returns-in_err-key c =
    let a = c.args in
    let read = ok_by _ _ _ c.in_ok-fields.ensures in
    let p = err_from_is_err_and c.from_residual-in_err-key.result c.from_residual-in_err-key.ensures.1 in
    let does = key_refuses a.engine a.self.now a.request.now a.info.now read.0 _ (rw read.1 at c.in_err-key.ensures.value) in
    rw (p.1, p.2) (record { gateway = does.gateway; answer = does.answer; buffer = does.buffer })

pub returns-in_err-place : goal.returns-in_err-place
returns-in_err-place c =
    let a = c.args in
    let read = ok_by _ _ _ c.in_ok-fields.ensures in
    let key = ok_by _ _ _ (rw read.1 at c.in_ok-key.ensures.value) in
    let p = err_from_is_err_and c.from_residual-in_err-place.result c.from_residual-in_err-place.ensures.1 in
    let does = room_refuses a.engine a.self.now a.request.now a.info.now read.0 key.0 _ _ c.in_err-place.ensures.value in
    rw (p.1, p.2) (record { gateway = does.gateway; answer = does.answer; buffer = does.buffer })

pub returns : goal.returns
returns c =
    let a = c.args in
    let g = a.self.now in
    let whole : length g.keys.list ≡ 16 = search rules in
    let read = ok_by _ _ _ c.in_ok-fields.ensures in
    let key = ok_by _ _ _ (rw read.1 at c.in_ok-key.ensures.value) in
    let place = ok_by _ _ _ c.in_ok-place.ensures.value in
    let does = admitted a.engine g a.request.now a.info.now read.0 key.0 whole (rw key.1 at c.in_ok-key.ensures.bound) place.0 in
    let named = place_of_key (key_id_of a.request.now) (keys_of g.keys) in
    let left :
    with_admitted c.next_ticket-ticket.result.0 c.in_ok-key.key c.use_once.new.self c.in_ok-place.place c.asked.result g
    ≡ with_admitted (next_ticket g) named (used_state (get_or g.keys.list named unread))
    (free_place a.engine (next_ticket g) g.table) (asked (next_ticket g) (fields_of a.request.now)) g =
    rw (c.asked.ensures, c.use_once.ensures, key.1, place.1, c.next_ticket-ticket.ensures, read.1) refl in
    let told : c.of.result ≡ admission (next_ticket g) (fields_of a.request.now) (length a.request.now) =
    rw (c.of.ensures, c.next_ticket-ticket.ensures, read.1) refl in
    record {
      gateway = left ∙ does.gateway;
      answer = ap (λ (of : Admission). of_admit (Ok of)) told ∙ does.answer;
      buffer = rw (c.overwrite.ensures, c.info.ensures) does.buffer;
    }
