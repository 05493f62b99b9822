-- What the calls give, by what they find in the gateway.
-- Assumes nothing.
use mathlib.Core.Path.{◌≡◌, refl, ap, ◌∙◌}
use mathlib.Core.Bool.{true}
use mathlib.Core.List.{List, []}
use Rattle.std.specs.Prelude.{Result, Ok, Err}
use Prim.Native.Nat.{ℕ, zero, suc, ◌≤◌, ◌<◌}
use native.Mathlib.Omega.{arith}
use lib.Dec.{ltb}
use lib.ListN.{length, get_or, take, set, replicate, length-append, length-take}
use lib.Seq.{set-get_or}
use borrow.Author.Tests.{ltb-false}
use Rattle.wire.specs.Refusals.{◌when◌otherwise◌, refused, result_by, unless_refused, written}
use Rattle.wire.specs.declared.refusal.Refusal.{Refusal}
use Rattle.wire.specs.Bytes.{with_front}
use Rattle.wire.specs.Helpers.{overwritten}
use Rattle.wire.specs.Texts.{ascii, head_length, info_length, info_bytes, request_label}
use Rattle.wire.proofs.Writes.{front_first}
use Rattle.wire.proofs.Numbers.{unless-refused, not-refused}
use Rattle.request.proofs.Requests.{accepted_request, info-of}
use Rattle.exchange.specs.declared.Exchange.{Exchange}
use Rattle.request.specs.Request.{key_id_of, fields_of, info_of}
use Rattle.request.specs.Helpers.{request_refusal}
use Rattle.exchange.specs.Exchange.{free, is_free, asked}
use Rattle.exchange.specs.Steps.{Step, refusal_by, refusal, next, answer, buffer}
use Rattle.exchange.specs.Moved.{of_ticket, after}
use Rattle.keys.specs.declared.KeyState.{KeyState}
use Rattle.keys.specs.Keys.{keys_of, key_with, retire_refusal}
use Rattle.keys.specs.Helpers.{key_refusal}
use Rattle.keys.specs.Stored.{blank_key, used_state, retired_state, place_of_key}
use Rattle.keys.proofs.Arrays.{get_d_any}
use Rattle.keys.proofs.Named.{err_of}
use Rattle.keys.proofs.Stored.{unread}
use Rattle.gateway.specs.declared.Gateway.{Gateway}
use Rattle.gateway.specs.declared.admission.Admission.{Admission}
use Rattle.gateway.specs.declared.admission.AdmitRefusal.{AdmitRefusal}
use Rattle.gateway.specs.declared.table.Engine.{Engine}
use Rattle.gateway.specs.Registry.{admission, refusal_of_admit, admit_answer}
use Rattle.gateway.specs.Helpers.{room_refusal}
use Rattle.gateway.specs.Engines.{place_by, free_place, pending_with, has_number}
use Rattle.gateway.specs.Gateway.{next_ticket, gateway_does, gateway_admitted, gateway_retired, gateway_admit_number}
use Rattle.gateway.specs.View.{registry_of, is_full}
use Rattle.gateway.specs.Calls.{Call, Answer, admit, retire, on_ticket, of_admit, of_retire, of_step}
use Rattle.gateway.proofs.Deciding.{◌or_else◌, first_number, admit_order}
use Rattle.gateway.proofs.Places.{found_own, none_pending}

-- a refusal is answered only where a number refuses, and is the one of that number
pub err_by : {A : Type 0} (n : ℕ) (a : A) (r : Refusal) → Err r ≡ result_by n a → (r ≡ refused n) × (n ≡ 0 → ⊥)
err_by zero a r e = cc
err_by (suc n) a r e = (cc, λ z. absurd (omega arith))

-- what a call leaves, answers and leaves of its buffer is what the gateway does
pub record Gives (engine : Engine) (g : Gateway) (call : Call) (state : Gateway) (told : Answer) (bytes : List ℕ) : Type 0 where
  pub gateway : state ≡ (gateway_does engine g call).state
  pub answer : told ≡ (gateway_does engine g call).answer
  pub buffer : bytes ≡ (gateway_does engine g call).buffer

-- a gateway with an exchange at a place of the table
abbrev pub with_exchange : ℕ → Exchange → Gateway → Gateway
with_exchange place e g =
    record { last_ticket = g.last_ticket; cap = g.cap; keys = g.keys; table = set g.table place e }

-- by a refusal number, where what stood there is put back: as if nothing had been put
put_back : (n place : ℕ) (new : Exchange) (g : Gateway)
    → with_exchange place (unless_refused n new (get_or g.table place free)) g ≡ unless_refused n (with_exchange place new g) g
put_back zero place new g = refl
put_back (suc n) place new g = rw (set-get_or g.table place free)

-- a free place refuses every call
free_refused : (step : Step) (e : Exchange) → is_free e ≡ true → refusal step e ≡ 11
unfolding refusal_by
free_refused step e f = rw f refl

-- a call on a ticket, by the place that an engine finds and the exchange there
module _ (engine : Engine) (g : Gateway) (ticket : ℕ) (step : Step) where
  abbrev place : ℕ
  place = place_by engine ticket (has_number ticket) g.table

  abbrev there : Exchange
  there = get_or g.table place free

  pub stepped : place < length g.table
      → Gives engine g (on_ticket ticket step) (with_exchange place (after ticket step there) g) (of_step (answer step (of_ticket ticket there))) (buffer step (of_ticket ticket there))
  unfolding gateway_does
  stepped inside =
      found_own engine ticket g.table inside
      (λ own. record {
        gateway = rw own.1 (put_back (refusal step there) place (next step there) g ∙ rw own.0 refl);
        answer = rw own.1 (rw own.0 refl);
        buffer = rw own.1 (rw own.0 refl);
      })
      (λ none.
      let e = free_refused step (of_ticket ticket there) none.0 in
      let f = free_refused step (pending_with engine ticket g.table) none.1 in
      record { gateway = rw (e, f) (put_back 11 place (next step there) g); answer = rw (e, f) refl; buffer = rw (e, f) refl })

  -- where none is found, the ticket is not pending
  pub not_pending : length g.table ≤ place
      → Gives engine g (on_ticket ticket step) g (of_step (Err (refused 11))) step.salt
  unfolding gateway_does
  not_pending out =
      let f = free_refused step (pending_with engine ticket g.table) (none_pending engine ticket g.table out) in
      record { gateway = rw f refl; answer = rw f refl; buffer = rw f refl }

-- a gateway with a key at a place
abbrev pub with_key_at : ℕ → KeyState → Gateway → Gateway
with_key_at place key g =
    record {
      last_ticket = g.last_ticket;
      cap = g.cap;
      keys = record { list = set g.keys.list place key; count = g.keys.count };
      table = g.table;
    }

-- retire, by what the keys answer
module _ (engine : Engine) (g : Gateway) (id : ℕ) where
  abbrev key_place : ℕ
  key_place = place_of_key id (keys_of g.keys)

  abbrev by_key : ℕ
  by_key = retire_refusal (key_with id (keys_of g.keys))

  retire_by : (n : ℕ) → by_key ≡ n
      → Gives engine g (retire id) (unless_refused n (gateway_retired id g) g) (of_retire (result_by n tt)) []
  unfolding gateway_does
  retire_by n e = record { gateway = rw e refl; answer = rw e refl; buffer = refl }

  -- they refuse
  pub retired_refused : (r : Refusal) → Err r ≡ result_by by_key key_place → Gives engine g (retire id) g (of_retire (Err r)) []
  retired_refused r e =
      let does = retire_by by_key refl in
      record {
        gateway = unless-refused by_key (gateway_retired id g) g (err_by by_key key_place r e).1 ∙ does.gateway;
        answer = ap of_retire (err_of by_key key_place tt r e) ∙ does.answer;
        buffer = does.buffer;
      }

  -- the key is retired
  pub retired_done : length g.keys.list ≡ 16 → key_place < 16 → by_key ≡ 0
      → Gives engine g (retire id) (with_key_at key_place (retired_state (get_or g.keys.list key_place unread)) g) (of_retire (Ok tt)) []
  retired_done whole inside none =
      rw (get_d_any g.keys.list key_place unread blank_key (omega (arith, whole, inside))) (retire_by 0 none)

-- info at the front of its buffer
info_written : (request info : List ℕ) → head_length ≤ length request → info_length ≤ length info
    → overwritten info 0 (info_bytes (overwritten (replicate head_length 0) 0 request)) ≡ with_front (info_of request) info
unfolding ascii request_label
info_written request info h l =
    let size : length (info_of request) ≡ info_length = length-append request_label (take head_length request) ∙ rw (length-take head_length request) (omega arith) in
    rw (info-of request h) (front_first (info_of request) info (omega (arith, size)))

-- the answer of a refused admit
admit_err : (n ticket : ℕ) (request : List ℕ) → (n ≡ 0 → ⊥) → ◌≡◌ {A = Result Admission AdmitRefusal} (Err (refusal_of_admit n)) (admit_answer n ticket request)
admit_err zero ticket request h = absurd (h refl)
admit_err (suc n) ticket request h = refl

-- a gateway with a last ticket, a key at a place and an exchange at a place
abbrev pub with_admitted : ℕ → ℕ → KeyState → ℕ → Exchange → Gateway → Gateway
with_admitted ticket key_place key place e g =
    record {
      last_ticket = record { 0 = ticket };
      cap = g.cap;
      keys = record { list = set g.keys.list key_place key; count = g.keys.count };
      table = set g.table place e;
    }

-- admit, by what the request, its key and the place and room decide
module _ (engine : Engine) (g : Gateway) (request info : List ℕ) where
  abbrev call : Call
  call = admit request info

  abbrev named : ℕ
  named = place_of_key (key_id_of request) (keys_of g.keys)

  abbrev by_named : ℕ
  by_named = key_refusal g.cap (keys_of g.keys) named (fields_of request)

  abbrev by_room : ℕ
  by_room = room_refusal (is_full g.table) (length info)

  admit_by : (n : ℕ) → gateway_admit_number request info g ≡ n
      → Gives engine g call (unless_refused n (gateway_admitted engine request g) g) (of_admit (admit_answer n (next_ticket g) request)) (written n (info_of request) info)
  unfolding gateway_does
  admit_by n e = record { gateway = rw e refl; answer = rw e refl; buffer = rw e refl }

  in_order : gateway_admit_number request info g ≡ (request_refusal request or_else by_named or_else by_room)
  in_order = admit_order (registry_of g) (is_full g.table) request (length info)

  -- a number that decides and refuses
  refused_by : (n : ℕ) → gateway_admit_number request info g ≡ n → (r : Refusal) → (r ≡ refused n) × (n ≡ 0 → ⊥)
      → Gives engine g call g (of_admit (Err (refusal_of_admit r.number))) info
  refused_by n e r by =
      let does = admit_by n e in
      record {
        gateway = unless-refused n (gateway_admitted engine request g) g by.1 ∙ does.gateway;
        answer = ap of_admit (ap (λ (q : Refusal). Err (refusal_of_admit q.number)) by.0 ∙ admit_err n (next_ticket g) request by.1) ∙ does.answer;
        buffer = unless-refused n (with_front (info_of request) info) info by.1 ∙ does.buffer;
      }

  pub request_refuses : (r : Refusal) → Err r ≡ result_by (request_refusal request) (fields_of request)
      → Gives engine g call g (of_admit (Err (refusal_of_admit r.number))) info
  request_refuses r e =
      let by = err_by (request_refusal request) (fields_of request) r e in
      refused_by (request_refusal request) (in_order ∙ first_number (request_refusal request) (by_named or_else by_room) by.1) r by

  module _ (good : request_refusal request ≡ 0) where
    pub key_refuses : (r : Refusal) → Err r ≡ result_by by_named named → Gives engine g call g (of_admit (Err (refusal_of_admit r.number))) info
    key_refuses r e =
        let by = err_by by_named named r e in
        refused_by by_named (in_order ∙ rw good (first_number by_named by_room by.1)) r by

    module _ (live : by_named ≡ 0) where
      pub room_refuses : (place : ℕ) (r : Refusal) → Err r ≡ result_by by_room place → Gives engine g call g (of_admit (Err (refusal_of_admit r.number))) info
      room_refuses place r e = let by = err_by by_room place r e in refused_by by_room (in_order ∙ rw (good, live) refl) r by

      -- nothing refuses
      pub admitted : length g.keys.list ≡ 16 → named < 16 → by_room ≡ 0
          → Gives engine g call
          (with_admitted (next_ticket g) named (used_state (get_or g.keys.list named unread))
          (free_place engine (next_ticket g) g.table) (asked (next_ticket g) (fields_of request)) g)
          (of_admit (Ok (admission (next_ticket g) (fields_of request) (length request))))
          (overwritten info 0 (info_bytes (overwritten (replicate head_length 0) 0 request)))
      admitted whole inside room =
          let later = not-refused 8 (is_full g.table) (14 when ltb (length info) info_length otherwise 0) room in
          let long = ltb-false (length info) info_length (not-refused 13 (ltb (length info) info_length) 0 later.1).0 in
          let does = admit_by 0 (in_order ∙ rw (good, live) room) in
          rw (get_d_any g.keys.list named unread blank_key (omega (arith, whole)), info_written request info (omega (arith, (accepted_request request good).1.0)) long) does
