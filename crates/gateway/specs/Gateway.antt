-- The gateway as it is stored, and what it does with each call: the contracts of the entries cite `gateway_does` and `fresh_gateway`. The
-- theorems of `book` say of every list of calls that it gives what 01's book gives.
use Rattle.std.specs.Prelude.{ℕ, List, [], Result, Ok, Err, length, set, replicate}
use Rattle.wire.specs.Refusals.{result_by, unless_refused, written}
use Rattle.wire.specs.declared.refusal.Refusal.{Refusal}
use Rattle.keylist.specs.Layout.{Configuration}
use Rattle.request.specs.Request.{key_id_of, fields_of, info_of}
use Rattle.exchange.specs.Exchange.{free, asked}
use Rattle.exchange.specs.Steps.{Step, refusal, next, answer, buffer}
use Rattle.keys.specs.declared.Keys.{Keys}
use Rattle.keys.specs.Keys.{key_with, retire_refusal, keys_of}
use Rattle.keys.specs.Stored.{stored_keys, one_more, used_state, retired_state, changed_state, place_of_key}
use Rattle.gateway.specs.declared.Gateway.{Gateway}
use Rattle.gateway.specs.declared.table.Engine.{Engine}
use Rattle.gateway.specs.Registry.{table_size, setup, admit_refusal, admit_answer, report}
use Rattle.gateway.specs.Engines.{free_place, place_of_ticket, pending_with}
use Rattle.gateway.specs.View.{registry_of, pending_in, is_full}
use Rattle.gateway.specs.Calls.{Call, admit, retire, on_ticket, reporting, of_admit, of_retire, of_step, of_report, Done}

-- a gateway of these keys, with all places free
abbrev pub empty_gateway : ℕ → Keys → Gateway
empty_gateway cap keys = record { last_ticket = record { 0 = 0 }; cap = cap; keys = keys; table = replicate table_size free }

-- after setup; a refused one hands back a gateway without keys, cap 1, last ticket 0
abbrev pub gateway_from : ℕ → Result (List Configuration) Refusal → Gateway
gateway_from cap (Ok cs) = empty_gateway cap (stored_keys cs)
gateway_from cap (Err r) = empty_gateway 1 (stored_keys [])

abbrev pub fresh_gateway : List ℕ → ℕ → Gateway
fresh_gateway list cap = gateway_from cap (setup list cap)

-- the next ticket
abbrev pub next_ticket : Gateway → ℕ
next_ticket g = one_more 64 g.last_ticket.0

-- after an accepted admit: its key has one use more, its ticket is the last one, and the exchange is in the table, asked
abbrev pub gateway_admitted : Engine → List ℕ → Gateway → Gateway
gateway_admitted engine request g =
    record {
      last_ticket = record { 0 = next_ticket g };
      cap = g.cap;
      keys = changed_state used_state (place_of_key (key_id_of request) (keys_of g.keys)) g.keys;
      table = set g.table (free_place engine (next_ticket g) g.table) (asked (next_ticket g) (fields_of request));
    }

-- after an accepted retire
abbrev pub gateway_retired : ℕ → Gateway → Gateway
gateway_retired id g =
    record {
      last_ticket = g.last_ticket;
      cap = g.cap;
      keys = changed_state retired_state (place_of_key id (keys_of g.keys)) g.keys;
      table = g.table;
    }

-- after an accepted call on a ticket: in the place of its exchange stands what the call makes of it
abbrev pub gateway_stepped : Engine → ℕ → Step → Gateway → Gateway
gateway_stepped engine ticket step g =
    record {
      last_ticket = g.last_ticket;
      cap = g.cap;
      keys = g.keys;
      table = set g.table (place_of_ticket engine ticket g.table) (next step (pending_with engine ticket g.table));
    }

-- the refusal numbers of the calls
abbrev pub gateway_admit_number : List ℕ → List ℕ → Gateway → ℕ
gateway_admit_number request info g = admit_refusal (registry_of g) (is_full g.table) request (length info)

abbrev pub gateway_retire_number : ℕ → Gateway → ℕ
gateway_retire_number id g = retire_refusal (key_with id (keys_of g.keys))

abbrev pub gateway_step_number : Engine → ℕ → Step → Gateway → ℕ
gateway_step_number engine ticket step g = refusal step (pending_with engine ticket g.table)

-- by an engine: what a call does
unfoldable pub gateway_does : Engine → Gateway → Call → Done Gateway
gateway_does engine g (admit request info) =
    record {
      answer = of_admit (admit_answer (gateway_admit_number request info g) (next_ticket g) request);
      buffer = written (gateway_admit_number request info g) (info_of request) info;
      state = unless_refused (gateway_admit_number request info g) (gateway_admitted engine request g) g;
    }
gateway_does engine g (retire id) =
    record {
      answer = of_retire (result_by (gateway_retire_number id g) tt);
      buffer = [];
      state = unless_refused (gateway_retire_number id g) (gateway_retired id g) g;
    }
gateway_does engine g (on_ticket ticket step) =
    record {
      answer = of_step (answer step (pending_with engine ticket g.table));
      buffer = buffer step (pending_with engine ticket g.table);
      state = unless_refused (gateway_step_number engine ticket step g) (gateway_stepped engine ticket step g) g;
    }
gateway_does engine g reporting =
    record { answer = of_report (report (registry_of g) (length (pending_in g.table))); buffer = []; state = g }
