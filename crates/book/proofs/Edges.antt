-- 01's starred edges, computed.
-- Assumes nothing.
use mathlib.Core.Path.{◌≡◌, refl, ap}
use mathlib.Core.List.{[], ◌∷◌, map}
use lib.ListN.{replicate}
use Rattle.wire.specs.Hex.{hex}
use Rattle.wire.specs.Texts.{ascii, request_label}
use Rattle.wire.specs.Search.{first_place, filtered, find}
use Rattle.algorithms.specs.Table.{table, row_of}
use Rattle.algorithms.specs.Sizes.{known_kem, known_kdf, known_aead, enc_length, public_key_length, key_length}
use Rattle.keylist.specs.Layout.{parse, parse_from, fault_of, is_skipped, configuration_at, pairs_at}
use Rattle.keylist.specs.Edges.{edge_list}
use Rattle.keylist.proofs.Edges.{list_edges}
use Rattle.exchange.specs.Exchange.{left_in}
use Rattle.exchange.specs.Steps.{refusal_by, step_number}
use Rattle.keys.specs.Stored.{stored_keys}
use Rattle.keys.specs.Keys.{Key, keys_of, retire_refusal, with_key}
use Rattle.gateway.specs.Registry.{admit_refusal}
use Rattle.gateway.specs.Engines.{place_by}
use Rattle.gateway.specs.Gateway.{empty_gateway, fresh_gateway, gateway_does}
use Rattle.gateway.specs.View.{pending_in, registry_of}
use Rattle.gateway.specs.declared.Gateway.{Gateway}
use Rattle.gateway.specs.declared.table.Engine.{Engine}
use Rattle.gateway.specs.Calls.{number}
use Rattle.book.specs.History.{gateway_after, trace, final, tickets_of}
use Rattle.book.specs.Counts.{tickets_given}
use Rattle.book.specs.Book.{book_does, replaced}
use Rattle.book.specs.Demand3.{with_own_calls}
use Rattle.book.specs.Edges.{GatewayEdges, MovedExample, answered_in_reverse}

-- what the list is read into is computed once, in keylist
abbrev edge_gateway : Gateway
edge_gateway =
    empty_gateway 2 (stored_keys
    (record { start = 0; key_id = 7; kem = 0x0020; public_key = replicate 32 0x11; pairs = record { kdf = 1; aead = 3 } ∷ [] } ∷ []))

fresh : fresh_gateway edge_list 2 ≡ edge_gateway
fresh = rw list_edges.one_key refl

after : gateway_after edge_list 2 answered_in_reverse ≡ final (gateway_does Engine.Fast) edge_gateway answered_in_reverse
after = ap (λ (g : Gateway). final (gateway_does Engine.Fast) g answered_in_reverse) fresh

pub gateway_edges : GatewayEdges
unfolding ascii request_label first_place table row_of known_kem known_kdf known_aead enc_length key_length hex left_in refusal_by keys_of stored_keys admit_refusal place_by filtered gateway_does number trace final tickets_of tickets_given step_number find retire_refusal with_key
gateway_edges =
    record {
      lists = list_edges;
      empty_request = refl;
      bytes54 = refl;
      bytes55 = rw fresh refl;
      other_pair = rw fresh refl;
      other_kem = rw fresh refl;
      cap_two = rw fresh refl;
      tickets = rw fresh refl;
      count = ap (λ (g : Gateway). map (λ (key : Key). key.count) (registry_of g).keys) after;
      last_ticket = ap (λ (g : Gateway). (registry_of g).last_ticket) after;
      none_pending = ap (λ (g : Gateway). pending_in g.table) after;
      too_long = rw fresh refl;
      still_asked = rw fresh refl;
      opened = rw fresh refl;
      before_opening = rw fresh refl;
      after_closing = rw fresh refl;
      ticket_zero = rw fresh refl;
      statuses = refl;
      key_problems = refl;
    }

pub moved_example : MovedExample
unfolding ascii request_label first_place table row_of known_kem known_kdf known_aead enc_length public_key_length key_length parse parse_from fault_of is_skipped configuration_at pairs_at hex edge_list left_in refusal_by keys_of stored_keys admit_refusal place_by filtered gateway_does number trace final tickets_of tickets_given book_does replaced with_own_calls step_number find retire_refusal with_key
moved_example = record { order = refl; same_answers = refl }
