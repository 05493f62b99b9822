-- 01, "Edges": the starred ones, with those of key lists (keylist's `ListEdges`) one computed statement about the definitions.
use Rattle.std.specs.Prelude.{ℕ, true, false, ◌≡◌, List, [], ◌∷◌, ◌++◌, map, replicate, Ok}
use Rattle.wire.specs.Hex.{hex}
use Rattle.wire.specs.Texts.{head_bytes}
use Rattle.keylist.specs.Edges.{edge_list, ListEdges}
use Rattle.exchange.specs.declared.Exchange.{Exchange}
use Rattle.exchange.specs.Exchange.{asked_phase, opened_phase}
use Rattle.exchange.specs.Steps.{open_result, respond, abandon}
use Rattle.keys.specs.Keys.{Key}
use Rattle.gateway.specs.Registry.{status_of, is_key_problem}
use Rattle.gateway.specs.View.{registry_of, pending_in}
use Rattle.gateway.specs.Calls.{Call, admit, retire, on_ticket, reporting, number, of_admit}
use Rattle.book.specs.History.{Event, trace, gateway_trace, gateway_after}
use Rattle.book.specs.Counts.{tickets_given}
use Rattle.book.specs.Book.{fresh_book, book_does}
use Rattle.book.specs.Demand3.{moved_list, calls_of}

-- a request that names key 7, and so many bytes of enc and ciphertext behind its head
abbrev pub request : ℕ → ℕ → ℕ → ℕ → List ℕ
request kem kdf aead bytes = head_bytes 7 kem kdf aead ++ replicate bytes 0x22

-- a call of admit with 30 bytes of room
abbrev pub asking : List ℕ → Call
asking bytes = admit bytes (replicate 30 0xa5)

-- the request of 55 bytes whose key and pair are known
abbrev pub good_request : List ℕ
good_request = request 0x0020 1 3 48

-- open result: success with so many bytes; respond: an empty plain response
abbrev pub opening : ℕ → ℕ → Call
opening ticket n = on_ticket ticket (open_result true n)

abbrev pub responding : ℕ → Call
responding ticket = on_ticket ticket (respond (replicate 32 0x22) (replicate 32 0x33) 0 (replicate 64 0xa5))

-- from 01's list with cap 2: the refusal numbers of the calls, 0 where accepted
abbrev pub numbers : List Call → List ℕ
numbers calls = map (λ (e : Event). number e.answer) (gateway_trace edge_list 2 calls)

-- the states of the pending exchanges after the calls
abbrev pub phases : List Call → List ℕ
phases calls = map (λ (e : Exchange). e.phase.0) (pending_in (gateway_after edge_list 2 calls).table)

-- two admissions; ticket 2 is opened and answered before 1
abbrev pub answered_in_reverse : List Call
answered_in_reverse =
    asking good_request
    ∷ asking good_request
    ∷ asking good_request
    ∷ opening 2 0
    ∷ responding 2
    ∷ opening 1 0
    ∷ responding 1
    ∷ []

pub record GatewayEdges : Type 0 where
  pub lists : ListEdges
  pub empty_request : numbers (asking [] ∷ []) ≡ 1 ∷ []
  pub bytes54 : numbers (asking (request 0x0020 1 3 47) ∷ []) ≡ 1 ∷ []
  -- admitted: enc from 7 to 39, the ciphertext's 16 bytes from 39 to 55; info, and the buffer's last byte stays
  pub bytes55 :
      gateway_trace edge_list 2 (asking good_request ∷ [])
      ≡ record {
        call = asking good_request;
        answer =
            of_admit (Ok (record {
              ticket = record { 0 = 1 };
              key_id = record { 0 = 7 };
              kdf = 1;
              aead = 3;
              enc_start = 7;
              enc_end = 39;
              ciphertext_start = 39;
              ciphertext_end = 55;
            }));
        buffer = hex "6d6573736167652f626874747020726571756573740007002000010003a5";
      }
      ∷ []
  pub other_pair : numbers (asking (request 0x0020 1 1 48) ∷ []) ≡ 6 ∷ []
  pub other_kem : numbers (asking (request 0x0010 1 3 81) ∷ []) ≡ 5 ∷ []
  -- cap 2: tickets 1 and 2, the third 8; at the end count 2, last ticket 2, none pending
  pub cap_two : numbers answered_in_reverse ≡ 0 ∷ 0 ∷ 8 ∷ 0 ∷ 0 ∷ 0 ∷ 0 ∷ []
  pub tickets : tickets_given (gateway_trace edge_list 2 answered_in_reverse) ≡ 1 ∷ 2 ∷ []
  pub count : map (λ (key : Key). key.count) (registry_of (gateway_after edge_list 2 answered_in_reverse)).keys ≡ 2 ∷ []
  pub last_ticket : (registry_of (gateway_after edge_list 2 answered_in_reverse)).last_ticket ≡ 2
  pub none_pending : pending_in (gateway_after edge_list 2 answered_in_reverse).table ≡ []
  -- n one too large: 13, still asked; then the right n: opened
  pub too_long : numbers (asking good_request ∷ opening 1 1 ∷ []) ≡ 0 ∷ 13 ∷ []
  pub still_asked : phases (asking good_request ∷ opening 1 1 ∷ []) ≡ asked_phase ∷ []
  pub opened : phases (asking good_request ∷ opening 1 1 ∷ opening 1 0 ∷ []) ≡ opened_phase ∷ []
  -- respond before that: 12; after closing: 11; ticket 0: 11
  pub before_opening : numbers (asking good_request ∷ responding 1 ∷ []) ≡ 0 ∷ 12 ∷ []
  pub after_closing : numbers (asking good_request ∷ opening 1 0 ∷ responding 1 ∷ responding 1 ∷ []) ≡ 0 ∷ 0 ∷ 0 ∷ 11 ∷ []
  pub ticket_zero : numbers (opening 0 0 ∷ responding 0 ∷ on_ticket 0 abandon ∷ []) ≡ 11 ∷ 11 ∷ 11 ∷ []
  -- 01, "Refusal numbers", the last column for admit's numbers in their order
  pub statuses :
      map status_of (2 ∷ 1 ∷ 3 ∷ 4 ∷ 5 ∷ 6 ∷ 7 ∷ 8 ∷ 9 ∷ 14 ∷ [])
      ≡ 413 ∷ 400 ∷ 400 ∷ 400 ∷ 400 ∷ 400 ∷ 400 ∷ 400 ∷ 503 ∷ 500 ∷ []
  pub key_problems :
      map is_key_problem (2 ∷ 1 ∷ 3 ∷ 4 ∷ 5 ∷ 6 ∷ 7 ∷ 8 ∷ 9 ∷ 14 ∷ [])
      ≡ false ∷ false ∷ false ∷ true ∷ true ∷ true ∷ true ∷ true ∷ false ∷ false ∷ []

-- Demand 3 on one list of calls, computed: two exchanges of which the second is answered first, a report, a retirement, and an
-- admission that is refused after it.
abbrev pub example : List Call
example =
    asking good_request
    ∷ asking good_request
    ∷ opening 2 0
    ∷ reporting
    ∷ retire 7
    ∷ responding 2
    ∷ opening 1 0
    ∷ asking good_request
    ∷ responding 1
    ∷ []

pub record MovedExample : Type 0 where
  pub order :
      calls_of (moved_list edge_list 2 example)
      ≡ asking good_request
      ∷ opening 1 0
      ∷ responding 1
      ∷ asking good_request
      ∷ opening 2 0
      ∷ responding 2
      ∷ retire 7
      ∷ []
  pub same_answers :
      trace book_does (fresh_book edge_list 2) (calls_of (moved_list edge_list 2 example)) ≡ moved_list edge_list 2 example
