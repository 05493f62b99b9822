-- What gateway and book share: cap, last ticket and keys, and 01's rules for the calls that look at them: setup, admit, retire, report.
use Rattle.std.specs.Prelude.{ℕ, zero, suc, Bool, not, List, [], map, Result, Ok, Err, eqb, leb, ltb, length}
use Rattle.wire.specs.Tests.{pick, ◌and◌}
use Rattle.wire.specs.Search.{is_none, is_some_and}
use Rattle.wire.specs.Refusals.{◌when◌otherwise◌, refused}
use Rattle.wire.specs.declared.refusal.Refusal.{Refusal}
use Rattle.wire.specs.Texts.{head_length, info_length, longest_request}
use Rattle.algorithms.specs.Sizes.{known_kem, shortest_request}
use Rattle.keylist.specs.Layout.{Configuration, parse}
use Rattle.request.specs.declared.Request.{Request}
use Rattle.request.specs.Request.{key_id_of, kem_of, kdf_of, aead_of, fields_of}
use Rattle.keys.specs.Keys.{Key, fresh_key, key_with, offers, stored_reports}
use Rattle.gateway.specs.declared.admission.Admission.{Admission}
use Rattle.gateway.specs.declared.admission.AdmitRefusal.{AdmitRefusal}
use Rattle.gateway.specs.declared.Report.{Report}

-- "a table of 128 pending exchanges"
abbrev pub table_size : ℕ
table_size = 128

-- 01: the cap, the last ticket, and the keys in list order
pub record Registry : Type 0 where
  pub cap : ℕ
  pub last_ticket : ℕ
  pub keys : List Key

-- the most uses that a cap may allow; the least is 1
abbrev pub most_uses : ℕ
most_uses = 1000000000

abbrev pub cap_holds : ℕ → Bool
cap_holds cap = leb 1 cap and leb cap most_uses

-- 01, "Order", setup: what is wrong with the list, then 17; else the configurations
abbrev pub with_cap : ℕ → Result (List Configuration) Refusal → Result (List Configuration) Refusal
with_cap cap (Ok cs) = pick (cap_holds cap) (Ok cs) (Err (refused 17))
with_cap cap (Err r) = Err r

abbrev pub setup : List ℕ → ℕ → Result (List Configuration) Refusal
setup list cap = with_cap cap (parse list)

-- the number of keys, or the refusal
abbrev pub setup_answer : Result (List Configuration) Refusal → Result ℕ Refusal
setup_answer (Ok cs) = Ok (length cs)
setup_answer (Err r) = Err r

-- at first counts and last ticket are 0 and no key is retired; after a refused setup there are no keys and the cap is 1
abbrev pub registry_from : ℕ → Result (List Configuration) Refusal → Registry
registry_from cap (Ok cs) = record { cap = cap; last_ticket = 0; keys = map fresh_key cs }
registry_from cap (Err r) = record { cap = 1; last_ticket = 0; keys = [] }

abbrev pub fresh_registry : List ℕ → ℕ → Registry
fresh_registry list cap = registry_from cap (setup list cap)

-- 01, "Order", admit; 0: no refusal. A count is never above the cap (`Counts` of book), so that 8's "equals" is "at least" here
unfoldable pub admit_refusal : Registry → Bool → List ℕ → ℕ → ℕ
admit_refusal registry full request room =
    let key = key_with (key_id_of request) registry.keys in
    2 when ltb longest_request (length request) otherwise
    1 when ltb (length request) head_length otherwise
    3 when not (known_kem (kem_of request)) otherwise
    1 when ltb (length request) (shortest_request (kem_of request)) otherwise
    4 when is_none key otherwise
    5 when not (is_some_and (λ k. eqb k.kem (kem_of request)) key) otherwise
    6 when not (is_some_and (offers (kdf_of request) (aead_of request)) key) otherwise
    7 when is_some_and (λ k. k.retired) key otherwise
    8 when is_some_and (λ k. leb registry.cap k.count) key otherwise
    9 when full otherwise
    14 when ltb room info_length otherwise
    0

-- 01, "Refusal numbers", the last column: the status of an unprotected answer to admit, and whether it is an ohttp-key problem
abbrev pub status_of : ℕ → ℕ
status_of number =
    413 when eqb number 2 otherwise
    503 when eqb number 9 otherwise
    500 when eqb number 14 otherwise
    400

abbrev pub is_key_problem : ℕ → Bool
is_key_problem number = leb 4 number and leb number 8

abbrev pub refusal_of_admit : ℕ → AdmitRefusal
refusal_of_admit number = record { number = number; status = status_of number; key_problem = is_key_problem number }

-- an admitted request: ticket, key id, pair, and where enc and ciphertext start and end
abbrev pub admission : ℕ → Request → ℕ → Admission
admission ticket request size =
    record {
      ticket = record { 0 = ticket };
      key_id = request.key_id;
      kdf = request.kdf;
      aead = request.aead;
      enc_start = head_length;
      enc_end = request.enc_end;
      ciphertext_start = request.enc_end;
      ciphertext_end = size;
    }

-- the answer of admit, by the refusal number
abbrev pub admit_answer : ℕ → ℕ → List ℕ → Result Admission AdmitRefusal
admit_answer zero ticket request = Ok (admission ticket (fields_of request) (length request))
admit_answer (suc n) ticket request = Err (refusal_of_admit (suc n))

-- the report: last ticket, number pending, and the keys in list order
abbrev pub report : Registry → ℕ → Report
report registry pending =
    record {
      last_ticket = record { 0 = registry.last_ticket };
      pending = pending;
      key_count = length registry.keys;
      keys = stored_reports registry.keys;
    }
