-- The answers of the six calls, as a host gets them; setup's is `number_result`.
use Rattle.std.specs.Prelude.{◌≡◌, ℕ, Bool, true, false, List, [], Result, Ok, Err}
use Rattle.wire.specs.declared.refusal.Refusal.{Refusal}
use Rattle.exchange.specs.declared.StepAnswer.{StepAnswer}
use Rattle.keys.specs.Keys.{stored_reports}
use Rattle.gateway.specs.declared.Report.{Report}
use Rattle.gateway.specs.declared.admission.Admission.{Admission}
use Rattle.gateway.specs.declared.admission.AdmitRefusal.{AdmitRefusal}
use Rattle.gateway.specs.declared.Gateway.{Gateway}
use Rattle.gateway.specs.declared.table.Engine.{Engine}
use Rattle.gateway.specs.Calls.{Call, Answer, of_admit, of_retire, of_step, of_report}
use Rattle.gateway.specs.Gateway.{gateway_does}
use Rattle.results.specs.declared.outcome.Outcome.{Outcome}
use Rattle.results.specs.declared.outcome.NumberResult.{NumberResult}
use Rattle.results.specs.declared.gateway_calls.AdmitResult.{AdmitResult}
use Rattle.results.specs.declared.gateway_calls.ReportResult.{ReportResult}
use Rattle.results.specs.Outcome.{sends, refused_by, sent, with_number, refused_number}

-- the problem type of an unprotected answer: 1 is ohttp-key (RFC 9458, 5.3), 0 is none
abbrev pub problem_type : Bool → ℕ
problem_type true = 1
problem_type false = 0

-- 01, "Refusal numbers": only admit's refusals have a status, and a problem type
abbrev pub refused_admit : AdmitRefusal → Outcome
refused_admit r = record { number = r.number; has_place = false; place = 0; status = r.status; problem = problem_type r.key_problem }

-- of an accepted call on a ticket: the status that is sent, of a failed opening or of a sealed response; and a number, 1 where the exchange is
-- opened now, the encapsulated length of a sealed response
abbrev pub accepted_step : StepAnswer → NumberResult
accepted_step StepAnswer.Opened = sent 0 1
accepted_step (StepAnswer.Failed status) = sent status 0
accepted_step (StepAnswer.Sealed s) = sent s.status s.length
accepted_step StepAnswer.Abandoned = sent 0 0

abbrev pub ticket_result : Result StepAnswer Refusal → NumberResult
ticket_result (Ok a) = accepted_step a
ticket_result (Err r) = refused_number r

-- an answer's refusal, and the status that it sends
abbrev pub outcome_of : Answer → Outcome
outcome_of (of_admit (Ok a)) = sends 0
outcome_of (of_admit (Err r)) = refused_admit r
outcome_of (of_retire (Ok done)) = sends 0
outcome_of (of_retire (Err r)) = refused_by r
outcome_of (of_step a) = (ticket_result a).outcome
outcome_of (of_report r) = sends 0

-- the admission that an answer holds, all 0 where it holds none
abbrev pub no_admission : Admission
no_admission =
    record {
      ticket = record { 0 = 0 };
      key_id = record { 0 = 0 };
      kdf = 0;
      aead = 0;
      enc_start = 0;
      enc_end = 0;
      ciphertext_start = 0;
      ciphertext_end = 0;
    }

abbrev pub admission_in : Answer → Admission
admission_in (of_admit (Ok a)) = a
admission_in (of_admit (Err r)) = no_admission
admission_in (of_retire r) = no_admission
admission_in (of_step r) = no_admission
admission_in (of_report r) = no_admission

abbrev pub admit_result : Answer → AdmitResult
admit_result answer =
    record {
      outcome = outcome_of answer;
      ticket = (admission_in answer).ticket.0;
      enc_start = (admission_in answer).enc_start;
      enc_end = (admission_in answer).enc_end;
      ciphertext_start = (admission_in answer).ciphertext_start;
      ciphertext_end = (admission_in answer).ciphertext_end;
      kdf = (admission_in answer).kdf;
      aead = (admission_in answer).aead;
      key_id = (admission_in answer).key_id.0;
    }

-- the result of a call on a ticket; the other answers are never given to one
abbrev pub step_result : Answer → NumberResult
step_result (of_step a) = ticket_result a
step_result (of_admit a) = with_number 0
step_result (of_retire a) = with_number 0
step_result (of_report a) = with_number 0

-- the report that an answer holds, an empty one where it holds none
abbrev pub no_report : Report
no_report = record { last_ticket = record { 0 = 0 }; pending = 0; key_count = 0; keys = stored_reports [] }

abbrev pub report_in : Answer → Report
report_in (of_report r) = r
report_in (of_admit r) = no_report
report_in (of_retire r) = no_report
report_in (of_step r) = no_report

abbrev pub report_result : Answer → ReportResult
report_result answer =
    record {
      outcome = outcome_of answer;
      last_ticket = (report_in answer).last_ticket.0;
      pending = (report_in answer).pending;
      key_count = (report_in answer).key_count;
      keys = (report_in answer).keys;
    }

-- a call on the gateway in the host's memory, by an engine: what gateway and result are after it, and the buffer that it lends, where it lends one
abbrev pub Does : {R : Type 0} → Engine → (Answer → R) → Call → Gateway → Gateway → R → List ℕ → Type 0
Does engine result call before after r buffer =
    (after ≡ (gateway_does engine before call).state)
    × (r ≡ result (gateway_does engine before call).answer)
    × (buffer ≡ (gateway_does engine before call).buffer)
