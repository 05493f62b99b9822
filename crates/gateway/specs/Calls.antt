-- The six calls as data, their answers, and what a call gives.
use Rattle.std.specs.Prelude.{ℕ, List, Result, Ok, Err}
use Rattle.wire.specs.declared.refusal.Refusal.{Refusal}
use Rattle.exchange.specs.declared.StepAnswer.{StepAnswer}
use Rattle.exchange.specs.Steps.{Step, step_number, step_unprotected}
use Rattle.gateway.specs.declared.admission.Admission.{Admission}
use Rattle.gateway.specs.declared.admission.AdmitRefusal.{AdmitRefusal}
use Rattle.gateway.specs.declared.Report.{Report}

-- a call with its arguments: admit (request, info buffer), retire (key id), a call on a ticket, report
pub data Call : Type 0 where
  admit : (request info : List ℕ) → Call
  retire : (id : ℕ) → Call
  on_ticket : (ticket : ℕ) → Step → Call
  reporting : Call

pub data Answer : Type 0 where
  of_admit : Result Admission AdmitRefusal → Answer
  of_retire : Result (Unit {0}) Refusal → Answer
  of_step : Result StepAnswer Refusal → Answer
  of_report : Report → Answer

-- 01's refusal number of an answer; 0: the call is accepted
unfoldable pub number : Answer → ℕ
number (of_admit (Err r)) = r.number
number (of_admit (Ok a)) = 0
number (of_retire (Err r)) = r.number
number (of_retire (Ok u)) = 0
number (of_step a) = step_number a
number (of_report r) = 0

-- the status of an answer that goes out unprotected; 0 where none does
unfoldable pub unprotected_status : Answer → ℕ
unprotected_status (of_admit (Err r)) = r.status
unprotected_status (of_admit (Ok a)) = 0
unprotected_status (of_retire r) = 0
unprotected_status (of_step a) = step_unprotected a
unprotected_status (of_report r) = 0

-- what a call gives: its answer, its buffer's bytes after it (none where it lends none), and the state that it hands back
pub record Done (State : Type 0) : Type 0 where
  pub answer : Answer
  pub buffer : List ℕ
  pub state : State
