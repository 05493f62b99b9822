-- What every answer to a host begins with: refusal number (0: accepted), whether it has a place, its place, HTTP status (0: nothing is sent),
-- problem type. And the answers that are an outcome with a number or two.
use Rattle.std.specs.Prelude.{ℕ, false, is_some, unwrap_or, Result, Ok, Err}
use Rattle.wire.specs.declared.refusal.Refusal.{Refusal}
use Rattle.wire.specs.declared.span.Span.{Span}
use Rattle.keylist.specs.declared.Counts.{Counts}
use Rattle.results.specs.declared.outcome.Outcome.{Outcome}
use Rattle.results.specs.declared.outcome.NumberResult.{NumberResult}
use Rattle.results.specs.declared.outcome.TwoNumbersResult.{TwoNumbersResult}

-- an accepted call, and the status that it sends
abbrev pub sends : ℕ → Outcome
sends status = record { number = 0; has_place = false; place = 0; status = status; problem = 0 }

-- a refusal that sends nothing
abbrev pub refused_by : Refusal → Outcome
refused_by r = record { number = r.number; has_place = is_some r.place; place = unwrap_or r.place 0; status = 0; problem = 0 }

-- an outcome with a number, or with two; 0 on refusal
abbrev pub sent : ℕ → ℕ → NumberResult
sent status n = record { outcome = sends status; number = n }

abbrev pub with_number : ℕ → NumberResult
with_number n = sent 0 n

abbrev pub refused_number : Refusal → NumberResult
refused_number r = record { outcome = refused_by r; number = 0 }

abbrev pub with_two_numbers : ℕ → ℕ → TwoNumbersResult
with_two_numbers first second = record { outcome = sends 0; first = first; second = second }

abbrev pub refused_two_numbers : Refusal → TwoNumbersResult
refused_two_numbers r = record { outcome = refused_by r; first = 0; second = 0 }

-- the number of keys that setup read, or the length that was written
abbrev pub number_result : Result ℕ Refusal → NumberResult
number_result (Ok n) = with_number n
number_result (Err r) = refused_number r

-- where a part starts and ends
abbrev pub span_result : Result Span Refusal → TwoNumbersResult
span_result (Ok span) = with_two_numbers span.start span.end
span_result (Err r) = refused_two_numbers r

-- how many configurations were read and how many skipped
abbrev pub check_result : Result Counts Refusal → TwoNumbersResult
check_result (Ok counts) = with_two_numbers counts.read counts.skipped
check_result (Err r) = refused_two_numbers r
