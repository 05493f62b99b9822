-- The answers about messages, as a host gets them: where a request's parts lie; where a field lies, and the place behind it; all 0 on refusal.
use Rattle.std.specs.Prelude.{Result, Ok, Err}
use Rattle.wire.specs.Refusals.{refused_at}
use Rattle.wire.specs.declared.refusal.Refusal.{Refusal}
use Rattle.fields.specs.declared.fault.BadMessage.{BadMessage}
use Rattle.fields.specs.declared.field.Field.{Field}
use Rattle.bhttp.specs.Answers.{no_part}
use Rattle.bhttp.specs.declared.contents.Section.{Section}
use Rattle.bhttp.specs.declared.requests.Request.{Request}
use Rattle.results.specs.declared.message_calls.FieldResult.{FieldResult}
use Rattle.results.specs.declared.message_calls.RequestResult.{RequestResult}
use Rattle.results.specs.Outcome.{sends, refused_by}

abbrev pub no_section : Section
no_section = record { lies = no_part; fields = 0 }

abbrev pub no_request : Request
no_request =
    record {
      control = record { method = no_part; scheme = no_part; authority = no_part; path = no_part };
      layout = record { headers = no_section; content = no_part; trailers = no_section; padding = no_part };
    }

abbrev pub request_result : Result Request Refusal → RequestResult
request_result (Ok request) = record { outcome = sends 0; request = request }
request_result (Err r) = record { outcome = refused_by r; request = no_request }

abbrev pub field_result : Result Field BadMessage → FieldResult
field_result (Ok field) = record { outcome = sends 0; field = field; next = field.value.end }
field_result (Err bad) = record { outcome = refused_by (refused_at 23 bad.place); field = record { name = no_part; value = no_part }; next = 0 }
