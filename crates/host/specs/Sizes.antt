-- How many bytes the library takes for its structs: the gateway, and the result of each call.
use Rattle.std.specs.Prelude.{ℕ}
use prog.Memory.{size}
use Rattle.std.specs.Borrow.{RattleType}
use denote.Memory.{lone}
use Rattle.gateway.specs.contracts.Gateway
use Rattle.results.specs.contracts.outcome.Outcome
use Rattle.results.specs.contracts.outcome.NumberResult
use Rattle.results.specs.contracts.outcome.TwoNumbersResult
use Rattle.results.specs.contracts.gateway_calls.AdmitResult
use Rattle.results.specs.contracts.gateway_calls.ReportResult
use Rattle.results.specs.contracts.client_calls.ChooseResult
use Rattle.results.specs.contracts.message_calls.FieldResult
use Rattle.results.specs.contracts.message_calls.RequestResult
use Rattle.host.specs.declared.sizes.MessageSizes.{MessageSizes}
use Rattle.host.specs.declared.sizes.Sizes.{Sizes}

-- the bytes of a value of a type, in the machine's layout
abbrev bytes_of : RattleType → ℕ
bytes_of T = size (lone T.mir)

unfoldable pub sizes : Sizes
sizes =
    record {
      gateway = bytes_of Gateway.the_row;
      outcome = bytes_of Outcome.the_row;
      setup = bytes_of NumberResult.the_row;
      admit = bytes_of AdmitResult.the_row;
      «open» = bytes_of NumberResult.the_row;
      respond = bytes_of NumberResult.the_row;
      report = bytes_of ReportResult.the_row;
      check = bytes_of TwoNumbersResult.the_row;
      key = bytes_of TwoNumbersResult.the_row;
      write = bytes_of NumberResult.the_row;
      choose = bytes_of ChooseResult.the_row;
      head = bytes_of NumberResult.the_row;
      split = bytes_of TwoNumbersResult.the_row;
      exporter = bytes_of TwoNumbersResult.the_row;
    }

-- and the result of each call on messages
unfoldable pub message_sizes : MessageSizes
message_sizes =
    record {
      request = bytes_of RequestResult.the_row;
      request_part = bytes_of TwoNumbersResult.the_row;
      next_field = bytes_of FieldResult.the_row;
    }
