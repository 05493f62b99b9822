-- The gateway after a line of the program is the gateway after its call.
use Rattle.std.specs.Prelude.{ℕ, min, List, replicate}
use Rattle.exchange.specs.Steps.{step}
use Rattle.gateway.specs.declared.Gateway.{Gateway}
use Rattle.gateway.specs.declared.table.Engine.{Engine}
use Rattle.gateway.specs.Gateway.{fresh_gateway, gateway_does}
use Rattle.gateway.specs.Calls.{admit, retire, on_ticket, reporting}
use Rattle.sealwax.specs.declared.gateway_lines.Call.{Call}

-- the buffer that is lent to a call: bytes a5, as many as the line asks for, and no more than 256
abbrev pub filled : ℕ → List ℕ
filled room = replicate (min room 256) 0xa5

-- a line's call, by an engine, with the bytes of its words: setup's list, admit's request, respond's enc and nonce
abbrev pub gateway_after_line : Engine → Gateway → Call → List ℕ → List ℕ → Gateway
gateway_after_line engine g (Call.Setup cap) list nonce = fresh_gateway list cap
gateway_after_line engine g (Call.Admit room) request nonce = (gateway_does engine g (admit request (filled room))).state
gateway_after_line engine g (Call.Step ticket asks room) enc nonce = (gateway_does engine g (on_ticket ticket (step asks enc nonce (filled room)))).state
gateway_after_line engine g (Call.Retire id) bytes nonce = (gateway_does engine g (retire id)).state
gateway_after_line engine g Call.Report bytes nonce = (gateway_does engine g reporting).state
