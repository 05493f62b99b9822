-- RFC 9292, 3.1, the known-length request, read into its parts and fields or the place that is wrong (02, A3: 23 with that place).
use Rattle.std.specs.Prelude.{ℕ, List, length, Result, Ok}
use Rattle.integers.specs.Integers.{integer_at}
use Rattle.fields.specs.Parts.{◌and_then◌}
use Rattle.fields.specs.declared.fault.BadMessage.{BadMessage}
use Rattle.bhttp.specs.Contents.{Contents, contents_at, framed, part_at}
use Rattle.bhttp.specs.declared.requests.Control.{Control}

pub record Message : Type 0 where
  pub control : Control
  pub contents : Contents

-- control data: "method, scheme, authority and path, each a length and bytes"
unfoldable pub control_at : List ℕ → ℕ → Result Control BadMessage
control_at bytes at =
    part_at bytes at and_then (λ method.
    part_at bytes method.end and_then (λ scheme.
    part_at bytes scheme.end and_then (λ authority.
    part_at bytes authority.end and_then (λ path.
    Ok (record { method = method; scheme = scheme; authority = authority; path = path })))))

-- a request: framing 0, control data and what is behind it
unfoldable pub request_in : List ℕ → Result Message BadMessage
request_in bytes =
    framed 0 (integer_at bytes 0) (length bytes) and_then (λ framing.
    control_at bytes framing.end and_then (λ control.
    contents_at bytes control.path.end and_then (λ contents.
    Ok (record { control = control; contents = contents }))))
