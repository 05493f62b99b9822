-- What only the contracts of functions below the entries cite: a reader of the rules can skip this file.
use Rattle.std.specs.Prelude.{ℕ, not, List, Result, ltb, length}
use Rattle.wire.specs.Refusals.{◌when◌otherwise◌, result_by}
use Rattle.wire.specs.Texts.{head_length, longest_request}
use Rattle.wire.specs.declared.refusal.Refusal.{Refusal}
use Rattle.algorithms.specs.Sizes.{known_kem, shortest_request}
use Rattle.request.specs.declared.Request.{Request}
use Rattle.request.specs.Request.{kem_of, fields_of}

-- 01, "Order", admit, as far as the request alone tells: 2, 1 (below 7), 3, 1 (shortest); 0: no refusal
unfoldable pub request_refusal : List ℕ → ℕ
request_refusal request =
    2 when ltb longest_request (length request) otherwise
    1 when ltb (length request) head_length otherwise
    3 when not (known_kem (kem_of request)) otherwise
    1 when ltb (length request) (shortest_request (kem_of request)) otherwise
    0

-- the fields, or the refusal
abbrev pub parsed : List ℕ → Result Request Refusal
parsed request = result_by (request_refusal request) (fields_of request)
