-- `request::read` meets its contract.
-- Assumes nothing.
use Rattle.std.proofs.Common.{◌≡◌, Some, sym, arith}
use Rattle.std.specs.Bool.{then_some}
use Rattle.algorithms.specs.Sizes.{known_kem, shortest_request}
use Rattle.request.specs.Request.{kem_of}
use Rattle.request.proofs.Requests.{below_shortest}
use Rattle.request.proofs.read.Goals as goal

pub returns-then-request-shortest : goal.returns-then-request-shortest
returns-then-request-shortest c =
    let request = c.args.request.now in
    let looked : then_some (known_kem (kem_of request)) (shortest_request (kem_of request)) ≡ Some c.in_ok-shortest.shortest = grind arith in
    rw c.from-then-request-shortest.ensures (sym (below_shortest request (omega arith) (omega arith) _ looked (omega arith)))
