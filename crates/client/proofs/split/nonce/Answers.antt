-- `client::split::nonce` meets its contract: `check` answers where the parts meet, within the response.
-- Assumes nothing.
use Rattle.std.proofs.Common.{◌+◌, ◌≤◌, length, sym, arith, length-take}
use Rattle.algorithms.specs.Sizes.{nonce_length, tag_length}
use Rattle.client.proofs.Parts.{meets_within}
use Rattle.client.proofs.split.nonce.Goals as goal
use Rattle.client.proofs.split.nonce.Goals.{In-Ok}

within : (c : In-Ok) → (nonce_length ≤ c.in-Ok.at) × (c.in-Ok.at + tag_length ≤ length c.args.response.now)
within c = meets_within c.args.aead.0 _ _ (sym c.in-Ok.ensures)

pub slice_bounds-result-end : goal.slice_bounds-result-end
slice_bounds-result-end c = simp length-take (omega (arith, within c))
