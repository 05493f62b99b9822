-- `client::split::ciphertext` meets its contract: `check` answers where the parts meet, within the response.
-- Assumes nothing.
use Rattle.std.proofs.Common.{◌+◌, ◌≤◌, length, sym, arith}
use Rattle.algorithms.specs.Sizes.{nonce_length, tag_length}
use Rattle.client.proofs.Parts.{meets_within}
use Rattle.client.proofs.split.ciphertext.Goals as goal
use Rattle.client.proofs.split.ciphertext.Goals.{In-Ok}

within : (c : In-Ok) → (nonce_length ≤ c.in-Ok.at) × (c.in-Ok.at + tag_length ≤ length c.args.response.now)
within c = meets_within c.args.aead.0 _ _ (sym c.in-Ok.ensures)

pub slice_bounds-result-count : goal.slice_bounds-result-count
slice_bounds-result-count c = omega (arith, within c)

pub slice_bounds-result-start : goal.slice_bounds-result-start
slice_bounds-result-start c = omega (arith, within c)
