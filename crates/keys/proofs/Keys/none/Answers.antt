-- `keys::Keys::none` meets its contract.
-- Assumes nothing.
use Rattle.keys.specs.Stored.{stored_keys}
use Rattle.keys.proofs.Keys.none.Goals as goal

pub returns : goal.returns
unfolding stored_keys
returns c = rw c.blank.ensures
