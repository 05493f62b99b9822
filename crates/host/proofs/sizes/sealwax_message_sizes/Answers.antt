-- `host::sizes::sealwax_message_sizes` meets its contract, by computation.
-- Assumes nothing.
use mathlib.Core.Path.{refl}
use Rattle.host.specs.Sizes.{message_sizes}
use Rattle.host.proofs.sizes.sealwax_message_sizes.Goals as goal

pub returns : goal.returns
unfolding message_sizes
returns c = refl
