-- `host::sizes::sealwax_sizes` meets its contract, by computation.
-- Assumes nothing.
use mathlib.Core.Path.{refl}
use Rattle.host.specs.Sizes.{sizes}
use Rattle.host.proofs.sizes.sealwax_sizes.Goals as goal

pub returns : goal.returns
unfolding sizes
returns c = refl
