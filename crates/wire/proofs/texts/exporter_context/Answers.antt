-- `wire::texts::exporter_context` meets its contract.
-- Assumes nothing.
use Rattle.wire.specs.Texts.{ascii}
use Rattle.wire.specs.Exporter.{exporter_context}
use mathlib.Core.Path.{refl}
use Rattle.wire.proofs.texts.exporter_context.Goals as goal

pub returns : goal.returns
unfolding ascii exporter_context
returns c = refl
