-- `fields::octets::class` meets its contract: each entry of the table is its octet's class.
-- Assumes nothing.
use mathlib.Core.Path.{refl}
use native.Mathlib.Omega.{arith}
use Rattle.wire.specs.Texts.{ascii}
use Rattle.fields.specs.Octets.{class_of}
use Rattle.fields.specs.declared.octets.TheConstants.{CLASSES}
use Rattle.fields.proofs.Table.{has_classes}
use Rattle.fields.proofs.octets.class.Goals as goal

pub returns : goal.returns
unfolding class_of ascii
returns c = has_classes CLASSES refl refl c.args.octet (omega arith)
