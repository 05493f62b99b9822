-- `wire::texts::info` meets its contract: the label and the head, one behind the other, fill the 29 bytes.
-- Assumes nothing.
use Rattle.wire.specs.Texts.{ascii, request_label}
use Rattle.wire.proofs.Info.{info_parts}
use mathlib.Core.Path.{◌≡◌, ◌∙◌}
use lib.ListN.{length}
use borrow.Author.Rules.{rules}
use Rattle.wire.proofs.texts.info.Goals as goal

pub returns : goal.returns
unfolding ascii request_label
returns c =
    let head = c.args.head in
    let size : 7 ≡ length head = search rules in
    c.overwrite-2.ensures ∙ rw c.overwrite.ensures (info_parts head size)
