-- `sealwax::message_lines::put_fields` meets its contract. The loop's invariant: the separator is text.
-- Assumes nothing.
use denote.Text.{Utf8}
use denote.Shadow.{shadow}
use Rattle.sealwax.proofs.message_lines.put_fields.Given as goal

abbrev pub invariant-loop-name : goal.invariant-loop-name
invariant-loop-name l =
    (goal.iterator-loop-name).can_next l.name-iterator
    × (goal.iterator-loop-name).is_finite l.name-iterator
    × shadow (Utf8 l.separator)
