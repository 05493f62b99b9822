-- `next` of the field reader meets its contract: nothing at the end, else the next field.
-- Assumes nothing.
use Rattle.std.proofs.Common.{◌≡◌, ◌∙◌, suc, length, rules, refl, sym, ap, Ok, Err}
use borrow.Author.Tests.{leb-true, leb-false}
use Rattle.fields.specs.Reader.{next_field, fields_left}
use Rattle.fields.proofs.Walking.{left_end, left_next}
use Rattle.fields.proofs.reader.ReaderIterator.next.Goals as goal

pub returns-then-at_end-clause-steps : goal.returns-then-at_end-clause-steps
returns-then-at_end-clause-steps c =
    let reader = c.args.self.now in
    let none = left_end reader.message.now reader.at (leb-true _ _ (sym c.if-at_end.ensures)) in
    (none, none)

pub returns-in-Ok-clause-steps : goal.returns-in-Ok-clause-steps
returns-in-Ok-clause-steps c =
    let reader = c.args.self.now in
    let read : next_field reader.message.now reader.at ≡ Ok c.in-Ok.field-0 = sym c.next.ensures ∙ c.in-Ok.is in
    rw (left_next reader.message.now reader.at (leb-false _ _ (sym c.if-at_end.ensures)), read, c.bytes_of.ensures, c.bytes_of-in-Ok.ensures) refl

pub returns-in-Ok-clause-goes : goal.returns-in-Ok-clause-goes
returns-in-Ok-clause-goes c =
    let reader = c.args.self.now in
    let fewer : length (fields_left reader.message.now reader.at) ≡ suc (length (fields_left reader.message.now c.in-Ok.field-0.value.end)) =
    ap length (returns-in-Ok-clause-steps c) in
    search (rules, fewer)

pub returns-in-Err-clause-steps : goal.returns-in-Err-clause-steps
returns-in-Err-clause-steps c =
    let reader = c.args.self.now in
    let read : next_field reader.message.now reader.at ≡ Err c.in-Err.field-0 = sym c.next.ensures ∙ c.in-Err.is in
    rw (left_next reader.message.now reader.at (leb-false _ _ (sym c.if-at_end.ensures)), read) refl

pub returns-in-Err-clause-goes : goal.returns-in-Err-clause-goes
returns-in-Err-clause-goes c =
    let reader = c.args.self.now in
    let fewer : length (fields_left reader.message.now reader.at) ≡ suc (length (fields_left reader.message.now (length reader.message.now))) =
    ap length (returns-in-Err-clause-steps c) in
    search (rules, fewer)
