-- `listwriter::write_word` meets its contract.
-- Assumes nothing.
use mathlib.Core.List.{append_assoc}
use mathlib.Core.Path.{◌≡◌, sym, ◌∙◌}
use Prim.Native.Nat.{◌+◌, ◌-◌}
use native.Mathlib.Omega.{arith}
use lib.ListN.{take, drop}
use lib.Seq.{drop-drop}
use Rattle.wire.specs.Bytes.{word_bytes}
use Rattle.wire.proofs.Writes.{overwritten_all}
use Rattle.listwriter.proofs.Words.{word_of}
use Rattle.listwriter.proofs.write_word.Goals as goal

pub returns : goal.returns
returns c =
    let a = c.args in
    let word : c.copy_from_slice.new.self ≡ word_bytes a.word = c.copy_from_slice.ensures.after ∙ (c.to_be_bytes.ensures ∙ word_of a.word (omega arith)) in
    let two : a.at + 2 - a.at ≡ 2 = omega arith in
    let front = take a.at a.buffer.now in
    let rest = drop (a.at + 2) a.buffer.now in
    rw (word, two, drop-drop 2 a.at a.buffer.now) (sym (overwritten_all a.buffer.now a.at (word_bytes a.word) (omega arith) ∙ append_assoc front (word_bytes a.word) rest))
