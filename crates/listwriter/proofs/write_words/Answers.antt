-- `listwriter::write_words` meets its contract.
-- Assumes nothing.
use mathlib.Core.List.{List}
use mathlib.Core.Path.{◌≡◌, ◌∙◌}
use Prim.Native.Nat.{ℕ, ◌*◌}
use native.Mathlib.Omega.{arith}
use lib.ListN.{length, get_or, take}
use lib.Seq.{length-take-le}
use Rattle.wire.proofs.Writes.{overwritten_more}
use Rattle.wire.specs.Bytes.{word_bytes}
use Rattle.listwriter.proofs.Words.{words_length, words_one_more}
use Rattle.listwriter.specs.Writer.{words_bytes}
use Rattle.listwriter.proofs.write_words.Goals as goal

pub loop-done-preserved : goal.loop-done-preserved
loop-done-preserved c =
    let a = c.args in
    let l = c.loop-done in
    let w = c.write_word in
    let done : List ℕ = take l.done a.words.now in
    let size : length (words_bytes done) ≡ l.done * 2 = rw (words_length, length-take-le l.done a.words.now (omega arith)) in
    let more = overwritten_more a.buffer.now a.at (words_bytes done) (word_bytes (get_or a.words.now l.done 0)) (omega arith) in
    (w.auto.buffer ∙ l.invariant.0, rw (w.ensures, l.invariant.1, words_one_more a.words.now l.done (omega arith), ← more, size))
