-- `listwriter::Configurations::write_first` meets its contract: four writes, one behind the other, are one.
-- Assumes nothing.
use mathlib.Core.List.{List, [], ◌∷◌, ◌++◌}
use mathlib.Core.Path.{◌≡◌, ap, ap₂, ◌∙◌}
use Prim.Native.Nat.{ℕ, ◌+◌, ◌*◌}
use native.Mathlib.Omega.{arith}
use lib.ListN.{length, get_or, take}
use lib.Seq.{length-take-le}
use Rattle.wire.proofs.Writes.{overwritten_four}
use Rattle.wire.specs.Bytes.{word_bytes}
use Rattle.wire.specs.Helpers.{overwritten}
use Rattle.listwriter.specs.Writer.{first_kem, first_key, first_key_length, first_pair_count, first_pairs, words_bytes}
use Rattle.listwriter.specs.Helpers.{fields_of, first_length}
use Rattle.listwriter.proofs.Words.{words_length, word_of}
use Rattle.listwriter.proofs.Configurations.write_first.Goals as goal

pub returns : goal.returns
returns c =
    let a = c.args in
    let f = fields_of a.self.now in
    let head : List ℕ = word_bytes (5 + first_key_length f + first_pair_count f * 2) ++ a.id ∷ word_bytes (first_kem f) in
    let key : length (first_key f) ≡ first_key_length f = length-take-le (first_key_length f) f.keys (omega arith) in
    let pairs : length (first_pairs f) ≡ first_pair_count f = length-take-le (first_pair_count f) f.pairs (omega arith) in
    let size : length (words_bytes (first_pairs f)) ≡ first_pair_count f * 2 = words_length (first_pairs f) ∙ rw pairs in
    let key_length = c.first_key_length-key_length.ensures in
    let pair_count = c.first_pair_count-pair_count.ensures in
    let length_word : c.to_be_bytes.result ≡ word_bytes (first_length f) =
    rw (← key_length, ← pair_count) (c.to_be_bytes.ensures ∙ word_of (5 + c.first_key_length-key_length.result + c.first_pair_count-pair_count.result * 2) (omega arith)) in
    let kem_word : c.to_be_bytes-2.result ≡ word_bytes (first_kem f) =
    rw (← c.first_kem.ensures) (c.to_be_bytes-2.ensures ∙ word_of c.first_kem.result (omega (arith, c.first_kem.type_inv))) in
    let one : c.overwrite.new.buffer ≡ overwritten a.buffer.now a.at head =
    c.overwrite.ensures ∙ ap₂ (λ (l k : List ℕ). overwritten a.buffer.now a.at (get_or l 0 0 ∷ get_or l 1 0 ∷ a.id ∷ get_or k 0 0 ∷ get_or k 1 0 ∷ [])) length_word kem_word in
    let two : c.overwrite-2.new.buffer ≡ overwritten c.overwrite.new.buffer (a.at + 5) (first_key f) =
    c.overwrite-2.ensures ∙ ap (λ (n : ℕ). overwritten c.overwrite.new.buffer (a.at + 5) (take n f.keys)) key_length in
    let key_end : a.at + 5 + c.first_key_length-key_length.result ≡ a.at + 5 + length (first_key f) = omega arith in
    let three : c.write_word.new.buffer ≡ overwritten c.overwrite-2.new.buffer (a.at + 5 + length (first_key f)) (word_bytes (first_pair_count f * 2)) =
    c.write_word.ensures ∙ ap₂ (λ (n m : ℕ). overwritten c.overwrite-2.new.buffer n (word_bytes (m * 2))) key_end pair_count in
    let pairs_at : a.at + 7 + c.first_key_length-key_length.result ≡ a.at + 5 + length (first_key f) + 2 = omega arith in
    let all : c.write_words.new.buffer ≡ overwritten c.write_word.new.buffer (a.at + 5 + length (first_key f) + 2) (words_bytes (first_pairs f)) =
    c.write_words.ensures ∙ ap₂ (λ (n m : ℕ). overwritten c.write_word.new.buffer n (words_bytes (take m f.pairs))) pairs_at pair_count in
    rw (all, three, two, one)
    (overwritten_four a.buffer.now a.at head (first_key f) (word_bytes (first_pair_count f * 2)) (words_bytes (first_pairs f)) (omega arith))
