-- Info as its two parts, written one behind the other into 29 zero bytes.
-- Assumes nothing.
use mathlib.Core.Path.{◌≡◌, refl, ◌∙◌}
use mathlib.Core.List.{List, ◌++◌}
use Prim.Native.Nat.{ℕ}
use native.Mathlib.Omega.{arith}
use lib.ListN.{length, replicate, length-append}
use Rattle.wire.specs.Helpers.{overwritten}
use Rattle.wire.specs.Texts.{ascii, request_label, info_bytes}
use Rattle.wire.proofs.Writes.{front_first, front_more, front_whole}

label_length : length request_label ≡ 22
unfolding ascii request_label
label_length = refl

pub info_parts : (head : List ℕ) → 7 ≡ length head
    → overwritten (overwritten (replicate 29 0) 0 request_label) 22 head ≡ info_bytes head
info_parts head size =
    rw (front_first request_label (replicate 29 0) (omega (arith, label_length)), ← label_length)
    (front_more request_label head (replicate 29 0) (omega (arith, label_length))
    ∙ front_whole (request_label ++ head) (replicate 29 0) (length-append request_label head ∙ omega (arith, label_length)))
