-- The part of a buffer that the code lends is the one that the definitions name.
-- Assumes nothing.
use Rattle.std.proofs.Common.{◌≡◌, ℕ, min, take, replicate, ap, ◌∙◌, arith}
use Rattle.std.proofs.lemmas.List.{take-replicate}
use Rattle.sealwax.specs.Calls.{filled}

pub part_filled : (room n : ℕ) → n ≡ min room 256 → take n (replicate 256 0xa5) ≡ filled room
part_filled room n e = take-replicate n 256 0xa5 (omega arith) ∙ ap (λ (k : ℕ). replicate k 0xa5) e
