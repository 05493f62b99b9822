-- What the exporter's refusal number decides; where its lengths are answered, its buffer holds the context.
-- Assumes nothing.
use mathlib.Core.Path.{◌≡◌}
use mathlib.Core.List.{List}
use Prim.Native.Nat.{ℕ, ◌≤◌}
use Rattle.std.specs.Prelude.{true, not, ltb, length, Ok}
use borrow.Author.Tests.{ltb-false, not-false}
use Rattle.wire.specs.Refusals.{◌when◌otherwise◌, written}
use Rattle.wire.specs.Helpers.{overwritten}
use Rattle.wire.specs.Exporter.{exporter_context}
use Rattle.wire.proofs.Numbers.{not-refused, ok_by}
use Rattle.wire.proofs.Writes.{front_first}
use Rattle.algorithms.specs.Sizes.{known_aead}
use Rattle.results.specs.Client.{exporter_refusal, exporter_lengths}

-- 0: the AEAD is known, and there is room for the context
pub exporter_accepted : (aead room : ℕ) → exporter_refusal aead room ≡ 0 → (known_aead aead ≡ true) × (length exporter_context ≤ room)
unfolding exporter_refusal
exporter_accepted aead room none =
    let known = not-refused 5 (not (known_aead aead)) (14 when ltb room (length exporter_context) otherwise 0) none in
    let fits = not-refused 13 (ltb room (length exporter_context)) 0 known.1 in
    (not-false (known_aead aead) known.0, ltb-false room (length exporter_context) fits.0)

pub context_written : (aead : ℕ) (buffer : List ℕ) (lengths : ℕ × ℕ) → Ok lengths ≡ exporter_lengths aead (length buffer)
    → overwritten buffer 0 exporter_context ≡ written (exporter_refusal aead (length buffer)) exporter_context buffer
context_written aead buffer lengths answered =
    let none = (ok_by (exporter_refusal aead (length buffer)) _ lengths answered).0 in
    rw none (front_first exporter_context buffer (exporter_accepted aead (length buffer) none).1)
