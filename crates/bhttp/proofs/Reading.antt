-- Laws of the definitions, part by part: what is read of parts that were read, and where they lie.
-- Assumes nothing.
use mathlib.Core.Path.{◌≡◌, sym}
use mathlib.Core.List.{List}
use Prim.Native.Nat.{ℕ, ◌≤◌}
use native.Mathlib.Omega.{arith}
use lib.Dec.{leb}
use lib.ListN.{length}
use Rattle.wire.proofs.Booleans.{either}
use Rattle.std.specs.Prelude.{Ok}
use Rattle.wire.specs.declared.span.Span.{Span}
use Rattle.fields.proofs.Readings.{prefixed_inside, same_good}
use Rattle.bhttp.specs.Contents.{optional_at}

-- an optional part lies in the message, where it is looked for there
pub optional_inside : (bytes : List ℕ) (at : ℕ) (span : Span) → at ≤ length bytes → optional_at bytes at ≡ Ok span
    → (at ≤ span.start) × (span.start ≤ span.end) × (span.end ≤ length bytes)
unfolding optional_at
optional_inside bytes at span h e =
    either (leb (length bytes) at)
    (λ t.
    let s : Ok (record { start = at; end = at }) ≡ Ok span = rw t at e in
    let spans : span ≡ record { start = at; end = at } = sym (same_good s) in
    rw spans (omega arith, omega arith, h))
    (λ t.
    let inside = prefixed_inside bytes at (length bytes) span (rw t at e) in
    (omega (arith, inside.0), inside.1, inside.2))
