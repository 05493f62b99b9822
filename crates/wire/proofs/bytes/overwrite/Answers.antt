-- `wire::bytes::overwrite` meets its contract. The loop's invariant: so many bytes have been copied to the offset, and the rest is as it was.
-- Assumes nothing.
use lib.ListN.{length-set}
use native.Mathlib.Numerals.{add-one}
use lib.Seq.{paste-zero, paste-suc}
use mathlib.Core.Path.{◌≡◌, refl}
use native.Mathlib.Omega.{arith}
use Rattle.wire.proofs.bytes.overwrite.Goals as goal

pub loop-done-init : goal.loop-done-init
loop-done-init c = let a = c.args in (refl, paste-zero a.buffer.now a.at a.bytes.now)

pub loop-done-preserved : goal.loop-done-preserved
loop-done-preserved c =
    let a = c.args in
    let l = c.loop-done in
    let next = paste-suc a.buffer.now a.at a.bytes.now l.done 0 (omega arith) (omega arith) in
    (simp length-set l.invariant.0, rw (l.invariant.1, next, add-one))

pub returns : goal.returns
returns c =
    let l = c.loop-done in
    let e : l.done ≡ c.min-count.result = omega arith in
    rw (l.invariant.1, e, c.min-count.ensures)
