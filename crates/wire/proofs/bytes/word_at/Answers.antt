-- `wire::bytes::word_at` meets its contract: past the end both bytes are 0.
-- Assumes nothing.
use lib.ListN.{get_or-eq_default, length}
use Prim.Native.Nat.{◌+◌, ◌≤◌}
use native.Mathlib.Omega.{arith}
use borrow.Author.Rules.{rules}
use Rattle.wire.proofs.bytes.word_at.Goals as goal

pub returns-then-at-bytes : goal.returns-then-at-bytes
returns-then-at-bytes c = search rules

pub returns-else-at-bytes : goal.returns-else-at-bytes
returns-else-at-bytes c =
    let a = c.args in
    let h : length a.bytes.now ≤ a.at = c.if-at-bytes.false in
    simp (get_or-eq_default a.bytes.now 0 h, get_or-eq_default a.bytes.now 0 {n = a.at + 1} (omega arith))
