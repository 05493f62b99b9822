-- `keys::pairs_at` meets its contract. The loop's invariant: the pairs read so far stand first in the array.
-- Assumes nothing.
use mathlib.Core.Path.{◌≡◌, refl}
use native.Mathlib.Omega.{arith}
use Rattle.keylist.specs.Layout.{pairs_at}
use Rattle.keys.specs.Stored.{most_pairs, no_pair}
use Rattle.keys.proofs.Arrays.{set-padded}
use Rattle.keys.proofs.Reading.{pair_at, length_pairs, pairs_more}
use Rattle.keys.proofs.pairs_at.Goals as goal

pub loop-done-init : goal.loop-done-init
unfolding pairs_at
loop-done-init c = (refl, omega arith)

pub loop-done-preserved : goal.loop-done-preserved
loop-done-preserved c =
    let l = c.loop-done in
    let a = c.args in (
      rw (c.word_at.ensures, c.word_at-in-loop-done.ensures, l.invariant.0, pairs_more)
          (set-padded most_pairs no_pair (pairs_at l.done a.list.now a.from) l.done (pair_at a.list.now _)
          (length_pairs a.list.now l.done a.from) (omega arith)),
      omega arith,
    )

pub returns : goal.returns
returns c =
    let all : c.loop-done.done ≡ c.args.count = omega arith in
    rw (c.loop-done.invariant.0, all)
