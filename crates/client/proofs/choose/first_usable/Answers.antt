-- `client::choose::first_usable` meets its contract.
-- Assumes nothing.
use Rattle.std.proofs.Common.{◌≡◌, ◌+◌, ◌-◌, ◌*◌, Some, ◌∙◌, arith}
use Rattle.wire.specs.Tests.{pick}
use Rattle.keylist.specs.Layout.{pairs_at}
use Rattle.keylist.specs.declared.Pair.{Pair}
use Rattle.client.specs.Helpers.{pair_found}
use Rattle.client.proofs.Pairs.{found_step, found_end}
use Rattle.client.proofs.choose.first_usable.Goals as goal
use Rattle.client.proofs.choose.first_usable.Goals.{After-is_usable_pair}

-- the search, one pair on
one_on : (c : After-is_usable_pair)
    → (let a = c.args in
    let i = c.loop-i.i in
    let pair : Pair = record { kdf = c.word_at.result; aead = c.word_at-in-loop-i.result } in
    pair_found a.pairs.now (pairs_at a.count a.list.now a.from)
    ≡ pick c.is_usable_pair.result (Some pair) (pair_found a.pairs.now (pairs_at (a.count - (i + 1)) a.list.now (a.from + (i + 1) * 4))))
one_on c =
    let a = c.args in
    let i = c.loop-i.i in
    let less : a.count - i - 1 ≡ a.count - (i + 1) = omega arith in
    let next : a.from + i * 4 + 4 ≡ a.from + (i + 1) * 4 = omega arith in
    rw (c.is_usable_pair.ensures, c.word_at.ensures, c.word_at-in-loop-i.ensures, ← less, ← next)
    (c.loop-i.invariant ∙ found_step a.pairs.now a.list.now (a.count - i) (a.from + i * 4) (omega arith))

pub returns-then-is_usable_pair : goal.returns-then-is_usable_pair
returns-then-is_usable_pair c = rw (one_on (goal.at.returns-then-is_usable_pair c).After-is_usable_pair, c.if-is_usable_pair.true)

pub loop-i-preserved : goal.loop-i-preserved
loop-i-preserved c = rw (one_on (goal.at.loop-i-preserved c).After-is_usable_pair, c.if-is_usable_pair.false)

pub returns : goal.returns
returns c = rw (c.loop-i.invariant, found_end _ _ (c.args.count - c.loop-i.i) (c.args.from + c.loop-i.i * 4) (omega arith))
