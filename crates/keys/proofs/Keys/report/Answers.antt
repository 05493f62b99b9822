-- `keys::Keys::report` meets its contract: one report more in each turn, for as many keys as there are.
-- Assumes nothing.
use Rattle.std.proofs.Common.{◌≡◌, ◌<◌, ◌∙◌, length, min, rules, arith}
use lib.ListN.{length-take}
use lib.Seq.{get_or-take}
use Rattle.keys.proofs.Stored.{unread, length_keys, reports_more, reports_all}
use Rattle.keys.proofs.Keys.report.Goals as goal

pub loop-at-preserved : goal.loop-at-preserved
loop-at-preserved c =
    let keys = c.args.self.now in
    let whole : length keys.list ≡ 16 = search rules in
    let below : c.loop-at.at < c.number.result = omega (arith, length-take c.number.result keys.list) in
    rw (c.report.ensures, c.loop-at.invariant, get_or-take c.number.result keys.list c.loop-at.at unread below)
    (reports_more keys whole c.loop-at.at (omega (arith, c.number.ensures.bound)))

pub returns : goal.returns
returns c =
    let keys = c.args.self.now in
    let whole : length keys.list ≡ 16 = search rules in
    let all : c.loop-at.at ≡ min keys.count 16 = omega (arith, length_keys keys whole, c.number.ensures.value, length-take c.number.result keys.list) in
    c.loop-at.invariant ∙ reports_all keys whole c.loop-at.at all
