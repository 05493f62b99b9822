-- `keys::Keys::number` meets its contract: as many keys as are counted, or as there is room for.
-- Assumes nothing.
use Rattle.std.proofs.Common.{◌≡◌, arith, length, rules}
use Rattle.keys.proofs.Stored.{length_keys}
use Rattle.keys.proofs.Keys.number.Goals as goal

pub returns-clause-value : goal.returns-clause-value
returns-clause-value c =
    let keys = c.args.self.now in
    let whole : length keys.list ≡ 16 = search rules in
    omega (arith, length_keys keys whole)
