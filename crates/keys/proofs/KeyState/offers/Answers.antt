-- `keys::KeyState::offers` meets its contract: the pair is among those that count.
-- Assumes nothing.
use Rattle.std.proofs.Common.{sym, rules, tests}
use Rattle.std.proofs.lemmas.Iterator.{YieldsList-from_slice, YieldsList-from_take}
use Rattle.std.proofs.lemmas.Iterator.Search.{any_from_yields_List}
use Rattle.keylist.specs.Layout.{is_pair}
use Rattle.keys.proofs.KeyState.offers.Goals as goal

pub returns-then-is_known_pair : goal.returns-then-is_known_pair
returns-then-is_known_pair c =
    let key = c.args.self.now in
    rw (sym c.if-is_known_pair.ensures)
    (any_from_yields_List (is_pair c.args.kdf c.args.aead) _ _ c.any.result c.any.ensures.ran
    (YieldsList-from_take key.pair_count (YieldsList-from_slice key.pairs cc) cc) (λ x b q k. search (rules, tests)))
