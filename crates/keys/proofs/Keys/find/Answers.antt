-- `keys::Keys::find` meets its contract: the first of those that count.
-- Assumes nothing.
use Rattle.std.proofs.Common.{◌∙◌, arith, rules, tests, eqb, take}
use Rattle.std.proofs.lemmas.Iterator.{YieldsList-from_slice, YieldsList-from_take}
use Rattle.std.proofs.lemmas.Iterator.Search.{position_from_yields_List}
use Rattle.keys.specs.declared.KeyState.{KeyState}
use Rattle.keys.specs.Keys.{has_id, key_of, keys_of}
use Rattle.keys.proofs.Arrays.{position_seen}
use Rattle.keys.proofs.Keys.find.Goals as goal

pub returns-clause-place : goal.returns-clause-place
unfolding keys_of
returns-clause-place c =
    let keys = c.args.self.now in
    let found =
    position_from_yields_List (λ (key : KeyState). eqb key.id.0 c.args.id.0) _ _ c.position.result c.position.ensures.ran
    (YieldsList-from_take keys.count (YieldsList-from_slice keys.list cc) cc) (λ x b q k. search (rules, tests))
    ∙ position_seen key_of (has_id c.args.id.0) (take keys.count keys.list) in
    grind arith
