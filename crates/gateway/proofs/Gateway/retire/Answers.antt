-- `gateway::Gateway::retire` meets its contract: the key with the id is retired in its place.
-- Assumes nothing.
use Rattle.std.proofs.Common.{◌≡◌, ◌∙◌, ap₂, ℕ, length, get_or, rules}
use Rattle.std.proofs.lemmas.Result.{err_from_is_err_and}
use Rattle.wire.proofs.Numbers.{ok_by}
use Rattle.keys.specs.declared.KeyState.{KeyState}
use Rattle.keys.specs.Keys.{keys_of}
use Rattle.keys.specs.Stored.{retired_state, place_of_key}
use Rattle.keys.proofs.Stored.{unread}
use Rattle.gateway.proofs.Results.{with_key_at, retired_refused, retired_done}
use Rattle.gateway.proofs.Gateway.retire.Goals as goal

pub returns-in_err-place : goal.returns-in_err-place
returns-in_err-place c =
    let g = c.args.self.now in
    let id = c.args.id.0 in
    let p = err_from_is_err_and c.from_residual.result c.from_residual.ensures.1 in
    rw (p.1, p.2) (record {
      gateway = λ engine. (retired_refused engine g id _ c.in_err-place.ensures.value).gateway;
      answer = λ engine. (retired_refused engine g id _ c.in_err-place.ensures.value).answer;
    })

pub returns : goal.returns
returns c =
    let g = c.args.self.now in
    let id = c.args.id.0 in
    let whole : length g.keys.list ≡ 16 = search rules in
    let key = ok_by _ _ _ c.in_ok-place.ensures.value in
    let inside = rw key.1 at c.in_ok-place.ensures.bound in
    let told : c.retire.new.self ≡ retired_state (get_or g.keys.list (place_of_key id (keys_of g.keys)) unread) = rw key.1 at c.retire.ensures in
    let left = ap₂ (λ (place : ℕ) (k : KeyState). with_key_at place k g) key.1 told in
    record {
      gateway = λ engine. left ∙ (retired_done engine g id whole inside key.0).gateway;
      answer = λ engine. (retired_done engine g id whole inside key.0).answer;
    }
