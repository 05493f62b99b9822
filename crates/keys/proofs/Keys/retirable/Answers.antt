-- `keys::Keys::retirable` meets its contract: 4 where the key is not there, 7 where it is retired.
-- Assumes nothing.
use Rattle.std.proofs.Common.{◌≡◌, ◌≤◌, ◌<◌, ◌∙◌, refl, sym, ℕ, length, rules, arith}
use Rattle.std.specs.Prelude.{Ok, Err, ok_or}
use Rattle.std.proofs.lemmas.Result.{err_from_is_err_and}
use Rattle.wire.specs.Refusals.{◌when◌otherwise◌}
use Rattle.wire.specs.declared.refusal.Reason.{Reason}
use Rattle.wire.proofs.Numbers.{ok_by}
use borrow.Author.Tests.{le-leb, lt-leb}
use lib.ListN.{get_or}
use Rattle.keys.specs.declared.Keys.{Keys}
use Rattle.keys.specs.Keys.{key_of, keys_of, key_with, retire_refusal}
use Rattle.keys.specs.Helpers.{found_key}
use Rattle.keys.specs.Stored.{place_of_key}
use Rattle.keys.proofs.Named.{err_of, key_found, key_missing, retire_refusal_at, retire_order}
use Rattle.keys.proofs.Stored.{unread, key-at}
use Rattle.keys.proofs.Keys.retirable.Goals as goal

-- the number of a key that is not there, and of one that is
missing_number : (keys : Keys) (id : ℕ) → length (keys_of keys) ≤ place_of_key id (keys_of keys) → retire_refusal (key_with id (keys_of keys)) ≡ 4
unfolding retire_refusal_at
missing_number keys id out = sym (retire_order id (keys_of keys)) ∙ rw (le-leb (length (keys_of keys)) _ out) refl

there_number : (keys : Keys) (id : ℕ) → length keys.list ≡ 16 → place_of_key id (keys_of keys) < length (keys_of keys)
    → retire_refusal (key_with id (keys_of keys)) ≡ (7 when (key_of (get_or keys.list (place_of_key id (keys_of keys)) unread)).retired otherwise 0)
unfolding retire_refusal_at
there_number keys id whole there =
    sym (retire_order id (keys_of keys))
    ∙ rw (lt-leb (length (keys_of keys)) _ there, key-at keys whole _ there) refl

pub returns-in_err-place-clause-value : goal.returns-in_err-place-clause-value
returns-in_err-place-clause-value c =
    let keys = c.args.self.now in
    let id = c.args.id.0 in
    let none : Err c.in_err-place.field-0.0 ≡ ok_or (found_key id (keys_of keys)) Reason.NoSuchKey = grind arith in
    let missing = key_missing id (keys_of keys) _ _ _ refl none in
    let p = err_from_is_err_and c.from_residual.result c.from_residual.ensures.1 in
    rw (p.1, p.2, missing.0, missing_number keys id missing.1) refl

pub returns-in_err-retire_refusal-clause-value : goal.returns-in_err-retire_refusal-clause-value
returns-in_err-retire_refusal-clause-value c =
    let keys = c.args.self.now in
    let id = c.args.id.0 in
    let whole : length keys.list ≡ 16 = search rules in
    let some : Ok c.in_ok-place.place ≡ ok_or (found_key id (keys_of keys)) Reason.NoSuchKey = grind arith in
    let found = key_found id (keys_of keys) _ _ _ refl some in
    let p = err_from_is_err_and c.from_residual-in_err-retire_refusal.result c.from_residual-in_err-retire_refusal.ensures.1 in
    let there = rw found.0 at found.1 in
    let told = rw found.0 at c.in_err-retire_refusal.ensures in
    rw (p.1, p.2, there_number keys id whole there) (err_of _ _ _ _ told)

pub returns-clause-value : goal.returns-clause-value
returns-clause-value c =
    let keys = c.args.self.now in
    let id = c.args.id.0 in
    let whole : length keys.list ≡ 16 = search rules in
    let some : Ok c.in_ok-place.place ≡ ok_or (found_key id (keys_of keys)) Reason.NoSuchKey = grind arith in
    let found = key_found id (keys_of keys) _ _ _ refl some in
    let there = rw found.0 at found.1 in
    let none = rw found.0 at c.in_ok-retire_refusal.ensures in
    rw (there_number keys id whole there, (ok_by _ _ _ none).0, found.0) refl
