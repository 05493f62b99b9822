-- `keys::Keys::admits` meets its contract: 4 where the key is not there, else what the key decides.
-- Assumes nothing.
use Rattle.std.proofs.Common.{◌≡◌, refl, length, rules, arith}
use Rattle.std.specs.Prelude.{Ok, Err, ok_or}
use Rattle.std.proofs.lemmas.Result.{err_from_is_err_and}
use Rattle.wire.specs.declared.refusal.Reason.{Reason}
use Rattle.wire.proofs.Numbers.{ok_by}
use borrow.Author.Tests.{le-leb, lt-leb}
use Rattle.keys.specs.Keys.{keys_of}
use Rattle.keys.specs.Helpers.{key_refusal, found_key}
use Rattle.keys.proofs.Named.{err_of, key_found, key_missing}
use Rattle.keys.proofs.Stored.{key-at}
use Rattle.keys.proofs.Keys.admits.Goals as goal

pub returns-in_err-place-clause-value : goal.returns-in_err-place-clause-value
unfolding key_refusal
returns-in_err-place-clause-value c =
    let keys = c.args.self.now in
    let id = c.args.request.now.key_id.0 in
    let none : Err c.in_err-place.field-0.0 ≡ ok_or (found_key id (keys_of keys)) Reason.NoSuchKey = grind arith in
    let missing = key_missing id (keys_of keys) _ _ _ refl none in
    let p = err_from_is_err_and c.from_residual.result c.from_residual.ensures.1 in
    rw (p.1, p.2, missing.0, le-leb (length (keys_of keys)) _ missing.1) refl

pub returns-in_err-refusal-clause-value : goal.returns-in_err-refusal-clause-value
unfolding key_refusal
returns-in_err-refusal-clause-value c =
    let keys = c.args.self.now in
    let id = c.args.request.now.key_id.0 in
    let whole : length keys.list ≡ 16 = search rules in
    let some : Ok c.in_ok-place.place ≡ ok_or (found_key id (keys_of keys)) Reason.NoSuchKey = grind arith in
    let found = key_found id (keys_of keys) _ _ _ refl some in
    let p = err_from_is_err_and c.from_residual-in_err-refusal.result c.from_residual-in_err-refusal.ensures.1 in
    let there = rw found.0 at found.1 in
    let told = rw found.0 at c.in_err-refusal.ensures in
    rw (p.1, p.2, lt-leb (length (keys_of keys)) _ there, key-at keys whole _ there) (err_of _ _ _ _ told)

pub returns-clause-value : goal.returns-clause-value
unfolding key_refusal
returns-clause-value c =
    let keys = c.args.self.now in
    let id = c.args.request.now.key_id.0 in
    let whole : length keys.list ≡ 16 = search rules in
    let some : Ok c.in_ok-place.place ≡ ok_or (found_key id (keys_of keys)) Reason.NoSuchKey = grind arith in
    let found = key_found id (keys_of keys) _ _ _ refl some in
    let there = rw found.0 at found.1 in
    let none = rw found.0 at c.in_ok-refusal.ensures in
    rw (lt-leb (length (keys_of keys)) _ there, key-at keys whole _ there, (ok_by _ _ _ none).0, found.0) refl
