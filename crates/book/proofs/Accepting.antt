-- What the refusal number 0 says of a call.
-- Assumes nothing.
use Prim.Native.Nat.{ℕ, zero, suc, ◌<◌}
use mathlib.Core.Bool.{Bool, false}
use mathlib.Core.Path.{◌≡◌, refl, sym, ◌∙◌}
use mathlib.Core.List.{List}
use borrow.Author.Tests.{leb-false}
use lib.Dec.{leb}
use lib.ListN.{length}
use Rattle.wire.specs.Refusals.{unless_refused}
use Rattle.wire.proofs.Numbers.{not-refused}
use Rattle.request.specs.Request.{key_id_of, fields_of}
use Rattle.request.specs.Helpers.{request_refusal}
use Rattle.keys.specs.Keys.{Key, key_with, retire_refusal}
use Rattle.keys.proofs.Named.{retire_refusal_at, retire_order}
use Rattle.keys.specs.Helpers.{key_at, key_refusal}
use Rattle.keys.specs.Stored.{place_of_key}
use Rattle.gateway.specs.Registry.{Registry, admit_refusal}
use Rattle.gateway.proofs.Deciding.{none_of_both, admit_order}
use Rattle.book.proofs.Admitting.{usable}

-- a property of the state after a call, by its refusal number
pub unless_kept : {A : Type 0} (P : A → Type 0) (n : ℕ) {a b : A} → (n ≡ 0 → P a) → P b → P (unless_refused n a b)
unless_kept P zero accepted refused = accepted refl
unless_kept P (suc n) accepted refused = refused

pub retire_accepted : (id : ℕ) (keys : List Key) → retire_refusal (key_with id keys) ≡ 0 → place_of_key id keys < length keys
unfolding retire_refusal_at
retire_accepted id keys e =
    leb-false (length keys) (place_of_key id keys) (not-refused 3 (leb (length keys) (place_of_key id keys)) _ (retire_order id keys ∙ e)).0

pub record Admitted (registry : Registry) (full : Bool) (request : List ℕ) : Type 0 where
  pub inside : place_of_key (key_id_of request) registry.keys < length registry.keys
  pub below : (key_at registry.keys (place_of_key (key_id_of request) registry.keys)).count < registry.cap
  pub room : full ≡ false

pub admit_accepted : (registry : Registry) (full : Bool) (request : List ℕ) (room : ℕ) → admit_refusal registry full request room ≡ 0
    → Admitted registry full request
admit_accepted registry full request room e =
    let own = none_of_both (request_refusal request) _ (sym (admit_order registry full request room) ∙ e) in
    let place = place_of_key (key_id_of request) registry.keys in
    let named = none_of_both (key_refusal registry.cap registry.keys place (fields_of request)) _ own.1 in
    let key = usable registry.cap registry.keys place (fields_of request) named.0 in
    record { inside = key.is_key; below = key.uses; room = (not-refused 8 full _ named.1).0 }
