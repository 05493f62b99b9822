-- A key by its id, and by its place, where the code has it: the refusals that it decides, and the keys with it changed.
-- Assumes nothing.
use mathlib.Core.Path.{◌≡◌, refl, ap}
use mathlib.Core.Bool.{not}
use mathlib.Core.List.{List, [], ◌∷◌}
use mathlib.Core.Option.{Option as Maybe}
use Rattle.std.specs.Prelude.{Option, Ok, Err, ok_or}
use Rattle.wire.specs.declared.refusal.Refusal.{Refusal}
use Rattle.wire.specs.declared.refusal.Reason.{Reason}
use Prim.Native.Nat.{ℕ, zero, suc, ◌≤◌, ◌<◌}
use borrow.Author.Tests.{leb-true, leb-false, ltb-true, ltb-false}
use lib.Dec.{eqb, leb, ltb}
use lib.ListN.{length, set}
use Rattle.wire.specs.Search.{first_place, is_none, is_some_and}
use Rattle.wire.specs.Refusals.{◌when◌otherwise◌, result_by}
use Rattle.wire.proofs.Booleans.{either}
use Rattle.wire.proofs.Matches.{that_inside, that_outside}
use Rattle.request.specs.declared.Request.{Request}
use Rattle.keys.specs.Keys.{Key, has_id, key_with, offers, retire_refusal, with_key}
use Rattle.keys.specs.Helpers.{no_key, key_at, refusal_by_key, key_refusal, found_key}
use Rattle.keys.specs.Stored.{place_of_key}

-- a refusal is the same whatever else would have been answered
pub err_of : {A B : Type 0} (n : ℕ) (a : A) (b : B) (r : Refusal) → Err r ≡ result_by n a → Err r ≡ result_by n b
err_of zero a b r e = cc
err_of (suc n) a b r e = cc

-- the keys with the one at a place changed
abbrev pub changed_at : (Key → Key) → ℕ → List Key → List Key
changed_at change place keys = set keys place (change (key_at keys place))

pub with-key : (change : Key → Key) (id : ℕ) (keys : List Key) → with_key change id keys ≡ changed_at change (place_of_key id keys) keys
unfolding with_key first_place
with-key change id [] = refl
with-key change id (key ∷ keys) =
    either (has_id id key) (λ e. rw e) (λ e. rw e (ap (λ (more : List Key). key ∷ more) (with-key change id keys)))

-- admit's 4, 5, 6, 7, 8 of a key, or of none
abbrev pub named_tests : ℕ → Maybe Key → ℕ → ℕ → ℕ → ℕ → ℕ
named_tests cap key kem kdf aead rest =
    4 when is_none key otherwise
    5 when not (is_some_and (λ k. eqb k.kem kem) key) otherwise
    6 when not (is_some_and (offers kdf aead) key) otherwise
    7 when is_some_and (λ k. k.retired) key otherwise
    8 when is_some_and (λ k. leb cap k.count) key otherwise
    rest

-- retire's 4, 7 of the key at a place
unfoldable pub retire_refusal_at : List Key → ℕ → ℕ
retire_refusal_at keys place =
    4 when leb (length keys) place otherwise
    7 when (key_at keys place).retired otherwise
    0

module _ (id : ℕ) (keys : List Key) where
  pub key_order : (cap : ℕ) (request : Request)
      → key_refusal cap keys (place_of_key id keys) request ≡ named_tests cap (key_with id keys) request.kem request.kdf request.aead 0
  unfolding key_refusal refusal_by_key
  key_order cap request =
      either (leb (length keys) (place_of_key id keys))
      (λ out. rw (out, that_outside no_key (has_id id) keys (leb-true _ _ out)))
      (λ inside. rw (inside, that_inside no_key (has_id id) keys (leb-false _ _ inside)))

  pub retire_order : retire_refusal_at keys (place_of_key id keys) ≡ retire_refusal (key_with id keys)
  unfolding retire_refusal_at retire_refusal
  retire_order =
      either (leb (length keys) (place_of_key id keys))
      (λ out. rw (out, that_outside no_key (has_id id) keys (leb-true _ _ out)))
      (λ inside. rw (inside, that_inside no_key (has_id id) keys (leb-false _ _ inside)))

  -- a place that the code found is that of the key
  pub key_found : (o : Option ℕ) (reason : Reason) (place : ℕ) → o ≡ found_key id keys → Ok place ≡ ok_or o reason
      → (place ≡ place_of_key id keys) × (place < length keys)
  key_found o reason place is e =
      either (ltb (place_of_key id keys) (length keys))
      (λ there. let same : place ≡ place_of_key id keys = cc (rw (is, there) at e) in (same, rw same (ltb-true _ _ there)))
      (λ none. cc (rw (is, none) at e))

  -- where it finds none, no key has the id
  pub key_missing : (o : Option ℕ) (reason told : Reason) → o ≡ found_key id keys → Err told ≡ ok_or o reason
      → (told ≡ reason) × (length keys ≤ place_of_key id keys)
  key_missing o reason told is e =
      either (ltb (place_of_key id keys) (length keys))
      (λ there. cc (rw (is, there) at e)) (λ none. (cc (rw (is, none) at e), ltb-false _ _ none))
