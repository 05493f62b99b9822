-- Admission exactly: the chain of refusals gives none if and only if demand 2's conditions hold.
-- Assumes nothing.
use mathlib.Core.Path.{◌≡◌, refl, sym, ap, ◌∙◌}
use mathlib.Core.Bool.{Bool, true, false, not}
use mathlib.Core.List.{List, [], ◌∷◌, ◌++◌}
use Prim.Native.Nat.{ℕ, zero, suc, ◌<◌, suc-le-suc}
use native.Mathlib.Nat.{not-suc-le-zero, le_of_suc-le-suc}
use native.Mathlib.Omega.{arith}
use borrow.Author.Tests.{eqb-true, eq-eqb, leb-false, lt-leb, ltb-false, le-ltb, not-false}
use lib.Dec.{eqb, leb, ltb}
use lib.ListN.{length, get_or}
use Rattle.std.specs.List.{list_any}
use Rattle.wire.specs.Search.{first_place}
use Rattle.wire.specs.Refusals.{◌when◌otherwise◌}
use Rattle.wire.specs.Texts.{info_length}
use Rattle.wire.proofs.Booleans.{and_left, and_right}
use Rattle.wire.proofs.Matches.{any_at, any_first, any_inside, first_passes}
use Rattle.wire.proofs.Numbers.{not-refused, passed_on}
use Rattle.algorithms.specs.Sizes.{known_pair, known_kdf, known_aead}
use Rattle.keylist.specs.declared.Pair.{Pair}
use Rattle.exchange.specs.declared.Exchange.{Exchange}
use Rattle.request.specs.declared.Request.{Request}
use Rattle.request.specs.Request.{key_id_of, kdf_of, aead_of, fields_of}
use Rattle.request.specs.Helpers.{request_refusal}
use Rattle.request.proofs.Requests.{accepted_request, request_accepted}
use Rattle.exchange.specs.Exchange.{free, is_free}
use Rattle.keys.specs.Keys.{Key, has_id, offers}
use Rattle.keys.specs.Helpers.{no_key, key_at, refusal_by_key, key_refusal}
use Rattle.keylist.specs.Layout.{is_pair}
use Rattle.gateway.specs.declared.Gateway.{Gateway}
use Rattle.gateway.specs.declared.table.Engine.{Engine}
use Rattle.gateway.specs.Engines.{free_place}
use Rattle.gateway.specs.Gateway.{gateway_admit_number}
use Rattle.gateway.specs.View.{registry_of, is_full}
use Rattle.gateway.proofs.Deciding.{none_of_both, both_none, admit_order}
use Rattle.book.specs.OneCall.{IsElement, Admissible}
use Rattle.keys.specs.Stored.{no_pair, place_of_key}
use Rattle.book.proofs.Placing.{place_inside, place_free}

-- a negated test that fails, and one that holds
holds_not : (b : Bool) → b ≡ true → not b ≡ false
holds_not b e = rw e

-- a pair is its two numbers
same_pair : (p : Pair) (kdf aead : ℕ) → p.kdf ≡ kdf → p.aead ≡ aead → p ≡ record { kdf = kdf; aead = aead }
same_pair p kdf aead k a = rw (← k, ← a)

-- the element at a place, and the place of an element
pub element_at : {A : Type 0} (blank : A) (xs : List A) (place : ℕ) → place < length xs → IsElement (get_or xs place blank) xs
element_at blank [] place h = absurd (not-suc-le-zero h)
element_at blank (x ∷ xs) zero h = ([], xs, refl)
element_at {A} blank (x ∷ xs) (suc place) h =
    let r = element_at blank xs place (le_of_suc-le-suc h) in
    (x ∷ r.0, r.1, ap (λ (l : List A). x ∷ l) r.2)

place_between : {A : Type 0} (blank x : A) (before behind : List A)
    → (length before < length (before ++ x ∷ behind)) × (get_or (before ++ x ∷ behind) (length before) blank ≡ x)
place_between blank x [] behind = (omega arith, refl)
place_between blank x (y ∷ before) behind = let r = place_between blank x before behind in (suc-le-suc r.0, r.1)

pub place_of : {A : Type 0} (blank x : A) (xs : List A) → IsElement x xs → (place : ℕ) × (place < length xs) × (get_or xs place blank ≡ x)
place_of blank x xs h = (length h.0, rw h.2 (place_between blank x h.0 h.1).0, rw h.2 (place_between blank x h.0 h.1).1)

-- a pair that is listed stands in the list
pub listed_pair : (kdf aead : ℕ) (pairs : List Pair) → list_any (is_pair kdf aead) pairs ≡ true
    → IsElement (record { kdf = kdf; aead = aead }) pairs
listed_pair kdf aead pairs e =
    let p = get_or pairs (first_place (is_pair kdf aead) pairs) no_pair in
    let same = any_first no_pair (is_pair kdf aead) pairs e in
    let k : p.kdf ≡ kdf = eqb-true p.kdf kdf (and_left (eqb p.kdf kdf) (eqb p.aead aead) same) in
    let a : p.aead ≡ aead = eqb-true p.aead aead (and_right (eqb p.kdf kdf) (eqb p.aead aead) same) in
    rw (← same_pair p kdf aead k a) (element_at no_pair pairs (first_place (is_pair kdf aead) pairs) (any_inside no_pair (is_pair kdf aead) pairs e))

pub pair_listed : (kdf aead : ℕ) (pairs : List Pair) → IsElement (record { kdf = kdf; aead = aead }) pairs
    → list_any (is_pair kdf aead) pairs ≡ true
pair_listed kdf aead pairs h =
    let p = place_of no_pair (record { kdf = kdf; aead = aead }) pairs h in
    any_at no_pair (is_pair kdf aead) pairs p.0 p.1
    (rw p.2 (rw (eq-eqb kdf kdf refl, eq-eqb aead aead refl)))

-- what the key at a place must be
pub record Usable (cap : ℕ) (keys : List Key) (place : ℕ) (request : Request) : Type 0 where
  pub is_key : place < length keys
  pub kem : (key_at keys place).kem ≡ request.kem
  pub pair : offers request.kdf request.aead (key_at keys place) ≡ true
  pub live : (key_at keys place).retired ≡ false
  pub uses : (key_at keys place).count < cap

pub usable : (cap : ℕ) (keys : List Key) (place : ℕ) (request : Request) → key_refusal cap keys place request ≡ 0
    → Usable cap keys place request
unfolding key_refusal refusal_by_key
usable cap keys place request e =
    let key = key_at keys place in
    let offered = offers request.kdf request.aead key in
    let last = 8 when leb cap key.count otherwise 0 in
    let live = 7 when key.retired otherwise last in
    let pair = 6 when not offered otherwise live in
    let kem = 5 when not (eqb key.kem request.kem) otherwise pair in
    let a = not-refused 3 (leb (length keys) place) kem e in
    let b = not-refused 4 (not (eqb key.kem request.kem)) pair a.1 in
    let c = not-refused 5 (not offered) live b.1 in
    let d = not-refused 6 key.retired last c.1 in
    let f = not-refused 7 (leb cap key.count) 0 d.1 in
    record {
      is_key = leb-false (length keys) place a.0;
      kem = eqb-true key.kem request.kem (not-false (eqb key.kem request.kem) b.0);
      pair = not-false offered c.0;
      live = d.0;
      uses = leb-false cap key.count f.0;
    }

pub not_refused_by_key : (cap : ℕ) (keys : List Key) (place : ℕ) (request : Request) → Usable cap keys place request
    → key_refusal cap keys place request ≡ 0
unfolding key_refusal refusal_by_key
not_refused_by_key cap keys place request u =
    let key = key_at keys place in
    passed_on 4 (leb (length keys) place) _ (lt-leb (length keys) place u.is_key)
    (passed_on 5 (not (eqb key.kem request.kem)) _ (holds_not (eqb key.kem request.kem) (eq-eqb _ _ u.kem))
    (passed_on 6 (not (offers request.kdf request.aead key)) _ (holds_not _ u.pair)
    (passed_on 7 key.retired _ u.live
    (passed_on 8 (leb cap key.count) 0 (lt-leb cap key.count u.uses) refl))))

-- some place is free where the table is not full
not_full : (table : List Exchange) (place : Exchange) → IsElement place table → is_free place ≡ true → is_full table ≡ false
not_full table place h e =
    let p = place_of free place table h in
    rw (any_at free is_free table p.0 p.1 (rw p.2 e))

-- nothing refuses: the conditions hold, of the key that is found
pub admissible : (g : Gateway) (request info : List ℕ) → gateway_admit_number request info g ≡ 0 → Admissible g request info
admissible g request info e =
    let keys = (registry_of g).keys in
    let place = place_of_key (key_id_of request) keys in
    let key = key_at keys place in
    let full = is_full g.table in
    let last = 14 when ltb (length info) info_length otherwise 0 in
    let a = none_of_both (request_refusal request) _ (sym (admit_order (registry_of g) full request (length info)) ∙ e) in
    let b = none_of_both (key_refusal g.cap keys place (fields_of request)) (9 when full otherwise last) a.1 in
    let c = not-refused 8 full last b.1 in
    let d = not-refused 13 (ltb (length info) info_length) 0 c.1 in
    let r = accepted_request request a.0 in
    let u = usable g.cap keys place (fields_of request) b.0 in
    let pairs = list_any (is_pair (kdf_of request) (aead_of request)) key.pairs in
    let known = and_left (known_pair (kdf_of request) (aead_of request)) pairs u.pair in
    record {
      well_formed = record { kem = r.0; long_enough = r.1.0; not_too_long = r.1.1 };
      key = key;
      is_key = element_at no_key keys place u.is_key;
      named = eqb-true key.id (key_id_of request) (first_passes no_key (has_id (key_id_of request)) keys u.is_key);
      live = u.live;
      kem = u.kem;
      kdf_known = and_left (known_kdf (kdf_of request)) (known_aead (aead_of request)) known;
      aead_known = and_right (known_kdf (kdf_of request)) (known_aead (aead_of request)) known;
      pair_offered = listed_pair (kdf_of request) (aead_of request) key.pairs (and_right (known_pair (kdf_of request) (aead_of request)) pairs u.pair);
      uses = u.uses;
      free_place_there = (_, element_at free g.table (free_place Engine.Plain 0 g.table) (place_inside Engine.Plain 0 g.table c.0), place_free Engine.Plain 0 g.table c.0);
      room = ltb-false (length info) info_length d.0;
    }

-- the other way, where the key that is named is the first of its id
pub admitted_then : (g : Gateway) (request info : List ℕ) (h : Admissible g request info) (place : ℕ) → place < length (registry_of g).keys
    → key_at (registry_of g).keys place ≡ h.key → place_of_key (key_id_of request) (registry_of g).keys ≡ place
    → gateway_admit_number request info g ≡ 0
admitted_then g request info h place inside is first =
    let keys = (registry_of g).keys in
    let offered : offers (kdf_of request) (aead_of request) h.key ≡ true = rw (h.kdf_known, h.aead_known) (pair_listed (kdf_of request) (aead_of request) h.key.pairs h.pair_offered) in
    let u : Usable g.cap keys place (fields_of request) =
    record { is_key = inside; kem = rw is h.kem; pair = rw is offered; live = rw is h.live; uses = rw is h.uses } in
    admit_order (registry_of g) (is_full g.table) request (length info)
    ∙ both_none (request_refusal request) _
    (request_accepted request h.well_formed.kem h.well_formed.long_enough h.well_formed.not_too_long)
    (rw first (both_none (key_refusal g.cap keys place (fields_of request)) _
    (not_refused_by_key g.cap keys place (fields_of request) u)
    (passed_on 9 (is_full g.table) _ (not_full g.table h.free_place_there.0 h.free_place_there.1 h.free_place_there.2)
    (passed_on 14 (ltb (length info) info_length) 0 (le-ltb (length info) info_length h.room) refl))))
