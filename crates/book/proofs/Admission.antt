-- Demand 2's admission rule holds of every gateway that calls reached: there no key id stands twice.
-- Assumes nothing.
use mathlib.Core.Path.{◌≡◌, sym, ap, ◌∙◌}
use mathlib.Core.List.{List}
use Prim.Native.Nat.{ℕ, ◌<◌}
use lib.ListN.{length}
use lib.Seq.{get_or-set_same, get_or-set_other}
use Rattle.request.specs.Request.{key_id_of, fields_of}
use Rattle.exchange.specs.Exchange.{free, asked}
use Rattle.keys.specs.Keys.{Key}
use Rattle.keys.specs.Helpers.{no_key, key_at}
use Rattle.keys.specs.Stored.{place_of_key}
use Rattle.gateway.specs.declared.Gateway.{Gateway}
use Rattle.gateway.specs.declared.table.Engine.{Engine}
use Rattle.gateway.specs.Engines.{free_place}
use Rattle.gateway.specs.Gateway.{next_ticket, gateway_does, gateway_admit_number}
use Rattle.gateway.specs.View.{registry_of, is_full}
use Rattle.gateway.specs.Calls.{admit, number}
use Rattle.book.specs.Book.{Book}
use Rattle.book.specs.History.{gateway_after}
use Rattle.book.specs.OneCall.{Admissible, AdmissionExactly}
use Rattle.book.specs.Storage.{PlaceIsFree}
use Rattle.book.proofs.Accepting.{admit_accepted}
use Rattle.book.proofs.Placing.{place_inside, place_free}
use Rattle.book.proofs.Numbers.{admit-number}
use Rattle.book.proofs.Admitting.{place_of, admissible, admitted_then}
use Rattle.book.proofs.KeyCounts.{place_of_id}
use Rattle.book.proofs.Refining.{Alike, keys_alike}
use Rattle.book.proofs.Refinement.{alike_end}

-- the number of admit's answer
with_number : (engine : Engine) (g : Gateway) (request info : List ℕ)
    → number (gateway_does engine g (admit request info)).answer ≡ gateway_admit_number request info g
unfolding gateway_does
with_number engine g request info = admit-number (gateway_admit_number request info g) (next_ticket g) request

-- the key that is named is the first of its id
first_named : (g : Gateway) (b : Book) (request info : List ℕ) (h : Admissible g request info) → Alike g b → (place : ℕ)
    → place < length (registry_of g).keys → key_at (registry_of g).keys place ≡ h.key
    → place_of_key (key_id_of request) (registry_of g).keys ≡ place
first_named g b request info h r place inside is =
    ap (λ (id : ℕ). place_of_key id (registry_of g).keys) (sym h.named ∙ ap (λ (key : Key). key.id) (sym is))
    ∙ place_of_id (registry_of g).keys place (rw (keys_alike g b r) r.sound.distinct) inside

pub admission_exactly : AdmissionExactly
admission_exactly list cap calls request info =
    let r = alike_end list cap calls in (
      λ e. admissible _ request info (sym (with_number Engine.Fast _ request info) ∙ e),
      λ h.
          let p = place_of no_key h.key (registry_of (gateway_after list cap calls)).keys h.is_key in
          with_number Engine.Fast _ request info ∙ admitted_then _ request info h p.0 p.1 p.2 (first_named _ _ request info h r p.0 p.1 p.2),
    )

-- an accepted admit puts its exchange at a place that was free
pub place_is_free : PlaceIsFree
unfolding gateway_does
place_is_free engine g request info e =
    let none = sym (with_number engine g request info) ∙ e in
    let room = (admit_accepted (registry_of g) (is_full g.table) request (length info) none).room in
    let place = free_place engine (next_ticket g) g.table in
    let new = asked (next_ticket g) (fields_of request) in
    rw none (record {
      place = place;
      inside = place_inside engine (next_ticket g) g.table room;
      was_free = place_free engine (next_ticket g) g.table room;
      holds_new = get_or-set_same g.table place new free (place_inside engine (next_ticket g) g.table room);
      others = λ other h. get_or-set_other g.table place other new free h;
    })
