-- Gateway and book that are alike give the same answer and bytes to every call, and are alike after it.
-- Assumes nothing.
use Prim.Native.Nat.{ℕ, zero, suc, ◌+◌, ◌≤◌, ◌<◌}
use mathlib.Core.Path.{◌≡◌, refl, ap, sym, ◌∙◌}
use mathlib.Core.List.Permᴰ
use mathlib.Core.List.{List, [], ◌∷◌, Permᴰ}
use native.Mathlib.Omega.{arith}
use borrow.Author.Tests.{ne_eqb}
use lib.ListN.{length, get_or, length-set}
use Rattle.wire.specs.Refusals.{unless_refused}
use Rattle.wire.specs.Search.{first_place}
use Rattle.book.proofs.Placing.{place_inside, place_free}
use Rattle.request.specs.Request.{key_id_of, fields_of}
use Rattle.exchange.specs.Exchange.{free, has_ticket, exchange_of, asked}
use Rattle.exchange.specs.Steps.{Step, next}
use Rattle.keys.specs.Stored.{place_of_key}
use Rattle.keys.specs.Keys.{keys_of, with_use, with_retirement}
use Rattle.gateway.specs.declared.Gateway.{Gateway}
use Rattle.gateway.specs.declared.table.Engine.{Engine}
use Rattle.gateway.specs.Registry.{Registry, table_size}
use Rattle.gateway.specs.Engines.{free_place, place_of_ticket, pending_with}
use Rattle.gateway.specs.Gateway.{next_ticket, gateway_admitted, gateway_retired, gateway_stepped, gateway_does, gateway_admit_number, gateway_retire_number, gateway_step_number}
use Rattle.gateway.specs.View.{registry_of, pending_in, is_full}
use Rattle.gateway.specs.Calls.{Call, admit, retire, on_ticket, reporting}
use Rattle.book.specs.Book.{Book, book_stepped, book_does, book_admitted, book_retired, book_admit_number, book_retire_number, book_step_number}
use Rattle.book.proofs.Numbers.{set_is_full}
use Rattle.book.proofs.Passing.{passing_permuted, length_permuted}
use Rattle.book.proofs.Table.{holding, only_place, holding_pending, found_permuted, found_pending, full_alike, replaced_permuted, replaced_in_table, admitted_in_table}
use Rattle.book.proofs.Accepting.{retire_accepted, Admitted, admit_accepted}
use Rattle.gateway.proofs.Places.{only_found}
use Rattle.keys.proofs.Named.{with-key}
use Rattle.keys.proofs.Views.{used_view, retired_view}
use Rattle.book.proofs.Sound.{Sound, ticket_bound, admitted_sound, retired_sound, moved_sound}

-- they have the same head and, places aside, the same exchanges
pub record Alike (g : Gateway) (b : Book) : Type 0 where
  pub sound : Sound b
  pub registry : registry_of g ≡ b.registry
  pub places : length g.table ≡ table_size
  pub pending : Permᴰ (pending_in g.table) b.pending

-- the parts of the head
pub keys_alike : (g : Gateway) (b : Book) → Alike g b → keys_of g.keys ≡ b.registry.keys
keys_alike g b r = ap (λ (h : Registry). h.keys) r.registry

cap_alike : (g : Gateway) (b : Book) → Alike g b → g.cap ≡ b.registry.cap
cap_alike g b r = ap (λ (h : Registry). h.cap) r.registry

last_alike : (g : Gateway) (b : Book) → Alike g b → g.last_ticket.0 ≡ b.registry.last_ticket
last_alike g b r = ap (λ (h : Registry). h.last_ticket) r.registry

-- what the calls ask of them
full_told : (g : Gateway) (b : Book) → Alike g b → is_full g.table ≡ set_is_full b
full_told g b r = rw (full_alike g.table, r.places, length_permuted r.pending)

-- one exchange at most has a ticket, so that every engine finds it at the same place
once_there : (ticket : ℕ) (g : Gateway) (b : Book) → Alike g b → holding ticket g.table ≤ 1
once_there ticket g b r = rw (← holding_pending ticket g.table, passing_permuted (has_ticket ticket) r.pending) (r.sound.once ticket)

place_told : (engine : Engine) (ticket : ℕ) (g : Gateway) (b : Book) → Alike g b
    → place_of_ticket engine ticket g.table ≡ first_place (has_ticket ticket) g.table
place_told engine ticket g b r =
    only_found engine ticket (has_ticket ticket) g.table (λ place inside here. only_place free (has_ticket ticket) g.table place inside (once_there ticket g b r) here)

module _ (engine : Engine) where
  pub found_told : (ticket : ℕ) (g : Gateway) (b : Book) → Alike g b → pending_with engine ticket g.table ≡ exchange_of ticket b.pending
  found_told ticket g b r =
      ap (λ (place : ℕ). get_or g.table place free) (place_told engine ticket g b r)
      ∙ sym (found_pending ticket g.table)
      ∙ found_permuted ticket r.pending (rw (passing_permuted (has_ticket ticket) r.pending) (r.sound.once ticket))

  next_told : (g : Gateway) (b : Book) → Alike g b → next_ticket g ≡ b.registry.last_ticket + 1
  next_told g b r = omega (arith, ticket_bound b r.sound, last_alike g b r)

  admit_told : (request info : List ℕ) (g : Gateway) (b : Book) → Alike g b
      → gateway_admit_number request info g ≡ book_admit_number request info b
  admit_told request info g b r = rw (r.registry, full_told g b r)

  retire_told : (id : ℕ) (g : Gateway) (b : Book) → Alike g b → gateway_retire_number id g ≡ book_retire_number id b
  retire_told id g b r = rw (keys_alike g b r)

  step_told : (ticket : ℕ) (step : Step) (g : Gateway) (b : Book) → Alike g b → gateway_step_number engine ticket step g ≡ book_step_number ticket step b
  step_told ticket step g b r = rw (found_told ticket g b r)

  -- the answers
  pub same_answer : (g : Gateway) (b : Book) (call : Call) → Alike g b → (gateway_does engine g call).answer ≡ (book_does b call).answer
  unfolding gateway_does book_does
  same_answer g b (admit request info) r = rw (r.registry, full_told g b r, next_told g b r)
  same_answer g b (retire id) r = rw (keys_alike g b r)
  same_answer g b (on_ticket ticket step) r = rw (found_told ticket g b r)
  same_answer g b reporting r = rw (keys_alike g b r, last_alike g b r, length_permuted r.pending)

  -- the buffers
  pub same_buffer : (g : Gateway) (b : Book) (call : Call) → Alike g b → (gateway_does engine g call).buffer ≡ (book_does b call).buffer
  unfolding gateway_does book_does
  same_buffer g b (admit request info) r = rw (r.registry, full_told g b r)
  same_buffer g b (retire id) r = refl
  same_buffer g b (on_ticket ticket step) r = rw (found_told ticket g b r)
  same_buffer g b reporting r = refl

  -- an accepted admit keeps them alike
  admitted_alike : (request : List ℕ) (g : Gateway) (b : Book) → Alike g b → Admitted b.registry (set_is_full b) request
      → Alike (gateway_admitted engine request g) (book_admitted request b)
  admitted_alike request g b r a =
      let new = asked (b.registry.last_ticket + 1) (fields_of request) in
      let room = full_told g b r ∙ a.room in
      record {
        sound = admitted_sound request b r.sound a;
        registry =
            rw (
              used_view g.keys (place_of_key (key_id_of request) (keys_of g.keys))
                  (rw (keys_alike g b r) a.inside) (rw (keys_alike g b r) (omega (arith, a.below, r.sound.cap_bound))),
              keys_alike g b r,
              ← with-key with_use (key_id_of request) b.registry.keys,
              next_told g b r,
              cap_alike g b r,
            );
        places = rw length-set r.places;
        pending =
            rw (next_told g b r)
            (Permᴰ.trans
            (admitted_in_table new g.table (free_place engine (b.registry.last_ticket + 1) g.table) (ne_eqb (b.registry.last_ticket + 1) 0 (omega arith))
            (place_inside engine (b.registry.last_ticket + 1) g.table room) (place_free engine (b.registry.last_ticket + 1) g.table room))
            (Permᴰ.append_right (new ∷ []) r.pending));
      }

  -- an accepted retire does
  retired_alike : (id : ℕ) (g : Gateway) (b : Book) → Alike g b → place_of_key id b.registry.keys < length b.registry.keys
      → Alike (gateway_retired id g) (book_retired id b)
  retired_alike id g b r inside =
      record {
        sound = retired_sound id b r.sound inside;
        registry =
            rw (
              retired_view g.keys (place_of_key id (keys_of g.keys)) (rw (keys_alike g b r) inside),
              keys_alike g b r,
              ← with-key with_retirement id b.registry.keys,
              last_alike g b r,
              cap_alike g b r,
            );
        places = r.places;
        pending = r.pending;
      }

  -- an accepted call on a ticket does
  moved_alike : (ticket : ℕ) (step : Step) (g : Gateway) (b : Book) → Alike g b → book_step_number ticket step b ≡ 0
      → Alike (gateway_stepped engine ticket step g) (book_stepped ticket step b)
  moved_alike ticket step g b r accepted =
      let new = next step (exchange_of ticket b.pending) in
      record {
        sound = moved_sound ticket step b r.sound accepted;
        registry = r.registry;
        places = rw length-set r.places;
        pending =
            rw (
              found_told ticket g b r,
              place_told engine ticket g b r,
              replaced_in_table ticket new g.table (once_there ticket g b r),
            )
            (replaced_permuted ticket new r.pending);
      }

  -- a call does that does so where it is accepted
  unless_alike : (n : ℕ) {g h : Gateway} {b c : Book} → (n ≡ 0 → Alike h c) → Alike g b
      → Alike (unless_refused n h g) (unless_refused n c b)
  unless_alike zero accepted refused = accepted refl
  unless_alike (suc n) accepted refused = refused

  -- every call does
  pub alike_kept : (g : Gateway) (b : Book) (call : Call) → Alike g b → Alike (gateway_does engine g call).state (book_does b call).state
  unfolding gateway_does book_does
  alike_kept g b (admit request info) r =
      rw (admit_told request info g b r)
      (unless_alike (book_admit_number request info b)
      (λ e. admitted_alike request g b r (admit_accepted b.registry (set_is_full b) request (length info) e)) r)
  alike_kept g b (retire id) r =
      rw (retire_told id g b r)
      (unless_alike (book_retire_number id b)
      (λ e. retired_alike id g b r (retire_accepted id b.registry.keys e)) r)
  alike_kept g b (on_ticket ticket step) r =
      rw (step_told ticket step g b r) (unless_alike (book_step_number ticket step b) (moved_alike ticket step g b r) r)
  alike_kept g b reporting r = r
