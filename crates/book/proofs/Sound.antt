-- What every call keeps of the book.
-- Assumes nothing.
use Rattle.std.specs.Prelude.{Ok}
use Prim.Native.Nat.{ℕ, ◌+◌, ◌≤◌, ◌<◌}
use mathlib.Core.Bool.{true}
use mathlib.Core.Path.{◌≡◌, refl, sym, ◌∙◌}
use mathlib.Core.List.{List, [], map}
use native.Mathlib.Omega.{arith}
use borrow.Author.Tests.{eqb-true, eqb-false, leb-true}
use lib.Dec.{eqb, leb}
use lib.ListN.{length, length-set, length-map}
use Rattle.wire.proofs.Booleans.{either, and_left, and_right}
use Rattle.keylist.specs.Layout.{Configuration, most_configurations, parse}
use Rattle.request.specs.Request.{key_id_of, fields_of}
use Rattle.exchange.specs.Exchange.{exchange_of, asked}
use Rattle.exchange.specs.Steps.{Step, next, leaves}
use Rattle.keys.specs.Keys.{Key, fresh_key, with_retirement, with_use}
use Rattle.keys.specs.Helpers.{key_at}
use Rattle.keys.specs.Stored.{place_of_key}
use Rattle.gateway.specs.Registry.{cap_holds, most_uses}
use Rattle.gateway.specs.Calls.{Call, admit, retire, on_ticket, reporting}
use Rattle.book.specs.Book.{Book, book_stepped, book_does, book_admitted, book_retired, book_admit_number, book_retire_number, book_step_number}
use Rattle.book.proofs.Numbers.{set_is_full}
use Rattle.book.specs.Counts.{sum_of_counts}
use Rattle.book.proofs.Passing.{passing, passing_append}
use Rattle.book.proofs.Table.{holding, holding_one, holding_other, holding_replaced, found_has}
use Rattle.book.proofs.Accepting.{unless_kept, retire_accepted, Admitted, admit_accepted}
use Rattle.exchange.proofs.Moves.{next-ticket}
use Rattle.exchange.proofs.Steps.{accepted_pending}
use Rattle.keys.proofs.Named.{with-key}
use Rattle.keys.proofs.Parsed.{Distinct}
use Rattle.keys.proofs.Views.{parsed_view, parsed_distinct}
use Rattle.book.proofs.KeyCounts.{ids, sum_bound, fresh_ids, fresh_count, fresh_sum, used_within, used_sum, used_ids, number_kept, retired_sum, retired_ids}

-- what holds of every book that calls reach
pub record Sound (b : Book) : Type 0 where
  pub cap_least : 1 ≤ b.registry.cap
  pub cap_bound : b.registry.cap ≤ most_uses
  pub keys_bound : length b.registry.keys ≤ most_configurations
  pub within_cap : (place : ℕ) → (key_at b.registry.keys place).count ≤ b.registry.cap
  pub distinct : Distinct (ids b.registry.keys)
  pub last_ticket : b.registry.last_ticket ≡ sum_of_counts b.registry.keys
  -- no ticket is pending twice, and none that is yet to be given
  pub once : (ticket : ℕ) → holding ticket b.pending ≤ 1
  pub given : (ticket : ℕ) → b.registry.last_ticket < ticket → holding ticket b.pending ≡ 0

-- 16 keys of at most 1,000,000,000 uses each
pub ticket_bound : (b : Book) → Sound b → b.registry.last_ticket ≤ 16000000000
ticket_bound b s = omega (arith, sum_bound b.registry.keys (λ place. omega (arith, s.within_cap place)))

-- after an accepted admit
pub admitted_sound : (request : List ℕ) (b : Book) → Sound b → Admitted b.registry (set_is_full b) request → Sound (book_admitted request b)
admitted_sound request b s a =
    let place = place_of_key (key_id_of request) b.registry.keys in
    let keys = with-key with_use (key_id_of request) b.registry.keys in
    let new = asked (b.registry.last_ticket + 1) (fields_of request) in
    record {
      cap_least = s.cap_least;
      cap_bound = s.cap_bound;
      keys_bound = rw (keys, length-set) s.keys_bound;
      within_cap = rw keys (used_within b.registry.cap place b.registry.keys s.within_cap a.inside a.below);
      distinct = rw (keys, used_ids) s.distinct;
      last_ticket = rw (keys, used_sum, a.inside) (omega arith);
      once = λ ticket.
          rw passing_append
          (either (eqb new.ticket.0 ticket)
          (λ e. omega (arith, s.given ticket (omega (arith, eqb-true new.ticket.0 ticket e)), holding_one ticket new))
          (λ e. omega (arith, s.once ticket, holding_other ticket new (eqb-false new.ticket.0 ticket e))));
      given = λ ticket later.
          rw passing_append
          (omega (arith, s.given ticket (omega arith), holding_other ticket new (omega arith)));
    }

-- after an accepted retire
pub retired_sound : (id : ℕ) (b : Book) → Sound b → place_of_key id b.registry.keys < length b.registry.keys → Sound (book_retired id b)
retired_sound id b s inside =
    let keys = b.registry.keys in
    let marked = with-key with_retirement id keys in
    record {
      cap_least = s.cap_least;
      cap_bound = s.cap_bound;
      keys_bound = rw (marked, length-set) s.keys_bound;
      within_cap = λ place.
          rw (marked, number_kept (λ (key : Key). key.count) with_retirement (place_of_key id keys) place keys refl) (s.within_cap place);
      distinct = rw (marked, retired_ids) s.distinct;
      last_ticket = rw (marked, retired_sum) s.last_ticket;
      once = s.once;
      given = s.given;
    }

-- after an accepted call on a ticket
pub moved_sound : (ticket : ℕ) (step : Step) (b : Book) → Sound b → book_step_number ticket step b ≡ 0 → Sound (book_stepped ticket step b)
moved_sound ticket step b s accepted =
    let e = exchange_of ticket b.pending in
    let fewer : (other : ℕ) → holding other (book_stepped ticket step b).pending ≤ holding other b.pending =
    λ other. holding_replaced other ticket (next step e) b.pending
    (λ h. next-ticket (leaves step.kind) e h ∙ found_has ticket b.pending (accepted_pending step e accepted)) in
    record {
      cap_least = s.cap_least;
      cap_bound = s.cap_bound;
      keys_bound = s.keys_bound;
      within_cap = s.within_cap;
      distinct = s.distinct;
      last_ticket = s.last_ticket;
      once = λ other. omega (arith, fewer other, s.once other);
      given = λ other later. omega (arith, fewer other, s.given other later);
    }

-- after every call
pub sound_kept : (b : Book) (call : Call) → Sound b → Sound (book_does b call).state
unfolding book_does
sound_kept b (admit request info) s =
    unless_kept Sound (book_admit_number request info b)
    (λ e. admitted_sound request b s (admit_accepted b.registry (set_is_full b) request (length info) e)) s
sound_kept b (retire id) s =
    unless_kept Sound (book_retire_number id b)
    (λ e. retired_sound id b s (retire_accepted id b.registry.keys e)) s
sound_kept b (on_ticket ticket step) s =
    unless_kept Sound (book_step_number ticket step b) (moved_sound ticket step b s) s
sound_kept b reporting s = s

-- after setup, refused and accepted
pub refused_sound : Sound (record { registry = record { cap = 1; last_ticket = 0; keys = [] }; pending = [] })
unfolding sum_of_counts passing
refused_sound =
    record {
      cap_least = omega arith;
      cap_bound = omega arith;
      keys_bound = omega arith;
      within_cap = λ place. omega arith;
      distinct = tt;
      last_ticket = refl;
      once = λ ticket. omega arith;
      given = λ ticket later. refl;
    }

pub ready_sound : (list : List ℕ) (cap : ℕ) (cs : List Configuration) → parse list ≡ Ok cs → cap_holds cap ≡ true
    → Sound (record { registry = record { cap = cap; last_ticket = 0; keys = map fresh_key cs }; pending = [] })
unfolding passing
ready_sound list cap cs e h =
    record {
      cap_least = leb-true 1 cap (and_left (leb 1 cap) (leb cap most_uses) h);
      cap_bound = leb-true cap most_uses (and_right (leb 1 cap) (leb cap most_uses) h);
      keys_bound = rw length-map (parsed_view list cs e).1;
      within_cap = λ place. rw fresh_count (omega arith);
      distinct = rw fresh_ids (parsed_distinct list cs e);
      last_ticket = sym (fresh_sum cs);
      once = λ ticket. omega arith;
      given = λ ticket later. refl;
    }
