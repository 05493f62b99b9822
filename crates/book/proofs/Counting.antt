-- The counts and the tickets, call by call, of the book.
-- Assumes nothing.
use Prim.Native.Nat.{ℕ, zero, suc, ◌+◌, ◌<◌}
use mathlib.Core.Path.{◌≡◌, refl, ap, sym, ◌∙◌}
use mathlib.Core.List.{List, [], ◌∷◌, ◌++◌, append-nil, append_assoc}
use native.Mathlib.Nat.{add-zero, suc-add}
use native.Mathlib.Omega.{arith}
use borrow.Author.Tests.{eqb-true, eqb-false}
use lib.Dec.{eqb, eqb-suc-zero}
use lib.ListN.{length}
use Rattle.wire.specs.Tests.{pick, ◌and◌}
use Rattle.wire.specs.Refusals.{unless_refused}
use Rattle.wire.proofs.Booleans.{either, and_false}
use Rattle.wire.proofs.Matches.{first_passes}
use Rattle.request.specs.Request.{key_id_of}
use Rattle.keys.specs.Keys.{Key, has_id, with_use, with_retirement}
use Rattle.keys.specs.Helpers.{no_key, key_at}
use Rattle.keys.specs.Stored.{place_of_key}
use Rattle.keys.proofs.Named.{with-key}
use Rattle.gateway.specs.Registry.{admit_answer}
use Rattle.gateway.specs.Calls.{Call, admit, retire, on_ticket, reporting, Answer, of_admit, number}
use Rattle.book.specs.Book.{Book, book_stepped, book_does, book_admitted, book_retired, book_admit_number, book_retire_number, book_step_number}
use Rattle.book.proofs.Numbers.{set_is_full}
use Rattle.book.specs.History.{Event, event, trace, final, is_accepted, tickets_of}
use Rattle.wire.specs.Search.{filtered}
use mathlib.Core.Bool.{Bool, false}
use Rattle.book.specs.Counts.{names_key, admissions_of_key, tickets_given, counting_from}
use Rattle.book.proofs.Accepting.{unless_kept, Admitted, admit_accepted}
use Rattle.book.proofs.KeyCounts.{ids, key_itself, key_changed, number_kept, used_ids, retired_ids, same_id, same_length, place_of_id}
use Rattle.book.proofs.Sound.{Sound, sound_kept}

-- ids and places of the keys stay, after a call and along a history
ids_kept : (b : Book) (call : Call) → ids (book_does b call).state.registry.keys ≡ ids b.registry.keys
unfolding book_does
ids_kept b (admit request info) =
    unless_kept (λ (c : Book). ids c.registry.keys ≡ ids b.registry.keys) (book_admit_number request info b)
    (λ e. rw (with-key with_use (key_id_of request) b.registry.keys) (used_ids (place_of_key (key_id_of request) b.registry.keys) b.registry.keys)) refl
ids_kept b (retire id) =
    unless_kept (λ (c : Book). ids c.registry.keys ≡ ids b.registry.keys) (book_retire_number id b)
    (λ e. rw (with-key with_retirement id b.registry.keys) (retired_ids (place_of_key id b.registry.keys) b.registry.keys)) refl
ids_kept b (on_ticket ticket step) =
    unless_kept (λ (c : Book). ids c.registry.keys ≡ ids b.registry.keys) (book_step_number ticket step b) (λ e. refl) refl
ids_kept b reporting = refl

pub ids_after : (b : Book) (calls : List Call) → ids (final book_does b calls).registry.keys ≡ ids b.registry.keys
unfolding final
ids_after b [] = refl
ids_after b (call ∷ calls) = ids_after (book_does b call).state calls ∙ ids_kept b call

-- what a call with its answer adds to the count of the key that has the id
abbrev gain : Call → Answer → ℕ → ℕ
gain call answer id = pick (eqb (number answer) 0 and names_key id call) 1 0

-- admit adds one to the count of the key that it names, the other calls nothing
admit_gains : (request info : List ℕ) (b : Book) (n place : ℕ) → Sound b → (n ≡ 0 → Admitted b.registry (set_is_full b) request)
    → place < length b.registry.keys
    → (key_at (unless_refused n (book_admitted request b) b).registry.keys place).count
    ≡ (key_at b.registry.keys place).count
    + gain (admit request info) (of_admit (admit_answer n (b.registry.last_ticket + 1) request)) (key_at b.registry.keys place).id
unfolding number
admit_gains request info b zero place s accepted inside =
    let keys = b.registry.keys in
    let named = place_of_key (key_id_of request) keys in
    either (eqb (key_id_of request) (key_at keys place).id)
    (λ e.
    let here : named ≡ place =
    rw (← eqb-true (key_id_of request) (key_at keys place).id e) at (place_of_id keys place s.distinct inside) in
    rw (e, with-key with_use (key_id_of request) keys, here, key_itself with_use place keys))
    (λ e.
    let apart : place ≡ named → ⊥ =
    λ here. eqb-false (key_id_of request) (key_at keys place).id e
    (sym (rw here (eqb-true (key_at keys named).id (key_id_of request)
    (first_passes no_key (has_id (key_id_of request)) keys (accepted refl).inside)))) in
    rw (e, with-key with_use (key_id_of request) keys, key_changed with_use named place keys apart) (omega arith))
admit_gains request info b (suc n) place s accepted inside = rw (eqb-suc-zero n) (omega arith)

no_gain : (n : ℕ) (accepted : Bool) (b c : Book) (place : ℕ)
    → (key_at c.registry.keys place).count ≡ (key_at b.registry.keys place).count
    → (key_at (unless_refused n c b).registry.keys place).count ≡ (key_at b.registry.keys place).count + pick (accepted and false) 1 0
no_gain zero accepted b c place e = rw (and_false accepted false refl) (omega arith)
no_gain (suc n) accepted b c place e = rw (and_false accepted false refl) (omega arith)

gains : (b : Book) (call : Call) (place : ℕ) → Sound b → place < length b.registry.keys
    → (key_at (book_does b call).state.registry.keys place).count
    ≡ (key_at b.registry.keys place).count + gain call (book_does b call).answer (key_at b.registry.keys place).id
unfolding book_does number
gains b (admit request info) place s inside =
    admit_gains request info b (book_admit_number request info b) place s (admit_accepted b.registry (set_is_full b) request (length info)) inside
gains b (retire id) place s inside =
    no_gain (book_retire_number id b) (eqb (number (book_does b (retire id)).answer) 0) b (book_retired id b) place
    (rw (with-key with_retirement id b.registry.keys)
    (number_kept (λ (key : Key). key.count) with_retirement (place_of_key id b.registry.keys) place b.registry.keys refl))
gains b (on_ticket ticket step) place s inside = no_gain (book_step_number ticket step b) (eqb (number (book_does b (on_ticket ticket step)).answer) 0) b (book_stepped ticket step b) place refl
gains b reporting place s inside = omega arith

-- the counts along a history
admissions_more : (id : ℕ) (e : Event) (es : List Event) → admissions_of_key id (e ∷ es) ≡ gain e.call e.answer id + admissions_of_key id es
unfolding filtered
admissions_more id e es =
    either (is_accepted e and names_key id e.call) (λ t. rw t (omega arith)) (λ t. rw t (omega arith))

pub counted : (b : Book) (calls : List Call) (place : ℕ) → Sound b → place < length b.registry.keys
    → (key_at (final book_does b calls).registry.keys place).count
    ≡ (key_at b.registry.keys place).count + admissions_of_key (key_at b.registry.keys place).id (trace book_does b calls)
unfolding final trace filtered
counted b [] place s inside = omega arith
counted b (call ∷ calls) place s inside =
    let keys = b.registry.keys in
    let then = (book_does b call).state in
    let id = (key_at keys place).id in
    let more = counted then calls place (sound_kept b call s) (rw (same_length then.registry.keys keys (ids_kept b call)) inside) in
    omega (
      arith,
      gains b call place s inside,
      admissions_more id (event call (book_does b call)) (trace book_does then calls),
      rw (same_id then.registry.keys keys place (ids_kept b call)) at more,
    )

-- one ticket more
counting_more : (first n : ℕ) → counting_from first (n + 1) ≡ counting_from first n ++ (first + n) ∷ []
unfolding counting_from
counting_more first zero = rw add-zero
counting_more first (suc n) =
    let same : first + suc n ≡ first + 1 + n = omega arith in
    rw (suc-add, same) (ap (λ (ns : List ℕ). first ∷ ns) (counting_more (first + 1) n))

-- admit gives the next ticket, the other calls none
admit_gives : (request : List ℕ) (b : Book) (n : ℕ)
    → counting_from 1 b.registry.last_ticket ++ tickets_of (of_admit (admit_answer n (b.registry.last_ticket + 1) request))
    ≡ counting_from 1 (unless_refused n (book_admitted request b) b).registry.last_ticket
unfolding tickets_of
admit_gives request b zero =
    let next : b.registry.last_ticket + 1 ≡ 1 + b.registry.last_ticket = omega arith in
    rw counting_more (rw next)
admit_gives request b (suc n) = append-nil (counting_from 1 b.registry.last_ticket)

no_ticket : (n : ℕ) (b c : Book) → c.registry.last_ticket ≡ b.registry.last_ticket
    → counting_from 1 b.registry.last_ticket ++ [] ≡ counting_from 1 (unless_refused n c b).registry.last_ticket
no_ticket zero b c e = rw e (append-nil (counting_from 1 b.registry.last_ticket))
no_ticket (suc n) b c e = append-nil (counting_from 1 b.registry.last_ticket)

gives : (b : Book) (call : Call)
    → counting_from 1 b.registry.last_ticket ++ tickets_of (book_does b call).answer
    ≡ counting_from 1 (book_does b call).state.registry.last_ticket
unfolding book_does tickets_of
gives b (admit request info) = admit_gives request b (book_admit_number request info b)
gives b (retire id) = no_ticket (book_retire_number id b) b (book_retired id b) refl
gives b (on_ticket ticket step) = no_ticket (book_step_number ticket step b) b (book_stepped ticket step b) refl
gives b reporting = append-nil (counting_from 1 b.registry.last_ticket)

-- the tickets along a history
pub given_after : (b : Book) (calls : List Call)
    → counting_from 1 b.registry.last_ticket ++ tickets_given (trace book_does b calls)
    ≡ counting_from 1 (final book_does b calls).registry.last_ticket
unfolding final trace tickets_given
given_after b [] = append-nil (counting_from 1 b.registry.last_ticket)
given_after b (call ∷ calls) =
    rw (
      ← append_assoc (counting_from 1 b.registry.last_ticket) (tickets_of (book_does b call).answer)
          (tickets_given (trace book_does (book_does b call).state calls)),
      gives b call,
    ) (given_after (book_does b call).state calls)
