-- The table is full exactly where 128 are pending, and in one that was full the next exchange stands where one was closed.
-- Assumes nothing.
use Prim.Native.Nat.{ℕ, ◌≤◌, ◌<◌}
use mathlib.Core.Bool.{true, false}
use mathlib.Core.Path.{◌≡◌, sym, ap, ◌∙◌, subst}
use mathlib.Core.List.{List, [], ◌∷◌, ◌++◌}
use native.Mathlib.Omega.{arith}
use borrow.Author.Tests.{eqb-true, eqb-false, le-leb, lt-leb}
use lib.Dec.{eqb, leb}
use lib.ListN.{length, get_or, set, length-set}
use lib.Seq.{get_or-set_other}
use Rattle.wire.proofs.Booleans.{either, true_or_false}
use Rattle.wire.proofs.Matches.{any_at}
use Rattle.exchange.specs.declared.Exchange.{Exchange}
use Rattle.exchange.specs.Exchange.{free, is_free}
use Rattle.exchange.specs.Steps.{Step, next}
use Rattle.gateway.specs.declared.table.Engine.{Engine}
use Rattle.gateway.specs.Engines.{pending_with}
use Rattle.gateway.specs.Gateway.{fresh_gateway, gateway_does}
use Rattle.gateway.specs.View.{pending_in, is_full}
use Rattle.gateway.specs.Calls.{Call, admit, on_ticket}
use Rattle.book.specs.History.{final, gateway_after, Accepts}
use Rattle.book.specs.Storage.{place_after, FullExactly, ClosedPlaceIsUsedAgain}
use Rattle.book.proofs.Table.{pending_length, full_alike}
use Rattle.book.proofs.Refinement.{final_append, alike_end}
use Rattle.book.proofs.Admission.{place_is_free}
use Rattle.book.proofs.Lifecycle.{step_told}

-- of two numbers, the first at most the second
reached : (n most : ℕ) → n ≤ most → leb most n ≡ eqb n most
reached n most h =
    either (eqb n most)
    (λ e. rw e (le-leb most n (omega (arith, eqb-true n most e))))
    (λ e. rw e (lt-leb most n (omega (arith, differ e))))
  where
    differ : eqb n most ≡ false → n ≡ most → ⊥
    differ e = eqb-false n most e

pub full_exactly : FullExactly
full_exactly list cap calls =
    let table = (gateway_after list cap calls).table in
    full_alike table ∙ reached (length (pending_in table)) (length table) (pending_length table)
    ∙ ap (eqb (length (pending_in table))) (alike_end list cap calls).places

-- the table after a call on a ticket that is accepted: another exchange at the ticket's place
stepped_table : (list : List ℕ) (cap : ℕ) (calls : List Call) (ticket : ℕ) (step : Step) → Accepts list cap calls (on_ticket ticket step)
    → (gateway_after list cap (calls ++ on_ticket ticket step ∷ [])).table
    ≡ set (gateway_after list cap calls).table (place_after list cap calls ticket) (next step (pending_with Engine.Fast ticket (gateway_after list cap calls).table))
unfolding final gateway_does
stepped_table list cap calls ticket step accepted =
    rw (
      final_append (gateway_does Engine.Fast) (fresh_gateway list cap) calls (on_ticket ticket step ∷ []),
      sym (step_told (gateway_after list cap calls) ticket step) ∙ accepted,
    )

-- in a table that was full, what is free after one place was changed is that place
only_free : (table : List Exchange) → is_full table ≡ true → (place other : ℕ) (new : Exchange) → other < length (set table place new)
    → is_free (get_or (set table place new) other free) ≡ true → other ≡ place
only_free table full place other new inside there =
    either (eqb other place) (eqb-true other place)
    (λ differ.
    let kept = get_or-set_other table place other new free (eqb-false other place differ) in
    let some = any_at free is_free table other (subst (λ (n : ℕ). other < n) (length-set table place new) inside) (sym (ap is_free kept) ∙ there) in
    absurd (true_or_false full (rw some)))

pub closed_place_is_used_again : ClosedPlaceIsUsedAgain
unfolding final
closed_place_is_used_again list cap calls ticket step request info full accepted admitted =
    let closed = calls ++ on_ticket ticket step ∷ [] in
    let g = gateway_after list cap closed in
    let new = place_is_free Engine.Fast g request info admitted in
    let table = (gateway_after list cap calls).table in
    let after = next step (pending_with Engine.Fast ticket table) in
    let told = stepped_table list cap calls ticket step accepted in
    let same = only_free table full (place_after list cap calls ticket) new.place after
    (subst (λ (es : List Exchange). new.place < length es) told new.inside)
    (subst (λ (es : List Exchange). is_free (get_or es new.place free) ≡ true) told new.was_free) in
    rw (final_append (gateway_does Engine.Fast) (fresh_gateway list cap) closed (admit request info ∷ []), ← same) new.holds_new
