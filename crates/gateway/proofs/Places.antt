-- What an engine finds, and how many are pending.
-- Assumes nothing.
use mathlib.Core.Path.{◌≡◌, refl, sym, ap, ◌∙◌}
use mathlib.Core.Bool.{Bool, true, false, not, cond}
use mathlib.Core.List.{List, [], ◌∷◌}
use Prim.Native.Nat.{ℕ, ◌≤◌, ◌<◌}
use native.Mathlib.Omega.{arith}
use borrow.Author.Tests.{eq-eqb, ne_eqb, eqb-true, eqb-false, lt-ltb, lt-leb, le-leb, leb-true, ltb-true, ltb-false, not-true}
use lib.Dec.{eqb, leb, ltb}
use lib.ListN.{length, get_or, get_or-eq_default}
use Rattle.std.specs.Prelude.{Some, None, unwrap_or}
use Rattle.std.specs.List.{count_by, position_or_len, list_any}
use Rattle.std.proofs.lemmas.List.Recursion.{is_count_by, is_position_or_len}
use Rattle.wire.specs.Tests.{◌and◌}
use Rattle.wire.specs.Search.{first_place, filtered}
use Rattle.wire.proofs.Booleans.{either, and_left, and_right, and_false}
use Rattle.wire.proofs.Matches.{first_passes, any_at, any_none, any_by_place}
use Rattle.exchange.specs.declared.Exchange.{Exchange}
use Rattle.exchange.specs.Exchange.{free, is_free, has_ticket}
use Rattle.exchange.specs.Moved.{of_ticket}
use Rattle.gateway.specs.declared.table.Engine.{Engine}
use Rattle.gateway.specs.Engines.{home, place_by, place_of_ticket, pending_with, has_number}
use Rattle.gateway.specs.View.{pending_in}
use Rattle.gateway.specs.Registry.{table_size}

-- the fast engine: home, or not
module _ (ticket : ℕ) (passes : Exchange → Bool) (table : List Exchange) where
  abbrev at_home : Bool
  at_home = ltb (home ticket) (length table) and passes (get_or table (home ticket) free)

  home_inside : at_home ≡ true → home ticket < length table
  home_inside here = ltb-true _ _ (and_left (ltb (home ticket) (length table)) (passes (get_or table (home ticket) free)) here)

  home_passes : at_home ≡ true → passes (get_or table (home ticket) free) ≡ true
  home_passes here = and_right (ltb (home ticket) (length table)) (passes (get_or table (home ticket) free)) here

  found_at_home : home ticket < length table → passes (get_or table (home ticket) free) ≡ true → home ticket ≡ place_by Engine.Fast ticket passes table
  unfolding place_by
  found_at_home there here = rw (lt-ltb (home ticket) (length table) there, here) refl

  not_at_home : passes (get_or table (home ticket) free) ≡ false → first_place passes table ≡ place_by Engine.Fast ticket passes table
  unfolding place_by
  not_at_home none = rw (and_false (ltb (home ticket) (length table)) (passes (get_or table (home ticket) free)) none) refl

-- what the fast engine finds where the home has the number, and where it walks
pub home_taken : (near number : ℕ) (table : List Exchange) → length table ≡ table_size
    → has_number number (get_or table (home near) free) ≡ true → home near ≡ place_by Engine.Fast near (has_number number) table
home_taken near number table size here = found_at_home near (has_number number) table (omega (arith, size)) here

pub home_passed : (near number : ℕ) (table : List Exchange)
    → has_number number (get_or table (home near) free) ≡ false → first_place (has_number number) table ≡ place_by Engine.Fast near (has_number number) table
home_passed near number table other = not_at_home near (has_number number) table other

-- whether some exchange passes is whether a place is found
pub found_any : (engine : Engine) (ticket : ℕ) (passes : Exchange → Bool) (table : List Exchange)
    → not (list_any passes table) ≡ leb (length table) (place_by engine ticket passes table)
unfolding place_by
found_any Engine.Plain ticket passes table = any_by_place free passes table
found_any Engine.Fast ticket passes table =
    either (at_home ticket passes table)
    (λ here.
    let there = home_inside ticket passes table here in
    rw (here, any_at free passes table (home ticket) there (home_passes ticket passes table here), lt-leb (length table) (home ticket) there) refl)
    (λ none. rw none (any_by_place free passes table))

-- what is found passes
pub found_passes : (engine : Engine) (ticket : ℕ) (passes : Exchange → Bool) (table : List Exchange)
    → place_by engine ticket passes table < length table → passes (get_or table (place_by engine ticket passes table) free) ≡ true
unfolding place_by
found_passes Engine.Plain ticket passes table h = first_passes free passes table h
found_passes Engine.Fast ticket passes table h =
    either (at_home ticket passes table) (λ here. rw here (home_passes ticket passes table here))
    (λ none. rw none (first_passes free passes table (rw none at h)))

-- a place that was found tells that some exchange passes, and none that no exchange does
pub found_some : (engine : Engine) (ticket : ℕ) (passes : Exchange → Bool) (table : List Exchange)
    → place_by engine ticket passes table < length table → list_any passes table ≡ true
found_some engine ticket passes table there =
    any_at free passes table (place_by engine ticket passes table) there (found_passes engine ticket passes table there)

pub found_nobody : (engine : Engine) (ticket : ℕ) (passes : Exchange → Bool) (table : List Exchange)
    → length table ≤ place_by engine ticket passes table → list_any passes table ≡ false
found_nobody engine ticket passes table out =
    not-true (list_any passes table) (found_any engine ticket passes table ∙ le-leb (length table) (place_by engine ticket passes table) out)

-- a ticket that is not 0 is told by its number; the ticket 0 is nobody's
own_ticket : (ticket : ℕ) → (ticket ≡ 0 → ⊥) → (e : Exchange) → has_number ticket e ≡ has_ticket ticket e
own_ticket ticket n e =
    either (eqb e.ticket.0 ticket)
    (λ same.
    let pending : is_free e ≡ false = ne_eqb e.ticket.0 0 (λ z. n (sym (eqb-true e.ticket.0 ticket same) ∙ z)) in rw (pending, same) refl)
    (λ other. other ∙ sym (and_false (not (is_free e)) (eqb e.ticket.0 ticket) other))

no_ticket : (e : Exchange) → has_ticket 0 e ≡ false
no_ticket e = either (is_free e) (λ f. rw f refl) (λ f. rw f refl)

-- where nobody has the ticket, a free place stands for its exchange
nobody_has : (engine : Engine) (ticket : ℕ) (table : List Exchange) → list_any (has_ticket ticket) table ≡ false
    → is_free (pending_with engine ticket table) ≡ true
nobody_has engine ticket table nobody =
    let place = place_of_ticket engine ticket table in
    let outside : leb (length table) place ≡ true = sym (found_any engine ticket (has_ticket ticket) table) ∙ rw nobody refl in
    ap is_free (get_or-eq_default table free (leb-true (length table) place outside))

-- where the code finds none, nobody has the ticket
pub none_pending : (engine : Engine) (ticket : ℕ) (table : List Exchange) → length table ≤ place_by engine ticket (has_number ticket) table
    → is_free (pending_with engine ticket table) ≡ true
none_pending engine ticket table out =
    either (eqb ticket 0)
    (λ zero. nobody_has engine ticket table (any_none free (has_ticket ticket) table (λ j h. rw (eqb-true ticket 0 zero) (no_ticket (get_or table j free)))))
    (λ given.
    let same : has_number ticket ≡ has_ticket ticket = λ i e. own_ticket ticket (eqb-false ticket 0 given) e i in
    nobody_has engine ticket table
    (ap (λ (passes : Exchange → Bool). list_any passes table) (sym same) ∙ found_nobody engine ticket (has_number ticket) table out))

-- the exchange that a call on a ticket finds is the one that has it; or none has it
pub found_own : {G : Type 0} (engine : Engine) (ticket : ℕ) (table : List Exchange)
    → (let place = place_by engine ticket (has_number ticket) table in
    let e = get_or table place free in
    place < length table
    → ((place ≡ place_of_ticket engine ticket table) × (of_ticket ticket e ≡ e) → G)
    → ((is_free (of_ticket ticket e) ≡ true) × (is_free (pending_with engine ticket table) ≡ true) → G) → G)
found_own engine ticket table there own none =
    let e = get_or table (place_by engine ticket (has_number ticket) table) free in
    let here : has_number ticket e ≡ true = found_passes engine ticket (has_number ticket) table there in
    either (eqb ticket 0)
    (λ zero.
    let z : ticket ≡ 0 = eqb-true ticket 0 zero in
    none (
      rw here (eq-eqb e.ticket.0 0 (eqb-true e.ticket.0 ticket here ∙ z)),
      nobody_has engine ticket table (any_none free (has_ticket ticket) table (λ j h. rw z (no_ticket (get_or table j free)))),
    ))
    (λ given.
    let same : has_number ticket ≡ has_ticket ticket = λ i e. own_ticket ticket (eqb-false ticket 0 given) e i in
    own (ap (λ (passes : Exchange → Bool). place_by engine ticket passes table) same, rw here refl))

-- the first place is in the list, or its end
first_within : (test : Exchange → Bool) (es : List Exchange) → first_place test es ≤ length es
unfolding first_place
first_within test [] = omega arith
first_within test (e ∷ es) = either (test e) (λ t. rw t (omega arith)) (λ t. rw t (omega (arith, first_within test es)))

-- the first place as the library answers it, or the end
pub first_or_end : (test : Exchange → Bool) (es : List Exchange) → length es ≡ 128
    → unwrap_or (cond (ltb (position_or_len test es) (length es)) (Some (position_or_len test es)) None) 128 ≡ first_place test es
unfolding first_place
first_or_end test es size =
    let first = is_position_or_len (first_place test) test refl (λ x xs. either (test x) (λ e. rw e refl) (λ e. rw e (omega arith))) es in
    either (ltb (position_or_len test es) (length es))
    (λ there. rw (there, first) refl)
    (λ none. rw none (omega (arith, ltb-false (position_or_len test es) (length es) none, first_within test es, first)))

-- how many are pending, as the library counts them
pub pending_counted : (es : List Exchange) → length (pending_in es) ≡ count_by (λ e. not (is_free e)) es
unfolding filtered
pending_counted es =
    is_count_by (λ xs. length (pending_in xs)) (λ e. not (is_free e)) refl
    (λ x xs. either (is_free x) (λ f. rw f refl) (λ f. rw f (omega arith))) es

-- where at most one exchange passes, every engine finds it at the same place
pub only_found : (engine : Engine) (ticket : ℕ) (passes : Exchange → Bool) (table : List Exchange)
    → ((place : ℕ) → place < length table → passes (get_or table place free) ≡ true → first_place passes table ≡ place)
    → place_by engine ticket passes table ≡ first_place passes table
unfolding place_by
only_found Engine.Plain ticket passes table only = refl
only_found Engine.Fast ticket passes table only =
    either (at_home ticket passes table)
    (λ here. rw here (sym (only (home ticket) (home_inside ticket passes table here) (home_passes ticket passes table here)))) (λ none. rw none)
