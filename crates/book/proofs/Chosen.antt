-- Laws of the events that pass a test, and of the calls on tickets among them.
-- Assumes nothing.
use Prim.Native.Nat.{ℕ, ◌≤◌}
use mathlib.Core.Path.{◌≡◌, refl, sym}
use mathlib.Core.Bool.{Bool, true, false, not}
use mathlib.Core.List.Permᴰ
use mathlib.Core.List.{List, [], ◌∷◌, ◌++◌, Permᴰ}
use native.Mathlib.Omega.{arith}
use borrow.Author.Tests.{eqb-true, ne_eqb, not-true, not-false}
use lib.Dec.{eqb}
use lib.ListN.{length}
use Rattle.wire.specs.Search.{among, filtered}
use Rattle.wire.proofs.Booleans.{either, true_or_false}
use Rattle.gateway.specs.Calls.{Call, admit, retire, on_ticket, reporting}
use Rattle.book.specs.History.{Event}
use Rattle.book.specs.Demand3.{keeps_order, is_on}
use Rattle.book.proofs.Pulling.{its_calls, other_calls}

-- they are not more than all
pub filtered_short : (p : Event → Bool) (es : List Event) → length (filtered p es) ≤ length es
unfolding filtered
filtered_short p [] = omega arith
filtered_short p (e ∷ es) =
    let rest : length (filtered p es) ≤ length es = filtered_short p es in
    either (p e) (λ h. rw h (omega arith)) (λ h. rw h (omega arith))

module _ (p q : Event → Bool) where
  -- a test of those that pass another, where it fails whenever that one does
  filtered_filtered : ((e : Event) → q e ≡ false → p e ≡ false) → (es : List Event) → filtered p (filtered q es) ≡ filtered p es
  unfolding filtered
  filtered_filtered both [] = refl
  filtered_filtered both (e ∷ es) =
      let rest = filtered_filtered both es in
      either
      (q e)
      (λ h. rw h (either (p e) (λ k. rw (k, rest)) (λ k. rw (k, rest))))
      (λ h. rw (h, both e h, rest))

  -- where it fails whenever the other does not
  filtered_none : ((e : Event) → q e ≡ true → p e ≡ false) → (es : List Event) → filtered p (filtered q es) ≡ []
  unfolding filtered
  filtered_none none [] = refl
  filtered_none none (e ∷ es) =
      either (q e) (λ h. rw (h, none e h) (filtered_none none es)) (λ h. rw h (filtered_none none es))

-- the list is those that pass a test and those that fail it
pub filtered_both : (p : Event → Bool) (es : List Event) → Permᴰ (filtered p es ++ filtered (λ e. not (p e)) es) es
unfolding filtered
filtered_both p [] = Permᴰ.nil
filtered_both p (e ∷ es) =
    let rest = filtered_both p es in
    either
    (p e)
    (λ h. rw h (Permᴰ.cons refl rest))
    (λ h. rw h (Permᴰ.trans (Permᴰ.middle e (filtered p es) (filtered (λ e. not (p e)) es)) (Permᴰ.cons refl rest)))

-- among one ticket is that ticket only
pub among_one : (t u : ℕ) → among (t ∷ []) u ≡ true → t ≡ u
among_one t u e = either (eqb t u) (λ h. eqb-true t u h) (λ h. absurd (true_or_false e (rw h)))

pub not_among_one : (t u : ℕ) → (t ≡ u → ⊥) → among (t ∷ []) u ≡ false
not_among_one t u apart = rw (ne_eqb t u apart)

-- no call is on no ticket
pub on_none : (es : List Event) → its_calls [] es ≡ []
unfolding filtered
on_none [] = refl
on_none (e ∷ es) = rw (off e.call) (on_none es)
  where
    off : (call : Call) → is_on [] call ≡ false
    off (admit request info) = refl
    off (retire id) = refl
    off (on_ticket t step) = refl
    off reporting = refl

-- admissions and key retirements
abbrev pub in_order : List Event → List Event
in_order events = filtered (λ e. keeps_order e.call) events

-- these are on no ticket
pub order_of_others : (tickets : List ℕ) (es : List Event)
    → in_order (other_calls tickets es) ≡ in_order es
order_of_others tickets es =
    filtered_filtered
    (λ e. keeps_order e.call)
    (λ e. not (is_on tickets e.call))
    (λ e h. moves e.call (not-false (is_on tickets e.call) h))
    es
  where
    moves : (call : Call) → is_on tickets call ≡ true → keeps_order call ≡ false
    moves (admit request info) on = sym on
    moves (retire id) on = sym on
    moves (on_ticket t step) on = refl
    moves reporting on = refl

-- without the calls on one ticket, those on another are the same
pub others_of_others : (t u : ℕ) → (t ≡ u → ⊥) → (es : List Event) → its_calls (u ∷ []) (other_calls (t ∷ []) es) ≡ its_calls (u ∷ []) es
others_of_others t u apart es =
    filtered_filtered
    (λ e. is_on (u ∷ []) e.call)
    (λ e. not (is_on (t ∷ []) e.call))
    (λ e h. off e.call (not-false (is_on (t ∷ []) e.call) h))
    es
  where
    off : (call : Call) → is_on (t ∷ []) call ≡ true → is_on (u ∷ []) call ≡ false
    off (admit request info) on = refl
    off (retire id) on = refl
    off (on_ticket v step) on = not_among_one u v (λ p. let q : t ≡ v = among_one t v on in apart (cc))
    off reporting on = refl

-- and there are none on that ticket
pub own_of_others : (tickets : List ℕ) (es : List Event) → its_calls tickets (other_calls tickets es) ≡ []
own_of_others tickets es =
    filtered_none (λ e. is_on tickets e.call) (λ e. not (is_on tickets e.call)) (λ e h. not-true (is_on tickets e.call) h) es
