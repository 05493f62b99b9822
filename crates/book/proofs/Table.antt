-- The table of the gateway and the set of the book: the exchange that has a ticket, a call on it, and an admission.
-- Assumes nothing.
use Prim.Native.Nat.{ℕ, zero, suc, ◌≤◌, ◌<◌}
use mathlib.Core.Bool.{Bool, true, false, not}
use mathlib.Core.Path.{◌≡◌, refl, ap, sym, ◌∙◌}
use mathlib.Core.List.Permᴰ
use mathlib.Core.List.{List, [], ◌∷◌, ◌++◌, Permᴰ}
use native.Mathlib.Nat.{le_refl, not-suc-le-zero, le_of_suc-le-suc}
use native.Mathlib.Omega.{arith}
use borrow.Author.Tests.{lt-leb, eqb-true, ne_eqb}
use lib.Dec.{eqb, leb, leb-suc-suc}
use lib.ListN.{length, get_or, set}
use Rattle.wire.specs.Tests.{pick}
use Rattle.wire.specs.Search.{first_place, filtered}
use Rattle.wire.proofs.Booleans.{either, true_or_false, and_right, and_false}
use Rattle.exchange.specs.declared.Exchange.{Exchange}
use Rattle.exchange.specs.Exchange.{free, is_free, has_ticket, exchange_of}
use Rattle.gateway.specs.View.{pending_in, is_full}
use Rattle.book.specs.Book.{remaining, replaced}
use Rattle.book.proofs.Passing.{passing, passing_append, passing_permuted, fronts_swapped, first_to_the_end}

-- how many exchanges have the ticket
abbrev pub holding : ℕ → List Exchange → ℕ
holding ticket es = passing (has_ticket ticket) es

-- where at most one element passes, whatever passes is the first that does
some_passes : {A : Type 0} (default : A) (test : A → Bool) (xs : List A) (k : ℕ) → k < length xs → test (get_or xs k default) ≡ true → 1 ≤ passing test xs
unfolding passing
some_passes default test [] k h here = absurd (not-suc-le-zero h)
some_passes default test (x ∷ xs) zero h here = rw here (omega arith)
some_passes default test (x ∷ xs) (suc k) h here =
    let rest = some_passes default test xs k (le_of_suc-le-suc h) here in either (test x) (λ t. rw t (omega arith)) (λ t. rw t rest)

pub only_place : {A : Type 0} (default : A) (test : A → Bool) (xs : List A) (k : ℕ) → k < length xs → passing test xs ≤ 1
    → test (get_or xs k default) ≡ true → first_place test xs ≡ k
unfolding first_place passing
only_place default test [] k h once here = absurd (not-suc-le-zero h)
only_place default test (x ∷ xs) zero h once here = rw here
only_place default test (x ∷ xs) (suc k) h once here =
    either (test x)
    (λ t. absurd (let z = rw t at once in let s = some_passes default test xs k (le_of_suc-le-suc h) here in omega arith))
    (λ t. rw t (ap suc (only_place default test xs k (le_of_suc-le-suc h) (rw t at once) here)))

-- one exchange has at most its own ticket
pub holding_one : (ticket : ℕ) (e : Exchange) → holding ticket (e ∷ []) ≤ 1
unfolding passing
holding_one ticket e = either (has_ticket ticket e) (λ h. rw h (omega arith)) (λ h. rw h (omega arith))

-- and no other
pub holding_other : (ticket : ℕ) (e : Exchange) → (e.ticket.0 ≡ ticket → ⊥) → holding ticket (e ∷ []) ≡ 0
unfolding passing
holding_other ticket e apart =
    rw (and_false (not (is_free e)) (eqb e.ticket.0 ticket) (ne_eqb e.ticket.0 ticket apart))

-- an exchange that has the ticket
ticket_of : (ticket : ℕ) (e : Exchange) → has_ticket ticket e ≡ true → e.ticket.0 ≡ ticket
ticket_of ticket e h = eqb-true e.ticket.0 ticket (and_right (not (is_free e)) (eqb e.ticket.0 ticket) h)

-- what is found and not free has the ticket
pub found_has : (ticket : ℕ) (es : List Exchange) → is_free (exchange_of ticket es) ≡ false → (exchange_of ticket es).ticket.0 ≡ ticket
unfolding first_place
found_has ticket [] h = absurd (true_or_false refl h)
found_has ticket (e ∷ es) h =
    either (has_ticket ticket e)
    (λ t. rw t (ticket_of ticket e t))
    (λ t. rw t (found_has ticket es (rw t at h)))

-- in any order, where no two have the ticket
pub found_permuted : (ticket : ℕ) {xs ys : List Exchange} → Permᴰ xs ys → holding ticket xs ≤ 1
    → exchange_of ticket xs ≡ exchange_of ticket ys
unfolding first_place passing
found_permuted ticket Permᴰ.nil h = refl
found_permuted ticket (Permᴰ.cons {a = a} e d) h =
    rw (← e) (either (has_ticket ticket a) (λ t. rw t) (λ t. rw t (found_permuted ticket d (rw t at h))))
found_permuted ticket (Permᴰ.swap {a = a} {b = b} e f) h =
    rw (← e, ← f)
    (either (has_ticket ticket a)
    (λ t. either (has_ticket ticket b) (λ u. absurd (let z = rw (t, u) at h in omega arith)) (λ u. rw (t, u)))
    (λ t. either (has_ticket ticket b) (λ u. rw (t, u)) (λ u. rw (t, u))))
found_permuted ticket (Permᴰ.trans d f) h =
    found_permuted ticket d h ∙ found_permuted ticket f (rw (passing_permuted (has_ticket ticket) d) at h)

-- the free places of a table do not count
pub found_pending : (ticket : ℕ) (table : List Exchange) → exchange_of ticket (pending_in table) ≡ exchange_of ticket table
unfolding filtered first_place
found_pending ticket [] = refl
found_pending ticket (e ∷ es) =
    either (is_free e)
    (λ f. rw f (found_pending ticket es))
    (λ f. rw f (either (eqb e.ticket.0 ticket) (λ t. rw (f, t)) (λ t. rw (f, t) (found_pending ticket es))))

pub holding_pending : (ticket : ℕ) (table : List Exchange) → holding ticket (pending_in table) ≡ holding ticket table
unfolding filtered passing
holding_pending ticket [] = refl
holding_pending ticket (e ∷ es) =
    either (is_free e) (λ f. rw f (holding_pending ticket es)) (λ f. rw (f, f, holding_pending ticket es))

-- a call on a ticket that none has leaves the set as it is
replaced_none : (ticket : ℕ) (new : Exchange) (es : List Exchange) → holding ticket es ≡ 0 → replaced ticket new es ≡ es
unfolding replaced passing
replaced_none ticket new [] h = refl
replaced_none ticket new (e ∷ es) h =
    either (has_ticket ticket e)
    (λ t. absurd (let z = rw t at h in omega arith))
    (λ t. rw t (ap (λ (r : List Exchange). e ∷ r) (replaced_none ticket new es (rw t at h))))

-- in any order
pub replaced_permuted : (ticket : ℕ) (new : Exchange) {xs ys : List Exchange} → Permᴰ xs ys
    → Permᴰ (replaced ticket new xs) (replaced ticket new ys)
unfolding replaced
replaced_permuted ticket new Permᴰ.nil = Permᴰ.nil
replaced_permuted ticket new (Permᴰ.cons {b = b} e d) =
    rw e (Permᴰ.append_left (pick (has_ticket ticket b) (remaining new) (b ∷ [])) (replaced_permuted ticket new d))
replaced_permuted ticket new (Permᴰ.swap {a' = a} {b' = b} {l = l} e f) =
    rw (e, f)
    (fronts_swapped (pick (has_ticket ticket b) (remaining new) (b ∷ [])) (pick (has_ticket ticket a) (remaining new) (a ∷ []))
    (replaced ticket new l))
replaced_permuted ticket new (Permᴰ.trans d f) =
    Permᴰ.trans (replaced_permuted ticket new d) (replaced_permuted ticket new f)

-- no ticket is in the set more often than before: at one exchange, and in all
holding_left : (other ticket : ℕ) (new e : Exchange) → (is_free new ≡ false → new.ticket.0 ≡ ticket)
    → holding other (pick (has_ticket ticket e) (remaining new) (e ∷ [])) ≤ holding other (e ∷ [])
unfolding passing
holding_left other ticket new e h =
    either (has_ticket ticket e)
    (λ t. either (is_free new)
    (λ n. rw (t, n) (omega arith))
    (λ n.
    let same : e.ticket.0 ≡ new.ticket.0 = ticket_of ticket e t ∙ sym (h n) in
    rw t (rw (n, n, same, n) (le_refl _))))
    (λ t. rw t (le_refl _))

pub holding_replaced : (other ticket : ℕ) (new : Exchange) (es : List Exchange) → (is_free new ≡ false → new.ticket.0 ≡ ticket)
    → holding other (replaced ticket new es) ≤ holding other es
unfolding replaced
holding_replaced other ticket new [] h = le_refl (holding other [])
holding_replaced other ticket new (e ∷ es) h =
    rw (passing_append (has_ticket other) (pick (has_ticket ticket e) (remaining new) (e ∷ [])) (replaced ticket new es))
    (omega (
      arith,
      passing_append (has_ticket other) (e ∷ []) es,
      holding_left other ticket new e h,
      holding_replaced other ticket new es h,
    ))

-- what stands in the place of the exchange that has the ticket, in table and set
pub replaced_in_table : (ticket : ℕ) (new : Exchange) (table : List Exchange) → holding ticket table ≤ 1
    → pending_in (set table (first_place (has_ticket ticket) table) new) ≡ replaced ticket new (pending_in table)
unfolding filtered first_place replaced passing
replaced_in_table ticket new [] h = refl
replaced_in_table ticket new (e ∷ es) h =
    either (is_free e)
    (λ f. rw (f, f) (replaced_in_table ticket new es (rw f at h)))
    (λ f. either (eqb e.ticket.0 ticket)
    (λ t.
    let once = rw (f, t) at h in
    let none : holding ticket (pending_in es) ≡ 0 = omega (arith, holding_pending ticket es) in
    rw (f, f, t, replaced_none ticket new (pending_in es)) (either (is_free new) (λ n. rw n) (λ n. rw n)))
    (λ t. rw (f, f, t, f) (ap (λ (r : List Exchange). e ∷ r) (replaced_in_table ticket new es (rw (f, t) at h)))))

-- an admission: the new exchange in a place that was free, or at the end of the set
pub admitted_in_table : (new : Exchange) (table : List Exchange) (place : ℕ) → is_free new ≡ false → place < length table
    → is_free (get_or table place free) ≡ true → Permᴰ (pending_in (set table place new)) (pending_in table ++ new ∷ [])
unfolding filtered
admitted_in_table new [] place n inside f = absurd (not-suc-le-zero inside)
admitted_in_table new (e ∷ es) zero n inside f = rw (f, n) (first_to_the_end new (pending_in es))
admitted_in_table new (e ∷ es) (suc place) n inside f =
    let rest = admitted_in_table new es place n (le_of_suc-le-suc inside) f in
    either (is_free e) (λ t. rw t rest) (λ t. rw t (Permᴰ.cons refl rest))

-- no more are pending than there are places
pub pending_length : (table : List Exchange) → length (pending_in table) ≤ length table
unfolding filtered
pending_length [] = omega arith
pending_length (e ∷ es) =
    either (is_free e) (λ f. rw f (omega (arith, pending_length es))) (λ f. rw f (omega (arith, pending_length es)))

-- no place is free where there are as many pending exchanges as places
pub full_alike : (table : List Exchange) → is_full table ≡ leb (length table) (length (pending_in table))
unfolding filtered
full_alike [] = refl
full_alike (e ∷ es) =
    either (is_free e)
    (λ f. rw (f, lt-leb (suc (length es)) (length (pending_in es)) (omega (arith, pending_length es))))
    (λ f. rw f (simp leb-suc-suc (full_alike es)))
