-- A key's count is the number of admissions it was given, the tickets are 1, 2, 3 and on, and nothing wraps.
-- Assumes nothing.
use Rattle.std.specs.Prelude.{Result, Ok, Err}
use Prim.Native.Nat.{ℕ, ◌+◌}
use mathlib.Core.Path.{◌≡◌, refl, ap, ◌∙◌}
use mathlib.Core.List.{List, [], ◌∷◌, map}
use native.Mathlib.Omega.{arith}
use borrow.Author.Tests.{le-ltb}
use lib.Dec.{ltb}
use Rattle.wire.proofs.Booleans.{either}
use Rattle.wire.proofs.Matches.{any_none}
use Rattle.wire.specs.declared.refusal.Refusal.{Refusal}
use Rattle.keylist.specs.Layout.{Configuration, parse}
use lib.ListN.{take}
use Rattle.keys.specs.declared.KeyState.{KeyState}
use Rattle.keys.specs.Keys.{Key, key_of, keys_of}
use Rattle.keys.specs.Stored.{one_more, used_state}
use Rattle.keys.specs.Helpers.{no_key, key_at}
use Rattle.gateway.specs.Registry.{Registry, cap_holds, with_cap, registry_from}
use Rattle.gateway.specs.View.{registry_of}
use Rattle.gateway.specs.Calls.{Call}
use Rattle.book.specs.Book.{fresh_book, book_does}
use Rattle.book.specs.History.{trace, gateway_after}
use Rattle.book.specs.Demand3.{book_after}
use Rattle.book.specs.Counts.{Counts, CountsHold, counting_from}
use Rattle.book.specs.Storage.{NothingWraps}
use Rattle.book.proofs.KeyCounts.{same_id, same_length, fresh_count, each_key}
use Rattle.book.proofs.Sound.{Sound, ticket_bound}
use Rattle.book.proofs.Refinement.{fresh_alike, alike_end, refinement_holds}
use Rattle.book.proofs.Counting.{ids_after, counted, given_after}

-- at first counts and last ticket are 0
fresh_counts : (o : Result (List Configuration) Refusal) (cap place : ℕ) → (key_at (registry_from cap (with_cap cap o)).keys place).count ≡ 0
fresh_counts (Ok cs) cap place = either (cap_holds cap) (λ h. rw h (fresh_count cs place)) (λ h. rw h)
fresh_counts (Err r) cap place = refl

fresh_last : (o : Result (List Configuration) Refusal) (cap : ℕ) → (registry_from cap (with_cap cap o)).last_ticket ≡ 0
fresh_last (Ok cs) cap = either (cap_holds cap) (λ h. rw h) (λ h. rw h)
fresh_last (Err r) cap = refl

-- the book's counts and tickets
book_counts : (list : List ℕ) (cap : ℕ) (calls : List Call) → Sound (fresh_book list cap) → Sound (book_after list cap calls)
    → Counts (book_after list cap calls).registry (trace book_does (fresh_book list cap) calls)
unfolding counting_from
book_counts list cap calls start end =
    let fresh = fresh_book list cap in
    let keys = (book_after list cap calls).registry.keys in
    let same = ids_after fresh calls in
    record {
      admissions =
          each_key _ _ keys (λ place inside.
          rw (
            counted fresh calls place start (rw (same_length keys fresh.registry.keys same) at inside),
            same_id keys fresh.registry.keys place same,
            fresh_counts (parse list) cap place,
          ) (omega arith));
      within_cap =
          any_none no_key (λ key. ltb (book_after list cap calls).registry.cap key.count) keys
          (λ place inside. le-ltb _ _ (end.within_cap place));
      cap_bound = (end.cap_least, end.cap_bound);
      last_ticket = end.last_ticket;
      last_ticket_bound = ticket_bound (book_after list cap calls) end;
      tickets = rw (fresh_last (parse list) cap) at (given_after fresh calls);
    }

pub counts_hold : CountsHold
counts_hold list cap calls =
    let fresh = fresh_alike list cap in
    let end = alike_end list cap calls in
    rw (end.registry, (refinement_holds list cap calls).same_answers) (book_counts list cap calls fresh.sound end.sound)

-- the counts of stored keys with one use more, by the keys
used_counts : (stored : List KeyState) → map (λ (k : KeyState). (used_state k).count) stored ≡ map (λ (key : Key). one_more 32 key.count) (map key_of stored)
used_counts [] = refl
used_counts (k ∷ stored) = ap (λ (ns : List ℕ). one_more 32 k.count ∷ ns) (used_counts stored)

pub nothing_wraps : NothingWraps
unfolding keys_of
nothing_wraps list cap calls =
    let g = gateway_after list cap calls in
    let end = alike_end list cap calls in
    let keys = (book_after list cap calls).registry.keys in
    let same : (registry_of g).keys ≡ keys = ap (λ (r : Registry). r.keys) end.registry in
    record {
      ticket = omega (arith, ticket_bound (book_after list cap calls) end.sound, ap (λ (r : Registry). r.last_ticket) end.registry);
      counts =
          used_counts (take g.keys.count g.keys.list)
          ∙ rw same (each_key (λ key. one_more 32 key.count) (λ key. key.count + 1) keys
          (λ place inside. omega (arith, end.sound.within_cap place, end.sound.cap_bound)));
    }
