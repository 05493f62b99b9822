-- The refinement: with no call struck or moved, gateway and book give the same answers and bytes, and end alike, by whatever engines.
-- Assumes nothing.
use Rattle.std.specs.Prelude.{Result, Ok, Err}
use Prim.Native.Nat.{ℕ}
use mathlib.Core.Bool.{true}
use mathlib.Core.Path.{◌≡◌, refl}
use mathlib.Core.List.Permᴰ
use mathlib.Core.List.{List, [], ◌∷◌, ◌++◌, map}
use Rattle.wire.specs.Search.{filtered}
use Rattle.wire.proofs.Booleans.{either}
use Rattle.wire.specs.declared.refusal.Refusal.{Refusal}
use Rattle.keylist.specs.Layout.{Configuration, parse}
use Rattle.keys.specs.declared.Keys.{Keys}
use Rattle.keys.specs.Stored.{stored_keys}
use Rattle.keys.specs.Helpers.{keys_from}
use Rattle.keys.specs.Keys.{fresh_key, keys_of}
use Rattle.gateway.specs.declared.Gateway.{Gateway}
use Rattle.gateway.specs.declared.table.Engine.{Engine}
use Rattle.gateway.specs.Registry.{Registry, cap_holds, with_cap, registry_from}
use Rattle.gateway.specs.Gateway.{empty_gateway, gateway_from, fresh_gateway}
use Rattle.gateway.specs.View.{registry_of}
use Rattle.gateway.specs.Calls.{Call, Done}
use Rattle.book.specs.Book.{Book, fresh_book, book_does}
use Rattle.book.specs.History.{trace, final, gateway_after}
use Rattle.book.specs.Demand3.{book_after, RefinementHolds}
use Rattle.book.specs.Engines.{does_by}
use Rattle.keys.proofs.Views.{parsed_view, stored_view}
use Rattle.book.proofs.Sound.{Sound, refused_sound, ready_sound}
use Rattle.book.proofs.Refining.{Alike, same_answer, same_buffer, alike_kept}

-- with no exchange pending they are alike where their heads are
empty_alike : (cap : ℕ) (keys : Keys) (registry : Registry) → Sound (record { registry = registry; pending = [] })
    → registry_of (empty_gateway cap keys) ≡ registry → Alike (empty_gateway cap keys) (record { registry = registry; pending = [] })
unfolding filtered
empty_alike cap keys registry s e = record { sound = s; registry = e; places = refl; pending = Permᴰ.nil }

-- after setup: refused, accepted, and either
refused_alike : Alike (empty_gateway 1 (stored_keys [])) (record { registry = record { cap = 1; last_ticket = 0; keys = [] }; pending = [] })
refused_alike = empty_alike 1 (stored_keys []) (record { cap = 1; last_ticket = 0; keys = [] }) refused_sound (rw (stored_view []))

ready_alike : (list : List ℕ) (cap : ℕ) (cs : List Configuration) → parse list ≡ Ok cs → cap_holds cap ≡ true
    → Alike (empty_gateway cap (stored_keys cs))
    (record { registry = record { cap = cap; last_ticket = 0; keys = map fresh_key cs }; pending = [] })
unfolding keys_from
ready_alike list cap cs e h =
    let viewed : keys_of (stored_keys cs) ≡ map fresh_key cs = rw e at (parsed_view list cs e).0 in
    empty_alike cap (stored_keys cs) (record { cap = cap; last_ticket = 0; keys = map fresh_key cs })
    (ready_sound list cap cs e h) (rw viewed)

pub fresh_alike : (list : List ℕ) (cap : ℕ) → Alike (fresh_gateway list cap) (fresh_book list cap)
fresh_alike list cap = fresh (parse list) refl
  where
    fresh : (o : Result (List Configuration) Refusal) → parse list ≡ o
        → Alike (gateway_from cap (with_cap cap o)) (record { registry = registry_from cap (with_cap cap o); pending = [] })
    fresh (Ok cs) e = either (cap_holds cap) (λ h. rw h (ready_alike list cap cs e h)) (λ h. rw h refused_alike)
    fresh (Err r) e = refused_alike

-- along a history
module _ (choice : Gateway → Call → Engine) where
  same_trace : (g : Gateway) (b : Book) (calls : List Call) → Alike g b → trace (does_by choice) g calls ≡ trace book_does b calls
  unfolding trace
  same_trace g b [] r = refl
  same_trace g b (call ∷ calls) r =
      rw (
        same_answer (choice g call) g b call r,
        same_buffer (choice g call) g b call r,
        same_trace (does_by choice g call).state (book_does b call).state calls (alike_kept (choice g call) g b call r),
      )

  alike_by : (g : Gateway) (b : Book) (calls : List Call) → Alike g b → Alike (final (does_by choice) g calls) (final book_does b calls)
  unfolding final
  alike_by g b [] r = r
  alike_by g b (call ∷ calls) r =
      alike_by (does_by choice g call).state (book_does b call).state calls (alike_kept (choice g call) g b call r)

  -- from setup
  pub alike_chosen : (list : List ℕ) (cap : ℕ) (calls : List Call)
      → Alike (final (does_by choice) (fresh_gateway list cap) calls) (book_after list cap calls)
  alike_chosen list cap calls = alike_by (fresh_gateway list cap) (fresh_book list cap) calls (fresh_alike list cap)

  pub trace_chosen : (list : List ℕ) (cap : ℕ) (calls : List Call)
      → trace (does_by choice) (fresh_gateway list cap) calls ≡ trace book_does (fresh_book list cap) calls
  trace_chosen list cap calls = same_trace (fresh_gateway list cap) (fresh_book list cap) calls (fresh_alike list cap)

-- one list of calls after another
pub final_append : {State : Type 0} (does : State → Call → Done State) (s : State) (before later : List Call)
    → final does s (before ++ later) ≡ final does (final does s before) later
unfolding final
final_append does s [] later = refl
final_append does s (call ∷ before) later = final_append does (does s call).state before later

-- by the fast engine: gateway and book after the same calls
abbrev pub fast : Gateway → Call → Engine
fast g call = Engine.Fast

pub alike_end : (list : List ℕ) (cap : ℕ) (calls : List Call) → Alike (gateway_after list cap calls) (book_after list cap calls)
alike_end = alike_chosen fast

pub refinement_holds : RefinementHolds
refinement_holds list cap calls =
    let end = alike_end list cap calls in
    record {
      same_answers = trace_chosen fast list cap calls;
      same_registry = end.registry;
      same_pending = ∣ end.pending ∣₁;
    }
