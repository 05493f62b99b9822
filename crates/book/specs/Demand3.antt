-- Demand 3 (00 and 01): the struck and moved list, run on the book, gives each call the answer and the bytes that it had.
use Rattle.std.specs.Prelude.{ℕ, Bool, true, false, not, ◌≡◌}
use mathlib.Core.List.{List, [], ◌∷◌, ◌++◌, map, Perm}
use Rattle.wire.specs.Tests.{◌and◌}
use Rattle.wire.specs.Search.{among, filtered}
use Rattle.gateway.specs.View.{registry_of, pending_in}
use Rattle.gateway.specs.Calls.{Call, admit, retire, on_ticket, reporting, Answer}
use Rattle.book.specs.Book.{Book, fresh_book, book_does}
use Rattle.book.specs.History.{Event, trace, final, gateway_trace, gateway_after, is_accepted, tickets_of}

abbrev pub is_report : Call → Bool
is_report (admit request info) = false
is_report (retire id) = false
is_report (on_ticket ticket step) = false
is_report reporting = true

-- "Strike out reports and refused calls."
abbrev pub is_kept : Event → Bool
is_kept e = is_accepted e and not (is_report e.call)

abbrev pub struck : List Event → List Event
struck events = filtered is_kept events

-- admissions and key retirements, which keep their order
abbrev pub keeps_order : Call → Bool
keeps_order (admit request info) = true
keeps_order (retire id) = true
keeps_order (on_ticket ticket step) = false
keeps_order reporting = false

-- a call on one of these tickets
abbrev pub is_on : List ℕ → Call → Bool
is_on tickets (admit request info) = false
is_on tickets (retire id) = false
is_on tickets (on_ticket ticket step) = among tickets ticket
is_on tickets reporting = false

-- of the events, the calls on the ticket that this answer gave, if it is that of an accepted admit
abbrev pub own_calls : Answer → List Event → List Event
own_calls answer events = filtered (λ e. is_on (tickets_of answer) e.call) events

-- each of these, with its own calls behind it
unfoldable pub with_own_calls : List Event → List Event → List Event
with_own_calls events [] = []
with_own_calls events (e ∷ es) = (e ∷ own_calls e.answer events) ++ with_own_calls events es

-- "Keep admissions and key retirements in order, and move each other call up behind its own exchange's admission, that
-- exchange's calls in their order."
abbrev pub moved_up : List Event → List Event
moved_up events = with_own_calls events (filtered (λ e. keeps_order e.call) events)

-- the moved list of a list of calls
abbrev pub moved_list : List ℕ → ℕ → List Call → List Event
moved_list list cap calls = moved_up (struck (gateway_trace list cap calls))

-- its calls with their arguments, run on the book
abbrev pub calls_of : List Event → List Call
calls_of events = map (λ (e : Event). e.call) events

abbrev pub book_after : List ℕ → ℕ → List Call → Book
book_after list cap calls = final book_does (fresh_book list cap) calls

pub record Demand3 (list : List ℕ) (cap : ℕ) (calls : List Call) : Type 0 where
  -- the moved list has the calls of the struck one, each once
  pub rearranged : Perm (moved_list list cap calls) (struck (gateway_trace list cap calls))
  -- "Every call gets there the answer it had and leaves the same bytes in its buffer"
  pub same_answers : trace book_does (fresh_book list cap) (calls_of (moved_list list cap calls)) ≡ moved_list list cap calls
  -- "the same count and retirement for every key, the same last ticket", and the same cap, ids, KEMs and pairs
  pub same_registry : registry_of (gateway_after list cap calls) ≡ (book_after list cap (calls_of (moved_list list cap calls))).registry
  -- "and the same set of pending exchanges, table places aside"
  pub same_pending : Perm (pending_in (gateway_after list cap calls).table) (book_after list cap (calls_of (moved_list list cap calls))).pending

-- for every list of calls
abbrev pub Demand3Holds : Type 0
Demand3Holds = (list : List ℕ) (cap : ℕ) (calls : List Call) → Demand3 list cap calls

-- Refinement: with no call struck or moved, gateway and book give the same answers and bytes, and end alike.
pub record Refinement (list : List ℕ) (cap : ℕ) (calls : List Call) : Type 0 where
  pub same_answers : gateway_trace list cap calls ≡ trace book_does (fresh_book list cap) calls
  pub same_registry : registry_of (gateway_after list cap calls) ≡ (book_after list cap calls).registry
  pub same_pending : Perm (pending_in (gateway_after list cap calls).table) (book_after list cap calls).pending

abbrev pub RefinementHolds : Type 0
RefinementHolds = (list : List ℕ) (cap : ℕ) (calls : List Call) → Refinement list cap calls
