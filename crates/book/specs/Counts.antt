-- Demand 2, "A key's count is the number of admissions it was given", over every list of calls; and the tickets.
use Rattle.std.specs.List.{list_any}
use Rattle.std.specs.Prelude.{ℕ, zero, suc, ◌+◌, ◌*◌, ◌≤◌, Bool, false, ◌≡◌, List, [], ◌∷◌, ◌++◌, map, eqb, ltb, length}
use Rattle.wire.specs.Tests.{◌and◌}
use Rattle.wire.specs.Search.{filtered}
use Rattle.keylist.specs.Layout.{most_configurations}
use Rattle.request.specs.Request.{key_id_of}
use Rattle.keys.specs.Keys.{Key}
use Rattle.gateway.specs.Registry.{Registry, most_uses}
use Rattle.gateway.specs.View.{registry_of}
use Rattle.gateway.specs.Calls.{Call, admit, retire, on_ticket, reporting}
use Rattle.book.specs.History.{Event, is_accepted, tickets_of, gateway_trace, gateway_after}

-- a request to admit that names the key
abbrev pub names_key : ℕ → Call → Bool
names_key id (admit request info) = eqb (key_id_of request) id
names_key id (retire other) = false
names_key id (on_ticket ticket step) = false
names_key id reporting = false

-- the number of accepted admissions that name the key
abbrev pub admissions_of_key : ℕ → List Event → ℕ
admissions_of_key id events = length (filtered (λ e. is_accepted e and names_key id e.call) events)

-- the tickets that admissions were given, in their order
unfoldable pub tickets_given : List Event → List ℕ
tickets_given [] = []
tickets_given (e ∷ es) = tickets_of e.answer ++ tickets_given es

-- the sum of the keys' counts
unfoldable pub sum_of_counts : List Key → ℕ
sum_of_counts [] = 0
sum_of_counts (key ∷ keys) = key.count + sum_of_counts keys

-- so many numbers, one after the other, from a first on
unfoldable pub counting_from : ℕ → ℕ → List ℕ
counting_from first zero = []
counting_from first (suc n) = first ∷ counting_from (first + 1) n

-- of the registry at the end of a history, and the history
pub record Counts (registry : Registry) (events : List Event) : Type 0 where
  -- each key's count, in list order
  pub admissions : map (λ (key : Key). key.count) registry.keys ≡ map (λ (key : Key). admissions_of_key key.id events) registry.keys
  -- "The count of a key lies between 0 and the cap."
  pub within_cap : list_any (λ key. ltb registry.cap key.count) registry.keys ≡ false
  pub cap_bound : (1 ≤ registry.cap) × (registry.cap ≤ most_uses)
  -- "the last one equals the sum of all use counts, so is at most 16,000,000,000"
  pub last_ticket : registry.last_ticket ≡ sum_of_counts registry.keys
  pub last_ticket_bound : registry.last_ticket ≤ most_configurations * most_uses
  -- "the next ticket is given (1, 2, 3 and on)"; so none is given twice
  pub tickets : tickets_given events ≡ counting_from 1 registry.last_ticket

abbrev pub CountsHold : Type 0
CountsHold =
    (list : List ℕ) (cap : ℕ) (calls : List Call) → Counts (registry_of (gateway_after list cap calls)) (gateway_trace list cap calls)
