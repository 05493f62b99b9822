-- What holds of a ticket over every history: one exchange has it, once opened nothing of it goes out unprotected, and once closed
-- it is never pending again.
use Rattle.std.specs.Prelude.{ℕ, ◌≤◌, ◌<◌, true, ◌≡◌, List, [], ◌∷◌, ◌++◌, length}
use Rattle.wire.specs.Search.{filtered}
use Rattle.exchange.specs.Exchange.{has_ticket}
use Rattle.exchange.specs.declared.Move.{Move}
use Rattle.exchange.specs.Steps.{Step, closes}
use Rattle.gateway.specs.View.{registry_of}
use Rattle.gateway.specs.Calls.{Call, on_ticket, number, unprotected_status}
use Rattle.book.specs.History.{gateway_after, answer_after, Accepts}

pub record Lifecycle (list : List ℕ) (cap : ℕ) (calls : List Call) (ticket : ℕ) : Type 0 where
  -- no two pending exchanges have one ticket, and none has a ticket that was not given
  pub one_holder : length (filtered (has_ticket ticket) (gateway_after list cap calls).table) ≤ 1
  pub given : (registry_of (gateway_after list cap calls)).last_ticket < ticket → filtered (has_ticket ticket) (gateway_after list cap calls).table ≡ []
  -- "later ones only sealed": after an opening, whatever comes between, no call on the ticket has an unprotected answer
  pub after_opening : (opening : Step) (n : ℕ) (between : List Call) (later : Step)
      → opening.kind ≡ Move.Open n → Accepts list cap calls (on_ticket ticket opening)
      → unprotected_status (answer_after list cap (calls ++ on_ticket ticket opening ∷ between) (on_ticket ticket later)) ≡ 0
  -- "a closed ticket gives 11"; that "its place is free" is `ClosedPlace` of `Storage`
  pub after_closing : (closing : Step) (between : List Call) (later : Step)
      → closes closing.kind ≡ true → Accepts list cap calls (on_ticket ticket closing)
      → number (answer_after list cap (calls ++ on_ticket ticket closing ∷ between) (on_ticket ticket later)) ≡ 11

abbrev pub LifecycleHolds : Type 0
LifecycleHolds = (list : List ℕ) (cap : ℕ) (calls : List Call) (ticket : ℕ) → Lifecycle list cap calls ticket
