-- 01, "The list and the book of demand 3": the book, fed with setup's key list and cap, the calls and their arguments only.
use Rattle.std.specs.Prelude.{ℕ, ◌+◌, List, [], ◌∷◌, ◌++◌, leb, length}
use Rattle.wire.specs.Tests.{pick}
use Rattle.wire.specs.Refusals.{result_by, unless_refused, written}
use Rattle.exchange.specs.declared.Exchange.{Exchange}
use Rattle.request.specs.Request.{key_id_of, fields_of, info_of}
use Rattle.exchange.specs.Exchange.{is_free, has_ticket, exchange_of, asked}
use Rattle.exchange.specs.Steps.{Step, refusal, next, answer, buffer}
use Rattle.keys.specs.Keys.{key_with, retire_refusal, with_use, with_retirement, with_key}
use Rattle.gateway.specs.Registry.{Registry, fresh_registry, admit_refusal, admit_answer, report, table_size}
use Rattle.gateway.specs.Calls.{Call, admit, retire, on_ticket, reporting, of_admit, of_retire, of_step, of_report, Done}

-- cap, last ticket and keys, and the set of pending exchanges, which is kept in the order of their admission
pub record Book : Type 0 where
  pub registry : Registry
  pub pending : List Exchange

-- at first counts and last ticket are 0, no key is retired, the set is empty; after a refused setup there are no keys and the cap
-- is 1
abbrev pub fresh_book : List ℕ → ℕ → Book
fresh_book list cap = record { registry = fresh_registry list cap; pending = [] }

-- an accepted admit adds one to its key's count and to the last ticket, which is then its ticket, and puts the exchange in as
-- asked
abbrev pub book_admitted : List ℕ → Book → Book
book_admitted request b =
    let ticket = b.registry.last_ticket + 1 in
    record {
      registry = record { cap = b.registry.cap; last_ticket = ticket; keys = with_key with_use (key_id_of request) b.registry.keys };
      pending = b.pending ++ asked ticket (fields_of request) ∷ [];
    }

-- an accepted retire marks the key
abbrev pub book_retired : ℕ → Book → Book
book_retired id b =
    let registry = b.registry in
    record {
      registry = record { cap = registry.cap; last_ticket = registry.last_ticket; keys = with_key with_retirement id registry.keys };
      pending = b.pending;
    }

-- what is left of an exchange: nothing where it is closed
abbrev pub remaining : Exchange → List Exchange
remaining e = pick (is_free e) [] (e ∷ [])

-- the set with what is left in the place of the exchange that has the ticket
unfoldable pub replaced : ℕ → Exchange → List Exchange → List Exchange
replaced ticket e [] = []
replaced ticket e (x ∷ xs) = pick (has_ticket ticket x) (remaining e) (x ∷ []) ++ replaced ticket e xs

-- an accepted call on a ticket makes its exchange opened or takes it out
abbrev pub book_stepped : ℕ → Step → Book → Book
book_stepped ticket step b =
    record { registry = b.registry; pending = replaced ticket (next step (exchange_of ticket b.pending)) b.pending }

-- the refusals in their order; 9 means 128 in the set
abbrev pub book_admit_number : List ℕ → List ℕ → Book → ℕ
book_admit_number request info b = admit_refusal b.registry (leb table_size (length b.pending)) request (length info)

abbrev pub book_retire_number : ℕ → Book → ℕ
book_retire_number id b = retire_refusal (key_with id b.registry.keys)

abbrev pub book_step_number : ℕ → Step → Book → ℕ
book_step_number ticket step b = refusal step (exchange_of ticket b.pending)

-- a refused call gets its number and changes nothing
unfoldable pub book_does : Book → Call → Done Book
book_does b (admit request info) =
    record {
      answer = of_admit (admit_answer (book_admit_number request info b) (b.registry.last_ticket + 1) request);
      buffer = written (book_admit_number request info b) (info_of request) info;
      state = unless_refused (book_admit_number request info b) (book_admitted request b) b;
    }
book_does b (retire id) =
    record {
      answer = of_retire (result_by (book_retire_number id b) tt);
      buffer = [];
      state = unless_refused (book_retire_number id b) (book_retired id b) b;
    }
book_does b (on_ticket ticket step) =
    record {
      answer = of_step (answer step (exchange_of ticket b.pending));
      buffer = buffer step (exchange_of ticket b.pending);
      state = unless_refused (book_step_number ticket step b) (book_stepped ticket step b) b;
    }
book_does b reporting = record { answer = of_report (report b.registry (length b.pending)); buffer = []; state = b }
