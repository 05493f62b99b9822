-- The refusal number of an answer is the number that decided it.
-- Assumes nothing.
use mathlib.Core.Path.{◌≡◌, refl}
use mathlib.Core.List.{List}
use Prim.Native.Nat.{ℕ, zero, suc}
use mathlib.Core.Bool.{Bool}
use lib.Dec.{leb}
use lib.ListN.{length}
use Rattle.wire.specs.Refusals.{result_by}
use Rattle.exchange.specs.declared.Exchange.{Exchange}
use Rattle.exchange.specs.Steps.{Step, refusal, answer}
use Rattle.exchange.proofs.Steps as steps
use Rattle.gateway.specs.Registry.{table_size, admit_answer}
use Rattle.book.specs.Book.{Book}
use Rattle.gateway.specs.Calls.{of_admit, of_retire, of_step, number}

pub admit-number : (n ticket : ℕ) (request : List ℕ) → number (of_admit (admit_answer n ticket request)) ≡ n
unfolding number
admit-number zero ticket request = refl
admit-number (suc n) ticket request = refl

pub retire-number : (n : ℕ) → number (of_retire (result_by n tt)) ≡ n
unfolding number
retire-number zero = refl
retire-number (suc n) = refl

pub step-number : (step : Step) (e : Exchange) → number (of_step (answer step e)) ≡ refusal step e
unfolding number
step-number step e = steps.step-number step e

-- 128 in the set
abbrev pub set_is_full : Book → Bool
set_is_full b = leb table_size (length b.pending)
