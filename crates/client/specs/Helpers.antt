-- What only the contracts of functions below the entries cite: a reader of the rules can skip this file.
use Rattle.std.specs.List.{list_any}
use Rattle.std.specs.Prelude.{List, ℕ, Option, Result, Ok, Err}
use Rattle.std.specs.Bool.{then_some}
use Rattle.wire.specs.Reasons.{number_of}
use Rattle.wire.specs.declared.refusal.Reason.{Reason}
use Rattle.keylist.specs.declared.Pair.{Pair}
use Rattle.client.specs.Choose.{usable_pair, first_usable}

-- the first usable one of pairs, where there is one
abbrev pub pair_found : List ℕ → List Pair → Option Pair
pair_found numbers pairs = then_some (list_any (usable_pair numbers) pairs) (first_usable numbers pairs)

-- the number of the reason for which a test fails; 0 where it does not
abbrev pub number_of_check : Result Unit Reason → ℕ
number_of_check (Ok done) = 0
number_of_check (Err reason) = number_of reason
