-- What only the contracts of functions below the entries cite: a reader of the rules can skip this file.
use Rattle.std.specs.Prelude.{ℕ, zero, suc, ◌≡◌, List, Option, Some, None, Ok, ltb, length}
use Rattle.std.specs.Bool.{then_some}
use Rattle.wire.specs.Tests.{pick}
use Rattle.wire.specs.Reasons.{number_of}
use Rattle.wire.specs.declared.refusal.Reason.{Reason}
use Rattle.keylist.specs.Answers.{span}
use Rattle.keylist.specs.Layout.{Configuration, is_skipped, key_start, key_end, key_id_at, kem_at, most_configurations, next_start, parse}
use Rattle.keylist.specs.declared.Place.{Place}

-- the number of a reason, if there is one; 0 where there is none
abbrev pub number_or_0 : Option Reason → ℕ
number_or_0 None = 0
number_or_0 (Some reason) = number_of reason

-- from an offset on, where the first configuration starts that is not skipped, or the list ends; at most so many are skipped
unfoldable pub read_from : ℕ → List ℕ → ℕ → ℕ
read_from zero bytes at = at
read_from (suc more) bytes at = pick (is_skipped bytes at) (read_from more bytes (next_start bytes at)) at

abbrev pub first_read : List ℕ → ℕ → ℕ
first_read bytes at = read_from most_configurations bytes at

-- the fields of the configuration whose length stands at an offset, where its parts lie, and where the next one that is read starts
abbrev pub place_of : List ℕ → ℕ → Place
place_of bytes at =
    record {
      key_id = key_id_at bytes at;
      kem = kem_at bytes at;
      key = span (key_start at) (key_end bytes at);
      next = first_read bytes (next_start bytes at);
    }

-- the same, and nothing past the end
abbrev pub place_in : List ℕ → ℕ → Option Place
place_in bytes at = then_some (ltb at (length bytes)) (place_of bytes at)

-- the same, and past the end all is 0, and the next one would start there
abbrev pub place_at : List ℕ → ℕ → Place
place_at bytes at =
    pick (ltb at (length bytes))
    (place_of bytes at)
    (record { key_id = 0; kem = 0; key = span 0 0; next = at })

-- the list reads into configurations
abbrev pub IsGood : List ℕ → Type 0
IsGood bytes = (cs : List Configuration) × (parse bytes ≡ Ok cs)
