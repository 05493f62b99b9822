-- What only the contracts of functions below the entries cite: a reader of the rules can skip this file.
use Rattle.std.specs.Prelude.{ℕ, Bool, ltb}
use Rattle.wire.specs.Refusals.{◌when◌otherwise◌}
use Rattle.wire.specs.Texts.{info_length}

-- admit's 9 of the table, told to be full or not, and 14 of the info buffer's length
abbrev pub room_refusal : Bool → ℕ → ℕ
room_refusal full room =
    9 when full otherwise
    14 when ltb room info_length otherwise
    0
