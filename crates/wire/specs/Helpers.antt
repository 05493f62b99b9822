-- What only the contracts of functions below the entries cite: a reader of the rules can skip this file.
use Rattle.std.specs.Prelude.{ℕ, ◌+◌, ◌-◌, min, List, ◌++◌, length, take, drop}

-- how many of `bytes` there is room for from an offset of the buffer
abbrev pub room_for : List ℕ → ℕ → List ℕ → ℕ
room_for buffer at bytes = min (length bytes) (length buffer - at)

-- a buffer with as many of `bytes` as there is room for written from an offset; the rest stays
abbrev pub overwritten : List ℕ → ℕ → List ℕ → List ℕ
overwritten buffer at bytes =
    take at buffer ++ take (room_for buffer at bytes) bytes ++ drop (at + room_for buffer at bytes) buffer
