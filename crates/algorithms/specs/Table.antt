-- 01, "Algorithm sizes": the one table of numbers and sizes (RFC 9180), looked up by kind and number.
use Rattle.std.specs.Prelude.{ℕ, Bool, true, false, List, [], ◌∷◌, Option, eqb, find}
use Rattle.wire.specs.Tests.{◌and◌}
use Rattle.algorithms.specs.declared.Kind.{Kind}
use Rattle.algorithms.specs.declared.Row.{Row}

-- a row: its kind, its number, a KEM's Nenc and Npk, an AEAD's Nk
abbrev pub table_row : Kind → ℕ → ℕ → ℕ → ℕ → Row
table_row kind number nenc npk nk = record { kind = kind; number = number; enc = nenc; public_key = npk; key = nk }

unfoldable pub table : List Row
table =
    table_row Kind.Kem 0x0010 65 65 0
    ∷ table_row Kind.Kem 0x0011 97 97 0
    ∷ table_row Kind.Kem 0x0012 133 133 0
    ∷ table_row Kind.Kem 0x0020 32 32 0
    ∷ table_row Kind.Kem 0x0021 56 56 0
    ∷ table_row Kind.Kdf 0x0001 0 0 0
    ∷ table_row Kind.Kdf 0x0002 0 0 0
    ∷ table_row Kind.Kdf 0x0003 0 0 0
    ∷ table_row Kind.Aead 0x0001 0 0 16
    ∷ table_row Kind.Aead 0x0002 0 0 32
    ∷ table_row Kind.Aead 0x0003 0 0 32
    ∷ []

-- the two are the same kind
abbrev pub same_kind : Kind → Kind → Bool
same_kind Kind.Kem Kind.Kem = true
same_kind Kind.Kdf Kind.Kdf = true
same_kind Kind.Aead Kind.Aead = true
same_kind _ _ = false

-- the row is that of the kind and the number
abbrev pub is_row : Kind → ℕ → Row → Bool
is_row kind number row = same_kind row.kind kind and eqb row.number number

-- the first row of the kind and the number, in any table
abbrev pub row_in : List Row → Kind → ℕ → Option Row
row_in rows kind number = find (is_row kind number) rows

unfoldable pub row_of : Kind → ℕ → Option Row
row_of = row_in table
