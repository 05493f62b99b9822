-- Bytes as the papers write them, for computed examples.
use Prim.Native.Char.{code}
use Rattle.std.specs.Prelude.{ℕ, ◌+◌, ◌*◌, ◌-◌, List, [], ◌∷◌, ltb}
use Prim.Native.String.{String, [] as end, ◌∷◌ as ◌then◌}
use Rattle.wire.specs.Tests.{pick}

-- a hexadecimal digit, of its ASCII code
abbrev pub digit : ℕ → ℕ
digit c = pick (ltb c 58) (c - 48) (c - 87)

-- bytes as the papers write them, two lower-case digits each
unfoldable pub hex : String → List ℕ
hex end = []
hex (high then end) = []
hex (high then (low then rest)) = (digit (code high) * 16 + digit (code low)) ∷ hex rest
