-- A choice by a test, and tests made of two.
use Rattle.std.specs.Prelude.{Bool, true, false}

infixr 6 ◌and◌
-- the first where the test holds, else the second
abbrev pub pick : {A : Type 0} → Bool → A → A → A
pick true a b = a
pick false a b = b

-- both tests hold
abbrev pub ◌and◌ : Bool → Bool → Bool
◌and◌ true b = b
◌and◌ false b = false
