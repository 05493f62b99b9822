-- A refusal (01, "Refusal numbers"): its number, and its place where it has one, and the order in which refusals are tested (01, "Order").
use Rattle.std.specs.Prelude.{ℕ, zero, suc, Bool, true, false, List, Some, None, Result, Ok, Err}
use Rattle.wire.specs.Bytes.{with_front}
use Rattle.wire.specs.declared.refusal.Refusal.{Refusal}

infixr 4 ◌when◌otherwise◌
-- the number where the test holds, else what follows; at the end of a chain of refusals 0 stands for none
abbrev pub ◌when◌otherwise◌ : ℕ → Bool → ℕ → ℕ
◌when◌otherwise◌ n true m = n
◌when◌otherwise◌ n false m = m

-- a refusal without a place
abbrev pub refused : ℕ → Refusal
refused n = record { number = n; place = None }

-- one with its place
abbrev pub refused_at : ℕ → ℕ → Refusal
refused_at n place = record { number = n; place = Some place }

-- what is answered, by a refusal number: with 0 the value, else the refusal
abbrev pub result_by : {A : Type 0} → ℕ → A → Result A Refusal
result_by zero a = Ok a
result_by (suc n) a = Err (refused (suc n))

-- by a refusal number: with 0 the first, else the second
abbrev pub unless_refused : {A : Type 0} → ℕ → A → A → A
unless_refused zero a b = a
unless_refused (suc n) a b = b

-- a buffer, by a refusal number: with 0 the bytes stand at its front, else it is as it was
abbrev pub written : ℕ → List ℕ → List ℕ → List ℕ
written number bytes buffer = unless_refused number (with_front bytes buffer) buffer
