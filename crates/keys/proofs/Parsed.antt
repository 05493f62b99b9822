-- What is known of the configurations of a good list: there are at most 16, and no key id stands twice.
-- Assumes nothing.
use mathlib.Core.Path.{◌≡◌, refl, sym}
use mathlib.Core.Bool.{false}
use mathlib.Core.List.{List, [], ◌∷◌, ◌++◌, map}
use Rattle.std.specs.Prelude.{Ok}
use Prim.Native.Nat.{ℕ, suc, ◌≤◌}
use native.Mathlib.Omega.{arith}
use borrow.Author.Tests.{ne_eqb, eqb-false}
use lib.Dec.{eqb}
use lib.ListN.{length}
use Rattle.wire.specs.Search.{among}
use Rattle.wire.proofs.Booleans.{either, true_or_false}
use Rattle.keylist.specs.Layout.{Configuration, parse, configuration_at, most_configurations}
use Rattle.keylist.proofs.Parsing.{by_reading, not_taken}
use Rattle.keylist.proofs.Walk.{parse_all}

-- no number stands twice
abbrev pub Distinct : List ℕ → Type 0
Distinct [] = Unit
Distinct (x ∷ xs) = (among xs x ≡ false) × Distinct xs

-- none of the numbers is taken
unfoldable Fresh : List ℕ → List ℕ → Type 0
Fresh taken [] = Unit
Fresh taken (x ∷ xs) = (among taken x ≡ false) × Fresh taken xs

abbrev pub ids : List Configuration → List ℕ
ids cs = map (λ (c : Configuration). c.key_id) cs

-- a number that is not among more numbers is not among fewer, and is not the last of them
fewer : (taken : List ℕ) (x n : ℕ) → among (taken ++ x ∷ []) n ≡ false → (among taken n ≡ false) × (x ≡ n → ⊥)
fewer [] x n e = (refl, either (eqb x n) (λ h. absurd (true_or_false refl (rw h at e))) (λ h. eqb-false x n h))
fewer (t ∷ taken) x n e =
    either (eqb t n) (λ h. absurd (true_or_false refl (rw h at e))) (λ h. rw h (fewer taken x n (rw h at e)))

-- what is fresh after one number more was taken was so before, and is not that number
fresh_fewer : (taken : List ℕ) (x : ℕ) (xs : List ℕ) → Fresh (taken ++ x ∷ []) xs → Fresh taken xs × (among xs x ≡ false)
unfolding Fresh
fresh_fewer taken x [] f = (tt, refl)
fresh_fewer taken x (y ∷ xs) f =
    let here = fewer taken x y f.0 in
    let rest = fresh_fewer taken x xs f.1 in
    ((here.0, rest.0), rw (ne_eqb y x (λ e. here.1 (sym e))) rest.1)

pub record Parsed (more : ℕ) (taken : List ℕ) (cs : List Configuration) : Type 0 where
  pub few : length cs ≤ more
  pub distinct : Distinct (ids cs)
  fresh : Fresh taken (ids cs)

parsed_none : (more : ℕ) (taken : List ℕ) → Parsed more taken []
unfolding Fresh
parsed_none more taken = record { few = omega arith; distinct = tt; fresh = tt }

parsed_one : (more : ℕ) (taken : List ℕ) (c : Configuration) (cs : List Configuration) → among taken c.key_id ≡ false
    → Parsed more (taken ++ c.key_id ∷ []) cs → Parsed (suc more) taken (c ∷ cs)
unfolding Fresh
parsed_one more taken c cs new p =
    let rest = fresh_fewer taken c.key_id (ids cs) p.fresh in
    record { few = omega (arith, p.few); distinct = (rest.1, p.distinct); fresh = (new, rest.0) }

parsed_skip : (more : ℕ) (taken : List ℕ) (cs : List Configuration) → Parsed more taken cs → Parsed (suc more) taken cs
parsed_skip more taken cs p = record { few = omega (arith, p.few); distinct = p.distinct; fresh = p.fresh }

pub parsed : (bytes : List ℕ) (cs : List Configuration) → parse bytes ≡ Ok cs → Parsed most_configurations [] cs
unfolding configuration_at
parsed bytes cs e =
    by_reading bytes (λ more taken at rest. Parsed more taken rest)
    (λ more taken at h. parsed_none more taken)
    (λ more taken at rest k read p. parsed_skip more taken rest p)
    (λ more taken at rest g read p.
    parsed_one more taken (configuration_at bytes at) rest
    (not_taken bytes taken at g) p)
    most_configurations [] 0 cs (parse_all bytes cs e)
