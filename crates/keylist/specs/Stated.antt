-- What the key reader hands back.
use Rattle.std.specs.Prelude.{ℕ, ◌≡◌, ◌↔◌, List, [], Some, Ok, Result, Err, length}
use Rattle.wire.specs.declared.refusal.Refusal.{Refusal}
use Rattle.algorithms.specs.Sizes.{public_key_length}
use Rattle.keylist.specs.Layout.{Configuration, parse}
use Rattle.keylist.specs.Answers.{configuration_with, key_place_in, key_part}

-- "hands back the public key as a part of the lent list, its Npk bytes and no others"
abbrev pub PublicKeyExactly : Type 0
PublicKeyExactly =
    (bytes : List ℕ) (id : ℕ) (cs : List Configuration) (c : Configuration)
    → parse bytes ≡ Ok cs → configuration_with id cs ≡ Some c
    → (key_part bytes (key_place_in id (parse bytes)) ≡ c.public_key) × (length c.public_key ≡ public_key_length c.kem)

-- the answer is a refusal
abbrev pub IsRefused : {A : Type 0} → Result A Refusal → Type 0
IsRefused answer = (r : Refusal) × (answer ≡ Err r)

-- "empty exactly on refusal"
abbrev pub EmptyOnRefusal : Type 0
EmptyOnRefusal =
    (bytes : List ℕ) (id : ℕ)
    → (key_part bytes (key_place_in id (parse bytes)) ≡ []) ↔ IsRefused (key_place_in id (parse bytes))
