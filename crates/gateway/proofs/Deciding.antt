-- Admit's order in parts, as the code decides it: of the request, of the key that it names, of the table and the info buffer.
-- Assumes nothing.
use mathlib.Core.Path.{◌≡◌, refl, sym, ap, ◌∙◌}
use mathlib.Core.Bool.{Bool, true, false, not}
use mathlib.Core.List.{List}
use mathlib.Core.Option.{Option, none, some}
use Prim.Native.Nat.{ℕ, zero, suc}
use native.Mathlib.Omega.{arith}
use lib.Dec.{eqb, leb, ltb}
use lib.ListN.{length}
use Rattle.wire.specs.Refusals.{◌when◌otherwise◌}
use Rattle.wire.specs.Texts.{head_length, longest_request}
use Rattle.algorithms.specs.Sizes.{known_kem, shortest_request}
use Rattle.request.specs.Request.{key_id_of, kem_of, kdf_of, aead_of, fields_of}
use Rattle.request.specs.Helpers.{request_refusal}
use Rattle.keys.specs.Keys.{Key, key_with, offers}
use Rattle.keys.specs.Helpers.{key_refusal}
use Rattle.keys.specs.Stored.{place_of_key}
use Rattle.keys.proofs.Named.{named_tests, key_order}
use Rattle.gateway.specs.Registry.{Registry, admit_refusal}
use Rattle.gateway.specs.Helpers.{room_refusal}

infixr 3 ◌or_else◌
-- the first number, or where it is 0 the second
abbrev pub ◌or_else◌ : ℕ → ℕ → ℕ
◌or_else◌ zero m = m
◌or_else◌ (suc n) m = suc n

-- a first number other than 0 decides
pub first_number : (a b : ℕ) → (a ≡ 0 → ⊥) → (a or_else b) ≡ a
first_number zero b h = absurd (h refl)
first_number (suc a) b h = refl

-- there is no refusal where neither gives one
pub none_of_both : (a b : ℕ) → (a or_else b) ≡ 0 → (a ≡ 0) × (b ≡ 0)
none_of_both zero b e = (refl, e)
none_of_both (suc a) b e = absurd (omega (arith, e))

pub both_none : (a b : ℕ) → a ≡ 0 → b ≡ 0 → (a or_else b) ≡ 0
both_none zero b p q = q
both_none (suc a) b p q = absurd (omega (arith, p))

-- a part of four refusals in front of the rest of the order
four_first : (i j k l : ℕ) (a b c d : Bool) (rest : ℕ)
    → ((suc i when a otherwise suc j when b otherwise suc k when c otherwise suc l when d otherwise 0) or_else rest)
    ≡ (suc i when a otherwise suc j when b otherwise suc k when c otherwise suc l when d otherwise rest)
four_first i j k l true b c d rest = refl
four_first i j k l false true c d rest = refl
four_first i j k l false false true d rest = refl
four_first i j k l false false false true rest = refl
four_first i j k l false false false false rest = refl

key_first : (cap : ℕ) (key : Option Key) (kem kdf aead rest : ℕ)
    → (named_tests cap key kem kdf aead 0 or_else rest) ≡ named_tests cap key kem kdf aead rest
key_first cap none kem kdf aead rest = refl
key_first cap (some k) kem kdf aead rest =
    four_first 4 5 6 7 (not (eqb k.kem kem)) (not (offers kdf aead k)) k.retired (leb cap k.count) rest

-- the parts, one after the other
abbrev pub in_parts : Registry → Bool → List ℕ → ℕ → ℕ
in_parts registry full request room =
    request_refusal request
    or_else key_refusal registry.cap registry.keys (place_of_key (key_id_of request) registry.keys) (fields_of request)
    or_else room_refusal full room

-- they are 01's order
pub admit_order : (registry : Registry) (full : Bool) (request : List ℕ) (room : ℕ)
    → admit_refusal registry full request room ≡ in_parts registry full request room
unfolding admit_refusal request_refusal
admit_order registry full request room =
    let key = key_with (key_id_of request) registry.keys in
    sym (
    four_first 1 0 2 0 (ltb longest_request (length request)) (ltb (length request) head_length) (not (known_kem (kem_of request)))
    (ltb (length request) (shortest_request (kem_of request))) _
    ∙ ap (λ (rest : ℕ). 2 when ltb longest_request (length request) otherwise
    1 when ltb (length request) head_length otherwise
    3 when not (known_kem (kem_of request)) otherwise
    1 when ltb (length request) (shortest_request (kem_of request)) otherwise
    rest)
    (ap (λ (n : ℕ). n or_else room_refusal full room) (key_order (key_id_of request) registry.keys registry.cap (fields_of request))
    ∙ key_first registry.cap key (kem_of request) (kdf_of request) (aead_of request) (room_refusal full room))
    )
