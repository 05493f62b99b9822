-- The list writer's definition as a walk over the flat fields, which is how the code goes: the first configuration, the fields behind it,
-- and the bytes from an offset on. `Cutting` shows that both give the same.
-- Assumes nothing.
use Rattle.std.specs.Prelude.{Result, Ok, Err}
use Rattle.wire.specs.declared.refusal.Refusal.{Refusal}
use mathlib.Core.Path.{◌≡◌, refl}
use mathlib.Core.Bool.{Bool, true, false, not}
use mathlib.Core.List.{List, [], ◌∷◌, ◌++◌, append_assoc}
use Prim.Native.Nat.{ℕ, zero, suc, ◌+◌, ◌*◌, ◌<◌}
use native.Mathlib.Omega.{arith}
use lib.Dec.{eqb, leb}
use lib.ListN.{length, take, length-append}
use lib.Seq.{length-take-le}
use borrow.Author.Tests.{leb-true, leb-false, eqb-true, ne_eqb, not-false}
use Rattle.wire.specs.Tests.{pick, ◌and◌}
use Rattle.wire.specs.Search.{among}
use Rattle.wire.specs.Bytes.{word_bytes}
use Rattle.wire.specs.Refusals.{◌when◌otherwise◌, refused_at}
use Rattle.wire.proofs.Numbers.{not-refused}
use Rattle.listwriter.proofs.Words.{words_length}
use Rattle.algorithms.specs.Sizes.{known_kem, public_key_length}
use Rattle.keylist.specs.Layout.{most_configurations, pair_bytes_hold, unless_fault}
use Rattle.keylist.proofs.LayoutLaws.{both, PairBytes, pair-bytes}
use Rattle.keylist.proofs.Parsing.{no_refusal}
use Rattle.listwriter.specs.Helpers.{first_length, first_bytes, fault_of_first, first_key_end}
use Rattle.listwriter.specs.Writer.{Fields, first_kem, first_key_length, first_key, first_pair_count, first_pairs, behind_first, fault_of_given, none_left, words_bytes}

-- bytes in front of those that follow
abbrev pub in_front_of : List ℕ → Result (List ℕ) Refusal → Result (List ℕ) Refusal
in_front_of bytes (Ok more) = Ok (bytes ++ more)
in_front_of bytes (Err r) = Err r

-- its first fault, where these key ids are taken
abbrev pub first_fault : List ℕ → ℕ → Fields → ℕ
first_fault taken id f = fault_of_first (length taken) (among taken id) f

-- the bytes of the configurations from an offset on, where these key ids are taken
unfoldable pub encode_from : List ℕ → ℕ → List ℕ → Fields → Result (List ℕ) Refusal
encode_from taken at [] f = pick (none_left f) (Ok []) (Err (refused_at 19 at))
encode_from taken at (id ∷ ids) f =
    unless_fault at (first_key_end at f) (first_fault taken id f)
    (in_front_of (first_bytes id f) (encode_from (taken ++ id ∷ []) (at + 2 + first_length f) ids (behind_first f)))

-- a list is one configuration or more
unfoldable pub walk : List ℕ → Fields → Result (List ℕ) Refusal
walk [] f = Err (refused_at 18 0)
walk (id ∷ ids) f = encode_from [] 0 (id ∷ ids) f

pub same-fields : {f g : Fields} → f.kems ≡ g.kems → f.key_lengths ≡ g.key_lengths → f.keys ≡ g.keys → f.pair_counts ≡ g.pair_counts
    → f.pairs ≡ g.pairs → f ≡ g
same-fields a b c d e = λ i. record { kems = a i; key_lengths = b i; keys = c i; pair_counts = d i; pairs = e i }

-- the first configuration keeps the layout's rules
abbrev pub First : Fields → Type 0
First f =
    (known_kem (first_kem f) ≡ true) × ((first_key_length f ≡ public_key_length (first_kem f)) × ((length (first_key f) ≡ first_key_length f)
    × (PairBytes (first_pair_count f * 2) × (length (first_pairs f) ≡ first_pair_count f))))

all_there : (n : ℕ) (list : List ℕ) → leb n (length list) ≡ true → length (take n list) ≡ n
all_there n list e = length-take-le n list (leb-true n (length list) e)

-- no fault: it may still come, it keeps the rules, and its key id is not taken
pub first_says : (taken : List ℕ) (id : ℕ) (f : Fields) → first_fault taken id f ≡ 0
    → (length taken < most_configurations) × (First f × (among taken id ≡ false))
unfolding fault_of_given
first_says taken id f e =
    let known = known_kem (first_kem f) in
    let sized = eqb (first_key_length f) (public_key_length (first_kem f)) in
    let key_there = leb (first_key_length f) (length f.keys) in
    let ruled = pair_bytes_hold (first_pair_count f * 2) in
    let pairs_there = leb (first_pair_count f) (length f.pairs) in
    let twice = 21 when among taken id otherwise 0 in
    let pairs = 20 when not (ruled and pairs_there) otherwise twice in
    let key = 19 when not (sized and key_there) otherwise pairs in
    let a = not-refused 21 (leb most_configurations (length taken)) (3 when not known otherwise key) e in
    let b = not-refused 2 (not known) key a.1 in
    let c = not-refused 18 (not (sized and key_there)) pairs b.1 in
    let d = not-refused 19 (not (ruled and pairs_there)) twice c.1 in
    let g = not-refused 20 (among taken id) 0 d.1 in
    let (size, there) =
    both (eqb-true (first_key_length f) (public_key_length (first_kem f))) (all_there (first_key_length f) f.keys) (not-false (sized and key_there) c.0) in
    let (rule, numbers) = both (pair-bytes (first_pair_count f * 2)) (all_there (first_pair_count f) f.pairs) (not-false (ruled and pairs_there) d.0) in
    (leb-false most_configurations (length taken) a.0, ((not-false known b.0, (size, (there, (rule, numbers)))), g.0))

-- a configuration that keeps the rules is as long as its length says
pub first_size : (id : ℕ) (f : Fields) → First f → length (first_bytes id f) ≡ 2 + first_length f
first_size id f h =
    let (_, (_, (key, (_, pairs)))) = h in
    let words = words_length (first_pairs f) in
    simp (length-append, words_length) (omega arith)

-- the bytes of the first configuration and those behind it: the head, the key, and what follows the key
abbrev pub behind_key : Fields → List ℕ → List ℕ
behind_key f rest = word_bytes (first_pair_count f * 2) ++ (words_bytes (first_pairs f) ++ rest)

abbrev pub first_laid : ℕ → Fields → List ℕ → List ℕ
first_laid id f rest = (word_bytes (first_length f) ++ id ∷ word_bytes (first_kem f)) ++ (first_key f ++ behind_key f rest)

pub first-laid : (id : ℕ) (f : Fields) (rest : List ℕ) → first_bytes id f ++ rest ≡ first_laid id f rest
first-laid id f rest = simp append_assoc

-- nothing is left of two lists where nothing is left of each
pub none_of : (a b : List ℕ) → eqb (length (a ++ b)) 0 ≡ (eqb (length a) 0 and eqb (length b) 0)
none_of [] b = refl
none_of (n ∷ a) b = rw (ne_eqb (suc (length (a ++ b))) 0 (omega arith), ne_eqb (suc (length a)) 0 (omega arith))

-- a result comes from no refusal, so there was no fault on its way
pub front_given : (fault at end : ℕ) (front : List ℕ) (o : Result (List ℕ) Refusal) {bytes : List ℕ} → unless_fault at end fault (in_front_of front o) ≡ Ok bytes
    → (rest : List ℕ) × (fault ≡ 0) × (o ≡ Ok rest) × (front ++ rest ≡ bytes)
front_given zero at end front (Ok rest) e = (rest, refl, refl, cc)
front_given zero at end front (Err r) e = no_refusal e
front_given (suc n) at end front o e = no_refusal e

-- a result comes from no refusal, so the tests on its way held
pub end_given : {A : Type 0} (test : Bool) (at : ℕ) {found : List A} → pick test (Ok []) (Err (refused_at 19 at)) ≡ Ok found
    → (test ≡ true) × ([] ≡ found)
end_given true at e = (refl, cc)
end_given false at e = no_refusal e
