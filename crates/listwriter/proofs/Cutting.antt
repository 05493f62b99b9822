-- Cutting the fields into configurations and writing each gives what the walk over the flat fields gives.
-- Assumes nothing.
use Rattle.std.specs.Prelude.{Result, Ok, Err}
use Rattle.wire.specs.declared.refusal.Refusal.{Refusal}
use mathlib.Core.Path.{◌≡◌, refl, sym, ap, ◌∙◌}
use mathlib.Core.Bool.{Bool, true, false}
use mathlib.Core.List.{List, [], ◌∷◌, ◌++◌, append_assoc, append-nil}
use Prim.Native.Nat.{ℕ, ◌+◌}
use native.Mathlib.Omega.{arith}
use lib.Dec.{eqb, leb}
use lib.ListN.{length, take, length-append, length-take}
use borrow.Author.Tests.{le-leb, lt-leb, leb-true, leb-false, eqb-true, eqb-false}
use Rattle.wire.specs.Tests.{pick}
use Rattle.wire.specs.Search.{among}
use Rattle.wire.specs.Refusals.{refused_at}
use Rattle.wire.proofs.Booleans.{either}
use Rattle.keylist.specs.Layout.{unless_fault}
use Rattle.keylist.proofs.Parsing.{refused-for}
use Rattle.listwriter.specs.Writer.{Fields, left_over, none_left, fault_of_given, cut, encode_behind, encode, first_kem, first_key_length, first_key, first_pair_count, first_pairs, behind_first}
use Rattle.listwriter.specs.Helpers.{first_key_end, first_length, first_bytes}
use Rattle.listwriter.proofs.FlatFields.{in_front_of, first_fault, encode_from, walk, first_says, first_size}

-- so many are there in a part of so many where they are in the whole
there : (n : ℕ) (xs : List ℕ) → leb n (length (take n xs)) ≡ leb n (length xs)
there n xs =
    either (leb n (length xs))
    (λ e. rw (e, le-leb n (length (take n xs)) (rw length-take (omega (arith, leb-true n (length xs) e)))))
    (λ e. rw (e, lt-leb n (length (take n xs)) (rw length-take (omega (arith, leb-false n (length xs) e)))))

fault_cut : (taken : List ℕ) (id : ℕ) (f : Fields)
    → fault_of_given (length taken) (among taken id) (first_kem f) (first_key_length f) (length (first_key f)) (first_pair_count f) (length (first_pairs f))
    ≡ first_fault taken id f
unfolding fault_of_given
fault_cut taken id f = rw (there (first_key_length f) f.keys, there (first_pair_count f) f.pairs)

front_front : (a b : List ℕ) (o : Result (List ℕ) Refusal) → in_front_of (a ++ b) o ≡ in_front_of a (in_front_of b o)
front_front a b (Ok bytes) = ap Ok (append_assoc a b bytes)
front_front a b (Err r) = refl

no_front : (o : Result (List ℕ) Refusal) → in_front_of [] o ≡ o
no_front (Ok bytes) = refl
no_front (Err r) = refl

-- where the key ids end
at-end : (left : Bool) (front taken : List ℕ)
    → encode_behind front taken (pick left [] (left_over ∷ [])) ≡ in_front_of front (pick left (Ok []) (Err (refused_at 19 (length front))))
unfolding encode_behind
at-end true front taken = ap Ok (sym (append-nil front))
at-end false front taken = refl

-- a fault is refused behind any front
fault_front : (front : List ℕ) (at end fault : ℕ) (o p : Result (List ℕ) Refusal) → (fault ≡ 0 → ⊥) → unless_fault at end fault o ≡ in_front_of front (unless_fault at end fault p)
fault_front front at end fault o p h = rw (refused-for at end fault o h, refused-for at end fault p h)

-- behind any front
cut_from : (front taken ids : List ℕ) (f : Fields) → encode_behind front taken (cut ids f) ≡ in_front_of front (encode_from taken (length front) ids f)
unfolding encode_behind cut encode_from
cut_from front taken [] f = at-end (none_left f) front taken
cut_from front taken (id ∷ ids) f =
    let first = first_bytes id f in
    let rest : ℕ → Result (List ℕ) Refusal = λ at. encode_from (taken ++ id ∷ []) at ids (behind_first f) in
    let next = cut_from (front ++ first) (taken ++ id ∷ []) ids (behind_first f) in
    rw (fault_cut taken id f)
    (either (eqb (first_fault taken id f) 0)
    (λ e.
    let none = eqb-true (first_fault taken id f) 0 e in
    let size = first_size id f (first_says taken id f none).1.0 in
    let end : length (front ++ first) ≡ length front + 2 + first_length f = rw (length-append front first, size) (omega arith) in
    rw none (next ∙ front_front front first (rest (length (front ++ first))) ∙ ap (λ (at : ℕ). in_front_of front (in_front_of first (rest at))) end))
    (λ e. fault_front front (length front) (first_key_end (length front) f) (first_fault taken id f) _ _ (eqb-false (first_fault taken id f) 0 e)))

-- for every key ids and fields
pub encode_is_walk : (ids : List ℕ) (f : Fields) → encode ids f ≡ walk ids f
unfolding encode walk
encode_is_walk [] f = refl
encode_is_walk (id ∷ ids) f = cut_from [] [] (id ∷ ids) f ∙ no_front (encode_from [] 0 (id ∷ ids) f)
