-- Reading by the layout gives back what was written: specs/Stated's ReadAfterWrite.
-- Assumes nothing.
use Rattle.std.specs.Prelude.{Ok}
use mathlib.Core.Path.{◌≡◌, refl, sym, ap, ap₂, ◌∙◌}
use mathlib.Core.Bool.{true, false}
use mathlib.Core.List.{List, [], ◌∷◌, ◌++◌, append_assoc}
use Prim.Native.Nat.{ℕ, zero, suc, ◌+◌, ◌*◌, ◌/◌, ◌≤◌}
use native.Mathlib.Nat.{add_assoc, add-zero, div-add-mod'}
use native.Mathlib.Omega.{arith}
use lib.Dec.{eqb}
use lib.ListN.{length, get_or, drop, take-append-drop, length-append, length-drop}
use lib.Seq.{take_at, drop_at, drop-drop, get_or-drop}
use borrow.Author.Tests.{le-leb, eq-eqb, eqb-true}
use Rattle.wire.specs.Bytes.{byte_at, word_at, word_bytes}
use Rattle.wire.specs.Search.{among}
use Rattle.listwriter.proofs.Words.{words_length}
use Rattle.wire.proofs.Booleans.{true_or_false}
use Rattle.algorithms.specs.Sizes.{known_kem, public_key_length}
use Rattle.algorithms.proofs.Stated.{known_numbers, size_bounds}
use Rattle.keylist.specs.Before.{layout_holds}
use Rattle.keylist.specs.Layout.{Configuration, length_at, key_id_at, kem_at, key_start, key_end, pair_bytes_at, pairs_at, pairs_start, configuration_at, parse_from, parse, most_configurations}
use Rattle.keylist.proofs.LayoutLaws.{both, held_not_skipped, holds}
use Rattle.keylist.proofs.Parsing.{no_refusal, parse_end, parse_more, skips_end, skips_none, skips_from}
use Rattle.listwriter.specs.Writer.{Fields, none_left, words_bytes, first_kem, first_key_length, first_key, first_pair_count, first_pairs, behind_first}
use Rattle.listwriter.specs.Stated.{pair_numbers, ids_of, as_fields, ReadAfterWrite}
use Rattle.listwriter.specs.Helpers.{first_key_end, first_length, first_bytes}
use Rattle.listwriter.proofs.FlatFields.{first_fault, encode_from, walk, same-fields, First, first_says, behind_key, first_laid, first-laid, none_of, front_given, end_given}
use Rattle.listwriter.proofs.Cutting.{encode_is_walk}

module _ (bytes : List ℕ) where
  -- what is read at an offset at which it stands written
  behind : (at n : ℕ) (front rest : List ℕ) → drop at bytes ≡ front ++ rest → length front ≡ n → drop (at + n) bytes ≡ rest
  behind at n front rest h e = rw (← drop-drop n at bytes, h) (drop_at front rest n e)

  byte_there : (at k : ℕ) (written : List ℕ) → drop at bytes ≡ written → byte_at bytes (at + k) ≡ byte_at written k
  byte_there at k written h = rw (← get_or-drop at bytes k 0, h)

  word_there : (at k : ℕ) (written : List ℕ) → drop at bytes ≡ written → word_at bytes (at + k) ≡ word_at written k
  word_there at k written h = rw (add_assoc at k 1, byte_there at k written h, byte_there at (k + 1) written h)

  word_first : (at n : ℕ) (rest : List ℕ) → drop at bytes ≡ word_bytes n ++ rest → word_at bytes at ≡ n
  word_first at n rest h = rw (add-zero at) at (word_there at 0 (word_bytes n ++ rest) h) ∙ div-add-mod' n 256

  pairs-there : (n at : ℕ) (numbers rest : List ℕ) → drop at bytes ≡ words_bytes numbers ++ rest → length numbers ≡ n * 2
      → pair_numbers (pairs_at n bytes at) ≡ numbers
  unfolding pairs_at
  pairs-there zero at [] rest h e = refl
  pairs-there zero at (a ∷ numbers) rest h e = absurd (omega arith)
  pairs-there (suc n) at [] rest h e = absurd (omega arith)
  pairs-there (suc n) at (a ∷ []) rest h e = absurd (omega arith)
  pairs-there (suc n) at (a ∷ b ∷ numbers) rest h e =
      let next : drop (at + 4) bytes ≡ words_bytes numbers ++ rest = behind at 4 (word_bytes a ++ word_bytes b) (words_bytes numbers ++ rest) h refl in
      rw (
        word_first at a (word_bytes b ++ words_bytes numbers ++ rest) h,
        word_there at 2 (words_bytes (a ∷ b ∷ numbers) ++ rest) h,
        div-add-mod' b 256,
        pairs-there n (at + 4) numbers rest next (omega arith),
      )

-- a list whose first number is not 0 has a first number; the KEM 0 is unknown
first_and_rest : (numbers : List ℕ) → (get_or numbers 0 0 ≡ 0 → ⊥) → get_or numbers 0 0 ∷ drop 1 numbers ≡ numbers
first_and_rest [] h = absurd (h refl)
first_and_rest (n ∷ numbers) h = refl

unknown_zero : known_kem 0 ≡ false
unknown_zero = known_numbers.kem 0

-- reading from an offset gives key ids and fields back
abbrev ReadBack : ℕ → List ℕ → List ℕ → ℕ → List ℕ → Fields → Type 0
ReadBack more taken bytes at ids f =
    (cs : List Configuration) × (parse_from more taken bytes at ≡ Ok cs) × (skips_from more bytes at ≡ 0) × (ids_of cs ≡ ids) × (as_fields cs ≡ f)

module _ (bytes : List ℕ) (at id : ℕ) (f : Fields) (rest : List ℕ) (says : First f) (there : drop at bytes ≡ first_laid id f rest) where
  size_read : length_at bytes at ≡ first_length f
  size_read = word_first bytes at (first_length f) (id ∷ word_bytes (first_kem f) ++ (first_key f ++ behind_key f rest)) there

  id_read : key_id_at bytes at ≡ id
  id_read = byte_there bytes at 2 (first_laid id f rest) there

  kem_read : kem_at bytes at ≡ first_kem f
  kem_read = word_there bytes at 3 (first_laid id f rest) there ∙ div-add-mod' (first_kem f) 256

  key-start : drop (key_start at) bytes ≡ first_key f ++ behind_key f rest
  key-start = behind bytes at 5 (word_bytes (first_length f) ++ id ∷ word_bytes (first_kem f)) (first_key f ++ behind_key f rest) there refl

  key_read : (configuration_at bytes at).public_key ≡ first_key f
  unfolding configuration_at
  key_read = rw (kem_read, key-start) (take_at (first_key f) (behind_key f rest) (public_key_length (first_kem f)) (omega arith))

  key-end : drop (key_end bytes at) bytes ≡ behind_key f rest
  key-end = rw kem_read (behind bytes (key_start at) (public_key_length (first_kem f)) (first_key f) (behind_key f rest) key-start (omega arith))

  pair_bytes_read : pair_bytes_at bytes at ≡ first_pair_count f * 2
  pair_bytes_read = word_first bytes (key_end bytes at) (first_pair_count f * 2) (words_bytes (first_pairs f) ++ rest) key-end

  pairs-start : drop (pairs_start bytes at) bytes ≡ words_bytes (first_pairs f) ++ rest
  pairs-start = behind bytes (key_end bytes at) 2 (word_bytes (first_pair_count f * 2)) (words_bytes (first_pairs f) ++ rest) key-end refl

  pairs_read : pair_numbers (configuration_at bytes at).pairs ≡ first_pairs f
  unfolding configuration_at
  pairs_read =
      rw pair_bytes_read
      (pairs-there bytes (first_pair_count f * 2 / 4) (pairs_start bytes at) (first_pairs f) rest pairs-start (omega arith))

  rest_read : drop (at + 2 + first_length f) bytes ≡ rest
  rest_read =
      let size = length (words_bytes (first_pairs f)) in
      let end : at + 2 + first_length f ≡ pairs_start bytes at + size = omega (arith, ap public_key_length kem_read, words_length (first_pairs f)) in
      rw end (behind bytes (pairs_start bytes at) size (words_bytes (first_pairs f)) rest pairs-start refl)

  inside : at + 2 + first_length f ≤ length bytes
  inside = omega (arith, words_length (first_pairs f), simp (length-drop, length-append) at (ap length there))

  layout_read : layout_holds bytes at ≡ true
  unfolding layout_holds
  layout_read =
      let (known, (_, (_, ((pairs_hold, _), _)))) = says in
      let sum : first_length f ≡ 5 + public_key_length (first_kem f) + first_pair_count f * 2 = omega arith in
      rw (size_read, le-leb (at + 2 + first_length f) (length bytes) inside, pair_bytes_read, kem_read, known)
      (rw (eq-eqb (first_length f) (5 + public_key_length (first_kem f) + first_pair_count f * 2) sum) pairs_hold)

  fields_read : (cs : List Configuration) → as_fields cs ≡ behind_first f → as_fields (configuration_at bytes at ∷ cs) ≡ f
  unfolding configuration_at
  fields_read cs e =
      let (known, (_, (key, (_, pairs)))) = says in
      same-fields
      (rw (kem_read, ap (λ g. g.kems) e) (first_and_rest f.kems (λ z. true_or_false (rw z at known) unknown_zero)))
      (rw (key_read, key, ap (λ g. g.key_lengths) e)
      (first_and_rest f.key_lengths (λ z. omega (arith, size_bounds.key_is_there (first_kem f) known))))
      (rw (key_read, ap (λ g. g.keys) e) (take-append-drop (first_key_length f) f.keys))
      (rw (pairs_read, pairs, ap (λ g. g.pair_counts) e) (first_and_rest f.pair_counts (λ z. omega arith)))
      (rw (pairs_read, ap (λ g. g.pairs) e) (take-append-drop (first_pair_count f) f.pairs))

  read_first : (more : ℕ) (taken ids : List ℕ) → among taken id ≡ false
      → ReadBack more (taken ++ id ∷ []) bytes (at + 2 + first_length f) ids (behind_first f) → ReadBack (suc more) taken bytes at (id ∷ ids) f
  unfolding configuration_at
  read_first more taken ids fresh (cs, parsed, none, same_ids, same_fields) = (
    configuration_at bytes at ∷ cs,
    rw (parse_more more taken bytes at (rw (layout_read, id_read, fresh)), id_read, size_read, parsed),
    skips_none more bytes at (omega (arith, inside)) (held_not_skipped bytes at (holds bytes at layout_read)) ∙ rw size_read none,
    ap₂ (λ i is. i ∷ is) id_read same_ids,
    fields_read cs same_fields,
  )

-- where nothing is left
empty : (numbers : List ℕ) → eqb (length numbers) 0 ≡ true → [] ≡ numbers
empty [] e = refl
empty (n ∷ numbers) e = absurd (omega (arith, eqb-true (length (n ∷ numbers)) 0 e))

none-left : (f : Fields) → none_left f ≡ true → as_fields [] ≡ f
none-left f h =
    let pairs = both (empty f.pair_counts) (empty f.pairs) in
    let each = both (empty f.kems) (both (empty f.key_lengths) (both (empty f.keys) pairs)) in
    let (kems, (lengths, (keys, (counts, numbers)))) = each (simp (append_assoc, none_of) at h) in
    same-fields kems lengths keys counts numbers

-- reading from an offset gives back what was written there
read-from : (more : ℕ) (taken bytes : List ℕ) (at : ℕ) (ids : List ℕ) (f : Fields)
    → length taken + more ≡ most_configurations → encode_from taken at ids f ≡ Ok (drop at bytes) → ReadBack more taken bytes at ids f
unfolding encode_from configuration_at
read-from more taken bytes at [] f few e =
    let (none, nothing) = end_given (none_left f) at e in
    let end : length bytes ≤ at = omega (arith, rw length-drop at (ap length nothing)) in
    ([], parse_end more taken bytes at end, skips_end more bytes at end, refl, none-left f none)
read-from zero taken bytes at (id ∷ ids) f few e =
    let encoded_rest = encode_from (taken ++ id ∷ []) (at + 2 + first_length f) ids (behind_first f) in
    let given = front_given (first_fault taken id f) at (first_key_end at f) (first_bytes id f) encoded_rest e in
    absurd (omega (arith, few, (first_says taken id f given.1).0))
read-from (suc more) taken bytes at (id ∷ ids) f few e =
    let encoded_rest = encode_from (taken ++ id ∷ []) (at + 2 + first_length f) ids (behind_first f) in
    let (rest, none, encoded, front) = front_given (first_fault taken id f) at (first_key_end at f) (first_bytes id f) encoded_rest e in
    let (_, (says, fresh)) = first_says taken id f none in
    let there = sym front ∙ first-laid id f rest in
    let next = rest_read bytes at id f rest says there in
    read_first bytes at id f rest says there more taken ids fresh
    (read-from more (taken ++ id ∷ []) bytes (at + 2 + first_length f) ids (behind_first f) (rw length-append (omega (arith, few))) (encoded ∙ ap Ok (sym next)))

pub read_after_write : ReadAfterWrite
unfolding walk parse
read_after_write [] f bytes e = no_refusal (sym (encode_is_walk [] f) ∙ e)
read_after_write (id ∷ ids) f [] e =
    let (cs, parsed, _, same_ids, _) = read-from most_configurations [] [] 0 (id ∷ ids) f refl (sym (encode_is_walk (id ∷ ids) f) ∙ e) in
    let nothing : [] ≡ cs = cc (parse_end most_configurations [] [] 0 (omega arith)) in
    absurd (omega (arith, ap length (rw (← nothing) at same_ids)))
read_after_write (id ∷ ids) f (b ∷ bytes) e = read-from most_configurations [] (b ∷ bytes) 0 (id ∷ ids) f refl (sym (encode_is_walk (id ∷ ids) f) ∙ e)
