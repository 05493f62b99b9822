-- Writing what was read by the layout gives the same bytes, where none was skipped: specs/Stated's WriteAfterRead.
-- Assumes nothing.
use Rattle.std.specs.Prelude.{flat_map, Result, Ok}
use Rattle.wire.specs.declared.refusal.Refusal.{Refusal}
use mathlib.Core.Path.{◌≡◌, refl, sym, ◌∙◌}
use mathlib.Core.Bool.{true, false}
use mathlib.Core.List.{List, [], ◌∷◌, ◌++◌}
use Prim.Native.Nat.{ℕ, zero, suc, ◌+◌, ◌*◌, ◌/◌, ◌%◌, ◌≤◌, ◌<◌}
use native.Mathlib.Nat.{add_assoc, add-zero}
use native.Mathlib.Numerals.{add-one}
use native.Mathlib.Omega.{arith}
use lib.Dec.{leb}
use lib.ListN.{length, drop, take-append-drop, length-append, length-drop, drop_of_length-le}
use lib.Seq.{length-take-le, take-append_seam, drop-append_seam, drop-drop, drop-cons}
use borrow.Author.Tests.{le-leb, lt-leb, eq-eqb}
use Rattle.wire.specs.Bytes.{byte_at, word_at, word_bytes, part}
use Rattle.listwriter.specs.Writer.{fault_of_given, words_bytes, behind_first}
use Rattle.wire.specs.Search.{among}
use Rattle.algorithms.specs.Sizes.{known_kem, public_key_length}
use Rattle.keylist.specs.Layout.{Configuration, length_at, key_id_at, kem_at, key_start, key_end, pair_bytes_at, pairs_at, pairs_start, next_start, configuration_at, pair_bytes_hold, parse_from, parse, most_configurations}
use Rattle.keylist.proofs.LayoutLaws.{Holds, held_not_skipped}
use Rattle.keylist.proofs.Parsing.{by_reading, holding, no_refusal, not_taken, skips_from, skips_one, skips_none}
use Rattle.listwriter.specs.Stated.{AreBytes, pair_numbers, ids_of, as_fields, WriteAfterRead}
use Rattle.listwriter.specs.Helpers.{first_length, first_bytes}
use Rattle.listwriter.proofs.FlatFields.{first_fault, encode_from, walk, same-fields, first-laid}
use Rattle.listwriter.proofs.Cutting.{encode_is_walk}

module _ (bytes : List ℕ) where
  -- what stands at an offset, as what is read there
  byte_back : (at : ℕ) → at < length bytes → drop at bytes ≡ byte_at bytes at ∷ drop (at + 1) bytes
  byte_back at h = rw (add-one, drop-cons bytes at 0)

  part_back : (at n : ℕ) → drop at bytes ≡ part bytes at n ++ drop (at + n) bytes
  part_back at n = rw (← drop-drop n at bytes) (sym (take-append-drop n (drop at bytes)))

  pairs_length : (n at : ℕ) → length (pair_numbers (pairs_at n bytes at)) ≡ n * 2
  unfolding pairs_at
  pairs_length zero at = refl
  pairs_length (suc n) at = omega (arith, pairs_length n (at + 4))

  module _ (all : AreBytes bytes) where
    word_back : (at : ℕ) → at + 2 ≤ length bytes → drop at bytes ≡ word_bytes (word_at bytes at) ++ drop (at + 2) bytes
    word_back at h =
        let high : word_at bytes at / 256 ≡ byte_at bytes at = omega (arith, all (at + 1)) in
        let low : word_at bytes at % 256 ≡ byte_at bytes (at + 1) = omega (arith, all (at + 1)) in
        rw (high, low, byte_back at (omega arith), byte_back (at + 1) (omega arith), add_assoc at 1 1)

    pairs_back : (n at : ℕ) → at + n * 4 ≤ length bytes
        → drop at bytes ≡ words_bytes (pair_numbers (pairs_at n bytes at)) ++ drop (at + n * 4) bytes
    unfolding pairs_at
    pairs_back zero at h = rw add-zero
    pairs_back (suc n) at h =
        let end : at + suc n * 4 ≡ at + 4 + n * 4 = omega arith in
        rw (end, ← pairs_back n (at + 4) (omega arith), word_back at (omega arith), word_back (at + 2) (omega arith), add_assoc at 2 2)

-- the first of some configurations as the first of their fields
enough : (front rest : List ℕ) → leb (length front) (length (front ++ rest)) ≡ true
enough front rest = le-leb (length front) (length (front ++ rest)) (rw length-append (omega arith))

module _ (c : Configuration) (cs : List Configuration) where
  behind-first : behind_first (as_fields (c ∷ cs)) ≡ as_fields cs
  behind-first =
      same-fields refl refl (drop-append_seam c.public_key (flat_map (λ c. c.public_key) cs)) refl
      (drop-append_seam (pair_numbers c.pairs) (flat_map (λ c. pair_numbers c.pairs) cs))

  first_holds : known_kem c.kem ≡ true → length c.public_key ≡ public_key_length c.kem
      → pair_bytes_hold (length (pair_numbers c.pairs) * 2) ≡ true
      → (taken : List ℕ) → length taken < most_configurations → among taken c.key_id ≡ false → first_fault taken c.key_id (as_fields (c ∷ cs)) ≡ 0
  unfolding fault_of_given
  first_holds known key pairs taken few fresh =
      rw (
        lt-leb most_configurations (length taken) few,
        fresh,
        known,
        eq-eqb (length c.public_key) (public_key_length c.kem) key,
        enough c.public_key (flat_map (λ c. c.public_key) cs),
        pairs,
        enough (pair_numbers c.pairs) (flat_map (λ c. pair_numbers c.pairs) cs),
      )

module _ (bytes : List ℕ) (all : AreBytes bytes) (at : ℕ) (says : Holds bytes at) (cs : List Configuration) where
  key-length : length (configuration_at bytes at).public_key ≡ public_key_length (kem_at bytes at)
  unfolding configuration_at
  key-length = length-take-le (public_key_length (kem_at bytes at)) (drop (key_start at) bytes) (rw length-drop (omega arith))

  pairs_size : length (pair_numbers (configuration_at bytes at).pairs) * 2 ≡ pair_bytes_at bytes at
  unfolding configuration_at
  pairs_size = omega (arith, pairs_length bytes (pair_bytes_at bytes at / 4) (pairs_start bytes at))

  head_written : drop at bytes ≡ (word_bytes (length_at bytes at) ++ key_id_at bytes at ∷ word_bytes (kem_at bytes at)) ++ drop (key_start at) bytes
  head_written =
      rw (word_back bytes all at (omega arith), byte_back bytes (at + 2) (omega arith), add_assoc at 2 1)
      (rw (word_back bytes all (at + 3) (omega arith), add_assoc at 3 2))

  tail_written : drop (key_start at) bytes
      ≡ (configuration_at bytes at).public_key ++ (word_bytes (pair_bytes_at bytes at)
      ++ (words_bytes (pair_numbers (configuration_at bytes at).pairs) ++ drop (next_start bytes at) bytes))
  unfolding configuration_at
  tail_written =
      let end : next_start bytes at ≡ pairs_start bytes at + pair_bytes_at bytes at / 4 * 4 = omega arith in
      rw (end, ← pairs_back bytes all (pair_bytes_at bytes at / 4) (pairs_start bytes at) (omega arith))
      (rw (← word_back bytes all (key_end bytes at) (omega arith)) (part_back bytes (key_start at) (public_key_length (kem_at bytes at))))

  size_written : first_length (as_fields (configuration_at bytes at ∷ cs)) ≡ length_at bytes at
  size_written = omega (arith, key-length, pairs_size)

  bytes_written : drop at bytes ≡ first_bytes (key_id_at bytes at) (as_fields (configuration_at bytes at ∷ cs)) ++ drop (next_start bytes at) bytes
  unfolding configuration_at
  bytes_written =
      rw (
        first-laid (key_id_at bytes at) (as_fields (configuration_at bytes at ∷ cs)) (drop (next_start bytes at) bytes),
        take-append_seam (configuration_at bytes at).public_key (flat_map (λ c. c.public_key) cs),
        take-append_seam (pair_numbers (configuration_at bytes at).pairs) (flat_map (λ c. pair_numbers c.pairs) cs),
        size_written,
        pairs_size,
        ← tail_written,
      )
      head_written

  write_first : (taken : List ℕ) → length taken < most_configurations → among taken (key_id_at bytes at) ≡ false
      → encode_from (taken ++ key_id_at bytes at ∷ []) (next_start bytes at) (ids_of cs) (as_fields cs) ≡ Ok (drop (next_start bytes at) bytes)
      → encode_from taken at (ids_of (configuration_at bytes at ∷ cs)) (as_fields (configuration_at bytes at ∷ cs)) ≡ Ok (drop at bytes)
  unfolding encode_from configuration_at
  write_first taken few fresh encoded =
      let none = first_holds (configuration_at bytes at) cs says.kem key-length (rw pairs_size says.pairs.0) taken few fresh in
      rw (bytes_written, none, size_written, behind-first (configuration_at bytes at) cs, encoded)

-- writing what was read from an offset gives the bytes from there on
write_from : (bytes : List ℕ) (more : ℕ) (taken : List ℕ) (at : ℕ) (cs : List Configuration) → AreBytes bytes → parse_from more taken bytes at ≡ Ok cs
    → length taken + more ≡ most_configurations → skips_from more bytes at ≡ 0 → encode_from taken at (ids_of cs) (as_fields cs) ≡ Ok (drop at bytes)
unfolding encode_from
write_from bytes more taken at cs all =
    by_reading bytes
    (λ more taken at cs.
    length taken + more ≡ most_configurations → skips_from more bytes at ≡ 0 → encode_from taken at (ids_of cs) (as_fields cs) ≡ Ok (drop at bytes))
    (λ more taken at h few none. rw (drop_of_length-le bytes h))
    (λ more taken at cs k parsed written few none. absurd (omega (arith, none, skips_one more bytes at k)))
    (λ more taken at cs g parsed written few none.
    let h = holding bytes taken at g in
    write_first bytes all at h cs taken (omega (arith, few)) (not_taken bytes taken at g)
    (written (rw length-append (omega (arith, few))) (sym (skips_none more bytes at (omega (arith, h.whole)) (held_not_skipped bytes at h)) ∙ none)))
    more taken at cs

pub write_after_read : WriteAfterRead
unfolding walk parse encode_from
write_after_read [] cs all none e = no_refusal e
write_after_read (b ∷ bytes) [] all none e =
    let written : ◌≡◌ {A = Result (List ℕ) Refusal} (Ok []) (Ok (b ∷ bytes)) = write_from (b ∷ bytes) most_configurations [] 0 [] all e refl none in
    absurd (let z : ◌≡◌ {A = ℕ} 0 1 = cc in omega arith)
write_after_read (b ∷ bytes) (c ∷ cs) all none e =
    encode_is_walk (ids_of (c ∷ cs)) (as_fields (c ∷ cs)) ∙ write_from (b ∷ bytes) most_configurations [] 0 (c ∷ cs) all e refl none
