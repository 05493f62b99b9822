-- The statements of specs/Stated, proved.
-- Assumes nothing.
use Rattle.std.specs.List.{list_any}
use Rattle.std.proofs.Common.{◌||◌, ◌≡◌, refl, ◌∙◌, ℕ, ◌≤◌, ◌<◌, Bool, true, false, List, [], ◌∷◌, ◌++◌, map, Option, Some, None, is_some, option_map, find, IfSome, eqb, leb, ltb, arith, eq-eqb, leb-true, ltb-true}
use Rattle.wire.specs.Tests.{pick}
use Rattle.wire.specs.Search.{among}
use Rattle.wire.proofs.Booleans.{either, and_left, true_or_false}
use Rattle.algorithms.specs.declared.Kind.{Kind}
use Rattle.algorithms.specs.declared.Row.{Row}
use Rattle.algorithms.specs.Table.{table, row_in, row_of, same_kind, is_row}
use Rattle.algorithms.specs.Sizes.{size_in, known_kem, known_kdf, known_aead, enc_length, public_key_length, key_length}
use Rattle.algorithms.specs.Stated.{SizesOfThePaper, KnownNumbers, with_nenc, ReadFromTheTable, SizeBounds, size_bound}
use Rattle.algorithms.proofs.Rows.{of_row}

pub sizes_of_the_paper : SizesOfThePaper
unfolding enc_length public_key_length key_length row_of table
sizes_of_the_paper =
    record {
      nenc = refl;
      npk = refl;
      shortest = refl;
      nk = refl;
      nonce = refl;
    }

-- the numbers of the rows of a kind, in order
numbers_of : Kind → List Row → List ℕ
numbers_of kind [] = []
numbers_of kind (row ∷ rows) = pick (same_kind row.kind kind) (row.number ∷ numbers_of kind rows) (numbers_of kind rows)

-- a lookup finds a row exactly where the number is one of its kind's
found_among : (kind : Kind) (number : ℕ) (rows : List Row) → is_some (row_in rows kind number) ≡ among (numbers_of kind rows) number
unfolding numbers_of
found_among kind number [] = refl
found_among kind number (row ∷ rows) =
    either (same_kind row.kind kind)
    (λ k. either (eqb row.number number)
    (λ n. rw (k, n))
    (λ n. rw (k, n) (found_among kind number rows)))
    (λ k. rw k (found_among kind number rows))

pub known_numbers : KnownNumbers
unfolding known_kem known_kdf known_aead row_of table numbers_of
known_numbers =
    record {
      kem = λ n. found_among Kind.Kem n table;
      kdf = λ n. found_among Kind.Kdf n table;
      aead = λ n. found_among Kind.Aead n table;
      export_only = refl;
    }

same-kind : (kind : Kind) → same_kind kind kind ≡ true
same-kind Kind.Kem = refl
same-kind Kind.Kdf = refl
same-kind Kind.Aead = refl

-- a lookup looks at the first row, and then at the others
in_first : (test : Row → Bool) (row : Row) (rows : List Row) → find test (row ∷ rows) ≡ pick (test row) (Some row) (find test rows)
in_first test row rows = either (test row) (λ is. rw is) (λ is. rw is)

none_first : (is : Bool) {rest : Bool} → (is || rest) ≡ false → (is ≡ false) × (rest ≡ false)
none_first true h = absurd (true_or_false refl h)
none_first false h = (refl, h)

found_first : (test : Row → Bool) (before behind : List Row) (row : Row) → test row ≡ true → list_any test before ≡ false
    → find test (before ++ row ∷ behind) ≡ Some row
found_first test [] behind row passes h = in_first test row behind ∙ rw passes
found_first test (x ∷ before) behind row passes h =
    let is = none_first (test x) h in
    in_first test x (before ++ row ∷ behind) ∙ rw is.0 (found_first test before behind row passes is.1)

not_found : (test : Row → Bool) (rows : List Row) → list_any test rows ≡ false → find test rows ≡ None
not_found test [] h = refl
not_found test (row ∷ rows) h =
    let is = none_first (test row) h in
    in_first test row rows ∙ rw is.0 (not_found test rows is.1)

-- where the row is found, it is the changed one; else the others are looked at, changed
found_changed : (test : Row → Bool) (change : Row → Row) → ((row : Row) → test (change row) ≡ test row) → (rows : List Row)
    → find test (map change rows) ≡ option_map change (find test rows)
found_changed test change same [] = refl
found_changed test change same (row ∷ rows) =
    in_first test (change row) (map change rows)
    ∙ rw (same row, found_changed test change same rows, in_first test row rows)
    (either (test row) (λ is. rw is) (λ is. rw is))

-- a row is that of its kind and its number
own_row : (row : Row) → is_row row.kind row.number row ≡ true
own_row row = rw (same-kind row.kind, eq-eqb row.number row.number refl)

-- another Nenc leaves kind and number
same_number : (kem nenc : ℕ) (kind : Kind) (number : ℕ) (row : Row) → is_row kind number (with_nenc kem nenc row) ≡ is_row kind number row
same_number kem nenc kind number row = either (is_row Kind.Kem kem row) (λ is. rw is) (λ is. rw is)

pub read_from_the_table : ReadFromTheTable
unfolding known_kem known_kdf known_aead enc_length public_key_length key_length row_of
read_from_the_table =
    record {
      kem_sizes = λ number. (refl, refl, refl);
      shortest_requests = λ number. refl;
      kdf_known = λ number. refl;
      aead_sizes = λ number. (refl, refl);
      response_nonces = λ number. refl;
      found = λ before behind row none. found_first (is_row row.kind row.number) before behind row (own_row row) none;
      unknown = λ rows kind number none. not_found (is_row kind number) rows none;
      nenc_changed = λ rows kem nenc kind number. found_changed (is_row kind number) (with_nenc kem nenc) (same_number kem nenc kind number) rows;
      found_by = λ test before behind row passes none. found_first test before behind row passes none;
      unknown_by = λ test rows none. not_found test rows none;
      nenc_changed_by = λ test rows kem nenc same. found_changed test (with_nenc kem nenc) same rows;
    }

no-key : (row : Option Row) → is_some row ≡ false → size_in (λ r. r.public_key) row ≡ 0
no-key None h = refl
no-key (Some row) h = absurd (true_or_false refl h)

-- each test below passes at every row, computed over the table
module _ (number : ℕ) where
  key : (row : Option Row) → IfSome row (λ row. (pick (same_kind row.kind Kind.Kem) (ltb 0 row.public_key) true ≡ true) × (is_row Kind.Kem number row ≡ true))
      → is_some row ≡ true → 0 < size_in (λ r. r.public_key) row
  key None h is = absurd (true_or_false is refl)
  key (Some row) h is = ltb-true _ _ (rw (and_left (same_kind row.kind Kind.Kem) (eqb row.number number) h.1) at h.0)

  longest_key : (row : Option Row) → IfSome row (λ row. (leb row.public_key size_bound ≡ true) × (is_row Kind.Kem number row ≡ true)) → size_in (λ r. r.public_key) row ≤ size_bound
  longest_key None h = omega arith
  longest_key (Some row) h = leb-true _ _ h.0

  longest_nk : (row : Option Row) → IfSome row (λ row. (leb row.key size_bound ≡ true) × (is_row Kind.Aead number row ≡ true)) → size_in (λ r. r.key) row ≤ size_bound
  longest_nk None h = omega arith
  longest_nk (Some row) h = leb-true _ _ h.0

pub size_bounds : SizeBounds
unfolding known_kem public_key_length key_length table
size_bounds =
    record {
      key_is_there = λ n h. key n (row_of Kind.Kem n) (of_row (λ row. pick (same_kind row.kind Kind.Kem) (ltb 0 row.public_key) true) refl Kind.Kem n) h;
      no_key_unknown = λ n h. no-key (row_of Kind.Kem n) h;
      key_bound = λ n. longest_key n (row_of Kind.Kem n) (of_row (λ row. leb row.public_key size_bound) refl Kind.Kem n);
      nonce_bound = λ n. let h : size_in (λ r. r.key) (row_of Kind.Aead n) ≤ size_bound = longest_nk n (row_of Kind.Aead n) (of_row (λ row. leb row.key size_bound) refl Kind.Aead n) in omega arith;
    }
