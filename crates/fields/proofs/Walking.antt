-- The reader, called until the end.
-- Assumes nothing.
use mathlib.Core.Path.{◌≡◌, refl, sym, ap, ◌∙◌}
use mathlib.Core.List.{List, [], ◌∷◌, map}
use Prim.Native.Nat.{ℕ, zero, suc, ◌+◌, ◌≤◌, ◌<◌}
use native.Mathlib.Omega.{arith}
use borrow.Author.Tests.{le-leb, lt-leb, leb-false}
use lib.Dec.{leb}
use lib.ListN.{length}
use Rattle.wire.proofs.Booleans.{either}
use Rattle.fields.specs.Fields.{field_at, fields_from}
use Rattle.std.specs.Prelude.{Result, Ok, Err}
use Rattle.fields.specs.Parts.{prefixed_at}
use Rattle.fields.specs.Reader.{field_bytes, fields_left, name_in, next_field, place_behind, value_in, ReaderGivesTheFields, walked}
use Rattle.fields.specs.declared.fault.BadMessage.{BadMessage}
use Rattle.fields.specs.declared.field.Field.{Field}
use Rattle.fields.proofs.Readings.{prefixed_inside, same_good, then_good}
use Rattle.fields.proofs.Sections.{field_inside, field-parts, fields_end, name_lies, value_lies}

-- a field that was judged lies as its lengths say
next_is : (bytes : List ℕ) (at : ℕ) (field : Field) → field_at bytes at ≡ Ok field → next_field bytes at ≡ Ok field
unfolding next_field
next_is bytes at field e =
    let parts = field-parts bytes at field e in
    rw (name_lies bytes at field.name parts.0, value_lies bytes field.name.end field.value parts.1)

-- at the end there is nothing to walk
walked_end : (turns : ℕ) (bytes : List ℕ) (at : ℕ) → length bytes ≤ at → walked turns bytes at ≡ []
unfolding walked
walked_end zero bytes at h = refl
walked_end (suc turns) bytes at h = rw (le-leb (length bytes) at h)

-- before it a turn gives the next field
walked_next : (turns : ℕ) (bytes : List ℕ) (at : ℕ) → at < length bytes
    → walked (suc turns) bytes at
    ≡ (name_in bytes (next_field bytes at), value_in bytes (next_field bytes at)) ∷ walked turns bytes (place_behind bytes (next_field bytes at))
unfolding walked
walked_next turns bytes at h = rw (lt-leb (length bytes) at h)

-- the reader's turns, where there are enough of them and of the definition's
walks : (more turns : ℕ) (bytes : List ℕ) (at : ℕ) (fields : List Field) → length bytes ≤ more + at → length bytes ≤ turns + at
    → fields_from more bytes at ≡ Ok fields → walked turns bytes at ≡ map (field_bytes bytes) fields
unfolding fields_from walked
walks zero turns bytes at fields enough more e = walked_end turns bytes at (omega arith) ∙ ap (map (field_bytes bytes)) (same_good e)
walks (suc more) zero bytes at fields enough enough' e =
    let none : [] ≡ fields = same_good (sym (fields_end bytes at (suc more) (omega arith)) ∙ e) in
    ap (map (field_bytes bytes)) none
walks (suc more) (suc turns) bytes at fields enough enough' e =
    either (leb (length bytes) at)
    (λ t. let none : [] ≡ fields = same_good (rw t at e) in rw t (ap (map (field_bytes bytes)) none))
    (λ t.
    let first = then_good (field_at bytes at) _ (rw t at e) in
    let rest = then_good (fields_from more bytes first.0.value.end) _ first.2 in
    let all : first.0 ∷ rest.0 ≡ fields = same_good rest.2 in
    let inside = field_inside bytes at first.0 first.1 in
    let turn : walked (suc turns) bytes at ≡ field_bytes bytes first.0 ∷ walked turns bytes first.0.value.end =
    rw (t, next_is bytes at first.0 first.1) in
    turn
    ∙ ap (λ (pairs : List (List ℕ × List ℕ)). field_bytes bytes first.0 ∷ pairs)
    (walks more turns bytes first.0.value.end rest.0 (omega (arith, inside)) (omega (arith, inside)) rest.1)
    ∙ ap (map (field_bytes bytes)) all)

-- behind the place, or at the end
moves-on : (bytes : List ℕ) (at : ℕ) → at < length bytes → at < place_behind bytes (next_field bytes at)
unfolding next_field
moves-on bytes at h = by_reading (next_field bytes at) refl
  where
    by_reading : (reading : Result Field BadMessage) → next_field bytes at ≡ reading → at < place_behind bytes reading
    by_reading (Err bad) e = h
    by_reading (Ok field) e =
        let name = then_good (prefixed_at bytes at at) _ e in
        let value = then_good (prefixed_at bytes name.0.end name.0.end) _ name.2 in
        let whole : ◌≡◌ {A = Field} (record { name = name.0; value = value.0 }) field = same_good value.2 in
        let ends : field.value.end ≡ value.0.end = ap (λ (f : Field). f.value.end) (sym whole) in
        let first = prefixed_inside bytes at at name.0 name.1 in
        let second = prefixed_inside bytes name.0.end name.0.end value.0 value.1 in
        omega (arith, ends, first, second)

-- however many turns there are beyond those that it needs
same_turns : (m n : ℕ) (bytes : List ℕ) (at : ℕ) → length bytes ≤ m + at → length bytes ≤ n + at → walked m bytes at ≡ walked n bytes at
unfolding walked
same_turns zero n bytes at enough enough' = sym (walked_end n bytes at (omega arith))
same_turns (suc m) zero bytes at enough enough' = walked_end (suc m) bytes at (omega arith)
same_turns (suc m) (suc n) bytes at enough enough' =
    either (leb (length bytes) at)
    (λ t. rw t)
    (λ t.
    let on = moves-on bytes at (leb-false (length bytes) at t) in
    rw (t, same_turns m n bytes (place_behind bytes (next_field bytes at)) (omega arith) (omega arith)))

-- what the reader gives from a place on: nothing at the end, else the next field and what it gives from the place behind it
module _ (bytes : List ℕ) (at : ℕ) where
  pub left_end : length bytes ≤ at → fields_left bytes at ≡ []
  left_end = walked_end (length bytes) bytes at

  pub left_next : at < length bytes
      → fields_left bytes at
      ≡ (name_in bytes (next_field bytes at), value_in bytes (next_field bytes at)) ∷ fields_left bytes (place_behind bytes (next_field bytes at))
  left_next h =
      same_turns (length bytes) (suc (length bytes)) bytes at (omega arith) (omega arith) ∙ walked_next (length bytes) bytes at h

pub reader_gives_the_fields : ReaderGivesTheFields
reader_gives_the_fields =
    record {
      fields = λ bytes at turns fields h e. walks (length bytes) turns bytes at fields (omega arith) h e;
      moves_on = λ bytes at h. moves-on bytes at h;
    }
