-- The walk over what is left of the fields: how encoding goes on behind so many key ids, and what that says of the next configuration.
-- Assumes nothing.
use Rattle.std.specs.Prelude.{Result, Ok, Err}
use Rattle.wire.specs.declared.refusal.Refusal.{Refusal}
use mathlib.Core.Path.{◌≡◌, refl, sym, ap, subst, ◌∙◌}
use mathlib.Core.List.{List, [], ◌∷◌, ◌++◌}
use Prim.Native.Nat.{ℕ, zero, suc, ◌+◌, ◌*◌, ◌≤◌, ◌<◌}
use native.Mathlib.Numerals.{add-one}
use native.Mathlib.Omega.{arith}
use lib.ListN.{length, get_or, take, drop, length-drop, length-take, length-append, drop_of_length-le}
use lib.Seq.{drop-cons, take-suc, take-add, take-append_seam, length-take-le}
use Rattle.wire.specs.Tests.{pick}
use Rattle.wire.specs.Bytes.{with_front}
use Rattle.wire.specs.Helpers.{overwritten}
use Rattle.wire.specs.Refusals.{refused_at}
use Rattle.wire.specs.Search.{among}
use Rattle.wire.proofs.Writes.{front_more}
use Rattle.algorithms.specs.Stated.{size_bound}
use Rattle.algorithms.proofs.Stated.{size_bounds}
use Rattle.keylist.specs.Layout.{most_configurations, unless_fault}
use Rattle.keylist.proofs.Parsing.{no_refusal}
use Rattle.listwriter.specs.Writer.{Fields, first_kem, behind_first, none_left, encode}
use Rattle.listwriter.specs.Helpers.{HasSizes, first_key_end, first_checked, length_written, first_length, first_bytes}
use Rattle.listwriter.proofs.FlatFields.{First, first_fault, in_front_of, encode_from, walk, first_says, first_size, front_given, end_given}
use Rattle.listwriter.proofs.Cutting.{encode_is_walk}

-- the sizes of a configuration that keeps the rules
pub first_sizes : (f : Fields) → First f → HasSizes f
first_sizes f h =
    let (_, (size, (key, ((_, (_, (_, most))), pairs)))) = h in
    record {
      key_bound = omega (arith, size_bounds.key_bound (first_kem f));
      pair_bound = omega arith;
      keys = omega (arith, rw length-take at key);
      pairs = omega (arith, rw length-take at pairs);
    }

-- encoding starts with the walk, where there is a key id
pub encode_some : (ids : List ℕ) (f : Fields) → 0 < length ids → encode ids f ≡ encode_from [] 0 ids f
unfolding walk
encode_some [] f h = absurd (omega arith)
encode_some (id ∷ ids) f h = encode_is_walk (id ∷ ids) f

pub encode_none : (ids : List ℕ) (f : Fields) → length ids ≡ 0 → encode ids f ≡ Err (refused_at 18 0)
unfolding encode
encode_none [] f h = refl
encode_none (id ∷ ids) f h = absurd (omega arith)

-- an encoding that goes well is of some key ids
pub some_ids : (ids : List ℕ) (f : Fields) (bytes : List ℕ) → encode ids f ≡ Ok bytes → 0 < length ids
unfolding encode
some_ids [] f bytes e = no_refusal e
some_ids (id ∷ ids) f bytes e = omega arith

-- by a fault, whatever would follow: with none it goes on, with one it is refused
passes : (at end n : ℕ) → unless_fault {A = Unit {0}} at end n (Ok tt) ≡ Ok tt → n ≡ 0
passes at end zero e = refl
passes at end (suc n) e = cc

refuses : {A : Type 0} (at end n : ℕ) (result : Result A Refusal) (r : Refusal) → unless_fault {A = Unit {0}} at end n (Ok tt) ≡ Err r
    → unless_fault at end n result ≡ Err r
refuses at end zero result r e = cc
refuses at end (suc n) result r e = cc

-- the encoding behind so many key ids, of the fields that are left
abbrev pub encode_at : List ℕ → ℕ → ℕ → Fields → Result (List ℕ) Refusal
encode_at ids i at f = encode_from (take i ids) at (drop i ids) f

-- its first configuration's key id, and whether that is taken
abbrev pub id_at : List ℕ → ℕ → ℕ
id_at ids i = get_or ids i 0

-- the encoding behind that configuration
abbrev pub encode_next : List ℕ → ℕ → ℕ → Fields → Result (List ℕ) Refusal
encode_next ids i at f = encode_at ids (i + 1) (at + 2 + first_length f) (behind_first f)

module _ (ids : List ℕ) (i at : ℕ) (f : Fields) where
  abbrev pub fault : ℕ
  fault = first_fault (take i ids) (id_at ids i) f

  pub at-end : length ids ≤ i → encode_at ids i at f ≡ pick (none_left f) (Ok []) (Err (refused_at 19 at))
  unfolding encode_from
  at-end h = rw (drop_of_length-le ids h)

  module _ (h : i < length ids) where
    at_step : encode_at ids i at f ≡ unless_fault at (first_key_end at f) fault (in_front_of (first_bytes (id_at ids i) f) (encode_next ids i at f))
    unfolding encode_from
    at_step =
        let taken : take (i + 1) ids ≡ take i ids ++ id_at ids i ∷ [] = rw (add-one i) (take-suc ids i 0 h) in
        rw (taken, drop-cons ids i 0 h, add-one i)

    before : length (take i ids) ≡ i
    before = length-take-le i ids (omega arith)

    -- what the check of the first configuration says
    pub at_refused : (r : Refusal) → first_checked at i (among (take i ids) (id_at ids i)) f ≡ Err r → encode_at ids i at f ≡ Err r
    at_refused r e = at_step ∙ refuses at (first_key_end at f) fault _ r (rw before e)

    pub at_passed : first_checked at i (among (take i ids) (id_at ids i)) f ≡ Ok tt → fault ≡ 0
    at_passed e = passes at (first_key_end at f) fault (rw before e)

    module _ (none : fault ≡ 0) where
      pub at_says : (i < most_configurations) × First f
      at_says =
          let (few, (is, _)) = first_says (take i ids) (id_at ids i) f none in
          (omega (arith, before), is)

      pub at_more : encode_at ids i at f ≡ in_front_of (first_bytes (id_at ids i) f) (encode_next ids i at f)
      at_more = at_step ∙ rw none

-- the length, with so many bytes before
unfoldable pub length_from : ℕ → Result (List ℕ) Refusal → Result ℕ Refusal
length_from n (Ok bytes) = Ok (n + length bytes)
length_from n (Err r) = Err r

pub length_from_none : (o : Result (List ℕ) Refusal) → length_written o ≡ length_from 0 o
unfolding length_from
length_from_none (Ok bytes) = ap Ok (omega arith)
length_from_none (Err r) = refl

length_from_more : (n : ℕ) (front : List ℕ) (o : Result (List ℕ) Refusal) → length_from n (in_front_of front o) ≡ length_from (n + length front) o
unfolding length_from
length_from_more n front (Ok bytes) = ap Ok (simp length-append (omega arith))
length_from_more n front (Err r) = refl

-- where the first walk stands: the answer is the offset and what is left encodes to, and the numbers are small
pub record Measuring (ids : List ℕ) (start : Fields) (i at : ℕ) (f : Fields) : Type 0 where
  pub limit : i ≤ most_configurations
  pub place : at ≤ i * (7 + size_bound + 64)
  pub rest : length_written (encode ids start) ≡ length_from at (encode_at ids i at f)

pub measuring_start : (ids : List ℕ) (f : Fields) → 0 < length ids → Measuring ids f 0 0 f
measuring_start ids f h =
    record { limit = omega arith; place = omega arith; rest = length_from_none (encode ids f) ∙ ap (length_from 0) (encode_some ids f h) }

module _ {ids : List ℕ} {start : Fields} {i at : ℕ} {f : Fields} (w : Measuring ids start i at f) where
  pub measured : length ids ≤ i → length_written (encode ids start) ≡ length_from at (pick (none_left f) (Ok []) (Err (refused_at 19 at)))
  measured h = w.rest ∙ ap (length_from at) (at-end ids i at f h)

  module _ (h : i < length ids) where
    pub measuring_refused : (r : Refusal) → first_checked at i (among (take i ids) (id_at ids i)) f ≡ Err r → length_written (encode ids start) ≡ Err r
    unfolding length_from
    measuring_refused r e = w.rest ∙ rw (at_refused ids i at f h r e)

    module _ (passed : first_checked at i (among (take i ids) (id_at ids i)) f ≡ Ok tt) where
      none : fault ids i at f ≡ 0
      none = at_passed ids i at f h passed

      pub measuring_sizes : (i < most_configurations) × HasSizes f
      measuring_sizes = let says = at_says ids i at f h none in (says.0, first_sizes f says.1)

      pub measuring_more : Measuring ids start (i + 1) (at + 2 + first_length f) (behind_first f)
      measuring_more =
          let front = first_bytes (id_at ids i) f in
          let says = at_says ids i at f h none in
          let sizes = first_sizes f says.1 in
          let size = first_size (id_at ids i) f says.1 in
          let sum : at + length front ≡ at + 2 + first_length f = omega arith in
          let next = encode_next ids i at f in
          record {
            limit = omega arith;
            place = omega (arith, w.place);
            rest = w.rest ∙ ap (length_from at) (at_more ids i at f h none) ∙ length_from_more at front next ∙ ap (λ (n : ℕ). length_from n next) sum;
          }

-- where encoding goes well and a configuration is left, it has no fault and the bytes behind it are those of the others
pub record MoreGood (ids : List ℕ) (i at : ℕ) (f : Fields) (bytes : List ℕ) : Type 0 where
  pub holding : First f
  pub rest : List ℕ
  pub encoded : encode_next ids i at f ≡ Ok rest
  pub split : bytes ≡ first_bytes (id_at ids i) f ++ rest

module _ (ids : List ℕ) (i at : ℕ) (f : Fields) (bytes : List ℕ) (e : encode_at ids i at f ≡ Ok bytes) where
  pub more_good : i < length ids → MoreGood ids i at f bytes
  more_good h =
      let front = first_bytes (id_at ids i) f in
      let (rest, none, encoded, split) = front_given (fault ids i at f) at (first_key_end at f) front (encode_next ids i at f) (sym (at_step ids i at f h) ∙ e) in
      record { holding = (at_says ids i at f h none).1; rest = rest; encoded = encoded; split = sym split }

  pub end_good : length ids ≤ i → bytes ≡ []
  end_good h = sym (end_given (none_left f) at (sym (at-end ids i at f h) ∙ e)).1

-- one more configuration at the front of the buffer
pub written_more : (bytes buffer : List ℕ) (at : ℕ) (front rest : List ℕ) → drop at bytes ≡ front ++ rest → at ≤ length bytes
    → length bytes ≤ length buffer
    → overwritten (with_front (take at bytes) buffer) at front ≡ with_front (take (at + length front) bytes) buffer
written_more bytes buffer at front rest e h l =
    let size : length (take at bytes) ≡ at = length-take-le at bytes h in
    let room : at + length front ≤ length bytes = omega (arith, simp (length-drop, length-append) at (ap length e)) in
    let more : take (at + length front) bytes ≡ take at bytes ++ front =
    take-add at (length front) bytes ∙ rw (e, take-append_seam front rest) in
    rw more (subst (λ (n : ℕ). overwritten (with_front (take at bytes) buffer) n front ≡ with_front (take at bytes ++ front) buffer) size
    (front_more (take at bytes) front buffer (omega arith)))
