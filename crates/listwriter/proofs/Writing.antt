-- The list writer's second walk, over fields that are known to make a list that fits: what stands in the buffer at each index.
-- Assumes nothing.
use Rattle.std.specs.Prelude.{Result, Ok, Err, IsOkAnd}
use Rattle.wire.specs.declared.refusal.Refusal.{Refusal}
use mathlib.Core.Path.{◌≡◌, refl, sym, ap, ◌∙◌}
use mathlib.Core.List.{List, []}
use Prim.Native.Nat.{ℕ, ◌+◌, ◌≤◌, ◌<◌}
use native.Mathlib.Omega.{arith}
use borrow.Author.Tests.{le-leb}
use lib.ListN.{length, take, drop, length-drop, length-take, length-append}
use lib.Seq.{take_all, drop_at, drop-drop}
use Rattle.wire.specs.Bytes.{with_front}
use Rattle.wire.specs.Helpers.{overwritten}
use Rattle.wire.proofs.Writes.{front_length}
use Rattle.listwriter.specs.Writer.{Fields, behind_first, encode, written_to}
use Rattle.listwriter.specs.Helpers.{HasSizes, first_bytes, first_length}
use Rattle.listwriter.proofs.FlatFields.{first_size}
use Rattle.listwriter.proofs.FieldsWalk.{first_sizes, encode_at, id_at, MoreGood, more_good, end_good, written_more, encode_some, some_ids}

pub record Writing (ids : List ℕ) (start : Fields) (before buffer : List ℕ) (i at : ℕ) (f : Fields) : Type 0 where
  pub bytes : List ℕ
  pub encoded : encode ids start ≡ Ok bytes
  pub room : length bytes ≤ length before
  pub reached : at ≤ length bytes
  pub rest : encode_at ids i at f ≡ Ok (drop at bytes)
  pub front : buffer ≡ with_front (take at bytes) before

-- what went well, with what holds of it
some_bytes : {P : List ℕ → Type 0} (outcome : Result (List ℕ) Refusal) → IsOkAnd outcome P → (bytes : List ℕ) × (outcome ≡ Ok bytes) × P bytes
some_bytes (Ok bytes) h = (bytes, refl, h)
some_bytes (Err r) h = absurd h

pub writing_start : (ids : List ℕ) (f : Fields) (buffer : List ℕ) → IsOkAnd (encode ids f) (λ bytes. length bytes ≤ length buffer) → Writing ids f buffer buffer 0 0 f
writing_start ids f buffer h =
    let (bytes, e, room) = some_bytes (encode ids f) h in
    record {
      bytes = bytes;
      encoded = e;
      room = room;
      reached = omega arith;
      rest = sym (encode_some ids f (some_ids ids f bytes e)) ∙ e;
      front = refl;
    }

module _ {ids : List ℕ} {start : Fields} {before buffer : List ℕ} {i at : ℕ} {f : Fields} (w : Writing ids start before buffer i at f) where
  pub buffer-length : length buffer ≡ length before
  buffer-length = ap length w.front ∙ front_length (take at w.bytes) before (rw length-take (omega (arith, w.room)))

  pub writing_end : length ids ≤ i → buffer ≡ written_to before (encode ids start)
  writing_end h =
      let none : drop at w.bytes ≡ [] = end_good ids i at f (drop at w.bytes) w.rest h in
      let all : length w.bytes ≤ at = omega (arith, rw length-drop at (ap length none)) in
      rw (w.encoded, le-leb (length w.bytes) (length before) w.room) (w.front ∙ rw (take_all at w.bytes all))

  module _ (h : i < length ids) where
    more : MoreGood ids i at f (drop at w.bytes)
    more = more_good ids i at f (drop at w.bytes) w.rest h

    size : length (first_bytes (id_at ids i) f) ≡ 2 + first_length f
    size = first_size (id_at ids i) f more.holding

    reaches : at + 2 + first_length f ≤ length w.bytes
    reaches =
        let front = first_bytes (id_at ids i) f in
        omega (arith, size, w.reached, length-drop at w.bytes, ap length more.split ∙ length-append front more.rest)

    -- the configuration at the index: its sizes, and that there is room for it
    pub writing_sizes : HasSizes f
    writing_sizes = first_sizes f more.holding

    pub writing_room : at + 2 + first_length f ≤ length buffer
    writing_room = omega (arith, reaches, w.room, buffer-length)

    pub writing_more : (next : List ℕ) → next ≡ overwritten buffer at (first_bytes (id_at ids i) f)
        → Writing ids start before next (i + 1) (at + 2 + first_length f) (behind_first f)
    writing_more next e =
        let front = first_bytes (id_at ids i) f in
        let end : at + length front ≡ at + 2 + first_length f = omega (arith, size) in
        let behind : drop (at + 2 + first_length f) w.bytes ≡ more.rest =
        rw (← end, ← drop-drop (length front) at w.bytes, more.split) (drop_at front more.rest (length front) refl) in
        record {
          bytes = w.bytes;
          encoded = w.encoded;
          room = w.room;
          reached = reaches;
          rest = rw behind more.encoded;
          front = rw (e, w.front, ← end) (written_more w.bytes before at front more.rest more.split w.reached w.room);
        }
