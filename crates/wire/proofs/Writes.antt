-- Laws of writes into a buffer: past its end, at its front, and further parts behind the front.
-- Assumes nothing.
use mathlib.Core.Path.{◌≡◌, refl, sym, ap, ◌∙◌}
use mathlib.Core.List.{List, [], ◌++◌, append-nil, append_assoc}
use Prim.Native.Nat.{ℕ, ◌+◌, ◌≤◌}
use native.Mathlib.Nat.{zero-add, add_assoc}
use native.Mathlib.Omega.{arith}
use lib.ListN.{length, take, drop, length-append, length-drop, length-take}
use lib.Seq.{paste-zero, take-length, drop-length, take-append_seam, drop-append-add, drop-drop}
use Rattle.wire.specs.Bytes.{with_front}
use Rattle.wire.specs.Helpers.{room_for, overwritten}

-- past the end nothing is written
pub overwritten_beyond : (buffer : List ℕ) (at : ℕ) (bytes : List ℕ) → length buffer ≤ at → overwritten buffer at bytes ≡ buffer
overwritten_beyond buffer at bytes h =
    let e : room_for buffer at bytes ≡ 0 = omega arith in
    rw e (sym (paste-zero buffer at bytes))

-- no bytes: nothing is written
pub overwritten_none : (buffer : List ℕ) (at : ℕ) → overwritten buffer at [] ≡ buffer
overwritten_none buffer at =
    let e : room_for buffer at [] ≡ 0 = omega arith in
    rw e (sym (paste-zero buffer at []))

-- where there is room, all is written
pub overwritten_all : (buffer : List ℕ) (at : ℕ) (bytes : List ℕ) → at + length bytes ≤ length buffer
    → overwritten buffer at bytes ≡ take at buffer ++ bytes ++ drop (at + length bytes) buffer
overwritten_all buffer at bytes h =
    let e : room_for buffer at bytes ≡ length bytes = omega arith in
    rw (e, take-length)

-- a write leaves the buffer's length
pub overwritten-length : (buffer : List ℕ) (at : ℕ) (bytes : List ℕ) → at + length bytes ≤ length buffer
    → length (overwritten buffer at bytes) ≡ length buffer
overwritten-length buffer at bytes h =
    rw (overwritten_all buffer at bytes h) (simp (length-append, length-take, length-drop) (omega arith))

-- a write behind a front
behind : (front rest more : List ℕ) (n : ℕ) → length front ≡ n → length more ≤ length rest
    → overwritten (front ++ rest) n more ≡ front ++ more ++ drop (length more) rest
behind front rest more n e h =
    rw (← e)
    (overwritten_all (front ++ rest) (length front) more (simp length-append (omega arith))
    ∙ rw (take-append_seam front rest, drop-append-add front rest (length more)))

-- a part and then another right behind it are one write
pub overwritten_more : (buffer : List ℕ) (at : ℕ) (bytes more : List ℕ) → at + length bytes + length more ≤ length buffer
    → overwritten (overwritten buffer at bytes) (at + length bytes) more ≡ overwritten buffer at (bytes ++ more)
overwritten_more buffer at bytes more h =
    let size : length (take at buffer ++ bytes) ≡ at + length bytes = simp (length-append, length-take) (omega arith) in
    let all : at + length (bytes ++ more) ≤ length buffer = simp length-append (omega arith) in
    ap (λ (l : List ℕ). overwritten l (at + length bytes) more) (overwritten_all buffer at bytes (omega arith))
    ∙ behind (take at buffer ++ bytes) (drop (at + length bytes) buffer) more (at + length bytes) size (simp length-drop (omega arith))
    ∙ sym (overwritten_all buffer at (bytes ++ more) all
    ∙ rw (← append_assoc (take at buffer) bytes more, length-append bytes more, ← add_assoc at (length bytes) (length more), ← drop-drop (length more) (at + length bytes) buffer))

-- four parts, one behind the other
pub overwritten_four : (buffer : List ℕ) (at : ℕ) (a b c d : List ℕ)
    → at + length a + length b + length c + length d ≤ length buffer
    → overwritten
    (overwritten (overwritten (overwritten buffer at a) (at + length a) b) (at + length a + length b) c)
    (at + length a + length b + length c) d
    ≡ overwritten buffer at (a ++ b ++ c ++ d)
overwritten_four buffer at a b c d h =
    let ab : length (a ++ b) ≡ length a + length b = length-append a b in
    let abc : length (a ++ b ++ c) ≡ length a + length b + length c = length-append (a ++ b) c ∙ ap (λ (n : ℕ). n + length c) ab in
    let two : at + length (a ++ b) ≡ at + length a + length b = omega arith in
    let three : at + length (a ++ b ++ c) ≡ at + length a + length b + length c = omega arith in
    rw (
      overwritten_more buffer at a b (omega arith),
      ← two,
      overwritten_more buffer at (a ++ b) c (omega arith),
      two,
      ← three,
    )
    (overwritten_more buffer at (a ++ b ++ c) d (omega arith))

pub front_length : (bytes buffer : List ℕ) → length bytes ≤ length buffer → length (with_front bytes buffer) ≡ length buffer
front_length bytes buffer h = simp (length-append, length-drop) (omega arith)

-- a first part at the front
pub front_first : (bytes buffer : List ℕ) → length bytes ≤ length buffer → overwritten buffer 0 bytes ≡ with_front bytes buffer
front_first bytes buffer h = overwritten_all buffer 0 bytes (omega arith) ∙ rw zero-add

-- a further part right behind the front
pub front_more : (bytes more buffer : List ℕ) → length bytes + length more ≤ length buffer
    → overwritten (with_front bytes buffer) (length bytes) more ≡ with_front (bytes ++ more) buffer
front_more bytes more buffer h =
    behind bytes (drop (length bytes) buffer) more (length bytes) refl (simp length-drop (omega arith))
    ∙ rw (length-append bytes more, ← drop-drop (length more) (length bytes) buffer)

-- a front that is the whole buffer
pub front_whole : (bytes buffer : List ℕ) → length bytes ≡ length buffer → with_front bytes buffer ≡ bytes
front_whole bytes buffer e = rw (e, drop-length, append-nil)
