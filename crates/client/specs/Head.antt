-- 01, "Head": 7 + Nenc bytes of the request and 29 bytes of info, each at the front of its buffer; 3, 6, 13, 14.
use Rattle.std.specs.Prelude.{ℕ, ◌+◌, not, List, ◌++◌, Result, eqb, leb, length}
use Rattle.wire.specs.Tests.{◌and◌}
use Rattle.wire.specs.Refusals.{◌when◌otherwise◌, result_by, written}
use Rattle.wire.specs.declared.refusal.Refusal.{Refusal}
use Rattle.wire.specs.Texts.{head_length, head_bytes, info_length, info_bytes}
use Rattle.algorithms.specs.Sizes.{known_kem, known_pair, enc_length}

-- 01, "Order", head; 0: no refusal
unfoldable pub head_refusal : ℕ → ℕ → ℕ → List ℕ → ℕ → ℕ → ℕ
head_refusal kem kdf aead enc head_room info_room =
    3 when not (known_kem kem) otherwise
    6 when not (known_pair kdf aead) otherwise
    13 when not (eqb (length enc) (enc_length kem)) otherwise
    14 when not (leb (head_length + enc_length kem) head_room and leb info_length info_room) otherwise
    0

-- the bytes of the request that head writes: key id, KEM, KDF, AEAD, then enc
abbrev pub head_and_enc : ℕ → ℕ → ℕ → ℕ → List ℕ → List ℕ
head_and_enc key_id kem kdf aead enc = head_bytes key_id kem kdf aead ++ enc

-- what head gives: its answer, which is how many bytes of the request were written, and the bytes of its two buffers after it
pub record HeadDone : Type 0 where
  pub answer : Result ℕ Refusal
  pub head : List ℕ
  pub info : List ℕ

-- by the refusal number: both buffers written, or as they were
unfoldable pub head_does : ℕ → ℕ → ℕ → ℕ → List ℕ → List ℕ → List ℕ → HeadDone
head_does key_id kem kdf aead enc head info =
    let number = head_refusal kem kdf aead enc (length head) (length info) in
    record {
      answer = result_by number (head_length + enc_length kem);
      head = written number (head_and_enc key_id kem kdf aead enc) head;
      info = written number (info_bytes (head_bytes key_id kem kdf aead)) info;
    }
