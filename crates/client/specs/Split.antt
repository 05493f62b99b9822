-- 01, "Split": a response is its nonce, of max(Nn, Nk) bytes, and a ciphertext of 16 to 65,552 bytes; 6, 1, 2.
use Rattle.std.specs.Prelude.{ℕ, ◌+◌, ◌≡◌, ◌↔◌, not, List, [], ◌++◌, Result, Ok, Err, ltb, length, take, drop}
use Rattle.wire.specs.Refusals.{◌when◌otherwise◌, result_by}
use Rattle.wire.specs.declared.refusal.Refusal.{Refusal}
use Rattle.keylist.specs.Stated.{IsRefused}
use Rattle.wire.specs.Texts.{longest_plain}
use Rattle.algorithms.specs.Sizes.{known_aead, response_nonce_length, tag_length}

-- 01, "Order", split; 0: no refusal
unfoldable pub split_refusal : ℕ → ℕ → ℕ
split_refusal aead size =
    6 when not (known_aead aead) otherwise
    1 when ltb size (response_nonce_length aead + tag_length) otherwise
    2 when ltb (response_nonce_length aead + longest_plain + tag_length) size otherwise
    0

-- the checking entry's answer: where the nonce ends and the ciphertext starts
abbrev pub split_answer : ℕ → ℕ → Result ℕ Refusal
split_answer aead size = result_by (split_refusal aead size) (response_nonce_length aead)

-- the two parts, empty on refusal
abbrev pub nonce_part : List ℕ → Result ℕ Refusal → List ℕ
nonce_part response (Ok at) = take at response
nonce_part response (Err r) = []

abbrev pub ciphertext_part : List ℕ → Result ℕ Refusal → List ℕ
ciphertext_part response (Ok at) = drop at response
ciphertext_part response (Err r) = []

-- each part is empty exactly on refusal, and the two parts of a response that is not refused are the whole of it
pub record PartsEmptyOnRefusal : Type 0 where
  pub nonce : (aead : ℕ) (response : List ℕ)
      → (nonce_part response (split_answer aead (length response)) ≡ []) ↔ IsRefused (split_answer aead (length response))
  pub ciphertext : (aead : ℕ) (response : List ℕ)
      → (ciphertext_part response (split_answer aead (length response)) ≡ []) ↔ IsRefused (split_answer aead (length response))
  pub whole : (aead at : ℕ) (response : List ℕ) → split_answer aead (length response) ≡ Ok at
      → nonce_part response (split_answer aead (length response)) ++ ciphertext_part response (split_answer aead (length response))
      ≡ response
