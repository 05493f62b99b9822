-- Client and gateway agree: the gateway reads what head wrote, and the client's split gives back what a response was made of.
use Rattle.std.specs.Prelude.{ℕ, ◌+◌, ◌-◌, ◌≤◌, ◌≡◌, List, ◌++◌, length, take, Ok}
use Rattle.wire.specs.Bytes.{part}
use Rattle.wire.specs.Texts.{info_length, longest_request}
use Rattle.algorithms.specs.Sizes.{tag_length}
use Rattle.client.specs.Head.{HeadDone, head_does}
use Rattle.client.specs.Split.{split_answer, nonce_part, ciphertext_part}
use Rattle.request.specs.Request.{key_id_of, kem_of, kdf_of, aead_of, fields_of, info_of}
use Rattle.exchange.specs.declared.Exchange.{Exchange}
use Rattle.exchange.specs.declared.StepAnswer.{StepAnswer}
use Rattle.exchange.specs.Steps.{respond, refusal, answer}
use Rattle.gateway.specs.declared.admission.Admission.{Admission}
use Rattle.gateway.specs.Registry.{admission}
use Rattle.book.specs.OneCall.{WellFormed}

-- the request that the client sends: what head wrote into its buffer, as many bytes as it answered, then the ciphertext
abbrev pub request_of : HeadDone → ℕ → List ℕ → List ℕ
request_of done size ciphertext = take size done.head ++ ciphertext

-- the parts of a request that lie where an admission says
abbrev pub enc_in : List ℕ → Admission → List ℕ
enc_in request a = part request a.enc_start (a.enc_end - a.enc_start)

abbrev pub ciphertext_in : List ℕ → Admission → List ℕ
ciphertext_in request a = part request a.ciphertext_start (a.ciphertext_end - a.ciphertext_start)

-- what the gateway reads of a request
pub record Reads (request : List ℕ) (key_id kem kdf aead : ℕ) (enc ciphertext info : List ℕ) : Type 0 where
  pub well_formed : WellFormed request
  pub same_key_id : key_id_of request ≡ key_id
  pub same_kem : kem_of request ≡ kem
  pub same_kdf : kdf_of request ≡ kdf
  pub same_aead : aead_of request ≡ aead
  -- by what admit answers, whatever the ticket
  pub same_enc : (ticket : ℕ) → enc_in request (admission ticket (fields_of request) (length request)) ≡ enc
  pub same_ciphertext : (ticket : ℕ) → ciphertext_in request (admission ticket (fields_of request) (length request)) ≡ ciphertext
  -- what admit writes
  pub same_info : info_of request ≡ info

-- head accepted, and any ciphertext of 16 bytes or more, up to the limit: the gateway reads what head was given, that ciphertext, and the
-- info that head wrote
abbrev pub RequestsAgree : Type 0
RequestsAgree =
    (key_id kem kdf aead size : ℕ) (enc head info ciphertext : List ℕ)
    → let done = head_does key_id kem kdf aead enc head info in
    done.answer ≡ Ok size → tag_length ≤ length ciphertext → size + length ciphertext ≤ longest_request
    → Reads (request_of done size ciphertext) key_id kem kdf aead enc ciphertext (take info_length done.info)

-- the response that the gateway's host sends: the nonce, then the ciphertext
abbrev pub response_of : List ℕ → List ℕ → List ℕ
response_of nonce ciphertext = nonce ++ ciphertext

-- what the client's split gives of a response
pub record Splits (response : List ℕ) (aead : ℕ) (nonce ciphertext : List ℕ) : Type 0 where
  pub nonce_end : split_answer aead (length response) ≡ Ok (length nonce)
  pub same_nonce : nonce_part response (split_answer aead (length response)) ≡ nonce
  pub same_ciphertext : ciphertext_part response (split_answer aead (length response)) ≡ ciphertext

-- respond accepted, and any ciphertext of plain + 16 bytes, which is what sealing gives: the response has the length that respond
-- announced, and the split with the exchange's AEAD gives its two parts
abbrev pub ResponsesAgree : Type 0
ResponsesAgree =
    (e : Exchange) (plain : ℕ) (enc nonce salt ciphertext : List ℕ)
    → refusal (respond enc nonce plain salt) e ≡ 0 → length ciphertext ≡ plain + tag_length
    → let response = response_of nonce ciphertext in
    (answer (respond enc nonce plain salt) e ≡ Ok (StepAnswer.Sealed (record { status = 200; length = length response })))
    × Splits response e.aead nonce ciphertext
