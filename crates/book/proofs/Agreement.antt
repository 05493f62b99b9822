-- Client and gateway agree: what head's buffers hold, what the gateway reads of it, and the split of what respond announced.
-- Assumes nothing.
use Rattle.std.specs.Prelude.{Ok}
use mathlib.Core.Path.{◌≡◌, refl, ap, ◌∙◌}
use mathlib.Core.Bool.{true}
use mathlib.Core.List.{List, ◌++◌}
use Prim.Native.Nat.{ℕ, ◌+◌, ◌-◌, ◌≤◌}
use native.Mathlib.Nat.{div-add-mod'}
use native.Mathlib.Omega.{arith}
use lib.Dec.{eqb, leb}
use lib.ListN.{length, take, drop, length-append}
use lib.Seq.{take_at, take_all, drop_at, take-append_seam, drop-append_seam}
use borrow.Author.Tests.{le-ltb}
use Rattle.wire.specs.Texts.{ascii, head_length, head_bytes, request_label, info_length, info_bytes, longest_request, longest_plain}
use Rattle.wire.proofs.Booleans.{and_left, and_right}
use Rattle.algorithms.specs.Sizes.{known_kem, known_aead, enc_length, response_nonce_length, tag_length}
use Rattle.std.specs.Prelude.{Ok}
use Rattle.client.specs.Head.{head_refusal, head_and_enc, head_does}
use Rattle.client.specs.Split.{split_refusal, split_answer}
use Rattle.client.proofs.Fronts.{head_answered, head_accepted}
use Rattle.request.specs.Request.{kem_of, enc_end, ciphertext_length, fields_of}
use Rattle.exchange.specs.declared.Exchange.{Exchange}
use Rattle.exchange.specs.declared.Move.{Move}
use Rattle.exchange.specs.declared.StepAnswer.{StepAnswer}
use Rattle.exchange.specs.Exchange.{has_enc, has_nonce, response_holds}
use Rattle.exchange.specs.Steps.{respond, refusal, answer}
use Rattle.exchange.proofs.Lengths.{lengths, accepted_by}
use Rattle.gateway.specs.Registry.{admission}
use Rattle.book.specs.Agreement.{request_of, enc_in, ciphertext_in, Reads, RequestsAgree, response_of, Splits, ResponsesAgree}

module _ (key_id kem kdf aead size : ℕ) (enc head info ciphertext : List ℕ)
    (answered : (head_does key_id kem kdf aead enc head info).answer ≡ Ok size) where
  -- no refusal; how many bytes were written; the KEM is known, and enc is as long as it says
  told : (head_refusal kem kdf aead enc (length head) (length info) ≡ 0) × (head_length + enc_length kem ≡ size)
  unfolding head_does
  told = head_answered (head_refusal kem kdf aead enc (length head) (length info)) (head_length + enc_length kem) size answered

  fits : (known_kem kem ≡ true) × (length enc ≡ enc_length kem) × (head_length + enc_length kem ≤ length head) × (info_length ≤ length info)
  fits = head_accepted kem kdf aead enc (length head) (length info) told.0

  -- what the client's buffers hold
  abbrev front : List ℕ
  front = head_and_enc key_id kem kdf aead enc

  head_holds : take size (head_does key_id kem kdf aead enc head info).head ≡ front
  unfolding head_does
  head_holds = rw told.0 (take_at front (drop (length front) head) size (omega (arith, told, fits)))

  info_holds : take info_length (head_does key_id kem kdf aead enc head info).info ≡ info_bytes (head_bytes key_id kem kdf aead)
  unfolding ascii head_does request_label
  info_holds = rw told.0

  -- what the gateway reads
  abbrev request : List ℕ
  request = front ++ ciphertext

  kem_read : kem_of request ≡ kem
  kem_read = div-add-mod' kem 256

  end_read : length front ≡ enc_end request
  end_read = omega (arith, fits, ap enc_length kem_read)

  enc_read : (ticket : ℕ) → enc_in request (admission ticket (fields_of request) (length request)) ≡ enc
  enc_read ticket = take_at enc ciphertext (enc_end request - head_length) (omega (arith, end_read))

  ciphertext_read : (ticket : ℕ) → ciphertext_in request (admission ticket (fields_of request) (length request)) ≡ ciphertext
  ciphertext_read ticket =
      rw (drop_at front ciphertext (enc_end request) end_read)
      (take_all (ciphertext_length request) ciphertext (omega (arith, end_read, length-append front ciphertext)))

  request_read : tag_length ≤ length ciphertext → size + length ciphertext ≤ longest_request
      → Reads (request_of (head_does key_id kem kdf aead enc head info) size ciphertext) key_id kem kdf aead enc ciphertext
      (take info_length (head_does key_id kem kdf aead enc head info).info)
  request_read tag limit =
      let whole : length request ≡ size + length ciphertext = length-append front ciphertext ∙ omega (arith, told, fits) in
      rw (head_holds, info_holds) (record {
        well_formed = record { kem = rw kem_read fits.0; long_enough = rw kem_read (omega (arith, told)); not_too_long = omega arith };
        same_key_id = refl;
        same_kem = kem_read;
        same_kdf = div-add-mod' kdf 256;
        same_aead = div-add-mod' aead 256;
        same_enc = enc_read;
        same_ciphertext = ciphertext_read;
        same_info = refl;
      })

pub requests_agree : RequestsAgree
requests_agree = request_read

module _ (e : Exchange) (plain : ℕ) (enc nonce salt ciphertext : List ℕ) (accepted : refusal (respond enc nonce plain salt) e ≡ 0)
    (sealed : length ciphertext ≡ plain + tag_length) where
  -- the lengths that respond was given are the exchange's, and its AEAD is known
  held : response_holds (length enc) (length nonce) plain e ≡ true
  held = (accepted_by (Move.Respond plain) (length enc) (length nonce) (length salt) e accepted).lengths_hold

  known-aead : known_aead e.aead ≡ true
  known-aead =
      and_left (known_aead e.aead) (eqb (length nonce) (response_nonce_length e.aead))
      (and_left (has_nonce (length nonce) e) (leb plain longest_plain) (and_right (has_enc (length enc) e) _ held))

  -- what the split gives
  whole : length (response_of nonce ciphertext) ≡ length nonce + plain + tag_length
  whole = simp length-append (omega arith)

  nonce-end : split_answer e.aead (length (response_of nonce ciphertext)) ≡ Ok (length nonce)
  unfolding split_refusal
  nonce-end =
      let sizes = lengths (length enc) (length nonce) plain e held in
      let size = length (response_of nonce ciphertext) in
      rw (
        known-aead,
        le-ltb size (response_nonce_length e.aead + tag_length) (omega (arith, whole)),
        le-ltb (response_nonce_length e.aead + longest_plain + tag_length) size (omega (arith, whole)),
        sizes.is_nonce,
      )

  nonce_back : take (length nonce) (response_of nonce ciphertext) ≡ nonce
  nonce_back = take-append_seam nonce ciphertext

  ciphertext_back : drop (length nonce) (response_of nonce ciphertext) ≡ ciphertext
  ciphertext_back = drop-append_seam nonce ciphertext

  response_split : (answer (respond enc nonce plain salt) e
      ≡ Ok (StepAnswer.Sealed (record { status = 200; length = length (response_of nonce ciphertext) })))
      × Splits (response_of nonce ciphertext) e.aead nonce ciphertext
  response_split = (
    rw (accepted, whole),
    record { nonce_end = nonce-end; same_nonce = rw nonce-end nonce_back; same_ciphertext = rw nonce-end ciphertext_back },
  )

pub responses_agree : ResponsesAgree
responses_agree = response_split
