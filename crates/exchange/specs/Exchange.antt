-- 01's exchange: pending as asked or opened, or closed, which leaves a free place.
use Rattle.std.specs.Prelude.{ℕ, ◌+◌, Bool, not, List, eqb, leb, get_or}
use Rattle.wire.specs.Tests.{pick, ◌and◌}
use Rattle.wire.specs.Search.{first_place}
use Rattle.wire.specs.Texts.{longest_plain}
use Rattle.algorithms.specs.Sizes.{known_kem, known_aead, enc_length, response_nonce_length, tag_length}
use Rattle.exchange.specs.declared.Exchange.{Exchange}
use Rattle.request.specs.declared.Request.{Request}

-- the states, as numbers
abbrev pub closed_phase : ℕ
closed_phase = 0

abbrev pub asked_phase : ℕ
asked_phase = 1

abbrev pub opened_phase : ℕ
opened_phase = 2

-- a free place: tickets begin at 1, so the ticket 0 marks it
abbrev pub free : Exchange
free =
    record {
      ticket = record { 0 = 0 };
      ciphertext_length = 0;
      kem = 0;
      kdf = 0;
      aead = 0;
      key_id = record { 0 = 0 };
      phase = record { 0 = closed_phase };
    }

abbrev pub is_free : Exchange → Bool
is_free e = eqb e.ticket.0 0

abbrev pub is_asked : Exchange → Bool
is_asked e = eqb e.phase.0 asked_phase

abbrev pub is_opened : Exchange → Bool
is_opened e = eqb e.phase.0 opened_phase

-- the exchange that an accepted admit puts in, as asked
abbrev pub asked : ℕ → Request → Exchange
asked ticket request =
    record {
      ticket = record { 0 = ticket };
      ciphertext_length = request.ciphertext_length;
      kem = request.kem;
      kdf = request.kdf;
      aead = request.aead;
      key_id = request.key_id;
      phase = record { 0 = asked_phase };
    }

-- the same exchange in another phase; closed, it is a free place
unfoldable pub left_in : ℕ → Exchange → Exchange
left_in phase e =
    pick (eqb phase closed_phase) free (record {
      ticket = e.ticket;
      ciphertext_length = e.ciphertext_length;
      kem = e.kem;
      kdf = e.kdf;
      aead = e.aead;
      key_id = e.key_id;
      phase = record { 0 = phase };
    })

-- it is pending and has the ticket
abbrev pub has_ticket : ℕ → Exchange → Bool
has_ticket ticket e = not (is_free e) and eqb e.ticket.0 ticket

-- of several exchanges, the one that has the ticket; a free place where none has
abbrev pub exchange_of : ℕ → List Exchange → Exchange
exchange_of ticket es = get_or es (first_place (has_ticket ticket) es) free

-- n = ciphertext length − 16
abbrev pub has_opened_length : ℕ → Exchange → Bool
has_opened_length n e = eqb (n + tag_length) e.ciphertext_length

-- the length is Nenc of the exchange's KEM
abbrev pub has_enc : ℕ → Exchange → Bool
has_enc size e = known_kem e.kem and eqb size (enc_length e.kem)

-- the length is that of the response nonce, max(Nn, Nk) of the exchange's AEAD
abbrev pub has_nonce : ℕ → Exchange → Bool
has_nonce size e = known_aead e.aead and eqb size (response_nonce_length e.aead)

-- the lengths of enc, nonce and plain response that respond asks for
abbrev pub response_holds : ℕ → ℕ → ℕ → Exchange → Bool
response_holds enc_size nonce_size plain e = has_enc enc_size e and has_nonce nonce_size e and leb plain longest_plain
