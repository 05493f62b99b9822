-- What respond's test of lengths tells, and what no refusal of a call tells.
-- Assumes nothing.
use mathlib.Core.Path.{◌≡◌}
use mathlib.Core.Bool.{true, false, not}
use Prim.Native.Nat.{ℕ, ◌+◌, ◌≤◌}
use native.Mathlib.Omega.{arith}
use lib.Dec.{eqb, ltb}
use borrow.Author.Tests.{eqb-true, leb-true, ltb-false, not-false}
use Rattle.wire.proofs.Booleans.{either, and_left, and_right}
use Rattle.wire.proofs.Numbers.{not-refused}
use Rattle.algorithms.specs.Stated.{size_bound}
use Rattle.algorithms.specs.Sizes.{known_kem, known_aead, enc_length, response_nonce_length}
use Rattle.algorithms.proofs.Stated.{size_bounds}
use Rattle.exchange.specs.declared.Exchange.{Exchange}
use Rattle.exchange.specs.declared.Move.{Move}
use Rattle.exchange.specs.Exchange.{is_free, has_enc, has_nonce, response_holds}
use Rattle.wire.specs.Texts.{longest_plain}
use Rattle.exchange.specs.Steps.{is_allowed, lengths_hold, refusal_by}
use Rattle.exchange.specs.Moved.{of_ticket}

-- the lengths that hold, as numbers, and the nonce's bound
pub record Lengths (enc nonce plain : ℕ) (e : Exchange) : Type 0 where
  pub is_enc : enc ≡ enc_length e.kem
  pub is_nonce : nonce ≡ response_nonce_length e.aead
  pub is_short : plain ≤ longest_plain
  pub nonce_bound : nonce ≤ size_bound

pub lengths : (enc nonce plain : ℕ) (e : Exchange) → response_holds enc nonce plain e ≡ true → Lengths enc nonce plain e
lengths enc nonce plain e h =
    let later = and_right (has_enc enc e) _ h in
    let is_nonce = eqb-true nonce _ (and_right (known_aead e.aead) _ (and_left (has_nonce nonce e) _ later)) in
    record {
      is_enc = eqb-true enc _ (and_right (known_kem e.kem) _ (and_left (has_enc enc e) _ h));
      is_nonce = is_nonce;
      is_short = leb-true plain longest_plain (and_right (has_nonce nonce e) _ later);
      nonce_bound = omega (arith, size_bounds.nonce_bound e.aead);
    }

-- no refusal: the exchange is pending, the call is allowed, its lengths hold, and the buffer has room
pub record Accepted (kind : Move) (enc nonce room : ℕ) (e : Exchange) : Type 0 where
  pub pending : is_free e ≡ false
  pub allowed : is_allowed kind e ≡ true
  pub lengths_hold : lengths_hold kind enc nonce e ≡ true
  pub fits : enc + nonce ≤ room

pub accepted_by : (kind : Move) (enc nonce room : ℕ) (e : Exchange) → refusal_by kind enc nonce room e ≡ 0 → Accepted kind enc nonce room e
unfolding refusal_by
accepted_by kind enc nonce room e h =
    let (pending, h12) = not-refused 10 (is_free e) _ h in
    let (allowed, h13) = not-refused 11 (not (is_allowed kind e)) _ h12 in
    let (held, h14) = not-refused 12 (not (lengths_hold kind enc nonce e)) _ h13 in
    let (fits, none) = not-refused 13 (ltb room (enc + nonce)) _ h14 in
    record {
      pending = pending;
      allowed = not-false (is_allowed kind e) allowed;
      lengths_hold = not-false (lengths_hold kind enc nonce e) held;
      fits = ltb-false room (enc + nonce) fits;
    }

-- where a call on a ticket is accepted, the exchange has the ticket
pub own_accepted : (ticket : ℕ) (kind : Move) (enc_size nonce_size room : ℕ) (e : Exchange)
    → refusal_by kind enc_size nonce_size room (of_ticket ticket e) ≡ 0 → of_ticket ticket e ≡ e
unfolding refusal_by
own_accepted ticket kind enc_size nonce_size room e none =
    either (eqb e.ticket.0 ticket) (λ own. rw own) (λ other. let z : ◌≡◌ {A = ℕ} 11 0 = rw other at none in absurd (omega arith))
