-- Where the parts of a response meet, and the statement of specs/Split.
-- Assumes nothing.
use mathlib.Core.Path.{◌≡◌, refl, ap}
use mathlib.Core.Logic.{◌↔◌}
use mathlib.Core.List.{List, []}
use Prim.Native.Nat.{ℕ, ◌+◌, ◌≤◌, ◌<◌}
use native.Mathlib.Omega.{arith}
use lib.Dec.{ltb}
use lib.ListN.{length, take-append-drop, length-take, length-drop}
use borrow.Author.Tests.{ltb-false, lt-ltb, le-ltb}
use Rattle.wire.specs.Refusals.{refused}
use Rattle.wire.specs.Texts.{longest_plain}
use Rattle.algorithms.specs.Stated.{size_bound}
use Rattle.algorithms.proofs.Stated.{size_bounds}
use Rattle.algorithms.proofs.Answers.{known, unknown}
use Rattle.wire.specs.declared.refusal.Refusal.{Refusal}
use Rattle.wire.proofs.Booleans.{either}
use Rattle.algorithms.specs.Sizes.{known_aead, response_nonce_length, nonce_length, tag_length}
use Rattle.std.specs.Prelude.{Option, Some, None, Result, Ok, Err}
use Rattle.std.specs.Bool.{then_some}
use Rattle.client.specs.Split.{split_refusal, split_answer, nonce_part, ciphertext_part, PartsEmptyOnRefusal}
use Rattle.keylist.specs.Stated.{IsRefused}
use Rattle.client.proofs.Fronts.{head_answered}

-- what is answered, one law for each way that the code finds it
module _ (aead size : ℕ) where
  abbrev looked : Option ℕ
  looked = then_some (known_aead aead) (response_nonce_length aead)

  pub unknown_aead : looked ≡ None → split_answer aead size ≡ Err (refused 6)
  unfolding split_refusal
  unknown_aead k = rw (unknown _ _ k)

  module _ (nonce : ℕ) (k : looked ≡ Some nonce) where
    pub nonce_bound : nonce ≤ size_bound
    nonce_bound = omega (arith, (known _ _ _ k).1, size_bounds.nonce_bound aead)

    pub too_short : size < nonce + tag_length → split_answer aead size ≡ Err (refused 1)
    unfolding split_refusal
    too_short s = let is = known _ _ _ k in rw (is.0, is.1, lt-ltb _ _ s)

    module _ (s : nonce + tag_length ≤ size) where
      pub too_long : nonce + longest_plain + tag_length < size → split_answer aead size ≡ Err (refused 2)
      unfolding split_refusal
      too_long l = let is = known _ _ _ k in rw (is.0, is.1, le-ltb _ _ s, lt-ltb _ _ l)

      pub parts_meet : size ≤ nonce + longest_plain + tag_length → split_answer aead size ≡ Ok nonce
      unfolding split_refusal
      parts_meet l = let is = known _ _ _ k in rw (is.0, is.1, le-ltb _ _ s, le-ltb _ _ l)

pub ruleset answers = (unknown_aead, parts_meet)

-- a nonce is there, and a tag behind it
pub meets_within : (aead size at : ℕ) → split_answer aead size ≡ Ok at
    → (nonce_length ≤ at) × (at + tag_length ≤ size)
unfolding split_refusal
meets_within aead size at e =
    let m = head_answered (split_refusal aead size) (response_nonce_length aead) at e in
    either (known_aead aead)
    (λ k. either (ltb size (response_nonce_length aead + tag_length))
    (λ s. absurd (omega (arith, rw (k, s) at m.0)))
    (λ s. omega (arith, ltb-false)))
    (λ k. absurd (omega (arith, rw k at m.0)))

module _ (response : List ℕ) where
  abbrev Within : Result ℕ Refusal → Type 0
  Within answer = (at : ℕ) → answer ≡ Ok at → (nonce_length ≤ at) × (at + tag_length ≤ length response)

  nonce_empty : (answer : Result ℕ Refusal) → Within answer → (nonce_part response answer ≡ []) ↔ IsRefused answer
  nonce_empty (Ok at) within =
      (λ e. absurd (omega (arith, within at refl, simp length-take at (ap length e))), λ r. cc r.1)
  nonce_empty (Err r) within = (λ e. (r, refl), λ x. refl)

  ciphertext_empty : (answer : Result ℕ Refusal) → Within answer → (ciphertext_part response answer ≡ []) ↔ IsRefused answer
  ciphertext_empty (Ok at) within =
      (λ e. absurd (omega (arith, within at refl, simp length-drop at (ap length e))), λ r. cc r.1)
  ciphertext_empty (Err r) within = (λ e. (r, refl), λ x. refl)

pub parts_empty_on_refusal : PartsEmptyOnRefusal
parts_empty_on_refusal =
    record {
      nonce = λ aead r. nonce_empty r (split_answer aead (length r)) (meets_within aead (length r));
      ciphertext = λ aead r. ciphertext_empty r (split_answer aead (length r)) (meets_within aead (length r));
      whole = λ aead at response e. rw e (take-append-drop at response);
    }
