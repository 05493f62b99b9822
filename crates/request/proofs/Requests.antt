-- What a request that is not refused is like, and its first 7 bytes.
-- Assumes nothing.
use mathlib.Core.Path.{◌≡◌}
use mathlib.Core.Bool.{true}
use mathlib.Core.List.{List, append-nil}
use Prim.Native.Nat.{ℕ, ◌-◌, ◌≤◌, ◌<◌}
use native.Mathlib.Omega.{arith}
use lib.Dec.{ltb}
use lib.ListN.{length, take, replicate}
use borrow.Author.Tests.{ltb-false, le-ltb, lt-ltb}
use Rattle.std.specs.Prelude.{Option, Some, None, Ok, Err}
use Rattle.std.specs.Bool.{then_some}
use Rattle.wire.specs.Helpers.{room_for, overwritten}
use Rattle.wire.specs.Refusals.{refused}
use Rattle.wire.specs.Texts.{head_length, longest_request}
use Rattle.wire.proofs.Booleans.{either}
use Rattle.algorithms.specs.Sizes.{known_kem, shortest_request, tag_length}
use Rattle.algorithms.proofs.Answers.{known, unknown}
use Rattle.request.specs.Request.{key_id_of, kem_of, kdf_of, aead_of, enc_end}
use Rattle.request.specs.Helpers.{request_refusal, parsed}

-- not refused: the KEM is known, and the length is neither too short for it nor too long
pub accepted_request : (request : List ℕ) → request_refusal request ≡ 0
    → (known_kem (kem_of request) ≡ true) × ((shortest_request (kem_of request) ≤ length request) × (length request ≤ longest_request))
unfolding request_refusal
accepted_request request h =
    let kem = kem_of request in
    either (ltb longest_request (length request))
    (λ l. absurd (omega (arith, rw l at h)))
    (λ l. either (ltb (length request) head_length)
    (λ s. absurd (omega (arith, rw (l, s) at h)))
    (λ s. either (known_kem kem)
    (λ k. either (ltb (length request) (shortest_request kem))
    (λ m. absurd (omega (arith, rw (l, s, k, m) at h)))
    (λ m. (k, (ltb-false (length request) (shortest_request kem) m, ltb-false longest_request (length request) l))))
    (λ k. absurd (omega (arith, rw (l, s, k) at h)))))

-- the other way: what is like that is not refused
pub request_accepted : (request : List ℕ) → known_kem (kem_of request) ≡ true → shortest_request (kem_of request) ≤ length request
    → length request ≤ longest_request → request_refusal request ≡ 0
unfolding request_refusal
request_accepted request k s l =
    rw (
      le-ltb longest_request (length request) l,
      le-ltb (length request) head_length (omega arith),
      k,
      le-ltb (length request) (shortest_request (kem_of request)) s,
    )

-- the first 7 bytes, put over 7 zero bytes
pub info-of : (request : List ℕ) → head_length ≤ length request
    → overwritten (replicate head_length 0) 0 request ≡ take head_length request
info-of request h =
    let e : room_for (replicate head_length 0) 0 request ≡ head_length = omega arith in
    rw e (append-nil (take head_length request))

-- what is read, one law for each way that the code finds it: the table is asked once, for the shortest request of the KEM
module _ (request : List ℕ) where
  abbrev looked : Option ℕ
  looked = then_some (known_kem (kem_of request)) (shortest_request (kem_of request))

  pub too_long : longest_request < length request → parsed request ≡ Err (refused 2)
  unfolding request_refusal
  too_long l = rw (lt-ltb _ _ l)

  module _ (l : length request ≤ longest_request) where
    pub too_short : length request < head_length → parsed request ≡ Err (refused 1)
    unfolding request_refusal
    too_short s = rw (le-ltb _ _ l, lt-ltb _ _ s)

    module _ (s : head_length ≤ length request) where
      pub unknown_kem : looked ≡ None → parsed request ≡ Err (refused 3)
      unfolding request_refusal
      unknown_kem k = rw (le-ltb _ _ l, le-ltb _ _ s, unknown _ _ k)

      module _ (shortest : ℕ) (k : looked ≡ Some shortest) where
        pub below_shortest : length request < shortest → parsed request ≡ Err (refused 1)
        unfolding request_refusal
        below_shortest m = let is = known _ _ _ k in rw (le-ltb _ _ l, le-ltb _ _ s, is.0, is.1, lt-ltb _ _ m)

        pub whole : shortest ≤ length request
            → parsed request
            ≡ Ok
            (record {
              key_id = record { 0 = key_id_of request };
              kem = kem_of request;
              kdf = kdf_of request;
              aead = aead_of request;
              enc_end = shortest - tag_length;
              ciphertext_length = length request - (shortest - tag_length);
            })
        unfolding request_refusal
        whole m =
            let is = known _ _ _ k in
            let end : enc_end request ≡ shortest - tag_length = omega (arith, is.1) in
            rw (le-ltb _ _ l, le-ltb _ _ s, is.0, is.1, le-ltb _ _ m, end)

pub ruleset readings = (too_long, too_short, unknown_kem, below_shortest, whole)
