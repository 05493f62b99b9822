-- The head's answer: what a refusal number and a length tell, and what no refusal tells of the lengths.
-- Assumes nothing.
use mathlib.Core.Path.{◌≡◌, refl}
use mathlib.Core.Bool.{true, false, not}
use mathlib.Core.List.{List}
use Prim.Native.Nat.{ℕ, zero, suc, ◌+◌, ◌≤◌, ◌<◌}
use lib.Dec.{eqb, leb}
use lib.ListN.{length}
use borrow.Author.Tests.{eq-eqb, ne_eqb, le-leb, lt-leb, eqb-true, leb-true, not-false}
use Rattle.wire.specs.Tests.{◌and◌}
use Rattle.std.specs.Prelude.{Option, Some, None, Ok, Err}
use Rattle.std.specs.Bool.{then_some}
use Rattle.wire.specs.Refusals.{refused, result_by}
use Rattle.wire.proofs.Numbers.{not-refused}
use Rattle.algorithms.specs.Sizes.{known_kem, known_pair, enc_length}
use Rattle.algorithms.proofs.Answers.{known, unknown}
use Rattle.keylist.proofs.LayoutLaws.{both}
use Rattle.client.specs.Head.{head_refusal}
use Rattle.wire.specs.Texts.{head_length, info_length}

-- a refusal number other than 0 is answered by the refusal
pub refused_by : (n size : ℕ) → (n ≡ 0 → ⊥) → Err (refused n) ≡ result_by n size
refused_by zero size h = absurd (h refl)
refused_by (suc n) size h = refl

-- a length is answered without a refusal only
pub head_answered : (n size answered : ℕ) → result_by n size ≡ Ok answered → (n ≡ 0) × (size ≡ answered)
head_answered zero size answered e = (refl, cc)
head_answered (suc n) size answered e = cc

-- what is refused, one law for each way that the code finds it
module _ (kem kdf aead : ℕ) (enc : List ℕ) (head_room info_room : ℕ) where
  abbrev looked : Option ℕ
  looked = then_some (known_kem kem) (enc_length kem)

  abbrev first : ℕ
  first = head_refusal kem kdf aead enc head_room info_room

  pub unknown_kem : looked ≡ None → first ≡ 3
  unfolding head_refusal
  unknown_kem k = rw (unknown _ _ k)

  module _ (size : ℕ) (k : looked ≡ Some size) where
    pub unknown_pair : known_pair kdf aead ≡ false → first ≡ 6
    unfolding head_refusal
    unknown_pair p = rw ((known _ _ _ k).0, p)

    module _ (p : known_pair kdf aead ≡ true) where
      pub other_length : (length enc ≡ size → ⊥) → first ≡ 13
      unfolding head_refusal
      other_length e = let is = known _ _ _ k in rw (is.0, p, is.1, ne_eqb _ _ e)

      module _ (e : length enc ≡ size) where
        pub no_head_room : head_room < head_length + size → first ≡ 14
        unfolding head_refusal
        no_head_room h = let is = known _ _ _ k in rw (is.0, p, is.1, eq-eqb _ _ e, lt-leb _ _ h)

        module _ (h : head_length + size ≤ head_room) where
          pub no_info_room : info_room < info_length → first ≡ 14
          unfolding head_refusal
          no_info_room i = let is = known _ _ _ k in rw (is.0, p, is.1, eq-eqb _ _ e, le-leb _ _ h, lt-leb _ _ i)

          pub all_fits : info_length ≤ info_room → first ≡ 0
          unfolding head_refusal
          all_fits i = let is = known _ _ _ k in rw (is.0, p, is.1, eq-eqb _ _ e, le-leb _ _ h, le-leb _ _ i)

-- no refusal: the KEM is known, enc is as long as it says, and both buffers have room
pub head_accepted : (kem kdf aead : ℕ) (enc : List ℕ) (head_room info_room : ℕ)
    → head_refusal kem kdf aead enc head_room info_room ≡ 0
    → (known_kem kem ≡ true) × (length enc ≡ enc_length kem) × (head_length + enc_length kem ≤ head_room) × (info_length ≤ info_room)
unfolding head_refusal
head_accepted kem kdf aead enc head_room info_room e =
    let have_room = leb (head_length + enc_length kem) head_room and leb info_length info_room in
    let (known, h6) = not-refused 2 (not (known_kem kem)) _ e in
    let (pair, h13) = not-refused 5 (not (known_pair kdf aead)) _ h6 in
    let (sized, h14) = not-refused 12 (not (eqb (length enc) (enc_length kem))) _ h13 in
    let (fits, none) = not-refused 13 (not have_room) _ h14 in
    let (head, info) = both (leb-true (head_length + enc_length kem) head_room) (leb-true info_length info_room) (not-false have_room fits) in
    (not-false (known_kem kem) known, eqb-true _ _ (not-false (eqb (length enc) (enc_length kem)) sized), head, info)
