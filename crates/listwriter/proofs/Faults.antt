-- The first fault of a configuration that is given: one law for each way that the code finds it.
-- Assumes nothing.
use mathlib.Core.Path.{◌≡◌, refl, sym}
use mathlib.Core.Bool.{Bool, true, false}
use Prim.Native.Nat.{ℕ, ◌*◌, ◌≤◌, ◌<◌}
use lib.Dec.{leb}
use borrow.Author.Tests.{lt-leb, le-leb, eq-eqb, ne_eqb}
use Rattle.std.specs.Bool.{then_some}
use Rattle.std.specs.Prelude.{Some, None}
use Rattle.wire.specs.Tests.{◌and◌}
use Rattle.wire.specs.Refusals.{◌when◌otherwise◌}
use Rattle.wire.specs.declared.refusal.Reason.{Reason}
use Rattle.algorithms.specs.Sizes.{known_kem, public_key_length}
use Rattle.keylist.specs.Layout.{most_configurations, pair_bytes_hold}
use Rattle.keylist.specs.Helpers.{number_or_0}
use Rattle.algorithms.proofs.Answers.{known, unknown}
use Rattle.listwriter.specs.Writer.{fault_of_given}

module _ (before : ℕ) (is_taken : Bool) (kem size keys count pairs : ℕ) where
  pub given_too_many : most_configurations ≤ before → fault_of_given before is_taken kem size keys count pairs ≡ 22
  unfolding fault_of_given
  given_too_many h = rw (le-leb _ _ h)

  module _ (few : before < most_configurations) where
    pub given_unknown : None ≡ then_some (known_kem kem) (public_key_length kem) → fault_of_given before is_taken kem size keys count pairs ≡ 3
    unfolding fault_of_given
    given_unknown h = rw (lt-leb _ _ few, unknown (known_kem kem) (public_key_length kem) (sym h))

    module _ (right : ℕ) (known_as : Some right ≡ then_some (known_kem kem) (public_key_length kem)) where
      is : (known_kem kem ≡ true) × (public_key_length kem ≡ right)
      is = known (known_kem kem) (public_key_length kem) right (sym known_as)

      pub given_length : (size ≡ right → ⊥) → fault_of_given before is_taken kem size keys count pairs ≡ 19
      unfolding fault_of_given
      given_length h = rw (lt-leb _ _ few, is.0, is.1, ne_eqb _ _ h)

      module _ (same : size ≡ right) where
        pub given_keys : keys < size → fault_of_given before is_taken kem size keys count pairs ≡ 19
        unfolding fault_of_given
        given_keys h = rw (lt-leb _ _ few, is.0, is.1, eq-eqb _ _ same, lt-leb _ _ h)

        module _ (there : size ≤ keys) where
          pub given_pairs : (pair_bytes_hold (count * 2) and leb count pairs) ≡ false → fault_of_given before is_taken kem size keys count pairs ≡ 20
          unfolding fault_of_given
          given_pairs h = rw (lt-leb _ _ few, is.0, is.1, eq-eqb _ _ same, le-leb _ _ there, h)

          -- what is left to test is the key id
          pub given_by_id : (pair_bytes_hold (count * 2) and leb count pairs) ≡ true
              → fault_of_given before is_taken kem size keys count pairs ≡ number_or_0 (then_some is_taken Reason.DuplicateKeyId)
          unfolding fault_of_given
          given_by_id h = rw (lt-leb _ _ few, is.0, is.1, eq-eqb _ _ same, le-leb _ _ there, h) (taken is_taken)
            where
              taken : (b : Bool) → (21 when b otherwise 0) ≡ number_or_0 (then_some b Reason.DuplicateKeyId)
              taken true = refl
              taken false = refl

pub ruleset faults = (given_too_many, given_unknown, given_length, given_keys, given_pairs, given_by_id)
