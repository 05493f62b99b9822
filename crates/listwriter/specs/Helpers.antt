-- What only the contracts of functions below the entries cite: a reader of the rules can skip this file.
use Rattle.std.specs.Prelude.{ℕ, ◌+◌, ◌*◌, ◌≤◌, Bool, List, length, Ok, Err, Result}
use Rattle.wire.specs.declared.refusal.Refusal.{Refusal}
use Rattle.algorithms.specs.Sizes.{public_key_length}
use Rattle.algorithms.specs.Stated.{size_bound}
use Rattle.keylist.specs.Layout.{key_start, most_configurations, unless_fault}
use Rattle.listwriter.specs.Writer.{Fields, fields, first_kem, first_key_length, first_key, first_pair_count, first_pairs, configuration_bytes, fault_of_given}
use Rattle.listwriter.specs.declared.Configurations.{Configurations}

-- a bound for the walk's offsets: sixteen configurations, each with 7 bytes of fields, a key and 64 pair bytes at most
abbrev pub walk_bound : ℕ
walk_bound = most_configurations * (7 + size_bound + 64)

-- the lists that stand in the slices
abbrev pub fields_of : Configurations → Fields
fields_of c = fields c.kems.now c.key_lengths.now c.keys.now c.pair_counts.now c.pairs.now

-- L of the first configuration, and its bytes
abbrev pub first_length : Fields → ℕ
first_length f = 5 + first_key_length f + first_pair_count f * 2

abbrev pub first_bytes : ℕ → Fields → List ℕ
first_bytes key_id f =
    configuration_bytes key_id (first_kem f) (first_key_length f) (first_key f) (first_pair_count f) (first_pairs f)

-- its sizes are within the layout's limits, and what they announce is there
pub record HasSizes (f : Fields) : Type 0 where
  pub key_bound : first_key_length f ≤ size_bound
  pub pair_bound : first_pair_count f ≤ 32
  pub keys : first_key_length f ≤ length f.keys
  pub pairs : first_pair_count f ≤ length f.pairs

-- its first fault, where so many stand before it and its key id is taken or not; 0 where it has none
abbrev pub fault_of_first : ℕ → Bool → Fields → ℕ
fault_of_first before is_taken f =
    fault_of_given before is_taken (first_kem f) (first_key_length f) (length f.keys) (first_pair_count f) (length f.pairs)

-- where its public key would end, if it started at an offset
abbrev pub first_key_end : ℕ → Fields → ℕ
first_key_end at f = key_start at + public_key_length (first_kem f)

-- its refusal, if it has a fault
abbrev pub first_checked : ℕ → ℕ → Bool → Fields → Result (Unit {0}) Refusal
first_checked at before is_taken f = unless_fault at (first_key_end at f) (fault_of_first before is_taken f) (Ok tt)

-- the length of the list, or the refusal, before any buffer is looked at
abbrev pub length_written : Result (List ℕ) Refusal → Result ℕ Refusal
length_written (Ok bytes) = Ok (length bytes)
length_written (Err r) = Err r
