-- The answers of choose and split, as a host gets them, and the exporter context; each value is 0 on refusal. Head's is `number_result`.
use Rattle.std.specs.Prelude.{ℕ, ◌-◌, not, ltb, length, Result, Ok, Err}
use Rattle.wire.specs.Refusals.{◌when◌otherwise◌, result_by}
use Rattle.wire.specs.Exporter.{exporter_context}
use Rattle.wire.specs.declared.refusal.Refusal.{Refusal}
use Rattle.algorithms.specs.Sizes.{known_aead, secret_length}
use Rattle.client.specs.declared.choose.Choice.{Choice}
use Rattle.results.specs.declared.client_calls.ChooseResult.{ChooseResult}
use Rattle.results.specs.declared.outcome.TwoNumbersResult.{TwoNumbersResult}
use Rattle.results.specs.Outcome.{sends, refused_by, with_two_numbers, refused_two_numbers}

abbrev pub choose_result : Result Choice Refusal → ChooseResult
choose_result (Ok c) =
    record {
      outcome = sends 0;
      key_start = c.key.start;
      key_end = c.key.end;
      kem = c.kem;
      kdf = c.pair.kdf;
      aead = c.pair.aead;
      key_id = c.key_id.0;
    }
choose_result (Err r) =
    record { outcome = refused_by r; key_start = 0; key_end = 0; kem = 0; kdf = 0; aead = 0; key_id = 0 }

-- the lengths of the two parts of a response of so many bytes
abbrev pub split_result : ℕ → Result ℕ Refusal → TwoNumbersResult
split_result size (Ok at) = with_two_numbers at (size - at)
split_result size (Err r) = refused_two_numbers r

-- 01 has no order for the exporter context: 6 for an AEAD that is unknown, as split, then 14
unfoldable pub exporter_refusal : ℕ → ℕ → ℕ
exporter_refusal aead room =
    6 when not (known_aead aead) otherwise
    14 when ltb room (length exporter_context) otherwise
    0

-- the lengths of the context and of the secret
abbrev pub exporter_lengths : ℕ → ℕ → Result (ℕ × ℕ) Refusal
exporter_lengths aead room = result_by (exporter_refusal aead room) (length exporter_context, secret_length aead)

abbrev pub exporter_result : Result (ℕ × ℕ) Refusal → TwoNumbersResult
exporter_result (Ok lengths) = with_two_numbers lengths.0 lengths.1
exporter_result (Err r) = refused_two_numbers r
