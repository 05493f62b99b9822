-- Choose, head and split at their bounds, computed.
-- Assumes nothing.
use mathlib.Core.Path.{refl}
use Rattle.wire.specs.Hex.{hex}
use Rattle.wire.specs.Search.{first_place}
use Rattle.algorithms.specs.Sizes.{enc_length, key_length, known_aead, known_kdf, known_kem, public_key_length}
use Rattle.algorithms.specs.Table.{row_of, table}
use Rattle.keylist.specs.Layout.{configuration_at, fault_of, is_skipped, pairs_at, parse, parse_from}
use Rattle.client.specs.Choose.{pairs_of}
use Rattle.client.specs.Edges.{ClientEdges, appendix_list}
use Rattle.client.specs.Head.{head_refusal}
use Rattle.client.specs.Split.{split_refusal}

pub client_edges : ClientEdges
unfolding appendix_list hex parse parse_from fault_of is_skipped configuration_at pairs_at pairs_of head_refusal split_refusal
    known_kem known_kdf known_aead enc_length public_key_length key_length row_of table first_place
client_edges =
    record {
      chosen = refl;
      crossed = refl;
      other_kem = refl;
      odd_pairs = refl;
      bad_first = refl;
      head_order = refl;
      split16 = refl;
      split32 = refl;
      split_unknown = refl;
    }
