-- The starred edges that need no gateway, and those of A1 and A2, computed.
-- Assumes nothing.
use mathlib.Core.Path.{refl}
use mathlib.Core.List.{flatten}
use Rattle.algorithms.specs.Sizes.{known_kem, public_key_length}
use Rattle.algorithms.specs.Table.{row_of, table}
use Rattle.wire.specs.Search.{filtered}
use Rattle.wire.specs.Hex.{hex}
use Rattle.wire.specs.Texts.{ascii, request_label}
use Rattle.keylist.specs.Answers.{starts_from}
use Rattle.keylist.specs.Edges.{FaultEdges, ListEdges, SkippingEdges, edge_list}
use Rattle.keylist.specs.Layout.{configuration_at, fault_of, is_skipped, pairs_at, parse, parse_from}

pub list_edges : ListEdges
unfolding ascii edge_list hex parse parse_from fault_of is_skipped configuration_at pairs_at known_kem public_key_length row_of table request_label
list_edges =
    record {
      bytes = refl;
      one_key = refl;
      twice = refl;
      empty = refl;
      info = refl;
    }

pub skipping_edges : SkippingEdges
unfolding edge_list hex parse parse_from fault_of is_skipped configuration_at pairs_at known_kem public_key_length row_of table filtered starts_from flatten
skipping_edges =
    record {
      in_front = refl;
      counted = refl;
      id_twice = refl;
      too_short = refl;
      cut = refl;
      sixteen = refl;
      seventeen = refl;
      no_key = refl;
      key = refl;
    }

pub fault_edges : FaultEdges
unfolding edge_list hex parse parse_from fault_of is_skipped configuration_at pairs_at known_kem public_key_length row_of table filtered starts_from flatten
fault_edges =
    record {
      past_end = refl;
      ends_before_pairs = refl;
      pair_length = refl;
      pairs = refl;
      disagrees = refl;
      too_many = refl;
    }
