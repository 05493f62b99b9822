-- What is skipped is not written, and the list writer's numbers and places, computed.
-- Assumes nothing.
use mathlib.Core.Path.{refl}
use Rattle.wire.specs.Hex.{hex}
use Rattle.wire.specs.Search.{filtered, first_place}
use Rattle.algorithms.specs.Sizes.{known_kem, public_key_length}
use Rattle.algorithms.specs.Table.{row_of, table}
use Rattle.keylist.specs.Answers.{starts_from}
use Rattle.keylist.specs.Edges.{edge_list}
use Rattle.keylist.specs.Layout.{configuration_at, fault_of, is_skipped, pairs_at, parse, parse_from}
use Rattle.listwriter.specs.Writer.{cut, encode, encode_behind, fault_of_given}
use Rattle.listwriter.specs.Edges.{SkippedIsNotWritten, WriterFaults}

pub skipped_is_not_written : SkippedIsNotWritten
unfolding edge_list hex parse parse_from fault_of is_skipped configuration_at pairs_at known_kem public_key_length row_of table first_place filtered starts_from encode encode_behind fault_of_given cut
skipped_is_not_written =
    record {
      skipped = refl;
      read = refl;
      written = refl;
      lengths = refl;
    }

pub writer_faults : WriterFaults
unfolding encode encode_behind fault_of_given cut known_kem public_key_length row_of table first_place
writer_faults =
    record {
      none_given = refl;
      too_many = refl;
      unknown = refl;
      key_length = refl;
      pair_count = refl;
      id_twice = refl;
      key_missing = refl;
      pairs_missing = refl;
      left_over = refl;
      seventeenth = refl;
    }
