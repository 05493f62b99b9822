-- The edges of the request, computed.
-- Assumes nothing.
use mathlib.Core.Path.{refl}
use Rattle.wire.specs.Search.{first_place}
use Rattle.wire.specs.Hex.{hex}
use Rattle.wire.specs.Texts.{ascii}
use Rattle.integers.specs.Integers.{integer_at}
use Rattle.fields.specs.Fields.{field_at, fields_from, name_at, name_fault, value_at, value_fault}
use Rattle.fields.specs.Octets.{class_of, first_below}
use Rattle.fields.specs.Parts.{prefixed_at}
use Rattle.bhttp.specs.Contents.{contents_at, optional_at, padding_at, section_at}
use Rattle.bhttp.specs.Request.{control_at, request_in}
use Rattle.bhttp.specs.Edges.{example, RequestEdges}
use Rattle.bhttp.specs.Stated.{field_parts}

pub request_edges : RequestEdges
unfolding hex first_place ascii integer_at class_of first_below field_at fields_from name_at name_fault value_at value_fault prefixed_at contents_at optional_at padding_at section_at control_at request_in example field_parts
request_edges =
    record {
      appendix_a = refl;
      every_size = refl;
      mixed_sizes = refl;
      ends = refl;
      framing = refl;
      missing = refl;
      name = refl;
      value_length = refl;
      value = refl;
      behind_content = refl;
    }
