-- The exporter context (01, "Layouts"), which the host exports the response's secret with.
use Rattle.std.specs.Prelude.{ℕ, List}
use Rattle.wire.specs.Texts.{ascii}

-- 22 ASCII bytes
unfoldable pub exporter_context : List ℕ
exporter_context = ascii "message/bhttp response"
