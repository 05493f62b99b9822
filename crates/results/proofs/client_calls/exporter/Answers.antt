-- `results::client_calls::exporter` meets its contract.
-- Assumes nothing.
use mathlib.Core.Path.{sym, ap, ◌∙◌}
use mathlib.Core.List.{List}
use Prim.Native.Nat.{ℕ}
use Rattle.wire.specs.Helpers.{overwritten}
use Rattle.results.proofs.Exporter.{context_written}
use Rattle.results.proofs.client_calls.exporter.Goals as goal

pub returns-clause-buffer : goal.returns-clause-buffer
returns-clause-buffer c =
    let buffer = c.args.context.now in
    let answered = sym c.in_ok-lengths.was ∙ c.exporter_lengths.ensures in
    c.overwrite.ensures ∙ ap (λ (text : List ℕ). overwritten buffer 0 text) c.exporter_context.ensures
    ∙ context_written c.args.aead buffer _ answered
