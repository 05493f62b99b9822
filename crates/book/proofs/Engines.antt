-- The engines agree: whichever each call goes by, the run is the book's.
-- Assumes nothing.
use mathlib.Core.Path.{sym, ◌∙◌}
use mathlib.Core.List.Permᴰ
use Rattle.book.specs.Engines.{EnginesAgreeHolds}
use Rattle.book.proofs.Refinement.{fast, alike_chosen, trace_chosen, alike_end}

pub engines_agree : EnginesAgreeHolds
engines_agree choice list cap calls =
    let one = alike_chosen choice list cap calls in
    let other = alike_end list cap calls in
    record {
      same_answers = trace_chosen choice list cap calls ∙ sym (trace_chosen fast list cap calls);
      same_registry = one.registry ∙ sym other.registry;
      same_pending = ∣ Permᴰ.trans one.pending (Permᴰ.symm other.pending) ∣₁;
    }
