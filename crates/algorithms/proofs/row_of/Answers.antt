-- `algorithms::row_of` meets its contract: the table of the code is that of the definition, row by row, by computation.
-- Assumes nothing.
use Rattle.std.proofs.Common.{◌∙◌, rules}
use Rattle.std.proofs.lemmas.Iterator.{YieldsList-from_slice}
use Rattle.std.proofs.lemmas.Iterator.Search.{find_from_yields_List}
use borrow.Author.Tests.{tests}
use Rattle.algorithms.specs.Table.{is_row, row_of, table}
use Rattle.algorithms.proofs.row_of.Goals as goal

pub returns : goal.returns
unfolding row_of table
returns c =
    c.copied.ensures ∙ find_from_yields_List (is_row c.args.kind c.args.number) _ _ _ c.find.ensures.ran (YieldsList-from_slice table cc) (λ x b q k. search (rules, tests))
