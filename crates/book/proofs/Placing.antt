-- The place of a new exchange: where the table is not full it is inside and was free.
-- Assumes nothing.
use mathlib.Core.Path.{◌≡◌, sym, ◌∙◌}
use mathlib.Core.Bool.{true, false}
use mathlib.Core.List.{List}
use Prim.Native.Nat.{ℕ, ◌<◌}
use borrow.Author.Tests.{leb-false}
use lib.ListN.{length, get_or}
use Rattle.exchange.specs.declared.Exchange.{Exchange}
use Rattle.exchange.specs.Exchange.{free, is_free}
use Rattle.gateway.specs.declared.table.Engine.{Engine}
use Rattle.gateway.specs.Engines.{free_place}
use Rattle.gateway.specs.View.{is_full}
use Rattle.gateway.proofs.Places.{found_any, found_passes}

module _ (engine : Engine) (ticket : ℕ) (table : List Exchange) (h : is_full table ≡ false) where
  pub place_inside : free_place engine ticket table < length table
  place_inside = leb-false (length table) (free_place engine ticket table) (sym (found_any engine ticket is_free table) ∙ h)

  pub place_free : is_free (get_or table (free_place engine ticket table) free) ≡ true
  place_free = found_passes engine ticket is_free table place_inside
