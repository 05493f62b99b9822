-- The layout's rules as A1 left them, apart from the chain of faults: the test of one configuration, which functions below the entries ask for
-- too, and the reader, kept for the one statement that A2 reads the same lists into the same configurations. What a configuration's fields are
-- and which are skipped did not move, and stands in `Layout` for both.
use Rattle.std.specs.Prelude.{ℕ, zero, suc, ◌+◌, Bool, not, List, [], ◌∷◌, ◌++◌, Result, Ok, Err, eqb, leb, length}
use Rattle.wire.specs.Tests.{pick, ◌and◌}
use Rattle.wire.specs.Search.{among}
use Rattle.wire.specs.Refusals.{refused_at}
use Rattle.wire.specs.declared.refusal.Refusal.{Refusal}
use Rattle.algorithms.specs.Sizes.{known_kem, public_key_length}
use Rattle.keylist.specs.Layout.{Configuration, configuration_at, followed_by, is_skipped, is_whole, key_id_at, kem_at, length_at, most_configurations, next_start, pair_bytes_at, pair_bytes_hold}

-- one configuration that is read: it lies whole in the list, its KEM is known, L = 5 + Npk + S, and S
unfoldable pub layout_holds : List ℕ → ℕ → Bool
layout_holds bytes at =
    is_whole bytes at
    and known_kem (kem_at bytes at)
    and eqb (length_at bytes at) (5 + public_key_length (kem_at bytes at) + pair_bytes_at bytes at)
    and pair_bytes_hold (pair_bytes_at bytes at)

-- 15 at the configuration's length, whatever is wrong with it
unfoldable pub parse_before_from : ℕ → List ℕ → List ℕ → ℕ → Result (List Configuration) Refusal
parse_before_from zero taken bytes at = pick (leb (length bytes) at) (Ok []) (Err (refused_at 15 at))
parse_before_from (suc more) taken bytes at =
    pick (leb (length bytes) at) (Ok [])
    (pick (is_skipped bytes at) (parse_before_from more taken bytes (next_start bytes at))
    (pick (layout_holds bytes at and not (among taken (key_id_at bytes at)))
    (followed_by (configuration_at bytes at) (parse_before_from more (taken ++ key_id_at bytes at ∷ []) bytes (next_start bytes at)))
    (Err (refused_at 15 at))))

unfoldable pub parse_before : List ℕ → Result (List Configuration) Refusal
parse_before [] = Err (refused_at 15 0)
parse_before (byte ∷ bytes) = parse_before_from most_configurations [] (byte ∷ bytes) 0
