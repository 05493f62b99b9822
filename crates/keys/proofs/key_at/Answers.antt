-- `keys::key_at` meets its contract. The fields that were read are those of the configuration at the offset, and its pairs lie in the
-- list.
-- Assumes nothing.
use Rattle.std.proofs.Common.{◌≡◌, ℕ, ◌+◌, ◌/◌, ◌∙◌, ap, arith}
use mathlib.Core.Path.{ap₂}
use Rattle.keylist.specs.Layout.{pair_bytes_at, pairs_at}
use Rattle.keylist.specs.declared.Place.{Place}
use Rattle.keylist.proofs.LayoutLaws.{Holds, holds}
use Rattle.keys.specs.Stored.{most_pairs, no_pair}
use Rattle.keys.specs.Keys.{padded}
use Rattle.keys.proofs.Reading.{stored_here}
use Rattle.keys.proofs.key_at.Goals as goal
use Rattle.keys.proofs.key_at.Goals.{After-word_at}

-- the configuration keeps the layout's rules
rules_here : (c : After-word_at) → Holds c.args.list.now c.args.at
rules_here c = holds c.args.list.now c.args.at c.requires.0

-- its number of pair bytes is the one that was read
bytes_here : (c : After-word_at) → c.word_at.result ≡ pair_bytes_at c.args.list.now c.args.at
bytes_here c = rw c.requires.1 at c.word_at.ensures

pub overflow_add-place : goal.overflow_add-place
overflow_add-place c = let p = rules_here c in rw c.requires.1 (omega (arith, p.whole, p.sizes))

pub overflow_cast-result : goal.overflow_cast-result
overflow_cast-result c = omega (arith, bytes_here c, (rules_here c).pairs)

pub pairs_at-requires : goal.pairs_at-requires
pairs_at-requires c =
    let w = (goal.at.pairs_at-requires c).After-word_at in
    let p = rules_here w in
    let end = ap (λ (q : Place). q.key.end) c.requires.1 in
    record { inside = omega (arith, end, bytes_here w, p.whole, p.sizes); few = omega (arith, bytes_here w, p.pairs) }

pub returns : goal.returns
returns c =
    let a = c.args in
    let count = ap (λ (n : ℕ). n / 4) (bytes_here (goal.at.returns c).After-word_at) in
    let end = ap (λ (q : Place). q.key.end + 2) c.requires.1 in
    stored_here a.list.now a.at (ap (λ (q : Place). q.key_id) c.requires.1) (ap (λ (q : Place). q.kem) c.requires.1) count
    (c.pairs_at.ensures ∙ ap₂ (λ (n from : ℕ). padded most_pairs no_pair (pairs_at n a.list.now from)) count end)
