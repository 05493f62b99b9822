-- `client::choose::is_listed` meets its contract.
-- Assumes nothing.
use Rattle.std.proofs.Common.{◌≡◌, ◌-◌, true, false, ◌&&◌, eqb, length, get_or, take, drop, sym, ap, ◌∙◌, arith}
use Rattle.std.proofs.lemmas.Grind.{common_steps}
use Rattle.client.specs.Choose.{listed}
use Rattle.client.proofs.Pairs.{listed_step, listed_end}
use Rattle.client.proofs.choose.is_listed.Goals as goal

pub returns-then-eq : goal.returns-then-eq
returns-then-eq c =
    let rest = c.loop-rest.rest.now in
    let p = c.args.pair in
    let same : (eqb (get_or rest 0 0) p.kdf && eqb (get_or rest 1 0) p.aead) ≡ true = sym c.eq.ensures ∙ c.if-eq.true in
    sym (c.loop-rest.invariant ∙ listed_step rest p c.in-len2-up.len_at_least ∙ rw same)

pub loop-rest-preserved : goal.loop-rest-preserved
loop-rest-preserved c =
    let rest = c.loop-rest.rest.now in
    let p = c.args.pair in
    let other : (eqb (get_or rest 0 0) p.kdf && eqb (get_or rest 1 0) p.aead) ≡ false = sym c.eq.ensures ∙ c.if-eq.false in
    let others : take (length rest - 2) (drop 2 rest) ≡ drop 2 rest = grind (arith, common_steps) in
    c.loop-rest.invariant ∙ listed_step rest p c.in-len2-up.len_at_least ∙ rw other (ap (λ xs. listed xs p) (sym others))

pub returns : goal.returns
returns c = rw (c.loop-rest.invariant, listed_end c.loop-rest.rest.now _ (omega arith))
