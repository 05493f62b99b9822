-- `exchange::Exchange::step` meets its contract: where nothing refuses, enc and nonce stand at the front of the buffer, by the laws of writes.
-- Assumes nothing.
use Rattle.std.proofs.Common.{◌∙◌, length, arith}
use Rattle.wire.proofs.Numbers.{ok_by}
use Rattle.wire.proofs.Writes.{front_first, front_more}
use Rattle.exchange.proofs.Lengths.{Accepted, accepted_by, own_accepted}
use Rattle.exchange.proofs.Exchange.step.Goals as goal
use Rattle.exchange.proofs.Exchange.step.Goals.{In_ok-refusal}

-- nothing is refused
accepted : (c : In_ok-refusal)
    → let a = c.args in
    Accepted a.kind (length a.enc.now) (length a.nonce.now) (length a.salt.now) a.self.now
accepted c =
    let a = c.args in
    let none = (ok_by _ _ _ c.in_ok-refusal.ensures).0 in
    accepted_by a.kind (length a.enc.now) (length a.nonce.now) (length a.salt.now) a.self.now
    (rw (own_accepted a.ticket.0 a.kind (length a.enc.now) (length a.nonce.now) (length a.salt.now) a.self.now none) at none)

pub accepted-answer-requires : goal.accepted-answer-requires
accepted-answer-requires c =
    let held = (accepted (goal.at.accepted-answer-requires c).In_ok-refusal).lengths_hold in
    grind arith

pub returns-clause-buffer : goal.returns-clause-buffer
returns-clause-buffer c =
    let a = c.args in
    let fits = accepted (goal.at.returns-clause-buffer c).In_ok-refusal in
    rw ((ok_by _ _ _ c.in_ok-refusal.ensures).0)
    (c.overwrite-2.ensures
    ∙ rw (c.overwrite.ensures, front_first a.enc.now a.salt.now (omega arith))
    (front_more a.enc.now a.nonce.now a.salt.now fits.fits))
