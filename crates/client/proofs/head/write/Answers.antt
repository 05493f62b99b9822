-- `client::head::write` meets its contract: the head and its info by the laws of writes at the front, and nothing on refusal.
-- Assumes nothing.
use Rattle.std.proofs.Common.{sym, ◌∙◌, arith}
use Rattle.std.proofs.lemmas.Result.{err_from_is_err_and}
use Rattle.wire.specs.Texts.{ascii, request_label, info_bytes, head_bytes}
use Rattle.wire.proofs.Writes.{front_first, front_more}
use Rattle.client.specs.Head.{head_does}
use Rattle.wire.proofs.Numbers.{unless-refused}
use Rattle.keylist.proofs.Parsing.{is_fault}
use Rattle.client.proofs.Fronts.{head_accepted, refused_by}
use Rattle.client.proofs.head.write.Goals as goal

pub returns-in_err-check : goal.returns-in_err-check
unfolding head_does
returns-in_err-check c =
    let given = err_from_is_err_and c.from_residual.result c.from_residual.ensures.1 in
    let refuses = is_fault c.in_err-check.field-0.0 in
    rw (given.1, given.2, ← c.in_err-check.ensures) (refused_by _ _ refuses, unless-refused _ _ _ refuses, unless-refused _ _ _ refuses)

pub returns : goal.returns
unfolding ascii head_does request_label
returns c =
    let a = c.args in
    let fits = head_accepted _ _ _ _ _ _ (sym c.in_ok-check.ensures) in
    let first = head_bytes a.key_id.0 a.kem.0 a.kdf.0 a.aead.0 in
    let bytes = c.head-front.ensures in
    rw (← c.in_ok-check.ensures) (
      rw fits.1,
      c.overwrite-2.ensures
          ∙ rw (c.overwrite.ensures, bytes, front_first first a.head.now (omega arith))
          (front_more first a.enc.now a.head.now (omega arith)),
      c.overwrite-3.ensures
          ∙ rw (c.info-context.ensures, bytes) (front_first (info_bytes first) a.info.now (omega arith)),
    )
