use Rattle.vo_commands.proofs.OwnerAudits.{told_forged}
use Rattle.vo_commands.proofs.explain.forgery_report.Goals as goal

pub returns : goal.returns
returns c =
    let unsigned = c.args.unsigned.now in
    told_forged c.args.secret.now c.args.journal.now unsigned.rec.now unsigned.signature.now unsigned.last _ _ _
    c.requires.absent c.in_ok-signed.ensures (rw c.deref.ensures.value at c.in_ok-found.ensures) c.forged_report-report.ensures
