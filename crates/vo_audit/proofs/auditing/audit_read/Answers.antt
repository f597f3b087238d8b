use Rattle.std.proofs.Common.{Ok, Err, ap, subst}
use Rattle.vo_spec.specs.declared.checks.AuditFault.{AuditFault}
use Rattle.vo_spec.specs.Conditions.{query_of}
use Rattle.vo_format.specs.View.{reply_of}
use Rattle.held_replies.specs.Reading.{ReadsReply}
use Rattle.vo_audit.proofs.AcceptedLaws.{told_of_bytes, told_unread}
use Rattle.vo_audit.proofs.auditing.audit_read.Goals as goal

pub returns-in-Ok-clause-verdict : goal.returns-in-Ok-clause-verdict
returns-in-Ok-clause-verdict c = λ journal bytes owned reads.
    let read : ReadsReply bytes (Ok c.in-Ok.reply) = subst (ReadsReply bytes) c.in-Ok.is reads in
    told_of_bytes c.args.key.now journal bytes c.args.owned.now.entries (query_of c.args.query.now)
    (reply_of c.in-Ok.reply) c.audit_reply.result owned read.0 read.1 c.audit_reply.ensures.verdict

pub returns-in-Err-clause-verdict : goal.returns-in-Err-clause-verdict
returns-in-Err-clause-verdict c = λ journal bytes owned reads.
    told_unread c.args.key.now journal bytes c.args.owned.now.entries (query_of c.args.query.now)
    c.in-Err.fault (Err c.audit_fault.result) owned (subst (ReadsReply bytes) c.in-Err.is reads)
    (ap (λ (f : AuditFault). Err f) c.audit_fault.ensures)
