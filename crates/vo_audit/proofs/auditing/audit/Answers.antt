use Rattle.std.proofs.Common.{◌≡◌, ℕ, Ok, Err, Result, ap, subst}
use Rattle.std.specs.Prelude.{IfOk}
use Rattle.vo_spec.specs.declared.checks.AuditFault.TheVariants.{BadJournal}
use Rattle.vo_spec.specs.declared.checks.CheckFault.{CheckFault}
use Rattle.vo_spec.specs.Conditions.{query_of}
use Rattle.vo_format.specs.declared.reply.Reply.{Reply as ReadReply}
use Rattle.owner_state.specs.declared.journals.JournalReadFault.{JournalReadFault}
use Rattle.owner_state.specs.declared.journals.OwnedJournal.{OwnedJournal}
use Rattle.vo_audit.specs.Auditing.{IsReadAt, version_of}
use Rattle.vo_audit.proofs.AcceptedLaws.{told_bad}
use Rattle.vo_audit.proofs.JournalLaws.{read_at}
use Rattle.vo_audit.proofs.auditing.audit.Goals as goal

read_for : (read : Result ReadReply CheckFault) (version : ℕ) (owned : OwnedJournal)
    → version ≡ version_of read → IsReadAt version owned
    → IfOk read (λ reply. IsReadAt reply.rec.version owned)
read_for (Ok reply) version owned is at = subst (λ (v : ℕ). IsReadAt v owned) is at
read_for (Err fault) version owned is at = tt

pub audit_read-requires-clause-read : goal.audit_read-requires-clause-read
audit_read-requires-clause-read c =
    read_for c.read_within-read.result c.version_of.result c.in-Ok.owned c.version_of.ensures
    (read_at c.args.key.now c.args.journal.now c.version_of.result c.in-Ok.owned c.in-Ok.ensures.owned
    c.in-Ok.ensures.tables c.in-Ok.ensures.there c.in-Ok.ensures.departure)

pub returns-in-Err-BadAt-clause-verdict : goal.returns-in-Err-BadAt-clause-verdict
returns-in-Err-BadAt-clause-verdict c =
    told_bad c.args.key.now c.args.journal.now c.args.reply.now (query_of c.args.query.now) c.in-Err-BadAt.index _
    (c.in-Err-BadAt.ensures.bad c.in-Err-BadAt.index (ap (λ (f : JournalReadFault). Err f) c.in-Err-BadAt.field-0-is))
    (ap (λ (i : ℕ). Err (BadJournal i)) c.in-Err-BadAt.index-is)
