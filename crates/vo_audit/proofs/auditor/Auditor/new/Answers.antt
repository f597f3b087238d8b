use Rattle.vo_audit.proofs.JournalLaws.{read_at}
use Rattle.vo_audit.proofs.auditor.Auditor.new.Goals as goal

pub invariant_of-result : goal.invariant_of-result
invariant_of-result c = record {
  owned = c.in-Ok.ensures.owned;
  departs = c.in-Ok.ensures.departure;
  at = read_at c.args.key c.args.journal.now c.args.version c.in-Ok.owned c.in-Ok.ensures.owned
      c.in-Ok.ensures.tables c.in-Ok.ensures.there c.in-Ok.ensures.departure;
}
