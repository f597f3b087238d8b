use Rattle.std.proofs.Common.{sym, subst}
use Rattle.stored_tables.specs.Representation.{IsStanding}
use Rattle.stored_tables.proofs.ListLaws.{same_stored}
use Rattle.stored_tables.proofs.batches.share_tables.Goals as goal

pub returns-clause-same : goal.returns-clause-same
returns-clause-same c = same_stored c.in_ok-replace_range.field-0.items c.args.tables.now c.in_ok-replace_range.ensures

pub returns-clause-standing : goal.returns-clause-standing
returns-clause-standing c = subst IsStanding (sym (same_stored c.in_ok-replace_range.field-0.items c.args.tables.now c.in_ok-replace_range.ensures)) c.requires
