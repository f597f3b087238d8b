use Rattle.std.proofs.Common.{Err, ap, ◌∙◌}
use Rattle.owner_state.specs.declared.journals.JournalReadFault.{JournalReadFault}
use Rattle.workload_run.proofs.Readings.{never_bad}
use Rattle.workload_run.proofs.readers.readers_of.Goals as goal

pub unreachable-requires : goal.unreachable-requires
unreachable-requires c =
    never_bad c.args.key c.args.journal.now c.requires.0 c.in-Err-BadAt.field-0-0 c.requires.1
    (c.new.ensures.bad c.in-Err-BadAt.field-0-0
    (c.in-Err-BadAt.is ∙ ap (λ (f : JournalReadFault). Err f) c.in-Err-BadAt.field-0-is))
