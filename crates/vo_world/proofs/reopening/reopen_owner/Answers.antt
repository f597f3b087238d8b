use Rattle.std.proofs.Common.{ap, ◌∙◌}
use Rattle.std.specs.Prelude.{Err}
use Rattle.vo_world.proofs.EntryFits.{never_no_step}
use Rattle.vo_world.proofs.reopening.reopen_owner.Goals as goal

pub unreachable-requires : goal.unreachable-requires
unreachable-requires c =
    never_no_step c.args.key.now c.args.entries.now c.in-Err-Entry.field-0-0 c.requires.steps
    (c.replay.ensures.bad c.in-Err-Entry.field-0-0 (c.in-Err-Entry.is ∙ ap Err c.in-Err-Entry.field-0-is))
