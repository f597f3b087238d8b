use Rattle.std.proofs.Common.{Err, map, ap, ◌∙◌}
use Rattle.mb_tree.specs.View.{part_of}
use Rattle.vo_audit.proofs.LeftCommands.{never_refused}
use Rattle.vo_audit.proofs.departures.commands.tables_after_command.Goals as goal

pub unreachable-requires : goal.unreachable-requires
unreachable-requires c =
    never_refused (λ new. new) c.args.command.now (map part_of c.args.trees.now) c.args.tables.now c.apply.result c.in-Err-Refused.field-0-0
    (c.in-Err-Refused.is ∙ ap Err c.in-Err-Refused.field-0-is) c.requires.standing c.requires.followed c.requires.part c.apply.ensures
