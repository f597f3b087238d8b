use Rattle.std.proofs.Common.{map, sym, ap, ◌∙◌}
use Rattle.vo_spec.specs.Tables.{refusal}
use Rattle.mb_tree.specs.View.{part_of}
use Rattle.owner_roots.specs.Next.{table_header}
use Rattle.owner_roots.proofs.CommandSteps.{allowed_gives, command_refused}
use Rattle.owner_roots.proofs.commands.apply_command.Goals as goal

pub returns-in-Some-clause-answer : goal.returns-in-Some-clause-answer
returns-in-Some-clause-answer c =
    command_refused c.args.index c.args.command.now (map part_of c.args.trees.now) c.args.tables.now.items c.in-Some.fault
    (ap (λ ts. refusal c.args.command.now (map table_header ts)) (sym c.as_slice.ensures.value) ∙ sym c.refusal.ensures ∙ c.in-Some.is)

pub returns-in-None-clause-answer : goal.returns-in-None-clause-answer
returns-in-None-clause-answer c =
    allowed_gives _ c.change_tables.result c.args.index c.args.command.now (map part_of c.args.trees.now) c.args.tables.now.items
    (ap (λ ts. refusal c.args.command.now (map table_header ts)) (sym c.as_slice.ensures.value) ∙ sym c.refusal.ensures ∙ c.in-None.is) c.change_tables.ensures.answer
