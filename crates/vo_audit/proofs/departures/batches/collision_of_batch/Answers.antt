use Rattle.std.proofs.Common.{Err, map, sym, ap, ◌∙◌, subst}
use Rattle.mb_tree.specs.View.{part_of}
use Rattle.vo_audit.specs.Departures.{DepartBy}
use Rattle.vo_audit.proofs.DepartureLaws.{read_depart, never_unread}
use Rattle.vo_audit.proofs.departures.batches.collision_of_batch.Goals as goal

pub collision_of_commands-requires-clause-depart : goal.collision_of_commands-requires-clause-depart
collision_of_commands-requires-clause-depart c =
    subst (λ cs. DepartBy (map part_of c.as_slice-in-Ok.result.now) c.args.tables.now cs) (sym c.as_slice.ensures)
    (subst (λ ts. DepartBy (map part_of ts) c.args.tables.now c.args.batch.now.commands) (sym c.as_slice-in-Ok.ensures.value)
    (read_depart c.args.tables.now c.args.batch.now.commands c.args.proofs.now (map part_of c.in-Ok.trees.items) c.requires.departure c.in-Ok.ensures.found))

pub unreachable-requires : goal.unreachable-requires
unreachable-requires c =
    never_unread c.args.tables.now c.args.batch.now.commands c.args.proofs.now c.requires.departure (c.read_proofs.ensures.bad (c.in-Err-BadForm.is ∙ ap Err c.in-Err-BadForm.field-0-is))
