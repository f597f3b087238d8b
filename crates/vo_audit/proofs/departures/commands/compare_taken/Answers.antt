use Rattle.std.proofs.Common.{◌≡◌, inl, inr, sym, ap, ◌∙◌}
use Rattle.std.specs.Option.{option_copied}
use Rattle.owner_roots.specs.Next.{trees_taken}
use Rattle.vo_audit.proofs.LeftCommands.{taken_root, none_taken}
use Rattle.vo_audit.proofs.departures.commands.compare_taken.Goals as goal

pub compare_with_table-requires : goal.compare_with_table-requires
compare_with_table-requires c =
    let one : trees_taken c.args.command.now ≡ 1 = elim c.in-Insert.is [
      | inl put ↦ ap trees_taken put.2
      | inr other ↦ elim other [
        | inl set ↦ ap trees_taken set.4
        | inr removed ↦ ap trees_taken removed.3
      ]
    ] in
    taken_root c.args.command.now c.command_name.result.now c.args.trees.now c.in-Some.tree.now c.args.tables.now c.command_name.ensures
    (sym c.first.ensures.value ∙ ap option_copied c.in-Some.is) one c.requires.fits c.requires.followed

pub unreachable-requires : goal.unreachable-requires
unreachable-requires c =
    let one : trees_taken c.args.command.now ≡ 1 = elim c.in-Insert.is [
      | inl put ↦ ap trees_taken put.2
      | inr other ↦ elim other [
        | inl set ↦ ap trees_taken set.4
        | inr removed ↦ ap trees_taken removed.3
      ]
    ] in
    none_taken c.args.command.now c.args.trees.now c.args.tables.now (sym c.first.ensures.value ∙ ap option_copied c.in-None.is) one c.requires.followed
