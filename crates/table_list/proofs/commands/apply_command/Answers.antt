use Rattle.std.proofs.Common.{◌≡◌, map, None, sym, ◌∙◌, arith}
use Rattle.std.proofs.lemmas.Grind.{common_steps}
use Rattle.vo_spec.specs.Tables.{table_header_of, refusal}
use Rattle.table_list.proofs.CommandLaws.{refused, refused_by_rows}
use Rattle.table_list.proofs.commands.apply_command.Goals as goal

pub returns-in-Some : goal.returns-in-Some
returns-in-Some c = refused c.args.command.now c.args.tables.now c.in-Some.fault (sym c.in-Some.ensures)

pub returns-in-Some-2 : goal.returns-in-Some-2
returns-in-Some-2 c =
    let passed : refusal c.args.command.now (map table_header_of c.args.tables.now) ≡ None = grind (arith, common_steps) in
    refused_by_rows c.args.command.now c.args.tables.now c.in-Some-2.fault passed (sym c.in_ok-fault.ensures ∙ c.in-Some-2.is)
