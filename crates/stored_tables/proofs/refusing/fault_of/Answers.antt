use Rattle.std.proofs.Common.{Some, map, sym, ap, ◌∙◌}
use Rattle.std.proofs.lemmas.List.{length-map}
use Rattle.vo_spec.specs.Tables.{table_header_named}
use Rattle.vo_spec.specs.Honest.{stored_table_header}
use Rattle.stored_tables.specs.View.{stored_in}
use Rattle.stored_tables.proofs.PositionLaws.{table_header_at, table_header_nowhere}
use Rattle.stored_tables.proofs.refusing.fault_of.Goals as goal

pub returns-in-Some : goal.returns-in-Some
returns-in-Some c =
    let stored = stored_in c.args.tables.now in
    let here = table_header_at c.command_name.result.now stored c.in-Some.place.at _ c.in-Some.ensures in
    c.first_refusal.ensures (map stored_table_header stored)
    (ap (λ n. table_header_named n (map stored_table_header stored)) (sym c.command_name.ensures) ∙ here ∙ ap Some (sym c.table_header.ensures))
    (length-map stored stored_table_header ∙ length-map c.args.tables.now _)

pub returns-in-None : goal.returns-in-None
returns-in-None c =
    let stored = stored_in c.args.tables.now in
    c.first_refusal-in-None.ensures (map stored_table_header stored)
    (ap (λ n. table_header_named n (map stored_table_header stored)) (sym c.command_name.ensures) ∙ table_header_nowhere c.command_name.result.now stored c.in-None.ensures)
    (length-map stored stored_table_header ∙ length-map c.args.tables.now _)
