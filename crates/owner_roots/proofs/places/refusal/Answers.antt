use Rattle.std.proofs.Common.{Some, map, sym, ap, ◌∙◌}
use Rattle.std.specs.Prelude.{option_map}
use Rattle.std.proofs.lemmas.List.{length-map}
use Rattle.vo_spec.specs.Tables.{table_header_named}
use Rattle.owner_roots.specs.Next.{table_header}
use Rattle.owner_roots.proofs.PlaceLaws.{table_header_there}
use Rattle.owner_roots.proofs.places.refusal.Goals as goal

pub returns-in-Some : goal.returns-in-Some
returns-in-Some c =
    let tables = c.args.tables.now in
    let named = table_header_there c.command_name.result.now tables ∙ ap (option_map table_header) (sym c.in-Some.ensures) in
    c.first_refusal.ensures (map table_header tables)
    (ap (λ n. table_header_named n (map table_header tables)) (sym c.command_name.ensures) ∙ named ∙ ap Some (sym c.table_header_of.ensures))
    (length-map tables table_header)

pub returns-in-None : goal.returns-in-None
returns-in-None c =
    let tables = c.args.tables.now in
    let named = table_header_there c.command_name.result.now tables ∙ ap (option_map table_header) (sym c.in-None.ensures) in
    c.first_refusal-in-None.ensures (map table_header tables)
    (ap (λ n. table_header_named n (map table_header tables)) (sym c.command_name.ensures) ∙ named)
    (length-map tables table_header)
