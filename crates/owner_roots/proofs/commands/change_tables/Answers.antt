use Rattle.std.proofs.Common.{sym, ap, ◌∙◌, subst}
use Rattle.owner_roots.specs.Next.{table_number, place_for, new_table}
use Rattle.owner_roots.specs.Working.{FitCatalog}
use Rattle.owner_roots.proofs.CatalogLaws.{removed_fit}
use Rattle.owner_roots.proofs.CreatedTables.{inserted_so}
use Rattle.owner_roots.proofs.commands.change_tables.Goals as goal

pub returns-in_ok-insert-in-Create-clause-within : goal.returns-in_ok-insert-in-Create-clause-within
returns-in_ok-insert-in-Create-clause-within c =
    inserted_so c.args.command.now c.in-Create.name c.in-Create.columns c.in-Create.key c.args.tables.now.items c.insert.new.self.items c.place_for-place.result
    c.in_ok-new_table-in-Create.field-0 c.in-Create.is c.requires.fits c.requires.allowed c.requires.within
    (c.place_for-place.ensures.place ∙ ap (λ n. place_for n c.as_slice.result.now) c.as_bytes.ensures ∙ ap (place_for c.in-Create.name) c.as_slice.ensures.value)
    (c.in_ok-new_table-in-Create.ensures ∙ ap (λ columns. new_table c.in-Create.name columns c.in-Create.key) c.as_slice-in-Create.ensures)
    c.in_ok-insert-in-Create.ensures.items

pub returns-in-Drop-clause-within : goal.returns-in-Drop-clause-within
returns-in-Drop-clause-within c =
    subst FitCatalog (sym c.drop_table.ensures) (removed_fit c.args.tables.now.items (table_number _ c.args.tables.now.items) c.requires.within)
