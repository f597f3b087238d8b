use Rattle.std.proofs.Common.{◌≡◌, ◌<◌, Ok, map, length, sym, ap, ◌∙◌, subst, refl, arith}
use Rattle.std.specs.Prelude.{slice_get, slice_set}
use Rattle.mb_tree.specs.View.{part_of}
use Rattle.vo_spec.specs.declared.records.CatalogTable.{CatalogTable}
use Rattle.table_list.specs.TableHeaders.{command_name}
use Rattle.owner_roots.specs.Next.{table_number, tables_with}
use Rattle.owner_roots.specs.Seen.{table_with}
use Rattle.owner_roots.specs.Working.{FitCatalog}
use Rattle.owner_roots.proofs.CatalogLaws.{set_fit}
use Rattle.owner_roots.proofs.CommandSteps.{get_there, rows_at, rows_refused, same_there}
use Rattle.owner_roots.proofs.ReadyLaws.{ready}
use Rattle.owner_roots.proofs.row_commands.change_rows.Goals as goal

pub root_by_command-requires-clause-ready : goal.root_by_command-requires-clause-ready
root_by_command-requires-clause-ready c =
    let tables = c.args.tables.now.items in
    let command = c.args.command.now in
    let is : c.table_number-place.result ≡ table_number (command_name command) tables =
    c.table_number-place.ensures.place ∙ ap (λ n. table_number n c.as_slice.result.now) c.command_name.ensures ∙ ap (table_number (command_name command)) c.as_slice.ensures.value in
    ready command tables c.index.result.now c.requires.within c.requires.fits c.requires.allowed
    (ap (slice_get tables) (sym is) ∙ get_there tables c.table_number-place.result c.index.result.now (omega arith) c.index.ensures)

pub returns-in-Ok-clause-answer : goal.returns-in-Ok-clause-answer
returns-in-Ok-clause-answer c =
    let tables = c.args.tables.now.items in
    let command = c.args.command.now in
    let place = c.table_number-place.result in
    let is : place ≡ table_number (command_name command) tables =
    c.table_number-place.ensures.place ∙ ap (λ n. table_number n c.as_slice.result.now) c.command_name.ensures ∙ ap (table_number (command_name command)) c.as_slice.ensures.value in
    let within : place < length tables = omega arith in
    rows_at c.args.index command (map part_of c.args.trees.now) tables place c.index.result.now is (get_there tables place c.index.result.now within c.index.ensures)
    ∙ ap (tables_with place tables) c.in-Ok.ensures.answer
    ∙ ap (λ (u : CatalogTable). Ok (slice_set tables place u))
    (sym (c.set_root.ensures ∙ ap (λ (z : CatalogTable). table_with z c.in-Ok.after) (same_there tables place c.index.result.now c.index_mut.result.now within c.index.ensures c.index_mut.ensures.value)))

pub returns-in-Ok-clause-within : goal.returns-in-Ok-clause-within
returns-in-Ok-clause-within c =
    let tables = c.args.tables.now.items in
    let place = c.table_number-place.result in
    let within : place < length tables = omega arith in
    let same = c.set_root.ensures ∙ ap (λ (z : CatalogTable). table_with z c.in-Ok.after) (same_there tables place c.index.result.now c.index_mut.result.now within c.index.ensures c.index_mut.ensures.value) in
    subst (λ (z : CatalogTable). FitCatalog (slice_set tables place z)) (sym same)
    (set_fit tables place c.index.result.now (table_with c.index.result.now c.in-Ok.after) (get_there tables place c.index.result.now within c.index.ensures) refl c.in-Ok.ensures.fits c.requires.within)

pub returns-in-Err-clause-answer : goal.returns-in-Err-clause-answer
returns-in-Err-clause-answer c =
    let tables = c.args.tables.now.items in
    let command = c.args.command.now in
    let place = c.table_number-place.result in
    let is : place ≡ table_number (command_name command) tables =
    c.table_number-place.ensures.place ∙ ap (λ n. table_number n c.as_slice.result.now) c.command_name.ensures ∙ ap (table_number (command_name command)) c.as_slice.ensures.value in
    rows_refused {X = Unit {0}} (λ _. tables) c.args.index command (map part_of c.args.trees.now) tables place c.index.result.now c.in-Err.fault is
    (get_there tables place c.index.result.now (omega arith) c.index.ensures) c.in-Err.ensures.answer
