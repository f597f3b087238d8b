-- A command on rows that no table header refuses finds its table, and the table's tree can take the
-- change.
use Rattle.std.proofs.Common.{◌≡◌, ℕ, ◌<◌, ◌≤◌, true, List, Some, None, length, map, refl, sym, ap, ◌∙◌, subst, arith}
use Rattle.std.specs.Option.{option_map_or}
use Rattle.std.specs.List.{AllByRecursion}
use Rattle.std.proofs.lemmas.List.{length-map}
use Rattle.vo_spec.specs.declared.values.Value.{Value}
use Rattle.vo_spec.specs.declared.tables.Schema.{Schema}
use Rattle.vo_spec.specs.declared.tables.Command.{Command}
use Rattle.vo_spec.specs.declared.tables.Command.TheVariants.{Create, Drop, Insert, Update, Delete}
use Rattle.vo_spec.specs.declared.tables.CommandFault.TheVariants.{NoTable}
use Rattle.vo_spec.specs.Firsts.{first_of}
use Rattle.vo_spec.specs.Cells.{whole_entry}
use Rattle.vo_spec.specs.Parts.{entries}
use Rattle.vo_spec.specs.Fits.{FitsRow}
use Rattle.vo_spec.specs.Batches.{FitsCommand, max_columns}
use Rattle.vo_spec.specs.Tables.{TableHeader, Tests, table_header_of, on_table, insert_tests, update_tests, delete_tests, refusal, row_of, max_rows}
use Rattle.vo_spec.specs.Honest.{Stored, stored_table_header}
use Rattle.vo_laws.proofs.CommandLaws.{insertable, row_fits}
use Rattle.vo_laws.proofs.RepresentationLaws.{stored_table_headers}
use Rattle.table_list.specs.TableHeaders.{command_name}
use Rattle.stored_tables.specs.Representation.{IsStanding}
use Rattle.stored_tables.specs.Positions.{IsUnlike, IsAt}
use Rattle.row_works.specs.Operations.{changes_rows}
use Rattle.stored_tables.specs.Ready.{IsReady}
use Rattle.stored_tables.proofs.PositionLaws.{table_header_nowhere}
use Rattle.stored_tables.proofs.StandingLaws.{plain_at}

tests_nowhere : (name : List ℕ) (tests : TableHeader → Tests) (stored : List Stored) → AllByRecursion (IsUnlike name) stored
    → on_table name (map stored_table_header stored) tests ≡ None → ⊥
tests_nowhere name tests stored unlike e =
    let f : Some NoTable ≡ None = ap (λ found. option_map_or (λ h. first_of (tests h)) found (Some NoTable)) (sym (table_header_nowhere name stored unlike)) ∙ e in
    absurd (cc)

pub rows_nowhere : (c : Command) (stored : List Stored) → changes_rows c ≡ true → AllByRecursion (IsUnlike (command_name c)) stored
    → refusal c (map stored_table_header stored) ≡ None → ⊥
rows_nowhere (Create name columns key) stored rows unlike e = absurd (cc)
rows_nowhere (Drop name) stored rows unlike e = absurd (cc)
rows_nowhere (Insert name values) stored rows unlike e = tests_nowhere name (insert_tests values) stored unlike e
rows_nowhere (Update name sets column value) stored rows unlike e = tests_nowhere name (update_tests sets column value) stored unlike e
rows_nowhere (Delete name column value) stored rows unlike e = tests_nowhere name (delete_tests column value) stored unlike e

insert_ready : (name : List ℕ) (values : List Value) (stored : List Stored) (at : ℕ) (s : Stored) → IsStanding stored → FitsCommand (Insert name values)
    → refusal (Insert name values) (map stored_table_header stored) ≡ None → IsAt name stored at s → IsReady (Insert name values) s
unfolding FitsCommand
insert_ready name values stored at s standing fits e is =
    let plain = plain_at name stored at s standing is in
    let allowed : refusal (Insert name values) (map table_header_of standing.tables) ≡ None =
    ap (refusal (Insert name values)) (sym (stored_table_headers stored standing.tables standing.stand)) ∙ e in
    let insertion = insertable name values standing.tables allowed plain.table plain.found in
    let row : FitsRow (row_of plain.table.schema values) = row_fits plain.table values plain.fits.schema fits.1 insertion in
    let same : length (entries s.tree) ≡ length plain.table.rows = ap length plain.stands.stands.rows_are ∙ length-map plain.table.rows whole_entry in
    let few : length plain.table.rows < max_rows = insertion.room in
    record { rows = refl; fits = subst (λ (z : Schema). FitsRow (row_of z values)) (sym plain.stands.schema) row; room = omega arith }

few_columns : (name : List ℕ) (stored : List Stored) (at : ℕ) (s : Stored) → IsStanding stored → IsAt name stored at s → length s.schema.columns ≤ max_columns
few_columns name stored at s standing is =
    let plain = plain_at name stored at s standing is in
    subst (λ (z : Schema). length z.columns ≤ max_columns) (sym plain.stands.schema) plain.fits.schema.columns.1

pub ready : (c : Command) (stored : List Stored) (at : ℕ) (s : Stored) → changes_rows c ≡ true → IsStanding stored → FitsCommand c
    → refusal c (map stored_table_header stored) ≡ None → IsAt (command_name c) stored at s → IsReady c s
unfolding FitsCommand
ready (Create name columns key) stored at s rows standing fits e is = absurd (cc)
ready (Drop name) stored at s rows standing fits e is = absurd (cc)
ready (Insert name values) stored at s rows standing fits e is = insert_ready name values stored at s standing fits e is
ready (Update name sets column value) stored at s rows standing fits e is =
    record { rows = rows; fits = (fits.1.2, few_columns name stored at s standing is); room = tt }
ready (Delete name column value) stored at s rows standing fits e is = record { rows = rows; fits = tt; room = tt }
