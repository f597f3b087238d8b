-- Trees stand for tables: what commands and batches make of the trees stands for what they make of
-- the tables, and both refuse the same commands.
use Rattle.std.proofs.Common.{◌≡◌, ℕ, ◌+◌, Bool, true, false, cond, List, [], ◌∷◌, Option, Some, None, Result, Ok, Err, map, refl, sym, ap, subst, arith}
use Rattle.std.specs.Prelude.{not, fold, bytes_eq}
use Rattle.std.specs.Result.{result_unwrap_or}
use Rattle.std.specs.List.{AllByRecursion}
use Rattle.vo_spec.specs.declared.values.Value.{Value}
use Rattle.vo_spec.specs.declared.tables.Table.{Table}
use Rattle.vo_spec.specs.declared.tables.SetPart.{SetPart}
use Rattle.vo_spec.specs.declared.tables.Command.{Command}
use Rattle.vo_spec.specs.declared.tables.Command.TheVariants.{Create, Drop, Insert, Update, Delete}
use Rattle.vo_spec.specs.declared.tables.CommandFault.{CommandFault}
use Rattle.vo_spec.specs.declared.tables.CommandFault.TheVariants as command
use Rattle.vo_spec.specs.Firsts.{unless, and_then}
use Rattle.vo_spec.specs.Values.{key_of}
use Rattle.vo_spec.specs.Tables.{table_header_of, row_of, has_row, put_row, without_row, changed_row, cell_changes, table_named, rows_named, with_rows, update_tests, delete_tests, refusal, change_tables, apply, with_index, apply_from, apply_batch, after_batch, tables_after}
use Rattle.vo_spec.specs.Batches.{FitsCommand, FitsBatch}
use Rattle.vo_spec.specs.Records.{FitsSchema}
use Rattle.vo_spec.specs.Honest.{Stored, RepresentsTable, RepresentTables, stored_table_header, changed_trees, work, work_all, after_work, honest_trees}
use Rattle.vo_laws.proofs.ListLaws.{zip_filter}
pub use Rattle.vo_laws.proofs.TableSteps.{InStep}
use Rattle.vo_laws.proofs.TableSteps.{is_doubled, create_in_step, made_stands, insert_in_step, update_in_step, delete_in_step}
use Rattle.vo_laws.proofs.TablesByName.{one_table_header}
use Rattle.vo_laws.proofs.CommandLaws.{table_there, insertable, key_inserted, dropped_fit, created_fit}
use Rattle.vo_laws.specs.FittingTables.{FitsTable, FitTables}
use Rattle.vo_laws.proofs.TableChanges.{rows_changed_fit, inserted_fit, updatable, updated_table_fits, removed_table_fits}

pub stored_table_headers : (stored : List Stored) (tables : List Table) → RepresentTables stored tables → map stored_table_header stored ≡ map table_header_of tables
stored_table_headers [] [] z = refl
stored_table_headers [] (t ∷ tables) z = absurd z
stored_table_headers (s ∷ stored) [] z = absurd z
stored_table_headers (s ∷ stored) (t ∷ tables) z = rw (one_table_header s t z.0, stored_table_headers stored tables z.1) refl

abbrev pub FitAfter : Result (List Table) CommandFault → Type 0
FitAfter (Ok tables) = FitTables tables
FitAfter (Err fault) = Unit {0}

fit_if : (b : Bool) (tables : List Table) → FitTables tables → FitAfter (cond b (Ok tables) (Err command.NoRow))
fit_if true tables fits = fits
fit_if false tables fits = tt

updated_fit : (name : List ℕ) (sets : List SetPart) (column : List ℕ) (value : Value) (tables : List Table) → FitsCommand (Update name sets column value)
    → refusal (Update name sets column value) (map table_header_of tables) ≡ None → FitTables tables
    → FitTables (with_rows name (λ t. map (changed_row (key_of value) (cell_changes t.schema sets)) t.rows) tables)
unfolding FitsCommand
updated_fit name sets column value tables fits e good =
    rows_changed_fit name (λ t. map (changed_row (key_of value) (cell_changes t.schema sets)) t.rows) tables
    (λ t found is. updated_table_fits (key_of value) sets t fits.1.2 (updatable name sets column value tables e t found) is) good

-- Commands.

schema_named : (name : List ℕ) (ts : List Table) → AllByRecursion FitsTable ts → (t : Table) → table_named name ts ≡ Some t → FitsSchema t.schema
schema_named name [] all t found = absurd (cc)
schema_named name (u ∷ ts) all t found = step (bytes_eq u.name name) found (schema_named name ts all.1 t)
  where
    step : (b : Bool) → cond b (Some u) (table_named name ts) ≡ Some t → (table_named name ts ≡ Some t → FitsSchema t.schema) → FitsSchema t.schema
    step true f rest = let same : u ≡ t = cc in subst (λ (x : Table). FitsSchema x.schema) same all.0.schema
    step false f rest = rest f

changed_in_step : (c : Command) (stored : List Stored) (tables : List Table) → FitsCommand c → refusal c (map table_header_of tables) ≡ None
    → RepresentTables stored tables → FitTables tables → InStep (changed_trees c stored) (change_tables c tables)
unfolding FitsCommand
changed_in_step (Create name columns key) stored tables fits e zs good = create_in_step _ _ stored tables (made_stands name columns key) zs
changed_in_step (Drop name) stored tables fits e zs good =
    zip_filter RepresentsTable (λ (s : Stored). not (bytes_eq s.name name)) (λ (t : Table). not (bytes_eq t.name name)) (λ s t z. ap (λ n. not (bytes_eq n name)) z.name) stored tables zs
changed_in_step (Insert name values) stored tables fits e zs good =
    insert_in_step name values stored tables zs good.rising
    (λ t found. key_inserted t values (schema_named name tables good.each t found) fits.1.2 (insertable name values tables e t found))
changed_in_step (Update name sets column value) stored tables fits e zs good =
    update_in_step name sets column value stored tables zs good.rising (table_there name (update_tests sets column value) tables e)
changed_in_step (Delete name column value) stored tables fits e zs good =
    delete_in_step name column value stored tables zs good.rising (table_there name (delete_tests column value) tables e)

changed_fit : (c : Command) (tables : List Table) → FitsCommand c → refusal c (map table_header_of tables) ≡ None → FitTables tables → FitAfter (change_tables c tables)
changed_fit (Create name columns key) tables fits e good = created_fit name columns key tables fits e good
changed_fit (Drop name) tables fits e good = dropped_fit (λ (t : Table). not (bytes_eq t.name name)) tables good
changed_fit (Insert name values) tables fits e good = step (is_doubled values (table_named name tables))
  where
    step : (b : Bool) → FitAfter (cond b (Err command.DuplicateKey) (Ok (with_rows name (λ t. put_row (row_of t.schema values) t.rows) tables)))
    step true = tt
    step false = inserted_fit name values tables fits e good
changed_fit (Update name sets column value) tables fits e good =
    fit_if (has_row (key_of value) (rows_named name tables)) (with_rows name (λ t. map (changed_row (key_of value) (cell_changes t.schema sets)) t.rows) tables)
    (updated_fit name sets column value tables fits e good)
changed_fit (Delete name column value) tables fits e good =
    fit_if (has_row (key_of value) (rows_named name tables)) (with_rows name (λ t. without_row (key_of value) t.rows) tables)
    (rows_changed_fit name (λ t. without_row (key_of value) t.rows) tables (λ t found is. removed_table_fits (key_of value) t is) good)

-- What the command makes of trees that stand for tables stands for what it makes of the tables; and
-- where it is refused on the one, it is refused on the other for the same reason.
pub command_in_step : (c : Command) (stored : List Stored) (tables : List Table) → FitsCommand c → RepresentTables stored tables → FitTables tables
    → InStep (work c stored) (apply c tables) × FitAfter (apply c tables)
unfolding work apply
command_in_step c stored tables fits zs good =
    subst (λ hs. InStep (and_then (changed_trees c) (unless (refusal c hs) stored)) (and_then (change_tables c) (unless (refusal c (map table_header_of tables)) tables))
    × FitAfter (and_then (change_tables c) (unless (refusal c (map table_header_of tables)) tables)))
    (sym (stored_table_headers stored tables zs)) (step (refusal c (map table_header_of tables)) refl)
  where
    step : (r : Option CommandFault) → refusal c (map table_header_of tables) ≡ r
        → InStep (and_then (changed_trees c) (unless r stored)) (and_then (change_tables c) (unless r tables)) × FitAfter (and_then (change_tables c) (unless r tables))
    step None e = (changed_in_step c stored tables fits e zs good, changed_fit c tables fits e good)
    step (Some fault) e = (refl, tt)

-- Batches.

abbrev pub InStepFrom : Result (List Stored) CommandFault → Result (List Table) (ℕ × CommandFault) → Type 0
InStepFrom (Ok stored) (Ok tables) = RepresentTables stored tables × FitTables tables
InStepFrom (Ok stored) (Err fault) = ⊥
InStepFrom (Err fault) (Ok tables) = ⊥
InStepFrom (Err fault) (Err other) = fault ≡ other.1

next_in_step : (index : ℕ) (cs : List Command) (r : Result (List Stored) CommandFault) (s : Result (List Table) CommandFault) → InStep r s → FitAfter s
    → ((stored : List Stored) (tables : List Table) → RepresentTables stored tables → FitTables tables → InStepFrom (work_all cs stored) (apply_from (index + 1) cs tables))
    → InStepFrom (and_then (work_all cs) r) (and_then (apply_from (index + 1) cs) (with_index index s))
next_in_step index cs (Ok stored) (Ok tables) i good next = next stored tables i good
next_in_step index cs (Ok stored) (Err fault) i good next = absurd i
next_in_step index cs (Err fault) (Ok tables) i good next = absurd i
next_in_step index cs (Err fault) (Err other) i good next = i

pub batch_in_step : (index : ℕ) (cs : List Command) (stored : List Stored) (tables : List Table) → AllByRecursion FitsCommand cs
    → RepresentTables stored tables → FitTables tables → InStepFrom (work_all cs stored) (apply_from index cs tables)
batch_in_step index [] stored tables fits zs good = (zs, good)
batch_in_step index (c ∷ cs) stored tables fits zs good =
    let i = command_in_step c stored tables fits.0 zs good in
    next_in_step index cs (work c stored) (apply c tables) i.0 i.1 (λ after others y g. batch_in_step (index + 1) cs after others fits.1 y g)

after_in_step : (stored : List Stored) (tables : List Table) (batch : List Command) → AllByRecursion FitsCommand batch
    → RepresentTables stored tables → FitTables tables → RepresentTables (after_work stored batch) (after_batch tables batch) × FitTables (after_batch tables batch)
after_in_step stored tables batch fits zs good = step (work_all batch stored) (apply_batch batch tables) (batch_in_step 0 batch stored tables fits zs good)
  where
    step : (r : Result (List Stored) CommandFault) (s : Result (List Table) (ℕ × CommandFault)) → InStepFrom r s
        → RepresentTables (result_unwrap_or r stored) (result_unwrap_or s tables) × FitTables (result_unwrap_or s tables)
    step (Ok after) (Ok others) i = i
    step (Ok after) (Err fault) i = absurd i
    step (Err fault) (Ok others) i = absurd i
    step (Err fault) (Err other) i = (zs, good)

all_in_step : (batches : List (List Command)) (stored : List Stored) (tables : List Table) → AllByRecursion FitsBatch batches
    → RepresentTables stored tables → FitTables tables → RepresentTables (fold after_work stored batches) (fold after_batch tables batches) × FitTables (fold after_batch tables batches)
all_in_step [] stored tables fits zs good = (zs, good)
all_in_step (batch ∷ batches) stored tables fits zs good =
    let i = after_in_step stored tables batch fits.0.each zs good in
    all_in_step batches (after_work stored batch) (after_batch tables batch) fits.1 i.0 i.1

-- The honest trees stand for the tables after the same batches, and the tables fit.
pub stands : (batches : List (List Command)) → AllByRecursion FitsBatch batches
    → RepresentTables (honest_trees batches) (tables_after batches) × FitTables (tables_after batches)
unfolding honest_trees tables_after
stands batches fits = all_in_step batches [] [] fits tt (record { each = tt; rising = tt; count = omega arith })
