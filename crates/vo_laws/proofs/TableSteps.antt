-- Tables and their trees one by one: where a table is made, or rows of one are put, changed or
-- removed, both go on in step, or both refuse for one reason.
use Rattle.std.proofs.Common.{◌≡◌, ℕ, Bool, true, false, cond, List, [], ◌∷◌, Option, Some, None, Result, Ok, Err, map, refl, sym, ap, ◌∙◌, subst}
use Rattle.std.specs.Prelude.{not, is_some, bytes_eq}
use Rattle.std.specs.Option.{option_map_or}
use Rattle.std.specs.List.{AllByRecursion}
use Rattle.std.proofs.lemmas.Slice.Eq.{bytes_eq-Decides}
use Rattle.vo_spec.specs.declared.values.Kind.{Kind}
use Rattle.vo_spec.specs.declared.values.Value.{Value}
use Rattle.vo_spec.specs.declared.values.Row.{Row}
use Rattle.vo_spec.specs.declared.tables.Column.{Column}
use Rattle.vo_spec.specs.declared.tables.Table.{Table}
use Rattle.vo_spec.specs.declared.tables.SetPart.{SetPart}
use Rattle.vo_spec.specs.declared.tables.Command.{Command}
use Rattle.vo_spec.specs.declared.tables.Command.TheVariants.{Insert, Update, Delete}
use Rattle.vo_spec.specs.declared.tables.CommandFault.{CommandFault}
use Rattle.vo_spec.specs.declared.tables.CommandFault.TheVariants as command
use Rattle.vo_spec.specs.declared.trees.UpdateFault.{UpdateFault}
use Rattle.vo_spec.specs.declared.trees.UpdateFault.TheVariants.{DuplicateKey, NoRow, Missing, Memory}
use Rattle.vo_spec.specs.Firsts.{unless}
use Rattle.vo_spec.specs.Values.{key_of, key_lt, IsKeyOf}
use Rattle.vo_spec.specs.Tables.{CellChange, column_number, row_of, has_row, put_row, without_row, changed_cells, changed_row, cell_changes, table_named, rows_named, put_table, with_rows}
use Rattle.vo_spec.specs.Cells.{whole_entry}
use Rattle.vo_spec.specs.Parts.{leaf}
use Rattle.vo_spec.specs.Trees.{RowTree}
use Rattle.vo_spec.specs.Inserts.{tree_with_entry}
use Rattle.vo_spec.specs.Removes.{tree_without_key, tree_with_cells}
use Rattle.vo_spec.specs.Representation.{AreRising, Represents}
use Rattle.vo_spec.specs.Checks.{key_kind}
use Rattle.vo_spec.specs.Honest.{Stored, RepresentsTable, RepresentTables, put_stored, row_refusal, tree_after, with_tree, behind_stored, change_tree}
use Rattle.vo_laws.proofs.ListLaws.{each_weaker, each_map}
use Rattle.vo_laws.specs.Changing.{Changes}
use Rattle.vo_laws.proofs.RepresentingTrees.{Inserts, inserted_stands, removed_stands, replaced_stands}
use Rattle.vo_laws.proofs.TablesByName.{nothing_stands}
use Rattle.vo_laws.proofs.CommandLaws.{each_filter, each_put_row}
use Rattle.vo_laws.specs.FittingTables.{names_of}
use Rattle.vo_laws.proofs.TableChanges.{others_kept}

-- Both go on in step, or both refuse for one reason.
abbrev pub InStep : Result (List Stored) CommandFault → Result (List Table) CommandFault → Type 0
InStep (Ok stored) (Ok tables) = RepresentTables stored tables
InStep (Ok stored) (Err fault) = ⊥
InStep (Err fault) (Ok tables) = ⊥
InStep (Err fault) (Err other) = fault ≡ other

-- A table is made, or dropped.

pub create_in_step : (s : Stored) (t : Table) (stored : List Stored) (tables : List Table) → RepresentsTable s t → RepresentTables stored tables → RepresentTables (put_stored s stored) (put_table t tables)
create_in_step s t [] [] z zs = (z, tt)
create_in_step s t [] (u ∷ tables) z zs = absurd zs
create_in_step s t (r ∷ stored) [] z zs = absurd zs
create_in_step s t (r ∷ stored) (u ∷ tables) z zs =
    step (key_lt s.name r.name) (key_lt t.name u.name) (ap (λ n. key_lt n r.name) z.name ∙ ap (key_lt t.name) zs.0.name) (create_in_step s t stored tables z zs.1)
  where
    step : (b c : Bool) → b ≡ c → RepresentTables (put_stored s stored) (put_table t tables)
        → RepresentTables (cond b (s ∷ r ∷ stored) (r ∷ put_stored s stored)) (cond c (t ∷ u ∷ tables) (u ∷ put_table t tables))
    step true true e rest = (z, (zs.0, zs.1))
    step true false e rest = absurd (cc)
    step false true e rest = absurd (cc)
    step false false e rest = (zs.0, rest)

pub made_stands : (name : List ℕ) (columns : List Column) (key : List ℕ)
    → RepresentsTable (record { name = name; schema = record { columns = columns; key = column_number columns key }; tree = leaf [] })
    (record { name = name; schema = record { columns = columns; key = column_number columns key }; rows = [] })
made_stands name columns key = record { name = refl; schema = refl; stands = nothing_stands; keys = tt }

-- The rows of one table change.

-- why the table refuses the change, if it does; and what the change makes of its tree
abbrev Follows : Table → List Row → Option CommandFault → Result RowTree UpdateFault → Type 0
Follows t after None (Ok u) = Represents u after × AllByRecursion (λ (row : Row). IsKeyOf (key_kind t.schema) row.key) after
Follows t after None (Err fault) = ⊥
Follows t after (Some why) (Ok u) = ⊥
Follows t after (Some why) (Err fault) = row_refusal fault ≡ why

here_in_step : (s : Stored) (t : Table) (after : List Row) (stored : List Stored) (tables others : List Table) (r : Result RowTree UpdateFault) (why : Option CommandFault)
    → RepresentsTable s t → RepresentTables stored tables → others ≡ tables → Follows t after why r
    → InStep (with_tree s stored r) (unless why (record { name = t.name; schema = t.schema; rows = after } ∷ others))
here_in_step s t after stored tables others (Ok u) None z zs e f =
    (record { name = z.name; schema = z.schema; stands = f.0; keys = f.1 }, subst (RepresentTables stored) (sym e) zs)
here_in_step s t after stored tables others (Ok u) (Some why) z zs e f = absurd f
here_in_step s t after stored tables others (Err fault) None z zs e f = absurd f
here_in_step s t after stored tables others (Err fault) (Some why) z zs e f = f

behind_in_step : (s : Stored) (t : Table) (r : Result (List Stored) CommandFault) (why : Option CommandFault) (tables : List Table) → RepresentsTable s t
    → InStep r (unless why tables) → InStep (behind_stored s r) (unless why (t ∷ tables))
behind_in_step s t (Ok stored) None tables z i = (z, i)
behind_in_step s t (Ok stored) (Some why) tables z i = absurd i
behind_in_step s t (Err fault) None tables z i = absurd i
behind_in_step s t (Err fault) (Some why) tables z i = i

module _ (c : Command) (name : List ℕ) (after : Table → List Row) (why : Table → Option CommandFault) where
  abbrev refusal_in : Option Table → Option CommandFault
  refusal_in found = option_map_or why found None

  change_in_step : (stored : List Stored) (tables : List Table) → RepresentTables stored tables → AreRising (names_of tables)
      → ((s : Stored) (t : Table) → table_named name tables ≡ Some t → RepresentsTable s t → Follows t (after t) (why t) (tree_after c s))
      → InStep (change_tree name c stored) (unless (refusal_in (table_named name tables)) (with_rows name after tables))
  change_in_step [] [] zs rising follows = tt
  change_in_step [] (t ∷ tables) zs rising follows = absurd zs
  change_in_step (s ∷ stored) [] zs rising follows = absurd zs
  change_in_step (s ∷ stored) (t ∷ tables) zs rising follows =
      step (bytes_eq s.name name) (bytes_eq t.name name) (ap (λ n. bytes_eq n name) zs.0.name) refl follows (change_in_step stored tables zs.1 rising.1)
    where
      step : (b d : Bool) → b ≡ d → bytes_eq t.name name ≡ d
          → ((r : Stored) (u : Table) → cond d (Some t) (table_named name tables) ≡ Some u → RepresentsTable r u → Follows u (after u) (why u) (tree_after c r))
          → (((r : Stored) (u : Table) → table_named name tables ≡ Some u → RepresentsTable r u → Follows u (after u) (why u) (tree_after c r))
          → InStep (change_tree name c stored) (unless (refusal_in (table_named name tables)) (with_rows name after tables)))
          → InStep (cond b (with_tree s stored (tree_after c s)) (behind_stored s (change_tree name c stored)))
          (unless (refusal_in (cond d (Some t) (table_named name tables))) (cond d (record { name = t.name; schema = t.schema; rows = after t }) t ∷ with_rows name after tables))
      step true true e f follows rest =
          here_in_step s t (after t) stored tables (with_rows name after tables) (tree_after c s) (why t) zs.0 zs.1
          (others_kept name after tables (subst (λ n. AllByRecursion (λ k. key_lt n k ≡ true) (names_of tables)) ((bytes_eq-Decides t.name name).0 f) rising.0))
          (follows s t refl zs.0)
      step true false e f follows rest = absurd (cc)
      step false true e f follows rest = absurd (cc)
      step false false e f follows rest = behind_in_step s t (change_tree name c stored) (refusal_in (table_named name tables)) (with_rows name after tables) zs.0 (rest follows)

-- A row is put.

abbrev pub is_doubled : List Value → Option Table → Bool
is_doubled values found = option_map_or (λ (t : Table). has_row (row_of t.schema values).key t.rows) found false

put_follows : (t : Table) (row : Row) (r : Result RowTree UpdateFault) → AllByRecursion (λ (x : Row). IsKeyOf (key_kind t.schema) x.key) t.rows
    → IsKeyOf (key_kind t.schema) row.key → Inserts row t.rows r
    → Follows t (put_row row t.rows) (cond (has_row row.key t.rows) (Some command.DuplicateKey) None) r
put_follows t row (Ok u) keys key i = rw (i.0) (i.1, each_put_row (λ (x : Row). IsKeyOf (key_kind t.schema) x.key) row t.rows key keys)
put_follows t row (Err DuplicateKey) keys key i = rw i refl
put_follows t row (Err NoRow) keys key i = absurd i
put_follows t row (Err Missing) keys key i = absurd i
put_follows t row (Err Memory) keys key i = absurd i

pub insert_in_step : (name : List ℕ) (values : List Value) (stored : List Stored) (tables : List Table) → RepresentTables stored tables → AreRising (names_of tables)
    → ((t : Table) → table_named name tables ≡ Some t → IsKeyOf (key_kind t.schema) (row_of t.schema values).key)
    → InStep (change_tree name (Insert name values) stored)
    (cond (is_doubled values (table_named name tables)) (Err command.DuplicateKey) (Ok (with_rows name (λ t. put_row (row_of t.schema values) t.rows) tables)))
insert_in_step name values stored tables zs rising keys =
    subst (InStep (change_tree name (Insert name values) stored)) (same (table_named name tables) (with_rows name (λ t. put_row (row_of t.schema values) t.rows) tables))
    (change_in_step (Insert name values) name (λ t. put_row (row_of t.schema values) t.rows) doubled stored tables zs rising
    (λ s t found z. subst (λ sch. Follows t (put_row (row_of t.schema values) t.rows) (doubled t) (tree_with_entry (whole_entry (row_of sch values)) s.tree)) (sym z.schema)
    (put_follows t (row_of t.schema values) (tree_with_entry (whole_entry (row_of t.schema values)) s.tree) z.keys (keys t found) (inserted_stands (row_of t.schema values) s.tree t.rows z.stands))))
  where
    doubled : Table → Option CommandFault
    doubled t = cond (has_row (row_of t.schema values).key t.rows) (Some command.DuplicateKey) None

    by_test : (b : Bool) (after : List Table) → unless (cond b (Some command.DuplicateKey) None) after ≡ cond b (Err command.DuplicateKey) (Ok after)
    by_test true after = refl
    by_test false after = refl

    same : (found : Option Table) (after : List Table) → unless (option_map_or doubled found None) after ≡ cond (is_doubled values found) (Err command.DuplicateKey) (Ok after)
    same None after = refl
    same (Some t) after = by_test (has_row (row_of t.schema values).key t.rows) after

-- The row of a key is changed or removed.

abbrev no_row : List ℕ → Table → Option CommandFault
no_row key t = cond (has_row key t.rows) None (Some command.NoRow)

row_follows : (key : List ℕ) (t : Table) (after : List Row) (r : Result RowTree UpdateFault) → AllByRecursion (λ (x : Row). IsKeyOf (key_kind t.schema) x.key) after
    → Changes key t.rows after r → Follows t after (no_row key t) r
row_follows key t after (Ok u) keys i = rw (i.0) (i.1, keys)
row_follows key t after (Err NoRow) keys i = rw i refl
row_follows key t after (Err DuplicateKey) keys i = absurd i
row_follows key t after (Err Missing) keys i = absurd i
row_follows key t after (Err Memory) keys i = absurd i

found_or_none : (key : List ℕ) (found : Option Table) (after : List Table) → is_some found ≡ true
    → unless (option_map_or (no_row key) found None) after ≡ cond (has_row key (option_map_or (λ (t : Table). t.rows) found [])) (Ok after) (Err command.NoRow)
found_or_none key None after there = absurd (cc)
found_or_none key (Some t) after there = step (has_row key t.rows)
  where
    step : (b : Bool) → unless (cond b None (Some command.NoRow)) after ≡ cond b (Ok after) (Err command.NoRow)
    step true = refl
    step false = refl

-- a changed row keeps its key
key_kept : (kind : Kind) (key : List ℕ) (changes : List CellChange) (row : Row) → IsKeyOf kind row.key → IsKeyOf kind (changed_row key changes row).key
key_kept kind key changes row is = step (bytes_eq row.key key)
  where
    step : (b : Bool) → IsKeyOf kind (cond b (record { key = row.key; cells = changed_cells changes row.cells }) row).key
    step true = is
    step false = is

changed_keys : (kind : Kind) (key : List ℕ) (changes : List CellChange) (rows : List Row) → AllByRecursion (λ (row : Row). IsKeyOf kind row.key) rows
    → AllByRecursion (λ (row : Row). IsKeyOf kind row.key) (map (changed_row key changes) rows)
changed_keys kind key changes rows all =
    each_map (λ (row : Row). IsKeyOf kind row.key) (changed_row key changes) rows
    (each_weaker (λ (row : Row). IsKeyOf kind row.key) (λ row. IsKeyOf kind (changed_row key changes row).key) (key_kept kind key changes) rows all)

pub update_in_step : (name : List ℕ) (sets : List SetPart) (column : List ℕ) (value : Value) (stored : List Stored) (tables : List Table) → RepresentTables stored tables
    → AreRising (names_of tables) → is_some (table_named name tables) ≡ true
    → InStep (change_tree name (Update name sets column value) stored)
    (cond (has_row (key_of value) (rows_named name tables)) (Ok (with_rows name (λ t. map (changed_row (key_of value) (cell_changes t.schema sets)) t.rows) tables)) (Err command.NoRow))
update_in_step name sets column value stored tables zs rising there =
    subst (InStep (change_tree name (Update name sets column value) stored))
    (found_or_none (key_of value) (table_named name tables) (with_rows name (λ t. map (changed_row (key_of value) (cell_changes t.schema sets)) t.rows) tables) there)
    (change_in_step (Update name sets column value) name (λ t. map (changed_row (key_of value) (cell_changes t.schema sets)) t.rows) (no_row (key_of value)) stored tables zs rising
    (λ s t found z. row_follows (key_of value) t (map (changed_row (key_of value) (cell_changes t.schema sets)) t.rows) (tree_with_cells (key_of value) (cell_changes s.schema sets) s.tree)
    (changed_keys (key_kind t.schema) (key_of value) (cell_changes t.schema sets) t.rows z.keys)
    (subst (λ sch. Changes (key_of value) t.rows (map (changed_row (key_of value) (cell_changes t.schema sets)) t.rows) (tree_with_cells (key_of value) (cell_changes sch sets) s.tree)) (sym z.schema)
    (replaced_stands (key_of value) (cell_changes t.schema sets) s.tree t.rows z.stands))))

pub delete_in_step : (name column : List ℕ) (value : Value) (stored : List Stored) (tables : List Table) → RepresentTables stored tables
    → AreRising (names_of tables) → is_some (table_named name tables) ≡ true
    → InStep (change_tree name (Delete name column value) stored)
    (cond (has_row (key_of value) (rows_named name tables)) (Ok (with_rows name (λ t. without_row (key_of value) t.rows) tables)) (Err command.NoRow))
delete_in_step name column value stored tables zs rising there =
    subst (InStep (change_tree name (Delete name column value) stored))
    (found_or_none (key_of value) (table_named name tables) (with_rows name (λ t. without_row (key_of value) t.rows) tables) there)
    (change_in_step (Delete name column value) name (λ t. without_row (key_of value) t.rows) (no_row (key_of value)) stored tables zs rising
    (λ s t found z. row_follows (key_of value) t (without_row (key_of value) t.rows) (tree_without_key (key_of value) s.tree)
    (each_filter (λ (row : Row). IsKeyOf (key_kind t.schema) row.key) (λ (row : Row). not (bytes_eq row.key (key_of value))) t.rows z.keys)
    (removed_stands (key_of value) s.tree t.rows z.stands)))
