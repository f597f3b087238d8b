-- One command by parts of trees, beside the same command on the trees.
use Rattle.std.proofs.Common.{◌≡◌, ℕ, Bool, true, false, cond, List, [], ◌∷◌, ◌++◌, Option, Some, None, Result, Ok, Err, map, take, drop, inl, inr, refl, sym, ap, ◌∙◌, subst}
use Rattle.std.specs.Prelude.{bytes_eq, find, option_map, IfSome}
use Rattle.std.specs.Option.{option_map_or}
use Rattle.std.specs.Result.{IsErrAnd}
use Rattle.std.specs.List.{AllByRecursion}
use Rattle.vo_spec.specs.declared.values.Value.{Value}
use Rattle.vo_spec.specs.declared.tables.Column.{Column}
use Rattle.vo_spec.specs.declared.tables.Schema.{Schema}
use Rattle.vo_spec.specs.declared.tables.SetPart.{SetPart}
use Rattle.vo_spec.specs.declared.tables.Table.{Table}
use Rattle.vo_spec.specs.declared.tables.Command.{Command}
use Rattle.vo_spec.specs.declared.tables.Command.TheVariants.{Create, Drop, Insert, Update, Delete}
use Rattle.vo_spec.specs.declared.tables.CommandFault.{CommandFault}
use Rattle.vo_spec.specs.declared.records.CatalogTable.{CatalogTable}
use Rattle.vo_spec.specs.Firsts.{unless, and_then}
use Rattle.vo_spec.specs.Values.{key_of}
use Rattle.vo_spec.specs.Tables.{TableHeader, Tests, table_header_named, on_table, insert_tests, update_tests, delete_tests, column_number, row_of, cell_changes, refusal}
use Rattle.vo_spec.specs.Parts.{leaf}
use Rattle.vo_spec.specs.Trees.{RowTree, Prunes}
use Rattle.vo_spec.specs.Honest.{Stored, RepresentTables, stored_table_header, catalog_of, tree_after, change_tree, changed_trees, work, proof_on, command_proof, table_of}
use Rattle.vo_laws.specs.FittingTables.{FitsTable, FitTables}
use Rattle.mb_update.specs.declared.ops.Op.{Op}
use Rattle.mb_update.specs.declared.ops.Op.TheVariants.{Insert as PutRow, Replace, Remove}
use Rattle.update_proof.specs.Proving.{update_proof}
use Rattle.stored_tables.specs.Plain.{catalog_table}
use Rattle.stored_tables.specs.Positions.{is_named}
use Rattle.owner_roots.specs.declared.owner_fault.OwnerFault.{OwnerFault}
use Rattle.owner_roots.specs.declared.owner_fault.OwnerFault.TheVariants.{Command as Refused}
use Rattle.row_works.specs.Operations.{set_cell, operation, changed_tree}
use Rattle.row_works.proofs.OperationLaws.{same_tree}
use Rattle.owner_roots.specs.Next.{table_after, tables_changed, catalog_after, trees_taken}
use Rattle.root_laws.specs.Following.{IsProofFault, PrunesTable, TakesPart, IsOrRefusesProof}
use Rattle.root_laws.proofs.TablePlaces.{table_headers_same, change_table, changed_at_place, put_at_place, names_rise, removed_at_place}
use Rattle.root_laws.proofs.TableSteps.{table_by_tree, tables_by_trees, table_found, changed_exactly, change_refused}
use Rattle.root_laws.proofs.ProvedChanges.{table_proved, table_followed}

-- A command on rows.

module _ (index : ℕ) (name : List ℕ) (c : Command) (op_of : Schema → Op) (stored : List Stored) (tables : List Table) where
  abbrev IsChange : Type 0
  IsChange = (s : Stored) → tree_after c s ≡ changed_tree (op_of s.schema) s.tree

  abbrev change_by : List RowTree → CatalogTable → Result CatalogTable OwnerFault
  change_by trees t = table_after index t (op_of t.schema) trees

  part_followed : IsChange → RepresentTables stored tables → AllByRecursion FitsTable tables → (s : Stored) → find (is_named name) stored ≡ Some s
      → (trees : List RowTree) → AllByRecursion (PrunesTable stored name) (take 1 trees)
      → IsOrRefusesProof (change_by trees (catalog_table s)) (table_by_tree index s (tree_after c s))
  part_followed is zs fits s found [] parts = inr tt
  part_followed is zs fits s found (p ∷ ps) parts =
      let there = table_found name stored tables zs fits s found in
      let prunes : Prunes p s.tree = subst (λ o. IfSome o (λ (r : Stored). Prunes p r.tree)) found parts.0 in
      subst (λ w. IsOrRefusesProof (change_by (p ∷ ps) (catalog_table s)) (table_by_tree index s w)) (sym (is s))
      (table_followed index s (op_of s.schema) there.table.rows p ps there.stands.stands prunes)

  rows_followed : IsChange → RepresentTables stored tables → AllByRecursion FitsTable tables
      → (trees : List RowTree) → AllByRecursion (PrunesTable stored name) (take 1 trees)
      → IsOrRefusesProof (change_table name (change_by trees) (map catalog_table stored)) (tables_by_trees index (change_tree name c stored))
  rows_followed is zs fits trees parts = step (find (is_named name) stored) refl
    where
      step : (o : Option Stored) → find (is_named name) stored ≡ o
          → IsOrRefusesProof (change_table name (change_by trees) (map catalog_table stored)) (tables_by_trees index (change_tree name c stored))
      step None e = inl (changed_exactly index name c (change_by trees) stored (λ s found. absurd (cc)))
      step (Some s) e = elim (part_followed is zs fits s e trees parts) [
        | inl exact ↦ inl (changed_exactly index name c (change_by trees) stored
            (λ r found.
            let same : s ≡ r = cc in
            subst (λ (z : Stored). change_by trees (catalog_table z) ≡ table_by_tree index z (tree_after c z)) same exact))
        | inr refuses ↦ inr (change_refused index name c (change_by trees) stored s e refuses)
      ]

  rows_proved : IsChange → RepresentTables stored tables → AllByRecursion FitsTable tables → (trees others : List RowTree)
      → ((s : Stored) → find (is_named name) stored ≡ Some s → trees ≡ update_proof (op_of s.schema) s.tree ∷ others)
      → change_table name (change_by trees) (map catalog_table stored) ≡ tables_by_trees index (change_tree name c stored)
  rows_proved is zs fits trees others first =
      changed_exactly index name c (change_by trees) stored
      (λ s found.
      let there = table_found name stored tables zs fits s found in
      ap (λ ts. change_by ts (catalog_table s)) (first s found)
      ∙ table_proved index s (op_of s.schema) there.table others there.stands there.fits
      ∙ ap (table_by_tree index s) (sym (is s)))

-- The changes that commands are.

abbrev pub insert_op : List Value → Schema → Op
insert_op values schema = PutRow (row_of schema values)

abbrev pub update_op : List SetPart → Value → Schema → Op
update_op sets value schema = Replace (key_of value) (map set_cell (cell_changes schema sets))

abbrev pub delete_op : Value → Schema → Op
delete_op value schema = Remove (key_of value)

change_is : (c : Command) (op_of : Schema → Op) → ((schema : Schema) → operation schema c ≡ Some (op_of schema)) → (s : Stored)
    → tree_after c s ≡ changed_tree (op_of s.schema) s.tree
change_is c op_of is s = same_tree c s (op_of s.schema) (is s.schema)

-- A command that the catalog doesn't refuse.

abbrev made : List ℕ → List Column → List ℕ → Stored
made name columns key = record { name = name; schema = record { columns = columns; key = column_number columns key }; tree = leaf [] }

changed_followed : (index : ℕ) (c : Command) (trees : List RowTree) (stored : List Stored) (tables : List Table) → RepresentTables stored tables → FitTables tables
    → TakesPart c trees stored → IsOrRefusesProof (tables_changed index c trees (map catalog_table stored)) (tables_by_trees index (changed_trees c stored))
changed_followed index (Create name columns key) trees stored tables zs good parts = inl (ap Ok (put_at_place (made name columns key) stored))
changed_followed index (Drop name) trees stored tables zs good parts = inl (ap Ok (removed_at_place name stored (names_rise stored tables zs good.rising)))
changed_followed index (Insert name values) trees stored tables zs good parts =
    subst (λ r. IsOrRefusesProof r (tables_by_trees index (change_tree name (Insert name values) stored)))
    (sym (changed_at_place name (λ t. table_after index t (insert_op values t.schema) trees) (map catalog_table stored)))
    (rows_followed index name (Insert name values) (insert_op values) stored tables (change_is (Insert name values) (insert_op values) (λ schema. refl)) zs good.each trees parts)
changed_followed index (Update name sets column value) trees stored tables zs good parts =
    subst (λ r. IsOrRefusesProof r (tables_by_trees index (change_tree name (Update name sets column value) stored)))
    (sym (changed_at_place name (λ t. table_after index t (update_op sets value t.schema) trees) (map catalog_table stored)))
    (rows_followed index name (Update name sets column value) (update_op sets value) stored tables (change_is (Update name sets column value) (update_op sets value) (λ schema. refl)) zs good.each trees parts)
changed_followed index (Delete name column value) trees stored tables zs good parts =
    subst (λ r. IsOrRefusesProof r (tables_by_trees index (change_tree name (Delete name column value) stored)))
    (sym (changed_at_place name (λ t. table_after index t (delete_op value t.schema) trees) (map catalog_table stored)))
    (rows_followed index name (Delete name column value) (delete_op value) stored tables (change_is (Delete name column value) (delete_op value) (λ schema. refl)) zs good.each trees parts)

found_proof : (c : Command) (stored : List Stored) (others : List RowTree) (s : Stored) → find (λ (s : Stored). bytes_eq s.name (table_of c)) stored ≡ Some s
    → command_proof c stored ++ others ≡ proof_on c s ++ others
found_proof c stored others s found = ap (λ o. option_map_or (proof_on c) o [] ++ others) found

changed_proved : (index : ℕ) (c : Command) (others : List RowTree) (stored : List Stored) (tables : List Table) → RepresentTables stored tables → FitTables tables
    → tables_changed index c (command_proof c stored ++ others) (map catalog_table stored) ≡ tables_by_trees index (changed_trees c stored)
changed_proved index (Create name columns key) others stored tables zs good = ap Ok (put_at_place (made name columns key) stored)
changed_proved index (Drop name) others stored tables zs good = ap Ok (removed_at_place name stored (names_rise stored tables zs good.rising))
changed_proved index (Insert name values) others stored tables zs good =
    let trees : List RowTree = command_proof (Insert name values) stored ++ others in
    changed_at_place name (λ t. table_after index t (insert_op values t.schema) trees) (map catalog_table stored)
    ∙ rows_proved index name (Insert name values) (insert_op values) stored tables (change_is (Insert name values) (insert_op values) (λ schema. refl)) zs good.each trees others (found_proof (Insert name values) stored others)
changed_proved index (Update name sets column value) others stored tables zs good =
    let c : Command = Update name sets column value in
    let trees : List RowTree = command_proof c stored ++ others in
    changed_at_place name (λ t. table_after index t (update_op sets value t.schema) trees) (map catalog_table stored)
    ∙ rows_proved index name c (update_op sets value) stored tables (change_is (Update name sets column value) (update_op sets value) (λ schema. refl)) zs good.each trees others (found_proof c stored others)
changed_proved index (Delete name column value) others stored tables zs good =
    let c : Command = Delete name column value in
    let trees : List RowTree = command_proof c stored ++ others in
    changed_at_place name (λ t. table_after index t (delete_op value t.schema) trees) (map catalog_table stored)
    ∙ rows_proved index name c (delete_op value) stored tables (change_is (Delete name column value) (delete_op value) (λ schema. refl)) zs good.each trees others (found_proof c stored others)

-- Any command.

abbrev pub fault_of : ℕ → Option CommandFault → Option OwnerFault
fault_of index refused = option_map_or (λ why. Some (Refused index why)) refused None

pub command_followed : (index : ℕ) (c : Command) (trees : List RowTree) (stored : List Stored) (tables : List Table) → RepresentTables stored tables → FitTables tables
    → TakesPart c trees stored → IsOrRefusesProof (catalog_after index c trees (map catalog_table stored)) (tables_by_trees index (work c stored))
unfolding catalog_after work
command_followed index c trees stored tables zs good parts =
    subst (λ hs. IsOrRefusesProof (and_then (tables_changed index c trees) (unless (fault_of index (refusal c hs)) (map catalog_table stored)))
    (tables_by_trees index (and_then (changed_trees c) (unless (refusal c (map stored_table_header stored)) stored))))
    (sym (table_headers_same stored)) (step (refusal c (map stored_table_header stored)))
  where
    step : (r : Option CommandFault)
        → IsOrRefusesProof (and_then (tables_changed index c trees) (unless (fault_of index r) (map catalog_table stored))) (tables_by_trees index (and_then (changed_trees c) (unless r stored)))
    step None = changed_followed index c trees stored tables zs good parts
    step (Some why) = inl refl

pub command_proved : (index : ℕ) (c : Command) (others : List RowTree) (stored : List Stored) (tables : List Table) → RepresentTables stored tables → FitTables tables
    → catalog_after index c (command_proof c stored ++ others) (map catalog_table stored) ≡ tables_by_trees index (work c stored)
unfolding catalog_after work
command_proved index c others stored tables zs good =
    ap (λ hs. and_then (tables_changed index c (command_proof c stored ++ others)) (unless (fault_of index (refusal c hs)) (map catalog_table stored))) (table_headers_same stored)
    ∙ step (refusal c (map stored_table_header stored))
  where
    step : (r : Option CommandFault)
        → and_then (tables_changed index c (command_proof c stored ++ others)) (unless (fault_of index r) (map catalog_table stored))
        ≡ tables_by_trees index (and_then (changed_trees c) (unless r stored))
    step None = changed_proved index c others stored tables zs good
    step (Some why) = refl

-- one that isn't refused is done on the trees too
pub command_accepted : (index : ℕ) (c : Command) (trees : List RowTree) (stored : List Stored) (tables : List Table) (after : List CatalogTable) → RepresentTables stored tables → FitTables tables
    → TakesPart c trees stored → catalog_after index c trees (map catalog_table stored) ≡ Ok after
    → (new : List Stored) × (work c stored ≡ Ok new) × (after ≡ (catalog_of new).tables)
command_accepted index c trees stored tables after zs good parts e =
    elim (command_followed index c trees stored tables zs good parts) [
      | inl exact ↦ step (work c stored) (sym e ∙ exact)
      | inr refuses ↦ absurd (subst (λ r. IsErrAnd r IsProofFault) e refuses)
    ]
  where
    step : (w : Result (List Stored) CommandFault) → Ok after ≡ tables_by_trees index w → (new : List Stored) × (w ≡ Ok new) × (after ≡ (catalog_of new).tables)
    step (Ok new) f = (new, refl, cc)
    step (Err why) f = absurd (cc)

-- refused by the catalog, whatever the trees are
pub command_refused : (index : ℕ) (c : Command) (trees : List RowTree) (stored : List Stored) (why : CommandFault) → refusal c (map stored_table_header stored) ≡ Some why
    → catalog_after index c trees (map catalog_table stored) ≡ Err (Refused index why)
unfolding catalog_after
command_refused index c trees stored why e =
    ap (λ hs. and_then (tables_changed index c trees) (unless (fault_of index (refusal c hs)) (map catalog_table stored))) (table_headers_same stored)
    ∙ ap (λ r. and_then (tables_changed index c trees) (unless (fault_of index r) (map catalog_table stored))) e

-- How many trees the proof of a command has: as many as it takes.

table_header_found : (name : List ℕ) (stored : List Stored) → table_header_named name (map stored_table_header stored) ≡ option_map stored_table_header (find (is_named name) stored)
table_header_found name [] = refl
table_header_found name (s ∷ stored) = step (bytes_eq s.name name) (table_header_found name stored)
  where
    step : (b : Bool) → table_header_named name (map stored_table_header stored) ≡ option_map stored_table_header (find (is_named name) stored)
        → cond b (Some (stored_table_header s)) (table_header_named name (map stored_table_header stored)) ≡ option_map stored_table_header (cond b (Some s) (find (is_named name) stored))
    step true rest = refl
    step false rest = rest

pub table_named : (name : List ℕ) (tests : TableHeader → Tests) (stored : List Stored) → on_table name (map stored_table_header stored) tests ≡ None
    → (s : Stored) × (find (is_named name) stored ≡ Some s)
table_named name tests stored allowed = step (find (is_named name) stored) refl
  where
    step : (o : Option Stored) → find (is_named name) stored ≡ o → (s : Stored) × (o ≡ Some s)
    step None e =
        let none : table_header_named name (map stored_table_header stored) ≡ None = table_header_found name stored ∙ ap (option_map stored_table_header) e in
        absurd (cc)
    step (Some s) e = (s, refl)

pub rest_left : (c : Command) (others : List RowTree) (stored : List Stored) → refusal c (map stored_table_header stored) ≡ None
    → drop (trees_taken c) (command_proof c stored ++ others) ≡ others
rest_left (Create name columns key) others stored e = step (find (is_named name) stored)
  where
    step : (o : Option Stored) → option_map_or (proof_on (Create name columns key)) o [] ++ others ≡ others
    step None = refl
    step (Some s) = refl
rest_left (Drop name) others stored e = step (find (is_named name) stored)
  where
    step : (o : Option Stored) → option_map_or (proof_on (Drop name)) o [] ++ others ≡ others
    step None = refl
    step (Some s) = refl
rest_left (Insert name values) others stored e =
    let there = table_named name (insert_tests values) stored e in
    ap (drop 1) (found_proof (Insert name values) stored others there.0 there.1)
rest_left (Update name sets column value) others stored e =
    let there = table_named name (update_tests sets column value) stored e in
    ap (drop 1) (found_proof (Update name sets column value) stored others there.0 there.1)
rest_left (Delete name column value) others stored e =
    let there = table_named name (delete_tests column value) stored e in
    ap (drop 1) (found_proof (Delete name column value) stored others there.0 there.1)
