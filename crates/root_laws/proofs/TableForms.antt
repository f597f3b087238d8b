-- A part of the tree of a table is of the table's form.
use Rattle.std.proofs.Common.{◌≡◌, ℕ, suc, ◌+◌, ◌-◌, ◌<◌, true, cond, List, [], ◌∷◌, Some, None, map, length, refl, sym, ap, ◌∙◌, subst, arith, eq-eqb}
use Rattle.std.specs.Prelude.{◌==◌, remove, bytes_eq}
use Rattle.std.specs.Option.{option_map_or}
use Rattle.std.specs.List.{AllByRecursion, AllZip, list_all}
use Rattle.std.proofs.lemmas.Bool.{and_from, and_parts}
use Rattle.std.proofs.lemmas.List.{length-map}
use Rattle.std.proofs.lemmas.List.Edits.{length-remove}
use Rattle.std.proofs.lemmas.Slice.Eq.{bytes_eq-Decides}
use Rattle.vo_spec.specs.declared.values.Row.{Row}
use Rattle.vo_spec.specs.declared.tables.Schema.{Schema}
use Rattle.vo_spec.specs.declared.tables.Table.{Table}
use Rattle.vo_spec.specs.declared.cells.Cell.{Cell}
use Rattle.vo_spec.specs.declared.cells.Cell.TheVariants.{Shown}
use Rattle.vo_spec.specs.declared.cells.RowPart.{RowPart}
use Rattle.vo_spec.specs.declared.cells.RowPart.TheVariants.{Digest as Closed, Cells}
use Rattle.vo_spec.specs.declared.cells.PartEntry.{PartEntry}
use Rattle.vo_spec.specs.Tables.{TableHeader, table_header_of}
use Rattle.vo_spec.specs.Cells.{CellsPrune, RowPrunes, EntryPrunes, whole_entry}
use Rattle.vo_spec.specs.Parts.{stub, leaf, inner, none, more, entries, entries_in, PrunesEach}
use Rattle.vo_spec.specs.Trees.{RowTree, RowTrees, row_family, Prunes}
use Rattle.vo_spec.specs.Results.{no_schema}
use Rattle.vo_spec.specs.Checks.{is_key_of, key_kind}
use Rattle.vo_spec.specs.Honest.{Stored, RepresentsTable}
use Rattle.vo_laws.proofs.ListLaws.{each_left, each_right, each_both}
use Rattle.vo_laws.specs.FittingTables.{FitsTable, HasKinds}
use Rattle.vo_laws.proofs.ReplyTrees.{HasCells}
use Rattle.vo_laws.proofs.NamedFits.{NamedFits, cells_of, named_fits}
use Rattle.owner_roots.specs.Forms.{has_cell_count, entry_has_form, has_schema_form}

abbrev HasForm : Schema → PartEntry → Type 0
HasForm schema e = entry_has_form schema e ≡ true

-- What prunes entries of the form is of the form.

cell_count : (column : ℕ) (cs ds : List Cell) → CellsPrune column cs ds → length cs ≡ length ds
cell_count column [] [] p = refl
cell_count column [] (d ∷ ds) p = absurd p
cell_count column (c ∷ cs) [] p = absurd p
cell_count column (c ∷ cs) (d ∷ ds) p = ap suc (cell_count (column + 1) cs ds p.1)

row_form : (schema : Schema) (r s : RowPart) → RowPrunes r s → has_cell_count schema s ≡ true → has_cell_count schema r ≡ true
row_form schema (Closed d) s p h = refl
row_form schema (Cells cs) (Closed d) p h = absurd p
row_form schema (Cells cs) (Cells ds) p h = ap (λ n. n == length schema.columns - 1) (cell_count 0 cs ds p) ∙ h

entry_form : (schema : Schema) (e f : PartEntry) → EntryPrunes e f → HasForm schema f → HasForm schema e
entry_form schema e f p h =
    let both = and_parts (is_key_of (key_kind schema) f.key) (has_cell_count schema f.row) h in
    and_from (is_key_of (key_kind schema) e.key) (has_cell_count schema e.row) (ap (is_key_of (key_kind schema)) p.key ∙ both.0) (row_form schema e.row f.row p.row both.1)

leaf_form : (schema : Schema) (es fs : List PartEntry) → AllZip EntryPrunes es fs → AllByRecursion (HasForm schema) fs → AllByRecursion (HasForm schema) es
leaf_form schema [] fs p h = tt
leaf_form schema (e ∷ es) [] p h = absurd p
leaf_form schema (e ∷ es) (f ∷ fs) p h = (entry_form schema e f p.0 h.0, leaf_form schema es fs p.1 h.1)

mutual
  tree_form : (schema : Schema) (p t : RowTree) → Prunes p t → AllByRecursion (HasForm schema) (entries t) → AllByRecursion (HasForm schema) (entries p)
  tree_form schema (stub d) t p h = tt
  tree_form schema (leaf es) (stub d) p h = absurd p
  tree_form schema (leaf es) (leaf fs) p h = leaf_form schema es fs p h
  tree_form schema (leaf es) (inner ts qs) p h = absurd p
  tree_form schema (inner ss ps) (stub d) p h = absurd p
  tree_form schema (inner ss ps) (leaf fs) p h = absurd p
  tree_form schema (inner ss ps) (inner ts qs) p h = trees_form schema ps qs p.1 h

  trees_form : (schema : Schema) (ps qs : RowTrees) → PrunesEach row_family EntryPrunes ps qs → AllByRecursion (HasForm schema) (entries_in qs)
      → AllByRecursion (HasForm schema) (entries_in ps)
  trees_form schema none none p h = tt
  trees_form schema none (more n q qs) p h = absurd p
  trees_form schema (more m p ps) none z h = absurd z
  trees_form schema (more m p ps) (more n q qs) z h =
      each_both (HasForm schema) (entries p) (entries_in ps) (tree_form schema p q z.1 (each_left (HasForm schema) (entries q) (entries_in qs) h))
      (trees_form schema ps qs z.2 (each_right (HasForm schema) (entries q) (entries_in qs) h))

-- So are the entries of a table's tree.

cells_there : (t : Table) → FitsTable t → AllByRecursion (HasCells (cells_of t.schema)) t.rows
cells_there t fits =
    let itself : bytes_eq t.name t.name ≡ true = (bytes_eq-Decides t.name t.name).1 refl in
    (subst (λ b. NamedFits (option_map_or (λ (h : TableHeader). h.schema) (cond b (Some (table_header_of t)) None) no_schema) (option_map_or (λ (x : Table). x.rows) (cond b (Some t) None) []))
    itself (named_fits t.name (t ∷ []) (fits, tt))).cells

rows_form : (schema : Schema) (rows : List Row) → schema.key < length schema.columns → AllByRecursion (HasKinds schema) rows → AllByRecursion (HasCells (cells_of schema)) rows
    → AllByRecursion (HasForm schema) (map whole_entry rows)
rows_form schema [] lt kinds cells = tt
rows_form schema (row ∷ rows) lt kinds cells =
    let one_less : length (remove schema.columns schema.key) + 1 ≡ length schema.columns = length-remove schema.columns schema.key lt in
    let many : length row.cells ≡ length (remove schema.columns schema.key) = cells.0 in (
      and_from (is_key_of (key_kind schema) row.key) (length (map Shown row.cells) == length schema.columns - 1) kinds.0.key
          (eq-eqb (length (map Shown row.cells)) (length schema.columns - 1) (omega (arith, length-map row.cells Shown))),
      rows_form schema rows lt kinds.1 cells.1,
    )

all_pass : (schema : Schema) (es : List PartEntry) → AllByRecursion (HasForm schema) es → list_all (entry_has_form schema) es ≡ true
all_pass schema [] h = refl
all_pass schema (e ∷ es) h = and_from (entry_has_form schema e) (list_all (entry_has_form schema) es) h.0 (all_pass schema es h.1)

pub part_has_form : (s : Stored) (t : Table) (p : RowTree) → RepresentsTable s t → FitsTable t → Prunes p s.tree → has_schema_form s.schema p ≡ true
part_has_form s t p z fits prunes =
    let rows : AllByRecursion (HasForm t.schema) (map whole_entry t.rows) = rows_form t.schema t.rows fits.schema.key_in fits.kinds (cells_there t fits) in
    let whole : AllByRecursion (HasForm t.schema) (entries s.tree) = subst (AllByRecursion (HasForm t.schema)) (sym z.stands.rows_are) rows in
    subst (λ schema. has_schema_form schema p ≡ true) (sym z.schema) (all_pass t.schema (entries p) (tree_form t.schema p s.tree prunes whole))
