-- The trees of an honest reply: each proof is complete and bare, of its table's shape and root.
use Rattle.std.proofs.Common.{◌≡◌, ℕ, ◌+◌, Bool, true, false, cond, List, [], ◌∷◌, Some, None, length, map, refl, sym, subst}
use Rattle.std.specs.Prelude.{find, remove, bytes_eq}
use Rattle.std.specs.Option.{option_map_or}
use Rattle.std.specs.List.{list_all, AllByRecursion}
use Rattle.std.proofs.lemmas.Bool.{and_parts, and_from}
use Rattle.std.proofs.lemmas.Slice.Eq.{bytes_eq-Decides}
use Rattle.vo_spec.specs.declared.values.Value.{Value}
use Rattle.vo_spec.specs.declared.values.Row.{Row}
use Rattle.vo_spec.specs.declared.tables.Column.{Column}
use Rattle.vo_spec.specs.declared.tables.Schema.{Schema}
use Rattle.vo_spec.specs.declared.tables.Table.{Table}
use Rattle.vo_spec.specs.declared.needs.Need.{Need}
use Rattle.vo_spec.specs.declared.cells.Cell.TheVariants.{Shown, Hidden}
use Rattle.vo_spec.specs.declared.cells.RowPart.TheVariants.{Digest as Closed, Cells}
use Rattle.vo_spec.specs.declared.cells.PartEntry.{PartEntry}
use Rattle.vo_spec.specs.Values.{is_of_kind}
use Rattle.vo_spec.specs.Tables.{are_of_kinds, allows, allow_each}
use Rattle.vo_spec.specs.Cells.{cell_digest, row_digest, whole_cells, whole_row, whole_entry}
use Rattle.vo_spec.specs.Parts.{leaf, entries}
use Rattle.vo_spec.specs.Trees.{RowTree, digest}
use Rattle.vo_spec.specs.Pruning.{at_root, is_any, needed_columns, has_column, shown_cell, shown_cells, shown_row, shown_entry, walk_for, is_missing, prune_tree}
use Rattle.vo_spec.specs.Representation.{Represents}
use Rattle.vo_spec.specs.Checks.{key_kind, is_key_of, cell_fits, cells_fit, row_fits, entry_fits, has_shape, table_named, has_table_shape, root_fault}
use Rattle.vo_spec.specs.Honest.{Stored, RepresentTables, catalog_of, stored_tree}
use Rattle.vo_laws.specs.Columns.{HaveColumns}
use Rattle.vo_laws.proofs.ListLaws.{each_weaker}
use Rattle.vo_laws.specs.FittingTables.{HasKinds, FitsTable}
use Rattle.vo_laws.proofs.PrunedLaws.{digest_same, walk_each, pruned_prunes}
pub use Rattle.vo_laws.proofs.OneProof.{AreBelow}
use Rattle.vo_laws.proofs.OneProof.{pruned_canonical}

-- the columns of each need are below a number
abbrev pub AreBounded : ℕ → List Need → Type 0
AreBounded n = AllByRecursion (λ (need : Need). AreBelow n need.columns)

abbrev pub HasCells : ℕ → Row → Type 0
HasCells n row = length row.cells ≡ n

-- rows of so many cells have the columns of a need that are below that
pub have_below : (n : ℕ) (need : Need) (rows : List Row) → AreBelow n need.columns → AllByRecursion (HasCells n) rows → HaveColumns rows need
have_below n need [] below cells = tt
have_below n need (row ∷ rows) below cells = (λ inside. subst (λ k. AreBelow k need.columns) (sym cells.0) below, have_below n need rows below cells.1)

pub pruned_complete : (n : ℕ) (needs : List Need) (t : RowTree) (rows : List Row) → Represents t rows → AreBounded n needs → AllByRecursion (HasCells n) rows
    → is_missing needs (prune_tree needs t) ≡ false
pruned_complete n needs t rows stands all cells =
    (pruned_canonical needs t rows stands
    (each_weaker (λ (need : Need). AreBelow n need.columns) (HaveColumns rows) (λ need below. have_below n need rows below cells) needs all)).complete

-- Shape.

cells_shape : (columns : List Column) (values : List Value) (shown : List ℕ) (column : ℕ) → are_of_kinds columns values ≡ true → allow_each columns values ≡ true
    → cells_fit columns (shown_cells shown column (whole_cells values)) ≡ true
cells_shape [] [] shown column e allowed = refl
cells_shape [] (v ∷ values) shown column e allowed = absurd (cc)
cells_shape (c ∷ columns) [] shown column e allowed = absurd (cc)
cells_shape (c ∷ columns) (v ∷ values) shown column e allowed =
    let p = and_parts (is_of_kind c.kind v) (are_of_kinds columns values) e in
    let q = and_parts (allows c v) (allow_each columns values) allowed in
    and_from (cell_fits c (shown_cell shown column (Shown v))) (cells_fit columns (shown_cells shown (column + 1) (whole_cells values)))
    (step (has_column shown column) p.0 q.0) (cells_shape columns values shown (column + 1) p.1 q.1)
  where
    step : (b : Bool) → is_of_kind c.kind v ≡ true → allows c v ≡ true → cell_fits c (cond b (Shown v) (Hidden (cell_digest column (Shown v)))) ≡ true
    step true f g = and_from (is_of_kind c.kind v) (allows c v) f g
    step false f g = refl

row_shape : (schema : Schema) (columns : List ℕ) (values : List Value) → are_of_kinds (remove schema.columns schema.key) values ≡ true
    → allow_each (remove schema.columns schema.key) values ≡ true → row_fits schema (shown_row columns (whole_row values)) ≡ true
row_shape schema columns values e allowed = step (is_any columns)
  where
    step : (b : Bool) → row_fits schema (cond b (Cells (shown_cells columns 0 (whole_cells values))) (Closed (row_digest (Cells (whole_cells values))))) ≡ true
    step true = cells_shape (remove schema.columns schema.key) values columns 0 e allowed
    step false = refl

entries_shape : (schema : Schema) (needs : List Need) (rows : List Row) → AllByRecursion (HasKinds schema) rows
    → AllByRecursion (λ (e : PartEntry). entry_fits schema (shown_entry needs e) ≡ true) (map whole_entry rows)
entries_shape schema needs [] all = tt
entries_shape schema needs (row ∷ rows) all = (
  and_from (is_key_of (key_kind schema) row.key) (row_fits schema (shown_row (needed_columns needs row.key) (whole_row row.cells))) all.0.key (row_shape schema (needed_columns needs row.key) row.cells all.0.cells all.0.allowed),
  entries_shape schema needs rows all.1,
)

all_of : {A : Type 0} (test : A → Bool) (xs : List A) → AllByRecursion (λ x. test x ≡ true) xs → list_all test xs ≡ true
all_of test [] all = refl
all_of test (x ∷ xs) all = and_from (test x) (list_all test xs) all.0 (all_of test xs all.1)

pub pruned_shape : (schema : Schema) (needs : List Need) (t : RowTree) (rows : List Row) → Represents t rows → AllByRecursion (HasKinds schema) rows
    → has_shape schema (prune_tree needs t) ≡ true
pruned_shape schema needs t rows stands kinds =
    all_of (entry_fits schema) (entries (prune_tree needs t))
    (walk_each (walk_for needs) (λ (e : PartEntry). entry_fits schema e ≡ true) (at_root needs) t
    (subst (AllByRecursion (λ (e : PartEntry). entry_fits schema (shown_entry needs e) ≡ true)) (sym stands.rows_are) (entries_shape schema needs rows kinds)))

-- Tables of catalogs by name.

root_right : (needs : List Need) (s : Stored) (rows : ℕ) → root_fault (Some (record { name = s.name; schema = s.schema; rows = rows; root = digest s.tree }), prune_tree needs s.tree) ≡ None
root_right needs s rows =
    rw ((bytes_eq-Decides (digest s.tree) (digest (prune_tree needs s.tree))).1 (sym (digest_same (prune_tree needs s.tree) s.tree (pruned_prunes needs s.tree)))) refl

-- what holds of the proof, for the table of this name in the catalog
pub record IsGood (name : List ℕ) (needs : List Need) (stored : List Stored) : Type 0 where
  pub shape : has_table_shape (table_named name (catalog_of stored), prune_tree needs (stored_tree stored name)) ≡ true
  pub root : root_fault (table_named name (catalog_of stored), prune_tree needs (stored_tree stored name)) ≡ None

abbrev IsGoodBy : List Need → Bool → Stored → List ℕ → List Stored → Type 0
IsGoodBy needs b s name stored =
    (has_table_shape (
      cond b (Some (record { name = s.name; schema = s.schema; rows = length (entries s.tree); root = digest s.tree })) (table_named name (catalog_of stored)),
      prune_tree needs (option_map_or (λ (x : Stored). x.tree) (cond b (Some s) (find (λ (x : Stored). bytes_eq x.name name) stored)) (leaf [])),
    ) ≡ true)
    × (root_fault (
      cond b (Some (record { name = s.name; schema = s.schema; rows = length (entries s.tree); root = digest s.tree })) (table_named name (catalog_of stored)),
      prune_tree needs (option_map_or (λ (x : Stored). x.tree) (cond b (Some s) (find (λ (x : Stored). bytes_eq x.name name) stored)) (leaf [])),
    ) ≡ None)

pub good : (name : List ℕ) (needs : List Need) (stored : List Stored) (tables : List Table) → RepresentTables stored tables → AllByRecursion FitsTable tables → IsGood name needs stored
good name needs [] [] zs fits = record { shape = refl; root = refl }
good name needs [] (t ∷ tables) zs fits = absurd zs
good name needs (s ∷ stored) [] zs fits = absurd zs
good name needs (s ∷ stored) (t ∷ tables) zs fits =
    let i : IsGoodBy needs (bytes_eq s.name name) s name stored = good_step (bytes_eq s.name name) (good name needs stored tables zs.1 fits.1) in
    record { shape = i.0; root = i.1 }
  where
    good_step : (b : Bool) → IsGood name needs stored → IsGoodBy needs b s name stored
    good_step true rest = (
      pruned_shape s.schema needs s.tree t.rows zs.0.stands (subst (λ z. AllByRecursion (HasKinds z) t.rows) (sym zs.0.schema) fits.0.kinds),
      root_right needs s (length (entries s.tree)),
    )
    good_step false rest = (rest.shape, rest.root)
