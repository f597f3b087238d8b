-- What is found in a tree for a need says whether the tree is of the shape of its table.
use Rattle.std.proofs.Common.{◌≡◌, ℕ, suc, ◌+◌, ◌≤◌, Bool, true, false, ◌&&◌, eqb, List, [], ◌∷◌, length, Option, Some, None, refl, sym, ap, ◌∙◌, arith}
use Rattle.std.specs.Prelude.{map, remove, slice_get, not}
use Rattle.std.specs.List.{list_all}
use Rattle.std.specs.Option.{option_map_or}
use Rattle.std.proofs.lemmas.Bool.{ne_eqb}
use Rattle.std.proofs.lemmas.List.{length-map}
use Rattle.std.proofs.lemmas.List.Folds.{list_all-append}
use Rattle.std.proofs.Math.Dec.{eqb-suc-suc}
use Rattle.tree_stream.specs.declared.target.CellKind.{CellKind}
use Rattle.vo_spec.specs.declared.tables.Column.{Column}
use Rattle.vo_spec.specs.declared.tables.Schema.{Schema}
use Rattle.vo_spec.specs.declared.needs.Need.{Need}
use Rattle.vo_spec.specs.declared.cells.Cell.{Cell}
use Rattle.vo_spec.specs.declared.cells.Cell.TheVariants.{Shown, Hidden}
use Rattle.vo_spec.specs.declared.cells.RowPart.{RowPart}
use Rattle.vo_spec.specs.declared.cells.RowPart.TheVariants.{Digest as Closed, Cells}
use Rattle.vo_spec.specs.declared.cells.PartEntry.{PartEntry}
use Rattle.vo_spec.specs.Checks.{is_key_of, key_kind, cell_fits, cells_fit, row_fits, entry_fits, has_shape}
use Rattle.vo_spec.specs.Fits.{FitsEntry, FitsPart, FitsEach}
use Rattle.vo_spec.specs.Parts.{stub, leaf, inner, none, more, count, entries, entries_in}
use Rattle.vo_spec.specs.Scans.{is_empty_interval}
use Rattle.vo_spec.specs.Trees.{RowTree, RowTrees}
use Rattle.tree_stream.specs.declared.target.Target.{Target}
use Rattle.tree_stream.specs.Findings.{cell_kind_of, target_of, shows_kind, fits_kind, cell_findings, cells_findings, row_findings, columns_at, entry_findings, entries_findings, visits_child, child_visits, tree_findings, children_findings}

-- Cells.

abbrev kinds_of : List Column → List CellKind
kinds_of columns = map cell_kind_of columns

-- the kinds from this number on are those of the columns
abbrev AreFrom : List CellKind → ℕ → List Column → Type 0
AreFrom kinds column columns = (i : ℕ) → slice_get kinds (column + i) ≡ slice_get (kinds_of columns) i

and_swap : (a b c : Bool) → (a && (b && c)) ≡ (b && (a && c))
and_swap true b c = refl
and_swap false true c = refl
and_swap false false c = refl

and_two : (a b c d : Bool) → a ≡ b → c ≡ d → (a && c) ≡ (b && d)
and_two a b c d e f = ap (λ (x : Bool). x && c) e ∙ ap (λ (x : Bool). b && x) f

shape_of_cell : (is_named fits : Bool) (cell : Cell) → (cell_findings is_named fits cell).has_shape ≡ fits
shape_of_cell is_named fits (Hidden d) = refl
shape_of_cell is_named fits (Shown v) = refl

same_fit : (c : Column) (cell : Cell) → shows_kind (cell_kind_of c) cell ≡ cell_fits c cell
same_fit c (Shown v) = refl
same_fit c (Hidden d) = refl

cells_shape : (kinds : List CellKind) (named : List ℕ) (column : ℕ) (columns : List Column) (cells : List Cell) → AreFrom kinds column columns
    → cells_fit columns cells ≡ (eqb (length cells) (length columns) && (cells_findings kinds named column cells).has_shape)
cells_shape kinds named column [] [] are = refl
cells_shape kinds named column [] (cell ∷ cells) are =
    ap (λ (b : Bool). b && (cells_findings kinds named column (cell ∷ cells)).has_shape) (sym (ne_eqb (suc (length cells)) 0 (λ e. omega (arith, e))))
cells_shape kinds named column (c ∷ columns) [] are =
    ap (λ (b : Bool). b && true) (sym (ne_eqb 0 (suc (length columns)) (λ e. omega (arith, e))))
cells_shape kinds named column (c ∷ columns) (cell ∷ cells) are =
    let others : Bool = (cells_findings kinds named (column + 1) cells).has_shape in
    let as_many : Bool = eqb (length cells) (length columns) in
    let later : AreFrom kinds (column + 1) columns = λ i.
    let moved : column + 1 + i ≡ column + suc i = omega arith in
    ap (slice_get kinds) moved ∙ are (suc i) in
    let at_zero : column ≡ column + 0 = omega arith in
    let this : fits_kind kinds column cell ≡ cell_fits c cell =
    ap (λ k. option_map_or (λ k. shows_kind k cell) k true) (ap (slice_get kinds) at_zero ∙ are 0) ∙ same_fit c cell in
    ap (λ (b : Bool). cell_fits c cell && b) (cells_shape kinds named (column + 1) columns cells later)
    ∙ and_swap (cell_fits c cell) as_many others
    ∙ and_two as_many (eqb (suc (length cells)) (suc (length columns))) (cell_fits c cell && others) (cells_findings kinds named column (cell ∷ cells)).has_shape
    (sym (eqb-suc-suc (length cells) (length columns)))
    (ap (λ (b : Bool). b && others) (sym (shape_of_cell _ (fits_kind kinds column cell) cell ∙ this)))

-- Rows and entries.

module _ (need : Need) (schema : Schema) where
  abbrev target : Target
  target = target_of need schema

  row_shape : (named : List ℕ) (row : RowPart) → row_fits schema row ≡ (row_findings target.cell_kinds named row).has_shape
  row_shape named (Closed d) = refl
  row_shape named (Cells cells) =
      let columns : List Column = remove schema.columns schema.key in
      cells_shape target.cell_kinds named 0 columns cells (λ i. let same : 0 + i ≡ i = omega arith in ap (slice_get target.cell_kinds) same)
      ∙ ap (λ (n : ℕ). eqb (length cells) n && (cells_findings target.cell_kinds named 0 cells).has_shape) (sym (length-map columns cell_kind_of))

  entries_shape : (es : List PartEntry) → list_all (entry_fits schema) es ≡ (entries_findings target es).has_shape
  entries_shape [] = refl
  entries_shape (e ∷ es) =
      and_two (entry_fits schema e) (entry_findings target e).has_shape (list_all (entry_fits schema) es) (entries_findings target es).has_shape
      (ap (λ (b : Bool). is_key_of (key_kind schema) e.key && b) (row_shape (columns_at target e.key) e.row))
      (entries_shape es)

  -- Nodes.

  both : (p : RowTree) (ps : RowTrees) (a b : Bool) → list_all (entry_fits schema) (entries p) ≡ a → list_all (entry_fits schema) (entries_in ps) ≡ b
      → list_all (entry_fits schema) (entries_in (more tt p ps)) ≡ (a && b)
  both p ps a b e f =
      list_all-append (entry_fits schema) (entries p) (entries_in ps)
      ∙ and_two (list_all (entry_fits schema) (entries p)) a (list_all (entry_fits schema) (entries_in ps)) b e f

  mutual
    tree_shape : (visited : Bool) (p : RowTree) → FitsPart p → has_shape schema p ≡ (tree_findings target visited p).has_shape
    tree_shape visited (stub d) fits = refl
    tree_shape visited (leaf es) fits = entries_shape es
    tree_shape visited (inner ss ps) fits = children_shape visited None ss ps (omega (arith, fits.2)) fits.4

    children_shape : (visited : Bool) (lower : Option (List ℕ)) (ss : List (List ℕ)) (ps : RowTrees) → count ps ≤ length ss + 1 → FitsEach FitsEntry ps
        → list_all (entry_fits schema) (entries_in ps) ≡ (children_findings target (child_visits target visited lower ss) ps).has_shape
    children_shape visited lower ss none few fits = refl
    children_shape visited lower [] (more m p none) few fits =
        let v : Bool = visits_child target visited lower None in
        both p none (tree_findings target v p).has_shape true (tree_shape v p fits.0) refl
    children_shape visited lower [] (more m p (more n q qs)) few fits = absurd (omega (arith, few))
    children_shape visited lower (s ∷ ss) (more m p ps) few fits =
        let v : Bool = visits_child target visited lower (Some s) in
        both p ps (tree_findings target v p).has_shape (children_findings target (child_visits target visited (Some s) ss) ps).has_shape
        (tree_shape v p fits.0) (children_shape visited (Some s) ss ps (omega (arith, few)) fits.1)

pub shape_is : (need : Need) (schema : Schema) (p : RowTree) → FitsPart p → has_shape schema p ≡ (tree_findings (target_of need schema) (not (is_empty_interval need.interval)) p).has_shape
shape_is need schema p fits = tree_shape need schema (not (is_empty_interval need.interval)) p fits
