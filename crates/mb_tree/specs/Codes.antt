-- How the logic stores trees of rows.
use Rattle.std.specs.Prelude.{◌≡◌, ◌⊎◌, ℕ, List, refl}
use Rattle.std.proofs.Common.{inl, inr}
use Rattle.std.specs.Coded.{Coded, code_by, coded_ℕ, coded_list, coded×, coded⊎}
use base.Stored.{coded_unit}
use Rattle.vo_spec.specs.declared.values.Value.{Value}
use Rattle.vo_spec.specs.contracts.values.Value as value
use Rattle.vo_spec.specs.declared.cells.Cell.{Cell}
use Rattle.vo_spec.specs.declared.cells.Cell.TheVariants.{Shown, Hidden}
use Rattle.vo_spec.specs.declared.cells.RowPart.{RowPart}
use Rattle.vo_spec.specs.declared.cells.RowPart.TheVariants.{Digest as Closed, Cells}
use Rattle.vo_spec.specs.declared.cells.PartEntry.{PartEntry}
use Rattle.vo_spec.specs.Trees.{RowTree, RowTrees}
use Rattle.vo_spec.specs.Codes.{coded_part, coded_parts}

abbrev coded_bytes : Coded (List ℕ)
coded_bytes = coded_list coded_ℕ

abbrev cell_parts : Cell → Value ⊎ List ℕ
cell_parts (Shown v) = inl v
cell_parts (Hidden d) = inr d

abbrev cell_from : Value ⊎ List ℕ → Cell
cell_from (inl v) = Shown v
cell_from (inr d) = Hidden d

pub cell_back : (c : Cell) → cell_from (cell_parts c) ≡ c
cell_back (Shown v) = refl
cell_back (Hidden d) = refl

abbrev pub coded_cell : Coded Cell
coded_cell = code_by (Value ⊎ List ℕ) (coded⊎ value.the_row.coded coded_bytes) cell_parts
    cell_from cell_back

abbrev row_parts : RowPart → List ℕ ⊎ List Cell
row_parts (Closed d) = inl d
row_parts (Cells cs) = inr cs

abbrev row_from : List ℕ ⊎ List Cell → RowPart
row_from (inl d) = Closed d
row_from (inr cs) = Cells cs

pub row_back : (r : RowPart) → row_from (row_parts r) ≡ r
row_back (Closed d) = refl
row_back (Cells cs) = refl

abbrev pub coded_row : Coded RowPart
coded_row = code_by (List ℕ ⊎ List Cell) (coded⊎ coded_bytes (coded_list coded_cell)) row_parts
    row_from row_back

abbrev pub coded_entry : Coded PartEntry
coded_entry = code_by (List ℕ × RowPart) (coded× coded_bytes coded_row) (λ e. (e.key, e.row))
    (λ p. record { key = p.0; row = p.1 }) (λ _. refl)

abbrev pub coded_tree : Coded RowTree
coded_tree = coded_part coded_entry coded_unit

abbrev pub coded_trees : Coded RowTrees
coded_trees = coded_parts coded_entry coded_unit
