-- The nodes of whole trees: children as a list, and what fits.
use Rattle.std.proofs.Common.{◌≡◌, zero, suc, List, [], ◌∷◌, ◌++◌, length, map, flat_map, refl, ap, arith, All}
use Rattle.std.proofs.lemmas.List.{length-map}
use Rattle.vo_spec.specs.declared.values.Value.{Value}
use Rattle.vo_spec.specs.declared.values.Row.{Row}
use Rattle.vo_spec.specs.Cells.{whole_cells, whole_entry}
use Rattle.vo_spec.specs.Values.{FitsValue}
use Rattle.vo_spec.specs.Parts.{count, child_bytes}
use Rattle.vo_spec.specs.Trees.{RowTree, digest, row_family, open_parts}
use Rattle.vo_spec.specs.Fits.{FitsPart, FitsEach, FitsEntry, FitsRow, FitsCell}

pub count_open_parts : (ts : List RowTree) → count (open_parts ts) ≡ length ts
count_open_parts [] = refl
count_open_parts (t ∷ ts) = let h : count (open_parts ts) ≡ length ts = count_open_parts ts in omega arith

pub child_bytes_open_parts : (ts : List RowTree) → child_bytes row_family (open_parts ts) ≡ flat_map digest ts
child_bytes_open_parts [] = refl
child_bytes_open_parts (t ∷ ts) = ap (λ bytes. digest t ++ bytes) (child_bytes_open_parts ts)

pub subtrees_fit : (ts : List RowTree) → All FitsPart ts → FitsEach FitsEntry (open_parts ts)
subtrees_fit [] f = tt
subtrees_fit (t ∷ ts) f = (f 0 t (omega arith), subtrees_fit ts (λ k d h. f (suc k) d (omega arith)))

cells_fit : (vs : List Value) → All FitsValue vs → All FitsCell (whole_cells vs)
cells_fit [] f k d h = absurd (omega arith)
cells_fit (v ∷ vs) f zero d h = f 0 v (omega arith)
cells_fit (v ∷ vs) f (suc k) d h = cells_fit vs (λ i e g. f (suc i) e (omega arith)) k d (omega arith)

row_fits : (row : Row) → FitsRow row → FitsEntry (whole_entry row)
row_fits row f = record {
  key = f.key;
  row = (rw length-map f.cells.count, cells_fit row.cells f.cells.each);
}

pub rows_fit : (rows : List Row) → All FitsRow rows → All FitsEntry (map whole_entry rows)
rows_fit [] f k d h = absurd (omega arith)
rows_fit (r ∷ rs) f zero d h = row_fits r (f 0 r (omega arith))
rows_fit (r ∷ rs) f (suc k) d h = rows_fit rs (λ i e g. f (suc i) e (omega arith)) k d (omega arith)
