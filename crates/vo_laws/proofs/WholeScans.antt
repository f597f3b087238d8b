-- A scan of a tree that stands for rows gives those in the need's interval.
use Rattle.std.proofs.Common.{◌≡◌, ℕ, zero, suc, ◌<◌, Bool, true, false, cond, List, [], ◌∷◌, Option, Some, None, map, length, inl, inr, refl, sym, ap, ◌∙◌, arith}
use Rattle.std.specs.Prelude.{◌⊎◌, slice_get}
use Rattle.std.specs.List.{AllByRecursion}
use Rattle.vo_spec.specs.declared.values.Value.{Value}
use Rattle.vo_spec.specs.declared.values.Row.{Row}
use Rattle.vo_spec.specs.declared.needs.Need.{Need}
use Rattle.vo_spec.specs.declared.needs.SeenRow.{SeenRow}
use Rattle.vo_spec.specs.Tables.{value_at}
use Rattle.vo_spec.specs.Cells.{whole_cells, whole_entry, whole_row, shown_value}
use Rattle.vo_spec.specs.Trees.{RowTree, Prunes}
use Rattle.vo_spec.specs.Scans.{in_interval, is_empty_interval, put_before, values_in, with_key, seen_entries, seen_in, seen}
use Rattle.vo_spec.specs.Representation.{Represents}
use Rattle.vo_laws.specs.Columns.{HaveColumns, seen_row}
use Rattle.vo_laws.proofs.ScanLaws.{IsNoneOrSame, sound, scan_is_filter}
use Rattle.vo_laws.proofs.SeenLaws.{rows_in, none_kept}

cell_there : (cells : List Value) (c : ℕ) → c < length cells → shown_value (slice_get (whole_cells cells) c) ≡ Some (value_at cells c)
cell_there [] c below = absurd (omega arith)
cell_there (v ∷ cells) zero below = refl
cell_there (v ∷ cells) (suc c) below = cell_there cells c (omega arith)

values_there : (cells : List Value) (columns : List ℕ) → AllByRecursion (λ c. c < length cells) columns → values_in (whole_row cells) columns ≡ Some (map (value_at cells) columns)
values_there cells [] below = refl
values_there cells (c ∷ columns) below = rw (cell_there cells c below.0, values_there cells columns below.1) refl

rows_seen : (need : Need) (rows : List Row) → HaveColumns rows need → seen_entries need (map whole_entry rows) ≡ Some (map (seen_row need.columns) (rows_in need.interval rows))
rows_seen need [] have = refl
rows_seen need (row ∷ rows) have = step (in_interval need.interval row.key) refl (rows_seen need rows have.1)
  where
    step : (b : Bool) → in_interval need.interval row.key ≡ b → seen_entries need (map whole_entry rows) ≡ Some (map (seen_row need.columns) (rows_in need.interval rows))
        → cond b (put_before (with_key row.key (values_in (whole_row row.cells) need.columns)) (seen_entries need (map whole_entry rows))) (seen_entries need (map whole_entry rows))
        ≡ Some (map (seen_row need.columns) (cond b (row ∷ rows_in need.interval rows) (rows_in need.interval rows)))
    step true inside rest = rw (values_there row.cells need.columns (have.0 inside), rest) refl
    step false outside rest = rest

pub whole_scan : (need : Need) (t : RowTree) (rows : List Row) → Represents t rows → HaveColumns rows need → seen need t ≡ Some (map (seen_row need.columns) (rows_in need.interval rows))
whole_scan need t rows stands have = step (is_empty_interval need.interval) refl
  where
    step : (b : Bool) → is_empty_interval need.interval ≡ b → cond b (Some []) (seen_in need t) ≡ Some (map (seen_row need.columns) (rows_in need.interval rows))
    step true e = rw (none_kept need.interval rows e) refl
    step false e = scan_is_filter need t stands.tree ∙ ap (seen_entries need) stands.rows_are ∙ rows_seen need rows have

-- Of a part of a tree it misses something, or gives what it gives of the tree.
pub part_scan : (need : Need) (p t : RowTree) → Prunes p t → (seen need p ≡ None) ⊎ (seen need p ≡ seen need t)
part_scan need p t z = step (seen need p) (sound need p t z)
  where
    step : (o : Option (List SeenRow)) → IsNoneOrSame o (seen need t) → (o ≡ None) ⊎ (o ≡ seen need t)
    step None g = inl refl
    step (Some xs) g = inr (sym g)
