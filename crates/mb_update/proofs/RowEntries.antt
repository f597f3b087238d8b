-- Changes of a tree of so many rows, with every cell shown, give such trees.
use Rattle.std.proofs.Common.{◌≡◌, ℕ, ◌+◌, ◌-◌, ◌≤◌, List, [], ◌∷◌, length, map, Result, Ok, refl, sym, ap, ◌∙◌, subst, arith, slice_set}
use Rattle.std.proofs.lemmas.List.{map-set}
use Rattle.vo_spec.specs.declared.values.Value.{Value}
use Rattle.vo_spec.specs.declared.values.Row.{Row}
use Rattle.vo_spec.specs.declared.cells.Cell.TheVariants.{Shown}
use Rattle.vo_spec.specs.declared.cells.PartEntry.{PartEntry}
use Rattle.vo_spec.specs.declared.trees.UpdateFault.{UpdateFault}
use Rattle.vo_spec.specs.Tables.{CellChange, changed_cells, changed_row, without_row}
use Rattle.vo_spec.specs.Cells.{whole_cells, whole_entry}
use Rattle.vo_spec.specs.Parts.{entries}
use Rattle.vo_spec.specs.Trees.{RowTree, row_family, key_in}
use Rattle.vo_spec.specs.Fits.{FitsPart, FitsRow}
use Rattle.vo_spec.specs.Inserts.{tree_with_entry}
use Rattle.vo_spec.specs.Removes.{set_cells, set_row, tree_without_key, tree_with_cells}
use Rattle.vo_spec.specs.Representation.{row_in, rows_in, shown_values, IsTree, Represents}
use Rattle.vo_laws.specs.Changing.{Inserts, Changes}
use Rattle.vo_laws.proofs.RepresentingTrees.{inserted_stands, removed_stands, replaced_stands}
use Rattle.mb_tree.specs.RowCounts.{IsWhole}
use Rattle.mb_update.specs.ChangeResults.{set_entry, GivesTree}
use Rattle.mb_update.specs.Sets.{changed_by}
use Rattle.mb_update.proofs.RowLimits.{inserted_fits, removed_fits}
use Rattle.btree.proofs.OkResults.{ok_same}
use Rattle.btree.proofs.InsertedEntries.{puts_count, puts_fixed, inserted_puts}
use Rattle.btree.proofs.RemovedEntries.{takes_count, takes_fixed, removed_takes}
use Rattle.btree.proofs.ReplacedEntries.{edits_count, edits_fixed, edited_edits}

-- the entry of the row that an entry shows, which is the entry itself where every cell is shown
abbrev shown_again : PartEntry → PartEntry
shown_again e = whole_entry (row_in e)

map_map : (xs : List PartEntry) → map whole_entry (map row_in xs) ≡ map shown_again xs
map_map [] = refl
map_map (x ∷ xs) = ap (λ l. shown_again x ∷ l) (map_map xs)

values_shown : (vs : List Value) → shown_values (whole_cells vs) ≡ vs
values_shown [] = refl
values_shown (v ∷ vs) = ap (λ rest. v ∷ rest) (values_shown vs)

whole_again : (row : Row) → shown_again (whole_entry row) ≡ whole_entry row
whole_again row = ap (λ vs. whole_entry (record { key = row.key; cells = vs })) (values_shown row.cells)

all_shown : (t : RowTree) (n : ℕ) → IsWhole t n → map shown_again (entries t) ≡ entries t
all_shown t n w = sym (map_map (entries t)) ∙ sym w.shown

whole_of_shown : (t : RowTree) (n : ℕ) → IsTree row_family t → FitsPart t → map shown_again (entries t) ≡ entries t → n ≡ length (entries t) → IsWhole t n
whole_of_shown t n tree fits shown counted =
    record { tree = tree; fits = fits; shown = sym shown ∙ sym (map_map (entries t)); counted = counted }

-- The rows that a whole tree stands for, and the trees that changes of it give.

stands : (t : RowTree) (n : ℕ) → IsWhole t n → Represents t (rows_in t)
stands t n w = record { tree = w.tree; rows_are = w.shown }

inserted_tree : (row : Row) (t u : RowTree) (n : ℕ) → IsWhole t n → tree_with_entry (whole_entry row) t ≡ Ok u → IsTree row_family u
inserted_tree row t u n w h =
    let P : Result RowTree UpdateFault → Type 0 = λ r. Inserts row (rows_in t) r in
    (subst P h (inserted_stands row t (rows_in t) (stands t n w))).1.tree

removed_tree : (key : List ℕ) (t u : RowTree) (n : ℕ) → IsWhole t n → tree_without_key key t ≡ Ok u → IsTree row_family u
removed_tree key t u n w h =
    let P : Result RowTree UpdateFault → Type 0 = λ r. Changes key (rows_in t) (without_row key (rows_in t)) r in
    (subst P h (removed_stands key t (rows_in t) (stands t n w))).1.tree

pub replaced_tree : (key : List ℕ) (changes : List CellChange) (t u : RowTree) (n : ℕ) → IsWhole t n → tree_with_cells key changes t ≡ Ok u → IsTree row_family u
replaced_tree key changes t u n w h =
    let P : Result RowTree UpdateFault → Type 0 = λ r. Changes key (rows_in t) (map (changed_row key changes) (rows_in t)) r in
    (subst P h (replaced_stands key changes t (rows_in t) (stands t n w))).1.tree

pub inserted_whole : (row : Row) (t u : RowTree) (n : ℕ) → IsWhole t n → FitsRow row → tree_with_entry (whole_entry row) t ≡ Ok u → IsWhole u (n + 1)
inserted_whole row t u n w new h =
    let puts = inserted_puts row_family (whole_entry row) t u h in
    whole_of_shown u (n + 1) (inserted_tree row t u n w h) (inserted_fits row t u new w.fits h)
    (puts_fixed shown_again (whole_entry row) (entries t) (entries u) puts (whole_again row) (all_shown t n w))
    (omega (arith, w.counted, puts_count (whole_entry row) (entries t) (entries u) puts))

pub record Shortened (u : RowTree) (n : ℕ) : Type 0 where
  pub some : 1 ≤ n
  pub whole : IsWhole u (n - 1)

pub removed_whole : (key : List ℕ) (t u : RowTree) (n : ℕ) → IsWhole t n → tree_without_key key t ≡ Ok u → Shortened u n
removed_whole key t u n w h =
    let takes = removed_takes row_family key t u h in
    let count = takes_count key_in key (entries t) (entries u) takes in
    record {
      some = omega (arith, w.counted);
      whole = whole_of_shown u (n - 1) (removed_tree key t u n w h) (removed_fits key t u w.fits h)
          (takes_fixed key_in key shown_again (entries t) (entries u) takes (all_shown t n w))
          (omega (arith, w.counted));
    }

-- A row whose values are replaced.

cells_set : (changes : List CellChange) (values : List Value) → set_cells changes (whole_cells values) ≡ whole_cells (changed_cells changes values)
cells_set [] values = refl
cells_set (c ∷ changes) values =
    ap (set_cells changes) (sym (map-set Shown values c.column c.value)) ∙ cells_set changes (slice_set values c.column c.value)

pub row_set : (changes : List CellChange) (row : Row) → set_row changes (whole_entry row) ≡ Ok (whole_entry (changed_by changes row))
row_set changes row = rw (cells_set changes row.cells) refl

-- another row in the place of one
pub exchanged_whole : (key : List ℕ) (row : Row) (t u : RowTree) (n : ℕ) → IsWhole t n → GivesTree key (whole_entry row) t → set_entry key (whole_entry row) t ≡ Ok u → IsWhole u n
exchanged_whole key row t u n w gives h =
    let edit : PartEntry → Result PartEntry UpdateFault = λ _. Ok (whole_entry row) in
    let edits = edited_edits row_family edit key t u h in
    let count = edits_count key_in edit key (entries t) (entries u) edits in
    let given = gives u h in
    whole_of_shown u n given.0 given.1
    (edits_fixed key_in edit key shown_again (entries t) (entries u) edits (λ e f shown is. ap shown_again (sym (ok_same (whole_entry row) f is)) ∙ whole_again row ∙ ok_same (whole_entry row) f is) (all_shown t n w))
    (omega (arith, w.counted))
