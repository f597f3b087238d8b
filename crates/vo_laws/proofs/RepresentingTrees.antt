-- A whole tree that stands for rows: what an insertion, a removal and a replacement make of it
-- stands for what they make of the rows.
use Rattle.std.proofs.Common.{◌≡◌, ℕ, zero, suc, Bool, true, false, cond, List, [], ◌∷◌, Result, Ok, Err, map, refl, sym, ap, ◌∙◌, subst}
use Rattle.std.specs.Prelude.{◌||◌, bytes_eq, slice_set}
use Rattle.std.specs.List.{AllByRecursion}
use Rattle.std.proofs.lemmas.Slice.Eq.{bytes_eq-Decides}
use Rattle.vo_spec.specs.declared.values.Value.{Value}
use Rattle.vo_spec.specs.declared.values.Row.{Row}
use Rattle.vo_spec.specs.declared.cells.Cell.TheVariants.{Shown}
use Rattle.vo_spec.specs.declared.cells.RowPart.{RowPart}
use Rattle.vo_spec.specs.declared.cells.RowPart.TheVariants.{Digest as Closed, Cells}
use Rattle.vo_spec.specs.declared.cells.PartEntry.{PartEntry}
use Rattle.vo_spec.specs.declared.trees.UpdateFault.{UpdateFault}
use Rattle.vo_spec.specs.declared.trees.UpdateFault.TheVariants.{DuplicateKey, NoRow, Missing, Memory}
use Rattle.vo_spec.specs.Values.{key_lt}
use Rattle.vo_spec.specs.Tables.{CellChange, has_row, put_row, without_row, changed_cells, changed_row}
use Rattle.vo_spec.specs.Cells.{whole_cells, whole_entry}
use Rattle.vo_spec.specs.Parts.{entries}
use Rattle.vo_spec.specs.Trees.{RowTree, key_in, row_family}
use Rattle.vo_spec.specs.Inserts.{result_map, has_key, put_entry, tree_with_entry}
use Rattle.vo_spec.specs.Removes.{without_entry, edit_entry, set_cells, set_row, tree_without_key, tree_with_cells}
use Rattle.vo_spec.specs.Representation.{AreRising, Represents}
pub use Rattle.vo_laws.specs.Changing.{Inserts}
use Rattle.vo_laws.specs.Changing.{Changes}
use Rattle.vo_laws.proofs.ListLaws.{each_mapped}
use Rattle.vo_laws.proofs.InsertionNodes.{keys_in, other_back}
use Rattle.vo_laws.proofs.Insertion.{TreeGrows, tree_grows}
use Rattle.vo_laws.proofs.WithoutEntry.{whole_without}
use Rattle.vo_laws.proofs.Removal.{TreeShrinks, tree_shrinks}
use Rattle.vo_laws.proofs.Replacement.{TreeEdits, tree_edits}

whole_has : (key : List ℕ) (rows : List Row) → has_key row_family key (map whole_entry rows) ≡ has_row key rows
whole_has key [] = refl
whole_has key (r ∷ rows) = ap (λ b. bytes_eq r.key key || b) (whole_has key rows)

has_in : (key : List ℕ) (t : RowTree) (rows : List Row) → Represents t rows → has_key row_family key (entries t) ≡ has_row key rows
has_in key t rows stands = ap (has_key row_family key) stands.rows_are ∙ whole_has key rows

-- An insertion.

whole_put : (row : Row) (rows : List Row) → put_entry row_family (whole_entry row) (map whole_entry rows) ≡ map whole_entry (put_row row rows)
whole_put row [] = refl
whole_put row (r ∷ rows) = step (key_lt row.key r.key) (whole_put row rows)
  where
    step : (b : Bool) → put_entry row_family (whole_entry row) (map whole_entry rows) ≡ map whole_entry (put_row row rows)
        → cond b (whole_entry row ∷ whole_entry r ∷ map whole_entry rows) (whole_entry r ∷ put_entry row_family (whole_entry row) (map whole_entry rows))
        ≡ map whole_entry (cond b (row ∷ r ∷ rows) (r ∷ put_row row rows))
    step true rest = refl
    step false rest = ap (λ z. whole_entry r ∷ z) rest

pub inserted_stands : (row : Row) (t : RowTree) (rows : List Row) → Represents t rows → Inserts row rows (tree_with_entry (whole_entry row) t)
inserted_stands row t rows stands = step (tree_with_entry (whole_entry row) t) (tree_grows row_family (whole_entry row) t stands.tree)
  where
    has : has_key row_family row.key (entries t) ≡ has_row row.key rows
    has = has_in row.key t rows stands

    step : (r : Result RowTree UpdateFault) → TreeGrows row_family (whole_entry row) (entries t) r → Inserts row rows r
    step (Ok u) g = (sym has ∙ g.0, record { tree = g.1; rows_are = g.2 ∙ ap (put_entry row_family (whole_entry row)) stands.rows_are ∙ whole_put row rows })
    step (Err DuplicateKey) g = sym has ∙ g
    step (Err NoRow) g = absurd g
    step (Err Missing) g = absurd g
    step (Err Memory) g = absurd g

-- Changes of the row of a key.

rows_rise : (t : RowTree) (rows : List Row) → Represents t rows → AreRising (keys_in row_family (map whole_entry rows))
rows_rise t rows stands = subst (λ z. AreRising (keys_in row_family z)) stands.rows_are stands.tree.rising

pub removed_stands : (key : List ℕ) (t : RowTree) (rows : List Row) → Represents t rows → Changes key rows (without_row key rows) (tree_without_key key t)
removed_stands key t rows stands = step (tree_without_key key t) (tree_shrinks row_family key t stands.tree)
  where
    has : has_key row_family key (entries t) ≡ has_row key rows
    has = has_in key t rows stands

    step : (r : Result RowTree UpdateFault) → TreeShrinks row_family key (entries t) r → Changes key rows (without_row key rows) r
    step (Ok u) g = (sym has ∙ g.0, record { tree = g.1; rows_are = g.2 ∙ ap (without_entry row_family key) stands.rows_are ∙ whole_without key rows (rows_rise t rows stands) })
    step (Err DuplicateKey) g = absurd g
    step (Err NoRow) g = sym has ∙ g
    step (Err Missing) g = absurd g
    step (Err Memory) g = absurd g

whole_set : (values : List Value) (i : ℕ) (v : Value) → slice_set (whole_cells values) i (Shown v) ≡ whole_cells (slice_set values i v)
whole_set [] i v = refl
whole_set (x ∷ values) zero v = refl
whole_set (x ∷ values) (suc i) v = ap (λ z. Shown x ∷ z) (whole_set values i v)

whole_changed : (changes : List CellChange) (values : List Value) → set_cells changes (whole_cells values) ≡ whole_cells (changed_cells changes values)
whole_changed [] values = refl
whole_changed (c ∷ changes) values = ap (set_cells changes) (whole_set values c.column c.value) ∙ whole_changed changes (slice_set values c.column c.value)

-- of rows with rising keys no second one has the key
others_unchanged : (key : List ℕ) (changes : List CellChange) (rows : List Row) → AllByRecursion (λ (f : PartEntry). key_lt key f.key ≡ true) (map whole_entry rows)
    → map (changed_row key changes) rows ≡ rows
others_unchanged key changes [] all = refl
others_unchanged key changes (row ∷ rows) all = rw (other_back row.key key all.0, others_unchanged key changes rows all.1) refl

whole_edited : (key : List ℕ) (changes : List CellChange) (rows : List Row) → AreRising (keys_in row_family (map whole_entry rows))
    → edit_entry row_family (set_row changes) key (map whole_entry rows)
    ≡ cond (has_row key rows) (Ok (map whole_entry (map (changed_row key changes) rows))) (Err NoRow)
whole_edited key changes [] r = refl
whole_edited key changes (row ∷ rows) r = step (bytes_eq row.key key) refl (whole_edited key changes rows r.1)
  where
    above : AllByRecursion (λ (f : PartEntry). key_lt row.key f.key ≡ true) (map whole_entry rows)
    above = each_mapped (λ k. key_lt row.key k ≡ true) key_in (map whole_entry rows) r.0

    behind : (b : Bool) (es : List PartEntry)
        → result_map (λ fs. whole_entry row ∷ fs) (cond b (Ok es) (Err NoRow)) ≡ cond b (Ok (whole_entry row ∷ es)) (Err NoRow)
    behind true es = refl
    behind false es = refl

    step : (b : Bool) → bytes_eq row.key key ≡ b
        → edit_entry row_family (set_row changes) key (map whole_entry rows) ≡ cond (has_row key rows) (Ok (map whole_entry (map (changed_row key changes) rows))) (Err NoRow)
        → cond b (result_map (λ f. f ∷ map whole_entry rows) (set_row changes (whole_entry row))) (result_map (λ fs. whole_entry row ∷ fs) (edit_entry row_family (set_row changes) key (map whole_entry rows)))
        ≡ cond (b || has_row key rows) (Ok (map whole_entry (cond b (record { key = row.key; cells = changed_cells changes row.cells }) row ∷ map (changed_row key changes) rows))) (Err NoRow)
    step true e rest =
        let same : row.key ≡ key = (bytes_eq-Decides row.key key).0 e in
        let stay : map (changed_row key changes) rows ≡ rows = others_unchanged key changes rows (subst (λ k. AllByRecursion (λ (f : PartEntry). key_lt k f.key ≡ true) (map whole_entry rows)) same above) in
        rw (stay, whole_changed changes row.cells) refl
    step false e rest = ap (result_map (λ fs. whole_entry row ∷ fs)) rest ∙ behind (has_row key rows) (map whole_entry (map (changed_row key changes) rows))

set_row_keeps : (changes : List CellChange) (e f : PartEntry) → set_row changes e ≡ Ok f → f.key ≡ e.key
set_row_keeps changes e f is = step e.row is
  where
    step : (row : RowPart) → set_row changes (record { key = e.key; row = row }) ≡ Ok f → f.key ≡ e.key
    step (Closed d) found = absurd (cc)
    step (Cells cells) found =
        let same : record { key = e.key; row = Cells (set_cells changes cells) } ≡ f = cc in
        ap key_in (sym same)

pub replaced_stands : (key : List ℕ) (changes : List CellChange) (t : RowTree) (rows : List Row) → Represents t rows
    → Changes key rows (map (changed_row key changes) rows) (tree_with_cells key changes t)
replaced_stands key changes t rows stands = step (tree_with_cells key changes t) (has_row key rows) refl edited (tree_edits row_family (set_row changes) (set_row_keeps changes) key t stands.tree)
  where
    edited : edit_entry row_family (set_row changes) key (entries t) ≡ cond (has_row key rows) (Ok (map whole_entry (map (changed_row key changes) rows))) (Err NoRow)
    edited = ap (edit_entry row_family (set_row changes) key) stands.rows_are ∙ whole_edited key changes rows (rows_rise t rows stands)

    step : (r : Result RowTree UpdateFault) (b : Bool) → has_row key rows ≡ b
        → edit_entry row_family (set_row changes) key (entries t) ≡ cond b (Ok (map whole_entry (map (changed_row key changes) rows))) (Err NoRow)
        → TreeEdits row_family (set_row changes) key (entries t) r → Changes key rows (map (changed_row key changes) rows) r
    step (Ok u) true has is g = (has, record { tree = g.1; rows_are = cc })
    step (Ok u) false has is g = absurd (cc)
    step (Err fault) true has is g = absurd (cc)
    step (Err fault) false has is g =
        let same : NoRow ≡ fault = cc in
        subst (λ f. Changes key rows (map (changed_row key changes) rows) (Err f)) same has
