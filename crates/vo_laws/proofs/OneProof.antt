-- The proof of a tree for some needs is canonical, and the only part of the tree that is.
use Rattle.std.proofs.Common.{◌≡◌, ℕ, zero, suc, ◌+◌, ◌<◌, Bool, true, false, cond, List, [], ◌∷◌, None, map, length, inl, inr, refl, sym, ap, subst, arith}
use Rattle.std.specs.Prelude.{◌==◌, not, filter, flat_map, slice_get, is_none}
use Rattle.std.specs.List.{AllByRecursion}
use Rattle.std.proofs.lemmas.Bool.{cases_Bool, or_cases, or_parts, or_from, not-false, eqb-true, eq-eqb}
use Rattle.vo_spec.specs.declared.values.Value.{Value}
use Rattle.vo_spec.specs.declared.values.Row.{Row}
use Rattle.vo_spec.specs.declared.needs.Need.{Need}
use Rattle.vo_spec.specs.declared.cells.Cell.{Cell}
use Rattle.vo_spec.specs.declared.cells.Cell.TheVariants.{Shown, Hidden}
use Rattle.vo_spec.specs.declared.cells.RowPart.{RowPart}
use Rattle.vo_spec.specs.declared.cells.RowPart.TheVariants.{Digest as Closed, Cells}
use Rattle.vo_spec.specs.declared.cells.PartEntry.{PartEntry}
use Rattle.vo_spec.specs.Cells.{cell_digest, row_digest, whole_cells, whole_entry, whole_row, shown_value, value_in, CellsPrune, RowPrunes, EntryPrunes}
use Rattle.vo_spec.specs.Trees.{RowTree, row_family, Prunes}
use Rattle.vo_spec.specs.Scans.{in_interval}
use Rattle.vo_spec.specs.Pruning.{at_root, is_any, needed_columns, has_column, hides_any, shows_surplus, row_has_surplus, shown_cell, shown_cells, shown_row, shown_entry, walk_for, IsCanonical, prune_tree}
use Rattle.vo_spec.specs.Representation.{Represents, fewest_in_root}
use Rattle.vo_laws.specs.Columns.{HasColumns, HaveColumns}
use Rattle.vo_laws.proofs.ListLaws.{IsIn, each_of, each_weaker, each_both, any_in, none_any}
use Rattle.vo_laws.proofs.WalkLaws.{only_part}
use Rattle.vo_laws.proofs.PrunedLaws.{walk_complete, pruned_bare}

-- It is canonical: where rows have the columns that are to be shown, these are shown.

abbrev pub AreBelow : ℕ → List ℕ → Type 0
AreBelow n = AllByRecursion (λ c. c < n)

shown_there : (columns : List ℕ) (column : ℕ) (values : List Value) (i : ℕ) → i < length values → has_column columns (column + i) ≡ true
    → is_none (shown_value (slice_get (shown_cells columns column (whole_cells values)) i)) ≡ false
shown_there columns column [] i lt e = absurd (omega arith)
shown_there columns column (v ∷ values) zero lt e =
    let same : column + 0 ≡ column = omega arith in
    rw (subst (λ c. has_column columns c ≡ true) same e) refl
shown_there columns column (v ∷ values) (suc i) lt e =
    let same : column + suc i ≡ column + 1 + i = omega arith in
    shown_there columns (column + 1) values i (omega arith) (subst (λ c. has_column columns c ≡ true) same e)

none_hidden : (columns : List ℕ) (row : RowPart) → ((c : ℕ) → IsIn c columns → is_none (value_in row c) ≡ false) → hides_any columns row ≡ false
none_hidden [] row f = refl
none_hidden (c ∷ columns) row f = or_from (is_none (value_in row c)) (hides_any columns row) (f c (inl refl)) (none_hidden columns row (λ x i. f x (inr i)))

row_complete : (columns : List ℕ) (values : List Value) → AreBelow (length values) columns → hides_any columns (shown_row columns (whole_row values)) ≡ false
row_complete [] values below = refl
row_complete (c ∷ columns) values below =
    none_hidden (c ∷ columns) (Cells (shown_cells (c ∷ columns) 0 (whole_cells values)))
    (λ x i. shown_there (c ∷ columns) 0 values x (each_of (λ y. y < length values) (c ∷ columns) below x i)
    (subst (λ z. has_column (c ∷ columns) z ≡ true) (from_none x) (any_in (λ y. y == x) (c ∷ columns) x i (eq-eqb x x refl))))
  where
    from_none : (x : ℕ) → x ≡ 0 + x
    from_none x = omega arith

named_there : (needs : List Need) (row : Row) → AllByRecursion (λ (need : Need). HasColumns need row) needs → AreBelow (length row.cells) (needed_columns needs row.key)
named_there [] row all = tt
named_there (need ∷ needs) row all = step (in_interval need.interval row.key) refl (named_there needs row all.1)
  where
    step : (b : Bool) → in_interval need.interval row.key ≡ b → AreBelow (length row.cells) (needed_columns needs row.key)
        → AreBelow (length row.cells) (flat_map (λ (n : Need). n.columns) (cond b (need ∷ filter (λ (n : Need). in_interval n.interval row.key) needs) (filter (λ (n : Need). in_interval n.interval row.key) needs)))
    step true inside rest = each_both (λ c. c < length row.cells) need.columns (needed_columns needs row.key) (all.0 inside) rest
    step false outside rest = rest

abbrev IsComplete : List Need → PartEntry → Type 0
IsComplete needs e = hides_any (needed_columns needs e.key) (shown_entry needs e).row ≡ false

entries_complete : (needs : List Need) (rows : List Row) → AllByRecursion (HaveColumns rows) needs → AllByRecursion (IsComplete needs) (map whole_entry rows)
entries_complete needs [] all = tt
entries_complete needs (row ∷ rows) all = (
  row_complete (needed_columns needs row.key) row.cells (named_there needs row (each_weaker (HaveColumns (row ∷ rows)) (λ (need : Need). HasColumns need row) (λ need have. have.0) needs all)),
  entries_complete needs rows (each_weaker (HaveColumns (row ∷ rows)) (HaveColumns rows) (λ need have. have.1) needs all),
)

pub pruned_canonical : (needs : List Need) (t : RowTree) (rows : List Row) → Represents t rows → AllByRecursion (HaveColumns rows) needs → IsCanonical needs (prune_tree needs t)
pruned_canonical needs t rows stands have = record {
  complete =
      walk_complete (walk_for needs) (at_root needs) (fewest_in_root row_family t) stands.tree.height None None t stands.tree.shape
      (subst (AllByRecursion (IsComplete needs)) (sym stands.rows_are) (entries_complete needs rows have));
  minimal = pruned_bare needs t;
}

-- It is the only one. First of cells, where each of these columns is shown and no other.

hidden_is : (columns : List ℕ) (column : ℕ) (digest : List ℕ) (d : Cell) → has_column columns column ≡ false → digest ≡ cell_digest column d → Hidden digest ≡ shown_cell columns column d
hidden_is columns column digest (Hidden g) unnamed same = ap Hidden same
hidden_is columns column digest (Shown v) unnamed same = rw unnamed (ap Hidden same)

abbrev AreShown : List ℕ → ℕ → List Cell → Type 0
AreShown columns column cells = (i : ℕ) → has_column columns (column + i) ≡ true → is_none (shown_value (slice_get cells i)) ≡ false

not_named : (columns : List ℕ) (column : ℕ) (digest : List ℕ) (cells : List Cell) → AreShown columns column (Hidden digest ∷ cells) → has_column columns column ≡ false
not_named columns column digest cells shown = elim (cases_Bool (has_column columns column)) [
  | inl e ↦ absurd (contrary e)
  | inr e ↦ e
]
  where
    contrary : has_column columns column ≡ true → ⊥
    contrary e =
        let same : column ≡ column + 0 = omega arith in
        let there : true ≡ false = shown 0 (subst (λ c. has_column columns c ≡ true) same e) in
        absurd (cc)

later_shown : (columns : List ℕ) (column : ℕ) (c : Cell) (cells : List Cell) → AreShown columns column (c ∷ cells) → AreShown columns (column + 1) cells
later_shown columns column c cells shown i e =
    let same : column + 1 + i ≡ column + suc i = omega arith in
    shown (suc i) (subst (λ n. has_column columns n ≡ true) same e)

cells_are : (columns : List ℕ) (column : ℕ) (cs ds : List Cell) → CellsPrune column cs ds → AreShown columns column cs → shows_surplus columns column cs ≡ false
    → cs ≡ shown_cells columns column ds
cells_are columns column [] [] z shown b = refl
cells_are columns column [] (d ∷ ds) z shown b = absurd z
cells_are columns column (c ∷ cs) [] z shown b = absurd z
cells_are columns column (Hidden h ∷ cs) (d ∷ ds) z shown b =
    rw (
      hidden_is columns column h d (not_named columns column h cs shown) z.0,
      cells_are columns (column + 1) cs ds z.1 (later_shown columns column (Hidden h) cs shown) b,
    ) refl
cells_are columns column (Shown v ∷ cs) (Hidden g ∷ ds) z shown b = absurd z.0
cells_are columns column (Shown v ∷ cs) (Shown w ∷ ds) z shown b =
    let o = or_parts (not (has_column columns column)) (shows_surplus columns (column + 1) cs) b in
    let named_here : has_column columns column ≡ true = not-false (has_column columns column) o.0 in
    rw (named_here, z.0, cells_are columns (column + 1) cs ds z.1 (later_shown columns column (Shown v) cs shown) o.1) refl

of_column : (P : ℕ → Type 0) (columns : List ℕ) (i : ℕ) → has_column columns i ≡ true → AllByRecursion P columns → P i
of_column P [] i e all = absurd (cc)
of_column P (c ∷ columns) i e all = elim (or_cases (c == i) (has_column columns i) e) [
  | inl same ↦ subst P (eqb-true c i same) all.0
  | inr behind ↦ of_column P columns i behind all.1
]

closed_is : (digest : List ℕ) (s : RowPart) → digest ≡ row_digest s → Closed digest ≡ shown_row [] s
closed_is digest (Closed g) same = ap Closed same
closed_is digest (Cells ds) same = ap Closed same

row_is : (columns : List ℕ) (r s : RowPart) → RowPrunes r s → hides_any columns r ≡ false → row_has_surplus columns r ≡ false → r ≡ shown_row columns s
row_is [] (Closed d) s z h b = closed_is d s z
row_is (c ∷ columns) (Closed d) s z h b = absurd (cc)
row_is columns (Cells cs) (Closed d) z h b = absurd z
row_is columns (Cells cs) (Cells ds) z h b =
    let o = or_parts (not (is_any columns)) (shows_surplus columns 0 cs) b in
    let some : is_any columns ≡ true = not-false (is_any columns) o.0 in
    rw some (ap Cells (cells_are columns 0 cs ds z shown o.1))
  where
    shown : AreShown columns 0 cs
    shown i e =
        let same : 0 + i ≡ i = omega arith in
        of_column (λ c. is_none (value_in (Cells cs) c) ≡ false) columns i (subst (λ n. has_column columns n ≡ true) same e)
        (none_any (λ c. is_none (value_in (Cells cs) c)) columns h)

row_and_key : (needs : List Need) (j k : List ℕ) (r s : RowPart) → j ≡ k → RowPrunes r s → hides_any (needed_columns needs j) r ≡ false → row_has_surplus (needed_columns needs j) r ≡ false
    → ◌≡◌ {A = PartEntry} (record { key = j; row = r }) (record { key = k; row = shown_row (needed_columns needs k) s })
row_and_key needs j k r s same z h b = rw (row_is (needed_columns needs j) r s z h b, same) refl

entry_is : (needs : List Need) (e f : PartEntry) → EntryPrunes e f → hides_any (needed_columns needs e.key) e.row ≡ false → row_has_surplus (needed_columns needs e.key) e.row ≡ false
    → e ≡ shown_entry needs f
entry_is needs e f z h b = row_and_key needs e.key f.key e.row f.row z.key z.row h b

pub only_canonical : (needs : List Need) (p t : RowTree) → Prunes p t → IsCanonical needs p → p ≡ prune_tree needs t
only_canonical needs p t z is = only_part (walk_for needs) row_family EntryPrunes (entry_is needs) (at_root needs) p t is.complete is.minimal z
