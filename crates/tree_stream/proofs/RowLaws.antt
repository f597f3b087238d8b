-- Where nothing is missing and there is no surplus, the rows that are found are those that the scan gives.
use Rattle.std.proofs.Common.{◌≡◌, ℕ, suc, ◌+◌, ◌-◌, ◌<◌, ◌≤◌, Bool, true, false, ◌||◌, ◌&&◌, cond, leb, List, [], ◌∷◌, ◌++◌, length, Option, Some, None, refl, sym, ap, subst, ◌∙◌, arith, inl, inr}
use Rattle.std.specs.Prelude.{not, slice_get}
use Rattle.std.specs.List.{list_any}
use Rattle.std.proofs.lemmas.Bool.{cases_eq, ne_eqb, eq-eqb, le-leb, false≢true}
use Rattle.vo_spec.specs.declared.values.Value.{Value}
use Rattle.tree_stream.specs.declared.target.CellKind.{CellKind}
use Rattle.vo_spec.specs.declared.needs.SeenRow.{SeenRow}
use Rattle.vo_spec.specs.declared.cells.Cell.{Cell}
use Rattle.vo_spec.specs.declared.cells.Cell.TheVariants.{Shown, Hidden}
use Rattle.vo_spec.specs.declared.cells.RowPart.{RowPart}
use Rattle.vo_spec.specs.declared.cells.RowPart.TheVariants.{Digest as Closed, Cells}
use Rattle.vo_spec.specs.declared.cells.PartEntry.{PartEntry}
use Rattle.vo_spec.specs.Cells.{shown_value}
use Rattle.vo_spec.specs.Checks.{is_key_of}
use Rattle.vo_spec.specs.Fits.{FitsEntry, FitsPart, FitsEach}
use Rattle.vo_spec.specs.Parts.{stub, leaf, inner, none, more, count}
use Rattle.vo_spec.specs.Pruning.{has_column}
use Rattle.vo_spec.specs.Scans.{in_interval, is_empty_interval, visits, put_before, append_both, values_in, with_key, seen_entries, seen_in, seen_in_each, seen}
use Rattle.vo_spec.specs.Trees.{RowTree, RowTrees}
use Rattle.tree_stream.specs.declared.target.Target.{Target}
use Rattle.tree_stream.specs.declared.findings.Findings.{Findings}
use Rattle.tree_stream.specs.declared.findings.CellFindings.{CellFindings}
use Rattle.tree_stream.proofs.FindingLaws.{need_of}
use Rattle.tree_stream.specs.Findings.{combine_cells, fits_kind, cell_findings, cells_findings, row_findings, entry_findings, entries_findings, child_visits, tree_findings, children_findings, Rises}

-- what is found in a cell, and in those behind it
abbrev and_cells_of : Bool → Bool → Cell → CellFindings → CellFindings
and_cells_of is_named fits cell others = combine_cells (cell_findings is_named fits cell) others

-- the same is missing, and the same values are read
abbrev ReadAlike : CellFindings → CellFindings → Type 0
ReadAlike others all = (all.is_missing ≡ others.is_missing) × (all.values ≡ others.values)

unnamed : (fits : Bool) (cell : Cell) (others : CellFindings) → ReadAlike others (and_cells_of false fits cell others)
unnamed fits (Hidden d) others = (refl, refl)
unnamed fits (Shown v) others = (refl, refl)

or_parts : (a b : Bool) → (a || b) ≡ false → (a ≡ false) × (b ≡ false)
or_parts true b e = absurd cc
or_parts false b e = (refl, e)

-- Columns.

later_rises : (low high : ℕ) (columns : List ℕ) → low ≤ high → Rises high columns → Rises low columns
later_rises low high [] le rises = tt
later_rises low high (c ∷ columns) le rises = (omega (arith, le, rises.0), rises.1)

not_among : (column : ℕ) (columns : List ℕ) → Rises (column + 1) columns → has_column columns column ≡ false
not_among column [] rises = refl
not_among column (c ∷ columns) rises =
    let later : Rises (column + 1) columns = later_rises (column + 1) (c + 1) columns (omega (arith, rises.0)) rises.1 in
    ap (λ (b : Bool). b || has_column columns column) (ne_eqb c column (λ e. omega (arith, e, rises.0)))
    ∙ not_among column columns later

module _ (kinds : List CellKind) where
  -- a column before the first cell says nothing
  without_column : (c : ℕ) (named : List ℕ) (column : ℕ) (cells : List Cell) → c < column → cells_findings kinds (c ∷ named) column cells ≡ cells_findings kinds named column cells
  without_column c named column [] lt = refl
  without_column c named column (cell ∷ cells) lt =
      ap (λ (b : Bool). and_cells_of (b || has_column named column) (fits_kind kinds column cell) cell (cells_findings kinds (c ∷ named) (column + 1) cells)) (ne_eqb c column (λ e. omega (arith, e, lt)))
      ∙ ap (λ (f : CellFindings). and_cells_of (has_column named column) (fits_kind kinds column cell) cell f) (without_column c named (column + 1) cells (omega (arith, lt)))

-- Values of a row's cells, the first of them that of this column.

values_from : ℕ → List Cell → List ℕ → Option (List Value)
values_from column cells [] = Some []
values_from column cells (c ∷ columns) = put_before (shown_value (slice_get cells (c - column))) (values_from column cells columns)

values_after : (column : ℕ) (cell : Cell) (cells : List Cell) (columns : List ℕ) → Rises (column + 1) columns → values_from column (cell ∷ cells) columns ≡ values_from (column + 1) cells columns
unfolding values_from
values_after column cell cells [] rises = refl
values_after column cell cells (c ∷ columns) rises =
    let moved : c - column ≡ suc (c - (column + 1)) = omega (arith, rises.0) in
    ap (λ (i : ℕ). put_before (shown_value (slice_get (cell ∷ cells) i)) (values_from column (cell ∷ cells) columns)) moved
    ∙ ap (put_before (shown_value (slice_get cells (c - (column + 1))))) (values_after column cell cells columns (later_rises (column + 1) (c + 1) columns (omega (arith, rises.0)) rises.1))

values_whole : (cells : List Cell) (columns : List ℕ) → values_in (Cells cells) columns ≡ values_from 0 cells columns
unfolding values_from
values_whole cells [] = refl
values_whole cells (c ∷ columns) =
    let same : c ≡ c - 0 = omega arith in
    ap (λ (i : ℕ). put_before (shown_value (slice_get cells i)) (values_in (Cells cells) columns)) same
    ∙ ap (put_before (shown_value (slice_get cells (c - 0)))) (values_whole cells columns)

abbrev beyond : ℕ → List Cell → List ℕ → Bool
beyond column cells columns = list_any (λ c. leb (column + length cells) c) columns

beyond_moved : (column : ℕ) (cell : Cell) (cells : List Cell) (columns : List ℕ) → beyond column (cell ∷ cells) columns ≡ beyond (column + 1) cells columns
beyond_moved column cell cells columns =
    let moved : column + suc (length cells) ≡ column + 1 + length cells = omega arith in
    ap (λ (n : ℕ). list_any (λ c. leb n c) columns) moved

module _ (kinds : List CellKind) where
  abbrev found : ℕ → List Cell → List ℕ → CellFindings
  found column cells columns = cells_findings kinds columns column cells

  abbrev ValuesAre : ℕ → List Cell → Type 0
  ValuesAre column cells = (columns : List ℕ) → Rises column columns → beyond column cells columns ≡ false → (found column cells columns).is_missing ≡ false
      → values_from column cells columns ≡ Some (found column cells columns).values

  -- the cell of no column that is named
  values_skip : (column : ℕ) (cell : Cell) (cells : List Cell) → ValuesAre (column + 1) cells → (columns : List ℕ) → Rises (column + 1) columns → beyond column (cell ∷ cells) columns ≡ false
      → (found column (cell ∷ cells) columns).is_missing ≡ false → values_from column (cell ∷ cells) columns ≡ Some (found column (cell ∷ cells) columns).values
  values_skip column cell cells others_are columns rises few whole =
      let others : CellFindings = found (column + 1) cells columns in
      let fits : Bool = fits_kind kinds column cell in
      let skipped : found column (cell ∷ cells) columns ≡ and_cells_of false fits cell others = ap (λ (b : Bool). and_cells_of b fits cell others) (not_among column columns rises) in
      let same : ReadAlike others (and_cells_of false fits cell others) = unnamed fits cell others in
      values_after column cell cells columns rises
      ∙ others_are columns rises (sym (beyond_moved column cell cells columns) ∙ few)
      (sym (ap (λ (f : CellFindings). f.is_missing) skipped ∙ same.0) ∙ whole)
      ∙ ap (λ (values : List Value). Some values) (sym (ap (λ (f : CellFindings). f.values) skipped ∙ same.1))

  -- the cell of the first column that is named
  values_take : (column : ℕ) (cell : Cell) (cells : List Cell) → ValuesAre (column + 1) cells → (c : ℕ) (columns : List ℕ) → c ≡ column → Rises (c + 1) columns → beyond column (cell ∷ cells) columns ≡ false
      → (found column (cell ∷ cells) (c ∷ columns)).is_missing ≡ false
      → values_from column (cell ∷ cells) (c ∷ columns) ≡ Some (found column (cell ∷ cells) (c ∷ columns)).values
  unfolding values_from
  values_take column (Hidden d) cells others_are c columns same rises few whole =
      absurd (false≢true (sym (or_parts (has_column (c ∷ columns) column) (found (column + 1) cells (c ∷ columns)).is_missing whole).0 ∙ ap (λ (b : Bool). b || has_column columns column) (eq-eqb c column same)))
  values_take column (Shown v) cells others_are c columns same rises few whole =
      let next : Rises (column + 1) columns = subst (λ (n : ℕ). Rises (n + 1) columns) same rises in
      let here : c - column ≡ 0 = omega (arith, same) in
      let named : has_column (c ∷ columns) column ≡ true = ap (λ (b : Bool). b || has_column columns column) (eq-eqb c column same) in
      let dropped : found (column + 1) cells (c ∷ columns) ≡ found (column + 1) cells columns = without_column kinds c columns (column + 1) cells (omega (arith, same)) in
      ap (λ (i : ℕ). put_before (shown_value (slice_get (Shown v ∷ cells) i)) (values_from column (Shown v ∷ cells) columns)) here
      ∙ ap (put_before (Some v)) (values_after column (Shown v) cells columns next
      ∙ others_are columns next (sym (beyond_moved column (Shown v) cells columns) ∙ few) (sym (ap (λ (f : CellFindings). f.is_missing) dropped) ∙ whole))
      ∙ ap (λ (f : CellFindings). Some (v ∷ f.values)) (sym dropped)
      ∙ ap (λ (b : Bool). Some ((cell_findings b (fits_kind kinds column (Shown v)) (Shown v)).values ++ (found (column + 1) cells (c ∷ columns)).values)) (sym named)

  values_are : (column : ℕ) (cells : List Cell) → ValuesAre column cells
  unfolding values_from
  values_are column [] [] rises few whole = refl
  values_are column [] (c ∷ columns) rises few whole =
      absurd (false≢true (sym (or_parts (leb (column + 0) c) (beyond column [] columns) few).0 ∙ le-leb (column + 0) c (omega (arith, rises.0))))
  values_are column (cell ∷ cells) [] rises few whole = values_skip column cell cells (values_are (column + 1) cells) [] tt refl whole
  values_are column (cell ∷ cells) (c ∷ columns) rises few whole =
      elim (cases_eq c column) [
        | inl same ↦ values_take column cell cells (values_are (column + 1) cells) c columns same rises.1 (or_parts (leb (column + suc (length cells)) c) (beyond column (cell ∷ cells) columns) few).1 whole
        | inr other ↦ values_skip column cell cells (values_are (column + 1) cells) (c ∷ columns) (omega (arith, rises.0, other), rises.1) few whole
      ]

  row_values : (named : List ℕ) (row : RowPart) → Rises 0 named → (row_findings kinds named row).is_missing ≡ false → values_in row named ≡ Some (row_findings kinds named row).values
  row_values [] (Closed d) rises whole = refl
  row_values (c ∷ named) (Closed d) rises whole = absurd cc
  row_values named (Cells cells) rises whole =
      let parts = or_parts (list_any (λ c. leb (length cells) c) named) (cells_findings kinds named 0 cells).is_missing whole in
      let zero_more : 0 + length cells ≡ length cells = omega arith in
      values_whole cells named
      ∙ values_are 0 cells named rises (ap (λ (n : ℕ). list_any (λ c. leb n c) named) zero_more ∙ parts.0) parts.1

-- Entries and trees.

module _ (target : Target) (rises : Rises 0 target.columns) where
  abbrev entry_by : Bool → PartEntry → Findings
  entry_by inside e =
      let f : CellFindings = row_findings target.cell_kinds (cond inside target.columns []) e.row in
      record { is_missing = f.is_missing; has_surplus = f.has_surplus; has_shape = is_key_of target.key_kind e.key && f.has_shape; rows = cond inside (record { key = e.key; values = f.values } ∷ []) [] }

  seen_entry : (inside : Bool) (e : PartEntry) (others : Option (List SeenRow)) (rows : List SeenRow) → (entry_by inside e).is_missing ≡ false → others ≡ Some rows
      → cond inside (put_before (with_key e.key (values_in e.row target.columns)) others) others ≡ Some ((entry_by inside e).rows ++ rows)
  seen_entry true e others rows whole is =
      ap (λ (values : Option (List Value)). put_before (with_key e.key values) others) (row_values target.cell_kinds target.columns e.row rises whole)
      ∙ ap (put_before (Some (record { key = e.key; values = (row_findings target.cell_kinds target.columns e.row).values }))) is
  seen_entry false e others rows whole is = is

  entries_seen : (es : List PartEntry) → (entries_findings target es).is_missing ≡ false → seen_entries (need_of target) es ≡ Some (entries_findings target es).rows
  entries_seen [] whole = refl
  entries_seen (e ∷ es) whole =
      let parts = or_parts (entry_findings target e).is_missing (entries_findings target es).is_missing whole in
      seen_entry (in_interval target.interval e.key) e (seen_entries (need_of target) es) (entries_findings target es).rows parts.0 (entries_seen es parts.1)

  -- a node that the scan doesn't visit is a stub, where there is no surplus
  not_visited : (p : RowTree) → (tree_findings target false p).has_surplus ≡ false → (tree_findings target false p).rows ≡ []
  not_visited (stub d) exact = refl
  not_visited (leaf es) exact = absurd cc
  not_visited (inner ss ps) exact = absurd cc

  seen_child : (visited : Bool) (p : RowTree) (child others : Option (List SeenRow)) (rows : List SeenRow) → (visited ≡ true → child ≡ Some (tree_findings target true p).rows)
      → (tree_findings target visited p).has_surplus ≡ false → others ≡ Some rows → cond visited (append_both child others) others ≡ Some ((tree_findings target visited p).rows ++ rows)
  seen_child true p child others rows is exact are = ap (λ (c : Option (List SeenRow)). append_both c others) (is refl) ∙ ap (append_both (Some (tree_findings target true p).rows)) are
  seen_child false p child others rows is exact are = are ∙ ap (λ (first : List SeenRow). Some (first ++ rows)) (sym (not_visited p exact))

  mutual
    tree_seen : (p : RowTree) → FitsPart p → (tree_findings target true p).is_missing ≡ false → (tree_findings target true p).has_surplus ≡ false → seen_in (need_of target) p ≡ Some (tree_findings target true p).rows
    tree_seen (stub d) fits whole exact = absurd cc
    tree_seen (leaf es) fits whole exact = entries_seen es whole
    tree_seen (inner ss ps) fits whole exact = children_seen None ss ps (omega (arith, fits.2)) fits.4 whole exact

    children_seen : (lower : Option (List ℕ)) (ss : List (List ℕ)) (ps : RowTrees) → count ps ≤ length ss + 1 → FitsEach FitsEntry ps
        → (children_findings target (child_visits target true lower ss) ps).is_missing ≡ false → (children_findings target (child_visits target true lower ss) ps).has_surplus ≡ false
        → seen_in_each (need_of target) lower ss ps ≡ Some (children_findings target (child_visits target true lower ss) ps).rows
    children_seen lower ss none few fits whole exact = refl
    children_seen lower [] (more m p none) few fits whole exact =
        let v : Bool = visits target.interval lower None in
        let parts = or_parts (tree_findings target v p).is_missing false whole in
        let surplus = or_parts (tree_findings target v p).has_surplus false exact in
        seen_child v p (seen_in (need_of target) p) (Some []) []
        (λ e. tree_seen p fits.0 (sym (ap (λ (b : Bool). (tree_findings target b p).is_missing) e) ∙ parts.0) (sym (ap (λ (b : Bool). (tree_findings target b p).has_surplus) e) ∙ surplus.0))
        surplus.0 refl
    children_seen lower [] (more m p (more n q qs)) few fits whole exact = absurd (omega (arith, few))
    children_seen lower (s ∷ ss) (more m p ps) few fits whole exact =
        let v : Bool = visits target.interval lower (Some s) in
        let others : Findings = children_findings target (child_visits target true (Some s) ss) ps in
        let parts = or_parts (tree_findings target v p).is_missing others.is_missing whole in
        let surplus = or_parts (tree_findings target v p).has_surplus others.has_surplus exact in
        seen_child v p (seen_in (need_of target) p) (seen_in_each (need_of target) (Some s) ss ps) others.rows
        (λ e. tree_seen p fits.0 (sym (ap (λ (b : Bool). (tree_findings target b p).is_missing) e) ∙ parts.0) (sym (ap (λ (b : Bool). (tree_findings target b p).has_surplus) e) ∙ surplus.0))
        surplus.0 (children_seen (Some s) ss ps (omega (arith, few)) fits.1 parts.1 surplus.1)

  seen_by : (is_empty : Bool) (p : RowTree) → FitsPart p → (tree_findings target (not is_empty) p).is_missing ≡ false → (tree_findings target (not is_empty) p).has_surplus ≡ false
      → cond is_empty (Some []) (seen_in (need_of target) p) ≡ Some (tree_findings target (not is_empty) p).rows
  seen_by true p fits whole exact = ap (λ (rows : List SeenRow). Some rows) (sym (not_visited p exact))
  seen_by false p fits whole exact = tree_seen p fits whole exact

  pub seen_is : (p : RowTree) → FitsPart p → (tree_findings target (not (is_empty_interval target.interval)) p).is_missing ≡ false → (tree_findings target (not (is_empty_interval target.interval)) p).has_surplus ≡ false
      → seen (need_of target) p ≡ Some (tree_findings target (not (is_empty_interval target.interval)) p).rows
  seen_is p fits whole exact = seen_by (is_empty_interval target.interval) p fits whole exact
