-- One cell, entry or child further.
use Rattle.std.proofs.Common.{◌≡◌, ℕ, zero, suc, ◌+◌, ◌<◌, true, false, Option, Some, None, is_some, List, [], ◌∷◌, length, map, get_or, drop, refl, sym, ap, ◌∙◌, subst, inl, inr, arith, All}
use Rattle.std.proofs.lemmas.List.{drop_more, length-map}
use Rattle.std.specs.List.{AllZip}
use Rattle.vo_spec.specs.declared.values.Value.{Value}
use Rattle.vo_spec.specs.declared.values.Row.{Row}
use Rattle.vo_spec.specs.declared.cells.PartEntry.{PartEntry}
use Rattle.vo_spec.specs.declared.cells.Cell.{Cell}
use Rattle.vo_spec.specs.declared.cells.Cell.TheVariants.{Shown}
use Rattle.vo_spec.specs.Values.{FitsValue}
use Rattle.vo_spec.specs.Cells.{cell_digest, row_digest, whole_cells, whole_row, whole_entry, CellPrunes, CellsPrune, RowPrunes, EntryPrunes}
use Rattle.vo_spec.specs.Fits.{FitsCell, FitsCells}
use Rattle.tree_collide.specs.Agreements.{SameCells, SameEntries, HoldsOrCollides}
use Rattle.tree_collide.specs.Preimages.{OfStrings, AttributesOf, AttributesIn, RowsOf, RowsIn}

pub whole_fit : (vs : List Value) → FitsCells vs → All FitsCell (whole_cells vs)
whole_fit vs f = each vs f.each where
  each : (ws : List Value) → All FitsValue ws → All FitsCell (whole_cells ws)
  each [] g k d h = absurd (omega arith)
  each (w ∷ ws) g zero d h = g 0 w (omega arith)
  each (w ∷ ws) g (suc k) d h = each ws (λ j e l. g (suc j) e (omega arith)) k d (omega arith)

pub same_lengths : (n : ℕ) (cs ds : List Cell) → SameCells n cs ds → length cs ≡ length ds
same_lengths n [] [] s = refl
same_lengths n [] (d ∷ ds) s = absurd s
same_lengths n (c ∷ cs) [] s = absurd s
same_lengths n (c ∷ cs) (d ∷ ds) s = ap (λ k. suc k) (same_lengths (n + 1) cs ds s.1)

pub same_count : (cs : List Cell) (vs : List Value) → SameCells 0 cs (whole_cells vs) → length cs ≡ length vs
same_count cs vs s = same_lengths 0 cs (whole_cells vs) s ∙ length-map vs Shown

-- What is left to compare, for the fact about all.
pub record CellsLeft (n : ℕ) (cs ds : List Cell) (all : Type 0) (Are : OfStrings) : Type 0 where
  pub same : SameCells n cs ds
  pub gives : CellsPrune n cs ds → all
  pub needs : all → CellsPrune n cs ds
  pub strings : (x y : List ℕ) → AttributesIn n cs ds x y → Are x y

pub cells_first : (cs : List Cell) (vs : List Value) → SameCells 0 cs (whole_cells vs) → CellsLeft 0 cs (whole_cells vs) (CellsPrune 0 cs (whole_cells vs)) (AttributesIn 0 cs (whole_cells vs))
cells_first cs vs s = record { same = s; gives = λ p. p; needs = λ p. p; strings = λ x y h. h }

module _ (i : ℕ) (cs : List Cell) (vs : List Value) (c : Cell) (v : Value) (all : Type 0) (Are : OfStrings) where
  opened : i < length cs → c ≡ get_or cs i c → i < length vs → v ≡ get_or vs i v → CellsLeft i (drop i cs) (whole_cells (drop i vs)) all Are
      → CellsLeft i (c ∷ drop (i + 1) cs) (Shown v ∷ whole_cells (drop (i + 1) vs)) all Are
  opened lc c_is lv v_is l =
      let e : drop i cs ≡ c ∷ drop (i + 1) cs = drop_more cs i c lc ∙ ap (λ x. x ∷ drop (i + 1) cs) (sym c_is) in
      let f : drop i vs ≡ v ∷ drop (i + 1) vs = drop_more vs i v lv ∙ ap (λ x. x ∷ drop (i + 1) vs) (sym v_is) in
      let P : List Cell → Type 0 = λ xs. CellsLeft i xs (whole_cells (drop i vs)) all Are in
      let Q : List Value → Type 0 = λ ws. CellsLeft i (c ∷ drop (i + 1) cs) (whole_cells ws) all Are in
      subst Q f (subst P e l)

  pub cell_here : i < length cs → c ≡ get_or cs i c → i < length vs → v ≡ get_or vs i v → CellsLeft i (drop i cs) (whole_cells (drop i vs)) all Are → cell_digest i c ≡ cell_digest i (Shown v)
  cell_here lc c_is lv v_is l = (opened lc c_is lv v_is l).same.0

  pub cell_agrees : i < length cs → c ≡ get_or cs i c → i < length vs → v ≡ get_or vs i v → CellsLeft i (drop i cs) (whole_cells (drop i vs)) all Are → CellPrunes i c (Shown v)
      → CellsLeft (i + 1) (drop (i + 1) cs) (whole_cells (drop (i + 1) vs)) all Are
  cell_agrees lc c_is lv v_is l p =
      let o = opened lc c_is lv v_is l in
      record { same = o.same.1; gives = λ r. o.gives (p, r); needs = λ a. (o.needs a).1; strings = λ x y h. o.strings x y (inr h) }

  pub cell_differs : i < length cs → c ≡ get_or cs i c → i < length vs → v ≡ get_or vs i v → CellsLeft i (drop i cs) (whole_cells (drop i vs)) all Are → (CellPrunes i c (Shown v) → ⊥) → all → ⊥
  cell_differs lc c_is lv v_is l not a = not (((opened lc c_is lv v_is l).needs a).0)

  pub cell_strings : i < length cs → c ≡ get_or cs i c → i < length vs → v ≡ get_or vs i v → CellsLeft i (drop i cs) (whole_cells (drop i vs)) all Are → (x y : List ℕ)
      → AttributesOf i c (Shown v) x y → Are x y
  cell_strings lc c_is lv v_is l x y h = (opened lc c_is lv v_is l).strings x y (inl h)

-- what agrees on a fact agrees on one that means the same
pub agrees_by : (found : Option (List ℕ × List ℕ)) (fact other : Type 0) (Are Be : OfStrings) → (fact → other) → (other → fact) → ((x y : List ℕ) → Are x y → Be x y)
    → HoldsOrCollides found fact Are → HoldsOrCollides found other Be
agrees_by None fact other Are Be f g s h = f h
agrees_by (Some x) fact other Are Be f g s h = (λ o. h.0 (g o), h.1, s x.0 x.1 h.2)

-- The same of entries.
pub record EntriesLeft (es fs : List PartEntry) (all : Type 0) (Are : OfStrings) : Type 0 where
  pub same : SameEntries es fs
  pub gives : AllZip EntryPrunes es fs → all
  pub needs : all → AllZip EntryPrunes es fs
  pub strings : (x y : List ℕ) → RowsIn es fs x y → Are x y

module _ (i : ℕ) (es : List PartEntry) (rows : List Row) (e : PartEntry) (row : Row) (all : Type 0) (Are : OfStrings) where
  entry_opened : i < length es → e ≡ get_or es i e → i < length rows → row ≡ get_or rows i row → EntriesLeft (drop i es) (map whole_entry (drop i rows)) all Are
      → EntriesLeft (e ∷ drop (i + 1) es) (whole_entry row ∷ map whole_entry (drop (i + 1) rows)) all Are
  entry_opened le e_is lr row_is l =
      let f : drop i es ≡ e ∷ drop (i + 1) es = drop_more es i e le ∙ ap (λ x. x ∷ drop (i + 1) es) (sym e_is) in
      let g : drop i rows ≡ row ∷ drop (i + 1) rows = drop_more rows i row lr ∙ ap (λ x. x ∷ drop (i + 1) rows) (sym row_is) in
      let P : List PartEntry → Type 0 = λ xs. EntriesLeft xs (map whole_entry (drop i rows)) all Are in
      let Q : List Row → Type 0 = λ ws. EntriesLeft (e ∷ drop (i + 1) es) (map whole_entry ws) all Are in
      subst Q g (subst P f l)

  pub entry_here : i < length es → e ≡ get_or es i e → i < length rows → row ≡ get_or rows i row → EntriesLeft (drop i es) (map whole_entry (drop i rows)) all Are
      → (e.key ≡ row.key) × (row_digest e.row ≡ row_digest (whole_row row.cells))
  entry_here le e_is lr row_is l = let s = (entry_opened le e_is lr row_is l).same in (s.0, s.1)

  pub entry_agrees : i < length es → e ≡ get_or es i e → i < length rows → row ≡ get_or rows i row → EntriesLeft (drop i es) (map whole_entry (drop i rows)) all Are
      → RowPrunes e.row (whole_row row.cells) → EntriesLeft (drop (i + 1) es) (map whole_entry (drop (i + 1) rows)) all Are
  entry_agrees le e_is lr row_is l p =
      let o = entry_opened le e_is lr row_is l in
      record { same = o.same.2; gives = λ r. o.gives (record { key = o.same.0; row = p }, r); needs = λ a. (o.needs a).1; strings = λ x y h. o.strings x y (inr h) }

  pub entry_differs : i < length es → e ≡ get_or es i e → i < length rows → row ≡ get_or rows i row → EntriesLeft (drop i es) (map whole_entry (drop i rows)) all Are
      → (RowPrunes e.row (whole_row row.cells) → ⊥) → all → ⊥
  entry_differs le e_is lr row_is l not a = not (((entry_opened le e_is lr row_is l).needs a).0.row)

  pub entry_strings : i < length es → e ≡ get_or es i e → i < length rows → row ≡ get_or rows i row → EntriesLeft (drop i es) (map whole_entry (drop i rows)) all Are → (x y : List ℕ)
      → RowsOf e.row (whole_row row.cells) x y → Are x y
  entry_strings le e_is lr row_is l x y h = (entry_opened le e_is lr row_is l).strings x y (inl h)

  -- what is found of an entry is found of all
  pub entry_found : i < length es → e ≡ get_or es i e → i < length rows → row ≡ get_or rows i row → EntriesLeft (drop i es) (map whole_entry (drop i rows)) all Are → (found : Option (List ℕ × List ℕ))
      → is_some found ≡ true → HoldsOrCollides found (RowPrunes e.row (whole_row row.cells)) (RowsOf e.row (whole_row row.cells)) → HoldsOrCollides found all Are
  entry_found le e_is lr row_is l None some h = absurd (cc)
  entry_found le e_is lr row_is l (Some x) some h = (entry_differs le e_is lr row_is l h.0, h.1, entry_strings le e_is lr row_is l x.0 x.1 h.2)

  pub entry_passed : i < length es → e ≡ get_or es i e → i < length rows → row ≡ get_or rows i row → EntriesLeft (drop i es) (map whole_entry (drop i rows)) all Are → (found : Option (List ℕ × List ℕ))
      → is_some found ≡ false → HoldsOrCollides found (RowPrunes e.row (whole_row row.cells)) (RowsOf e.row (whole_row row.cells)) → EntriesLeft (drop (i + 1) es) (map whole_entry (drop (i + 1) rows)) all Are
  entry_passed le e_is lr row_is l None none h = entry_agrees le e_is lr row_is l h
  entry_passed le e_is lr row_is l (Some x) none h = absurd (cc)
