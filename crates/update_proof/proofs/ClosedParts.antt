-- What prunes a tree and has nothing open is its digests.
use Rattle.std.proofs.Common.{◌≡◌, ℕ, ◌+◌, Bool, true, false, ◌||◌, List, [], ◌∷◌, map, refl, ap}
use Rattle.std.specs.List.{AllZip, list_any}
use Rattle.vo_spec.specs.declared.cells.Cell.{Cell}
use Rattle.vo_spec.specs.declared.cells.Cell.TheVariants.{Shown, Hidden}
use Rattle.vo_spec.specs.declared.cells.RowPart.{RowPart}
use Rattle.vo_spec.specs.declared.cells.RowPart.TheVariants.{Digest as Closed, Cells}
use Rattle.vo_spec.specs.declared.cells.PartEntry.{PartEntry}
use Rattle.vo_spec.specs.Cells.{CellsPrune, RowPrunes, EntryPrunes}
use Rattle.vo_spec.specs.Parts.{stub, leaf, inner, none, more, PrunesEach}
use Rattle.vo_spec.specs.Trees.{RowTree, RowTrees, row_family, digest, Prunes}
use Rattle.vo_spec.specs.Inserts.{stands_as_cells, closed_entry}
use Rattle.vo_spec.specs.Removes.{hidden_cells, hidden_row, closed_parts}
use Rattle.update_proof.specs.OpenParts.{is_open, any_open, shows_cells, is_shown, shows_any}

abbrev pub Zip : List PartEntry → List PartEntry → Type 0
Zip = AllZip EntryPrunes

abbrev pub Each : RowTrees → RowTrees → Type 0
Each = PrunesEach row_family EntryPrunes

pub record Neither (a b : Bool) : Type 0 where
  pub first : a ≡ false
  pub second : b ≡ false

pub neither : (a b : Bool) → a || b ≡ false → Neither a b
neither true b h = absurd (cc)
neither false b h = record { first = refl; second = h }

-- entries

row_closed : (j k : List ℕ) (r s : RowPart) → j ≡ k → RowPrunes r s → stands_as_cells r ≡ false → record { key = j; row = r } ≡ closed_entry (record { key = k; row = s })
row_closed j k (Closed d) s same z h = rw (same, z) refl
row_closed j k (Cells cs) s same z h = absurd (cc)

pub entry_closed : (e f : PartEntry) → EntryPrunes e f → shows_cells e ≡ false → e ≡ closed_entry f
entry_closed e f z h = row_closed e.key f.key e.row f.row z.key z.row h

pub entries_closed : (es fs : List PartEntry) → Zip es fs → list_any shows_cells es ≡ false → es ≡ map closed_entry fs
entries_closed [] [] z h = refl
entries_closed [] (f ∷ fs) z h = absurd z
entries_closed (e ∷ es) [] z h = absurd z
entries_closed (e ∷ es) (f ∷ fs) z h =
    let n = neither (shows_cells e) (list_any shows_cells es) h in
    rw (entry_closed e f z.0 n.first, entries_closed es fs z.1 n.second) refl

-- and one with its cells hidden

cells_hidden : (column : ℕ) (cs ds : List Cell) → CellsPrune column cs ds → list_any is_shown cs ≡ false → cs ≡ hidden_cells column ds
cells_hidden column [] [] z h = refl
cells_hidden column [] (d ∷ ds) z h = absurd z
cells_hidden column (c ∷ cs) [] z h = absurd z
cells_hidden column (Shown v ∷ cs) (d ∷ ds) z h = absurd (cc)
cells_hidden column (Hidden e ∷ cs) (d ∷ ds) z h = rw (z.0, cells_hidden (column + 1) cs ds z.1 h) refl

row_hidden : (j k : List ℕ) (r s : RowPart) → j ≡ k → RowPrunes r s → stands_as_cells r ≡ true → shows_any r ≡ false → ◌≡◌ {A = PartEntry} (record { key = j; row = r }) (record { key = k; row = hidden_row s })
row_hidden j k (Closed d) s same z as_cells h = absurd (cc)
row_hidden j k (Cells cs) (Closed d) same z as_cells h = absurd z
row_hidden j k (Cells cs) (Cells ds) same z as_cells h = rw (same, cells_hidden 0 cs ds z h) refl

pub entry_hidden : (e f : PartEntry) → EntryPrunes e f → shows_cells e ≡ true → shows_any e.row ≡ false → e ≡ record { key = f.key; row = hidden_row f.row }
entry_hidden e f z as_cells h = row_hidden e.key f.key e.row f.row z.key z.row as_cells h

-- trees

pub part_closed : (p t : RowTree) → Prunes p t → is_open p ≡ false → p ≡ stub (digest t)
part_closed (stub d) t z h = ap stub z
part_closed (leaf es) t z h = absurd (cc)
part_closed (inner ss ps) t z h = absurd (cc)

pub all_closed : (ps qs : RowTrees) → Each ps qs → any_open ps ≡ false → ps ≡ closed_parts qs
all_closed none none z h = refl
all_closed none (more m p ps) z h = absurd z
all_closed (more m p ps) none z h = absurd z
all_closed (more m p ps) (more n q qs) z h =
    let o = neither (is_open p) (any_open ps) h in
    rw (z.0, part_closed p q z.1 o.first, all_closed ps qs z.2 o.second) refl
