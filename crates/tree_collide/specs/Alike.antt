-- Two parts of trees of one digest that show the same wherever both are open. Where one of them is
-- closed, it has the digest of what the other has there.
use Rattle.std.specs.Prelude.{◌≡◌, ℕ, ◌+◌, List, [], ◌∷◌}
use Rattle.std.specs.List.{AllZip}
use Rattle.vo_spec.specs.declared.cells.Cell.{Cell}
use Rattle.vo_spec.specs.declared.cells.Cell.TheVariants.{Shown, Hidden}
use Rattle.vo_spec.specs.declared.cells.RowPart.{RowPart}
use Rattle.vo_spec.specs.declared.cells.RowPart.TheVariants.{Digest as Closed, Cells}
use Rattle.vo_spec.specs.declared.cells.PartEntry.{PartEntry}
use Rattle.vo_spec.specs.Cells.{cell_digest, row_digest}
use Rattle.vo_spec.specs.Parts.{stub, leaf, inner, none, more}
use Rattle.vo_spec.specs.Trees.{RowTree, RowTrees, digest}

abbrev pub CellAlike : ℕ → Cell → Cell → Type 0
CellAlike column (Hidden d) (Hidden e) = d ≡ e
CellAlike column (Hidden d) (Shown w) = d ≡ cell_digest column (Shown w)
CellAlike column (Shown v) (Hidden e) = cell_digest column (Shown v) ≡ e
CellAlike column (Shown v) (Shown w) = v ≡ w

-- the first cells being those of this column
abbrev pub CellsAlike : ℕ → List Cell → List Cell → Type 0
CellsAlike column [] [] = Unit {0}
CellsAlike column [] (d ∷ ds) = ⊥
CellsAlike column (c ∷ cs) [] = ⊥
CellsAlike column (c ∷ cs) (d ∷ ds) = CellAlike column c d × CellsAlike (column + 1) cs ds

abbrev pub RowAlike : RowPart → RowPart → Type 0
RowAlike (Closed d) (Closed e) = d ≡ e
RowAlike (Closed d) (Cells ds) = d ≡ row_digest (Cells ds)
RowAlike (Cells cs) (Closed e) = row_digest (Cells cs) ≡ e
RowAlike (Cells cs) (Cells ds) = CellsAlike 0 cs ds

pub record EntryAlike (e f : PartEntry) : Type 0 where
  pub key : e.key ≡ f.key
  pub row : RowAlike e.row f.row

abbrev mutual
  pub AreAlike : RowTree → RowTree → Type 0
  AreAlike (stub d) (stub e) = d ≡ e
  AreAlike (stub d) (leaf fs) = d ≡ digest (leaf fs)
  AreAlike (stub d) (inner ts qs) = d ≡ digest (inner ts qs)
  AreAlike (leaf es) (stub e) = digest (leaf es) ≡ e
  AreAlike (leaf es) (leaf fs) = AllZip EntryAlike es fs
  AreAlike (leaf es) (inner ts qs) = ⊥
  AreAlike (inner ss ps) (stub e) = digest (inner ss ps) ≡ e
  AreAlike (inner ss ps) (leaf fs) = ⊥
  AreAlike (inner ss ps) (inner ts qs) = (ss ≡ ts) × EachAlike ps qs

  pub EachAlike : RowTrees → RowTrees → Type 0
  EachAlike none none = Unit {0}
  EachAlike none (more n q qs) = ⊥
  EachAlike (more m p ps) none = ⊥
  EachAlike (more m p ps) (more n q qs) = AreAlike p q × EachAlike ps qs
