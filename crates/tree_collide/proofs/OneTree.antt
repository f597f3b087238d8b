-- Two parts that are alike are parts of one tree, of which only one is the proof for some needs.
use Rattle.std.proofs.Common.{◌≡◌, ℕ, ◌+◌, false, List, [], ◌∷◌, refl, sym, ◌∙◌, subst}
use Rattle.std.specs.List.{AllZip}
use Rattle.vo_spec.specs.declared.needs.Need.{Need}
use Rattle.vo_spec.specs.declared.cells.Cell.{Cell}
use Rattle.vo_spec.specs.declared.cells.Cell.TheVariants.{Shown, Hidden}
use Rattle.vo_spec.specs.declared.cells.RowPart.{RowPart}
use Rattle.vo_spec.specs.declared.cells.RowPart.TheVariants.{Digest as Closed, Cells}
use Rattle.vo_spec.specs.declared.cells.PartEntry.{PartEntry}
use Rattle.vo_spec.specs.Cells.{CellPrunes, CellsPrune, RowPrunes, EntryPrunes}
use Rattle.vo_spec.specs.Parts.{stub, leaf, inner, none, more, PrunesEach}
use Rattle.vo_spec.specs.Trees.{RowTree, RowTrees, row_family, digest, Prunes}
use Rattle.vo_spec.specs.Pruning.{IsCanonical}
use Rattle.vo_laws.proofs.OneProof.{only_canonical}
use Rattle.tree_collide.specs.Agreements.{is_open}
use Rattle.tree_collide.specs.Alike.{CellAlike, CellsAlike, RowAlike, EntryAlike, AreAlike, EachAlike}

-- Each is alike to itself, and prunes itself.

cell_itself : (n : ℕ) (c : Cell) → CellAlike n c c × CellPrunes n c c
cell_itself n (Hidden d) = (refl, refl)
cell_itself n (Shown v) = (refl, refl)

cells_itself : (n : ℕ) (cs : List Cell) → CellsAlike n cs cs × CellsPrune n cs cs
cells_itself n [] = (tt, tt)
cells_itself n (c ∷ cs) =
    let first = cell_itself n c in
    let rest = cells_itself (n + 1) cs in ((first.0, rest.0), (first.1, rest.1))

row_itself : (r : RowPart) → RowAlike r r × RowPrunes r r
row_itself (Closed d) = (refl, refl)
row_itself (Cells cs) = cells_itself 0 cs

entries_itself : (es : List PartEntry) → AllZip EntryAlike es es × AllZip EntryPrunes es es
entries_itself [] = (tt, tt)
entries_itself (e ∷ es) =
    let first = row_itself e.row in
    let rest = entries_itself es in
    ((record { key = refl; row = first.0 }, rest.0), (record { key = refl; row = first.1 }, rest.1))

mutual
  itself : (t : RowTree) → AreAlike t t × Prunes t t
  itself (stub d) = (refl, refl)
  itself (leaf es) = entries_itself es
  itself (inner ss ps) = let each = each_itself ps in ((refl, each.0), (refl, each.1))

  each_itself : (ps : RowTrees) → EachAlike ps ps × PrunesEach row_family EntryPrunes ps ps
  each_itself none = (tt, tt)
  each_itself (more m p ps) =
      let first = itself p in
      let rest = each_itself ps in ((first.0, rest.0), (refl, first.1, rest.1))

pub row_alike_itself : (r s : RowPart) → r ≡ s → RowAlike r s
row_alike_itself r s e = let P : RowPart → Type 0 = λ t. RowAlike r t in subst P e (row_itself r).0

pub alike_itself : (p q : RowTree) → p ≡ q → AreAlike p q
alike_itself p q e = let P : RowTree → Type 0 = λ t. AreAlike p t in subst P e (itself p).0

-- Two that are alike prune one.

one_cell : (n : ℕ) (c d : Cell) → CellAlike n c d → (e : Cell) × CellPrunes n c e × CellPrunes n d e
one_cell n (Hidden d) (Hidden e) a = (Hidden d, refl, sym a)
one_cell n (Hidden d) (Shown w) a = (Shown w, a, refl)
one_cell n (Shown v) (Hidden e) a = (Shown v, refl, sym a)
one_cell n (Shown v) (Shown w) a = (Shown w, a, refl)

pub one_cells : (n : ℕ) (cs ds : List Cell) → CellsAlike n cs ds → (es : List Cell) × CellsPrune n cs es × CellsPrune n ds es
one_cells n [] [] a = ([], tt, tt)
one_cells n [] (d ∷ ds) a = absurd a
one_cells n (c ∷ cs) [] a = absurd a
one_cells n (c ∷ cs) (d ∷ ds) a =
    let first = one_cell n c d a.0 in
    let rest = one_cells (n + 1) cs ds a.1 in (first.0 ∷ rest.0, (first.1, rest.1), (first.2, rest.2))

one_row : (r s : RowPart) → RowAlike r s → (t : RowPart) × RowPrunes r t × RowPrunes s t
one_row (Closed d) (Closed e) a = (Closed e, a, refl)
one_row (Closed d) (Cells ds) a = (Cells ds, a, (row_itself (Cells ds)).1)
one_row (Cells cs) (Closed e) a = (Cells cs, (row_itself (Cells cs)).1, sym a)
one_row (Cells cs) (Cells ds) a = let cells = one_cells 0 cs ds a in (Cells cells.0, cells.1, cells.2)

one_entries : (es fs : List PartEntry) → AllZip EntryAlike es fs → (gs : List PartEntry) × AllZip EntryPrunes es gs × AllZip EntryPrunes fs gs
one_entries [] [] a = ([], tt, tt)
one_entries [] (f ∷ fs) a = absurd a
one_entries (e ∷ es) [] a = absurd a
one_entries (e ∷ es) (f ∷ fs) a =
    let row = one_row e.row f.row a.0.row in
    let rest = one_entries es fs a.1 in
    let entry : PartEntry = record { key = f.key; row = row.0 } in
    (entry ∷ rest.0, (record { key = a.0.key; row = row.1 }, rest.1), (record { key = refl; row = row.2 }, rest.2))

mutual
  pub one_tree : (p q : RowTree) → AreAlike p q → (t : RowTree) × Prunes p t × Prunes q t
  one_tree (stub d) (stub e) a = (stub e, a, refl)
  one_tree (stub d) (leaf fs) a = (leaf fs, a, (itself (leaf fs)).1)
  one_tree (stub d) (inner ts qs) a = (inner ts qs, a, (itself (inner ts qs)).1)
  one_tree (leaf es) (stub e) a = (leaf es, (itself (leaf es)).1, sym a)
  one_tree (leaf es) (leaf fs) a = let entries = one_entries es fs a in (leaf entries.0, entries.1, entries.2)
  one_tree (leaf es) (inner ts qs) a = absurd a
  one_tree (inner ss ps) (stub e) a = (inner ss ps, (itself (inner ss ps)).1, sym a)
  one_tree (inner ss ps) (leaf fs) a = absurd a
  one_tree (inner ss ps) (inner ts qs) a =
      let each = one_trees ps qs a.1 in (inner ts each.0, (a.0, each.1), (refl, each.2))

  one_trees : (ps qs : RowTrees) → EachAlike ps qs → (ts : RowTrees) × PrunesEach row_family EntryPrunes ps ts × PrunesEach row_family EntryPrunes qs ts
  one_trees none none a = (none, tt, tt)
  one_trees none (more n q qs) a = absurd a
  one_trees (more m p ps) none a = absurd a
  one_trees (more m p ps) (more n q qs) a =
      let first = one_tree p q a.0 in
      let rest = one_trees ps qs a.1 in
      (more tt first.0 rest.0, (refl, first.1, rest.1), (refl, first.2, rest.2))

-- Two proofs for the same needs that are alike are the same.
pub same_proof : (needs : List Need) (p q : RowTree) → AreAlike p q → IsCanonical needs p → IsCanonical needs q → p ≡ q
same_proof needs p q a c d =
    let one = one_tree p q a in only_canonical needs p one.0 one.1 c ∙ sym (only_canonical needs q one.0 one.2 d)

-- Where one is closed, two of one digest are alike.

pub closed_first : (p q : RowTree) → is_open p ≡ false → digest p ≡ digest q → AreAlike p q
closed_first (stub d) (stub e) o same = same
closed_first (stub d) (leaf fs) o same = same
closed_first (stub d) (inner ts qs) o same = same
closed_first (leaf es) q o same = absurd (cc)
closed_first (inner ss ps) q o same = absurd (cc)

pub closed_second : (p q : RowTree) → is_open q ≡ false → digest p ≡ digest q → AreAlike p q
closed_second (stub d) (stub e) o same = same
closed_second (leaf es) (stub e) o same = same
closed_second (inner ss ps) (stub e) o same = same
closed_second p (leaf fs) o same = absurd (cc)
closed_second p (inner ts qs) o same = absurd (cc)
