-- One key, cell, entry or child further: what is left decides for all.
use Rattle.std.proofs.Common.{◌≡◌, ℕ, ◌+◌, ◌<◌, List, ◌∷◌, length, map, get_or, drop, refl, sym, ap, ◌∙◌, subst}
use Rattle.std.proofs.lemmas.List.{drop_more}
use Rattle.std.specs.List.{AllZip}
use Rattle.vo_spec.specs.declared.values.Value.{Value}
use Rattle.vo_spec.specs.declared.values.Row.{Row}
use Rattle.vo_spec.specs.declared.cells.PartEntry.{PartEntry}
use Rattle.vo_spec.specs.declared.cells.Cell.{Cell}
use Rattle.vo_spec.specs.declared.cells.Cell.TheVariants.{Shown}
use Rattle.vo_spec.specs.Cells.{whole_cells, whole_entry, CellPrunes, CellsPrune, EntryPrunes}
use Rattle.vo_spec.specs.Parts.{PrunesEach}
use Rattle.vo_spec.specs.Trees.{RowTree, row_family, open_parts, Prunes}
use Rattle.mb_tree.specs.declared.parts.PartTree.{PartTree}
use Rattle.mb_tree.specs.View.{part_of, parts_of}

pub here : {X : Type 0} (xs : List X) (i : ℕ) (x : X) → i < length xs → x ≡ get_or xs i x → drop i xs ≡ x ∷ drop (i + 1) xs
here xs i x lt is = drop_more xs i x lt ∙ ap (λ y. y ∷ drop (i + 1) xs) (sym is)

pub child_pruned : (i : ℕ) (ps : List PartTree) (ts : List RowTree) (p : PartTree) (t : RowTree) (all : Type 0)
    → i < length ps → p ≡ get_or ps i p → i < length ts → t ≡ get_or ts i t
    → (PrunesEach row_family EntryPrunes (parts_of (drop i ps)) (open_parts (drop i ts)) → all)
    → Prunes (part_of p) t → PrunesEach row_family EntryPrunes (parts_of (drop (i + 1) ps)) (open_parts (drop (i + 1) ts)) → all
child_pruned i ps ts p t all lp p_is lt t_is gives h rest =
    let P : List PartTree → Type 0 = λ xs. PrunesEach row_family EntryPrunes (parts_of xs) (open_parts (t ∷ drop (i + 1) ts)) in
    let Q : List RowTree → Type 0 = λ xs. PrunesEach row_family EntryPrunes (parts_of (drop i ps)) (open_parts xs) in
    gives (subst Q (sym (here ts i t lt t_is)) (subst P (sym (here ps i p lp p_is)) (refl, h, rest)))

pub entry_pruned : (i : ℕ) (es : List PartEntry) (rows : List Row) (e : PartEntry) (row : Row) (all : Type 0)
    → i < length es → e ≡ get_or es i e → i < length rows → row ≡ get_or rows i row
    → (AllZip EntryPrunes (drop i es) (map whole_entry (drop i rows)) → all)
    → EntryPrunes e (whole_entry row) → AllZip EntryPrunes (drop (i + 1) es) (map whole_entry (drop (i + 1) rows)) → all
entry_pruned i es rows e row all le e_is lr row_is gives h rest =
    let P : List PartEntry → Type 0 = λ xs. AllZip EntryPrunes xs (map whole_entry (row ∷ drop (i + 1) rows)) in
    let Q : List Row → Type 0 = λ xs. AllZip EntryPrunes (drop i es) (map whole_entry xs) in
    gives (subst Q (sym (here rows i row lr row_is)) (subst P (sym (here es i e le e_is)) (h, rest)))

pub cell_pruned : (i : ℕ) (cs : List Cell) (vs : List Value) (c : Cell) (v : Value) (all : Type 0)
    → i < length cs → c ≡ get_or cs i c → i < length vs → v ≡ get_or vs i v
    → (CellsPrune i (drop i cs) (whole_cells (drop i vs)) → all)
    → CellPrunes i c (Shown v) → CellsPrune (i + 1) (drop (i + 1) cs) (whole_cells (drop (i + 1) vs)) → all
cell_pruned i cs vs c v all lc c_is lv v_is gives h rest =
    let P : List Cell → Type 0 = λ xs. CellsPrune i xs (whole_cells (v ∷ drop (i + 1) vs)) in
    let Q : List Value → Type 0 = λ xs. CellsPrune i (drop i cs) (whole_cells xs) in
    gives (subst Q (sym (here vs i v lv v_is)) (subst P (sym (here cs i c lc c_is)) (h, rest)))

pub key_same : (i : ℕ) (ks ls : List (List ℕ)) (k l : List ℕ) (all : Type 0)
    → i < length ks → k ≡ get_or ks i k → i < length ls → l ≡ get_or ls i l
    → (drop i ks ≡ drop i ls → all) → k ≡ l → drop (i + 1) ks ≡ drop (i + 1) ls → all
key_same i ks ls k l all lk k_is ll l_is gives same rest =
    gives (here ks i k lk k_is ∙ ap (λ x. x ∷ drop (i + 1) ks) same ∙ ap (λ xs. l ∷ xs) rest ∙ sym (here ls i l ll l_is))
