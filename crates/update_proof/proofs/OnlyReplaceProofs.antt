-- So it is with the proof of a replacement.
use Rattle.std.proofs.Common.{◌≡◌, ℕ, Bool, true, false, cond, ◌||◌, bytes_eq, List, [], ◌∷◌, map, drop, refl, sym, ap, ◌∙◌, subst, slice_get}
use Rattle.std.specs.List.{list_any}
use Rattle.vo_spec.specs.declared.cells.RowPart.{RowPart}
use Rattle.vo_spec.specs.declared.cells.RowPart.TheVariants.{Digest as Closed, Cells}
use Rattle.vo_spec.specs.declared.cells.PartEntry.{PartEntry}
use Rattle.vo_spec.specs.Parts.{stub, leaf, inner, none, more}
use Rattle.vo_spec.specs.Trees.{RowTree, RowTrees, digest, row_family, Prunes}
use Rattle.vo_spec.specs.Inserts.{result_map, goes_here, closed_entry}
use Rattle.vo_spec.specs.Removes.{set_row, edit_entry, edited_by, edited_in, opened_row, hidden_row, closed_parts, path_to, path_in, replace_proof}
use Rattle.update_proof.specs.OpenParts.{is_open, any_open, shows_cells, shows_any}
use Rattle.update_proof.specs.Proving.{lacks, replace_is_missing, rows_surplus, replace_has_surplus, replace_has_surplus_in}
use Rattle.update_proof.proofs.ReplacementPaths.{lacks_map}
use Rattle.update_proof.proofs.ClosedParts.{Zip, Each, neither, entry_closed, entries_closed, entry_hidden, part_closed, all_closed}

row_stands : (key : List ℕ) (r : RowPart) → lacks (set_row [] (record { key = key; row = r })) ≡ false → shows_cells (record { key = key; row = r }) ≡ true
row_stands key (Closed d) h = absurd (cc)
row_stands key (Cells cells) h = refl

module _ (key : List ℕ) where
  rows_are : (es fs : List PartEntry) → lacks (edit_entry row_family (set_row []) key es) ≡ false → rows_surplus key es ≡ false → Zip es fs → es ≡ opened_row key fs
  rows_are [] [] m b z = refl
  rows_are [] (f ∷ fs) m b z = absurd z
  rows_are (e ∷ es) [] m b z = absurd z
  rows_are (e ∷ es) (f ∷ fs) m b z =
      subst (λ k. e ∷ es ≡ cond (bytes_eq k key) (record { key = f.key; row = hidden_row f.row } ∷ map closed_entry fs) (closed_entry f ∷ opened_row key fs)) z.0.key
      (step (bytes_eq e.key key) m b (rows_are es fs))
    where
      step : (c : Bool) → lacks (cond c (result_map (λ g. g ∷ es) (set_row [] e)) (result_map (λ gs. e ∷ gs) (edit_entry row_family (set_row []) key es))) ≡ false
          → cond c (shows_any e.row || list_any shows_cells es) (shows_cells e || rows_surplus key es) ≡ false
          → (lacks (edit_entry row_family (set_row []) key es) ≡ false → rows_surplus key es ≡ false → Zip es fs → es ≡ opened_row key fs)
          → e ∷ es ≡ cond c (record { key = f.key; row = hidden_row f.row } ∷ map closed_entry fs) (closed_entry f ∷ opened_row key fs)
      step true m b on =
          let n = neither (shows_any e.row) (list_any shows_cells es) b in
          let stands = row_stands e.key e.row (sym (lacks_map (λ g. g ∷ es) (set_row [] e)) ∙ m) in
          ap (λ g. g ∷ es) (entry_hidden e f z.0 stands n.first) ∙ ap (λ gs. record { key = f.key; row = hidden_row f.row } ∷ gs) (entries_closed es fs z.1 n.second)
      step false m b on =
          let n = neither (shows_cells e) (rows_surplus key es) b in
          let rest = on (sym (lacks_map (λ gs. e ∷ gs) (edit_entry row_family (set_row []) key es)) ∙ m) n.second z.1 in
          ap (λ g. g ∷ es) (entry_closed e f z.0 n.first) ∙ ap (λ gs. closed_entry f ∷ gs) rest

  parts_step : (c : Bool) (m n : Unit {0}) (p q : RowTree) (ps qs : RowTrees) (ss : List (List ℕ)) → m ≡ n → Prunes p q → Each ps qs
      → lacks (cond c (result_map (λ u. more tt u ps) (edited_by row_family (set_row []) key p)) (result_map (more m p) (edited_in row_family (set_row []) key (drop 1 ss) ps))) ≡ false
      → cond c (replace_has_surplus key p || any_open ps) (is_open p || replace_has_surplus_in key (drop 1 ss) ps) ≡ false
      → (lacks (edited_by row_family (set_row []) key p) ≡ false → replace_has_surplus key p ≡ false → p ≡ path_to (opened_row key) key q)
      → (lacks (edited_in row_family (set_row []) key (drop 1 ss) ps) ≡ false → replace_has_surplus_in key (drop 1 ss) ps ≡ false → ps ≡ path_in (opened_row key) key (drop 1 ss) qs)
      → more m p ps ≡ cond c (more n (path_to (opened_row key) key q) (closed_parts qs)) (more n (stub (digest q)) (path_in (opened_row key) key (drop 1 ss) qs))
  parts_step true m n p q ps qs ss same y z l b here on =
      let o = neither (replace_has_surplus key p) (any_open ps) b in
      let first = here (sym (lacks_map (λ u. more tt u ps) (edited_by row_family (set_row []) key p)) ∙ l) o.first in
      ap (λ k. more k p ps) same ∙ ap (λ u. more n u ps) first ∙ ap (more n (path_to (opened_row key) key q)) (all_closed ps qs z o.second)
  parts_step false m n p q ps qs ss same y z l b here on =
      let o = neither (is_open p) (replace_has_surplus_in key (drop 1 ss) ps) b in
      let rest = on (sym (lacks_map (more m p) (edited_in row_family (set_row []) key (drop 1 ss) ps)) ∙ l) o.second in
      ap (λ k. more k p ps) same ∙ ap (λ u. more n u ps) (part_closed p q y o.first) ∙ ap (more n (stub (digest q))) rest

  mutual
    part_is : (p t : RowTree) → lacks (edited_by row_family (set_row []) key p) ≡ false → replace_has_surplus key p ≡ false → Prunes p t → p ≡ path_to (opened_row key) key t
    part_is (stub d) t l b z = absurd (cc)
    part_is (leaf es) (stub d) l b z = absurd z
    part_is (leaf es) (leaf fs) l b z = ap leaf (rows_are es fs (sym (lacks_map leaf (edit_entry row_family (set_row []) key es)) ∙ l) b z)
    part_is (leaf es) (inner ss ps) l b z = absurd z
    part_is (inner ss ps) (stub d) l b z = absurd z
    part_is (inner ss ps) (leaf es) l b z = absurd z
    part_is (inner ss ps) (inner ts qs) l b z =
        ap (inner ss) (parts_are ss ps qs (sym (lacks_map (inner ss) (edited_in row_family (set_row []) key ss ps)) ∙ l) b z.1)
        ∙ ap (λ us. inner us (path_in (opened_row key) key us qs)) z.0

    parts_are : (ss : List (List ℕ)) (ps qs : RowTrees) → lacks (edited_in row_family (set_row []) key ss ps) ≡ false → replace_has_surplus_in key ss ps ≡ false → Each ps qs → ps ≡ path_in (opened_row key) key ss qs
    parts_are ss none none l b z = refl
    parts_are ss none (more n q qs) l b z = absurd z
    parts_are ss (more m p ps) none l b z = absurd z
    parts_are ss (more m p ps) (more n q qs) l b z =
        parts_step (goes_here key (slice_get ss 0)) m n p q ps qs ss z.0 z.1 z.2 l b (λ k c. part_is p q k c z.1) (λ k c. parts_are (drop 1 ss) ps qs k c z.2)

pub only_replace_proof : (key : List ℕ) (p t : RowTree) → replace_is_missing key p ≡ false → replace_has_surplus key p ≡ false → Prunes p t → p ≡ replace_proof key t
only_replace_proof key p t m b z = part_is key p t m b z
