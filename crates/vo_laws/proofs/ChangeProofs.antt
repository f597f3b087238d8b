-- The proofs of a replacement and of a removal are within the limits of a tree: on each level one
-- node is open, or two siblings.
use Rattle.std.proofs.Common.{◌≡◌, ℕ, suc, ◌+◌, ◌*◌, ◌≤◌, Bool, true, false, cond, List, [], ◌∷◌, length, map, refl, sym, ap, ◌∙◌, subst, arith}
use Rattle.std.specs.Prelude.{flat_map, slice_get, drop, bytes_eq}
use Rattle.std.specs.List.{AllByRecursion}
use Rattle.std.proofs.lemmas.List.{length-append, length-map}
use Rattle.std.proofs.lemmas.List.Elements.{All-from_recursion, recursion_from_All}
use Rattle.sha2.proofs.Facts256.{length-sha256}
use Rattle.vo_spec.specs.declared.cells.Cell.{Cell}
use Rattle.vo_spec.specs.declared.cells.Cell.TheVariants.{Shown, Hidden}
use Rattle.vo_spec.specs.declared.cells.RowPart.{RowPart}
use Rattle.vo_spec.specs.declared.cells.RowPart.TheVariants.{Digest as Closed, Cells}
use Rattle.vo_spec.specs.declared.cells.PartEntry.{PartEntry}
use Rattle.vo_spec.specs.Bytes.{string}
use Rattle.vo_spec.specs.Cells.{attribute_bytes, cell_digest, row_digest}
use Rattle.vo_spec.specs.Parts.{stub, leaf, inner, none, more, count, levels, levels_in, leaf_bytes, inner_bytes}
use Rattle.vo_spec.specs.Trees.{RowTree, RowTrees, row_family, digest}
use Rattle.vo_spec.specs.Fits.{FitsDigest, FitsKey, FitsCell, FitsRowPart, FitsEntry, FitsEach, FitsPart, FitsTree}
use Rattle.vo_spec.specs.Inserts.{goes_here, closed_entry}
use Rattle.vo_spec.specs.Removes.{hidden_cells, hidden_row, opened_row, closed_parts, opened_sibling, path_to, path_in, replace_proof, becomes_underfull, opened_sibling_if, sibling_first, remove_proof, remove_proof_in, remove_proof_after}
use Rattle.vo_spec.specs.TreeBytes.{cell_form, row_form, entry_form, row_encoding, tree_bytes, trees_bytes_by}
use Rattle.vo_laws.proofs.PrunedFits.{row_closed}
use Rattle.vo_laws.proofs.ByteLengths.{flat_within, length-string, keys_within, entries_within}

-- The one is a part of the other: it fits, with no more levels, and with at most so many bytes.
record IsPart (size : ℕ) (p t : RowTree) : Type 0 where
  fits : FitsPart p
  low : levels p ≤ levels t
  short : length (tree_bytes p) ≤ size

-- Of children it is so many more bytes than those of their digests.
record AreParts (extra : ℕ) (ps qs : RowTrees) : Type 0 where
  fit : FitsEach FitsEntry ps
  same : count ps ≡ count qs
  low : levels_in ps ≤ levels_in qs
  short : length (trees_bytes_by row_encoding ps) ≤ count qs * 33 + extra

part_within : (n size : ℕ) (p t : RowTree) → n ≤ size → IsPart n p t → IsPart size p t
part_within n size p t le is = record { fits = is.fits; low = is.low; short = omega (arith, is.short) }

parts_within : (n extra : ℕ) (ps qs : RowTrees) → n ≤ extra → AreParts n ps qs → AreParts extra ps qs
parts_within n extra ps qs le are = record { fit = are.fit; same = are.same; low = are.low; short = omega (arith, are.short) }

either_parts : (b : Bool) (extra : ℕ) (ps os qs : RowTrees) → AreParts extra ps qs → AreParts extra os qs → AreParts extra (cond b ps os) qs
either_parts true extra ps os qs are others = are
either_parts false extra ps os qs are others = others

-- Children.

digest_fits : (t : RowTree) → FitsPart t → FitsDigest (digest t)
digest_fits (stub d) fits = fits
digest_fits (leaf es) fits = length-sha256 (leaf_bytes row_family es)
digest_fits (inner ss ps) fits = length-sha256 (inner_bytes row_family ss ps)

one_level : (t : RowTree) → 1 ≤ levels t
one_level (stub d) = omega arith
one_level (leaf es) = omega arith
one_level (inner ss ps) = omega arith

no_parts : (extra : ℕ) → AreParts extra none none
no_parts extra = record { fit = tt; same = refl; low = omega arith; short = omega arith }

part_and_parts : (size extra : ℕ) (m n : Unit {0}) (p q : RowTree) (ps qs : RowTrees) → IsPart size p q → AreParts extra ps qs → AreParts (size + extra) (more m p ps) (more n q qs)
part_and_parts size extra m n p q ps qs is are = record {
  fit = (is.fits, are.fit);
  same = ap (λ z. z + 1) are.same;
  low = omega (arith, is.low, are.low);
  short = omega (arith, length-append (tree_bytes p) (trees_bytes_by row_encoding ps), is.short, are.short);
}

digest_and_parts : (extra : ℕ) (m n : Unit {0}) (q : RowTree) (ps qs : RowTrees) → FitsPart q → AreParts extra ps qs → AreParts extra (more m (stub (digest q)) ps) (more n q qs)
digest_and_parts extra m n q ps qs fits are =
    let full : length (digest q) ≡ 32 = digest_fits q fits in
    record {
      fit = (full, are.fit);
      same = ap (λ z. z + 1) are.same;
      low = omega (arith, one_level q, are.low);
      short = omega (arith, length-append (tree_bytes (stub (digest q))) (trees_bytes_by row_encoding ps), are.short);
    }

parts_closed : (qs : RowTrees) → FitsEach FitsEntry qs → AreParts 0 (closed_parts qs) qs
parts_closed none fits = no_parts 0
parts_closed (more m q qs) fits = digest_and_parts 0 m m q (closed_parts qs) qs fits.0 (parts_closed qs fits.1)

-- Nodes.

-- how many bytes an open node has at most, its children's beyond digests apart
abbrev most_open : ℕ
most_open = 5634

inner_part : (extra : ℕ) (ss : List (List ℕ)) (ps qs : RowTrees) → FitsPart (inner ss qs) → AreParts extra ps qs → IsPart (4385 + extra) (inner ss ps) (inner ss qs)
inner_part extra ss ps qs fits are =
    let separators : length (flat_map string ss) ≤ length ss * 257 = flat_within string 257 ss (keys_within ss (recursion_from_All FitsKey ss fits.3)) in
    let same : count ps ≡ count qs = are.same in
    record {
      fits = (omega (arith, fits.0), omega (arith, fits.1), fits.2 ∙ sym same, fits.3, are.fit);
      low = omega (arith, are.low);
      short = omega (arith, length-append (flat_map string ss) (trees_bytes_by row_encoding ps), are.short, fits.1, fits.2);
    }

each_closed : (es : List PartEntry) → AllByRecursion FitsEntry es → AllByRecursion FitsEntry (map closed_entry es)
each_closed [] all = tt
each_closed (e ∷ es) all = (record { key = all.0.key; row = row_closed e.row all.0.row }, each_closed es all.1)

closed_size : (es : List PartEntry) → AllByRecursion FitsEntry es → length (flat_map entry_form (map closed_entry es)) ≤ length es * 290
closed_size es all =
    let within : length (flat_map entry_form (map closed_entry es)) ≤ length (map closed_entry es) * 290 = flat_within entry_form 290 (map closed_entry es) (entries_within es all) in
    subst (λ n. length (flat_map entry_form (map closed_entry es)) ≤ n * 290) (length-map es closed_entry) within

closed_leaf : (es : List PartEntry) → FitsPart (leaf es) → IsPart most_open (leaf (map closed_entry es)) (leaf es)
closed_leaf es fits =
    let all : AllByRecursion FitsEntry es = recursion_from_All FitsEntry es fits.1 in
    record {
      fits = (omega (arith, length-map es closed_entry, fits.0), All-from_recursion FitsEntry (map closed_entry es) (each_closed es all));
      low = omega arith;
      short = omega (arith, closed_size es all, fits.0);
    }

opened_sibling_part : (t : RowTree) → FitsPart t → IsPart most_open (opened_sibling t) t
opened_sibling_part (stub d) fits = record { fits = fits; low = omega arith; short = omega (arith, fits) }
opened_sibling_part (leaf es) fits = closed_leaf es fits
opened_sibling_part (inner ss ps) fits = part_within (4385 + 0) most_open (inner ss (closed_parts ps)) (inner ss ps) (omega arith) (inner_part 0 ss (closed_parts ps) ps fits (parts_closed ps fits.4))

sibling_and_parts : (b : Bool) (extra : ℕ) (m n : Unit {0}) (q : RowTree) (ps qs : RowTrees) → FitsPart q → AreParts extra ps qs
    → AreParts (most_open + extra) (more m (opened_sibling_if b q) ps) (more n q qs)
sibling_and_parts true extra m n q ps qs fits are = part_and_parts most_open extra m n (opened_sibling q) q ps qs (opened_sibling_part q fits) are
sibling_and_parts false extra m n q ps qs fits are =
    parts_within extra (most_open + extra) (more m (stub (digest q)) ps) (more n q qs) (omega arith) (digest_and_parts extra m n q ps qs fits are)

-- A leaf with the row of a key as hidden cells.

each_hidden : (column : ℕ) (cells : List Cell) → AllByRecursion FitsCell cells → AllByRecursion FitsCell (hidden_cells column cells)
each_hidden column [] all = tt
each_hidden column (Shown v ∷ cells) all = (length-sha256 (attribute_bytes column v), each_hidden (column + 1) cells all.1)
each_hidden column (Hidden d ∷ cells) all = (all.0, each_hidden (column + 1) cells all.1)

hidden_length : (column : ℕ) (cells : List Cell) → length (hidden_cells column cells) ≡ length cells
hidden_length column [] = refl
hidden_length column (cell ∷ cells) = ap suc (hidden_length (column + 1) cells)

hidden_size : (column : ℕ) (cells : List Cell) → AllByRecursion FitsCell cells → length (flat_map cell_form (hidden_cells column cells)) ≤ length cells * 33
hidden_size column [] all = omega arith
hidden_size column (Shown v ∷ cells) all =
    let full : length (cell_digest column (Shown v)) ≡ 32 = length-sha256 (attribute_bytes column v) in
    let rest : length (flat_map cell_form (hidden_cells (column + 1) cells)) ≤ length cells * 33 = hidden_size (column + 1) cells all.1 in
    omega (arith, length-append (cell_form (Hidden (cell_digest column (Shown v)))) (flat_map cell_form (hidden_cells (column + 1) cells)))
hidden_size column (Hidden d ∷ cells) all =
    let full : length d ≡ 32 = all.0 in
    let rest : length (flat_map cell_form (hidden_cells (column + 1) cells)) ≤ length cells * 33 = hidden_size (column + 1) cells all.1 in
    omega (arith, length-append (cell_form (Hidden d)) (flat_map cell_form (hidden_cells (column + 1) cells)))

row_hidden : (row : RowPart) → FitsRowPart row → FitsRowPart (hidden_row row)
row_hidden (Closed d) fits = fits
row_hidden (Cells cells) fits = (
  omega (arith, hidden_length 0 cells, fits.0),
  All-from_recursion FitsCell (hidden_cells 0 cells) (each_hidden 0 cells (recursion_from_All FitsCell cells fits.1)),
)

row_size : (row : RowPart) → FitsRowPart row → length (row_form (hidden_row row)) ≤ 1025
row_size (Closed d) fits = omega (arith, fits)
row_size (Cells cells) fits = omega (arith, hidden_size 0 cells (recursion_from_All FitsCell cells fits.1), fits.0)

record IsOpened (es fs : List PartEntry) : Type 0 where
  fit : AllByRecursion FitsEntry fs
  same : length fs ≡ length es
  short : length (flat_map entry_form fs) ≤ length es * 290 + 992

opened_is : (key : List ℕ) (es : List PartEntry) → AllByRecursion FitsEntry es → IsOpened es (opened_row key es)
opened_is key [] all = record { fit = tt; same = refl; short = omega arith }
opened_is key (e ∷ es) all = step (bytes_eq e.key key) (opened_is key es all.1)
  where
    here : FitsEntry (closed_entry e)
    here = record { key = all.0.key; row = row_closed e.row all.0.row }

    step : (b : Bool) → IsOpened es (opened_row key es)
        → IsOpened (e ∷ es) (cond b (record { key = e.key; row = hidden_row e.row } ∷ map closed_entry es) (closed_entry e ∷ opened_row key es))
    step true rest =
        let short_key : length e.key ≤ 255 = all.0.key in
        let row : length (row_form (hidden_row e.row)) ≤ 1025 = row_size e.row all.0.row in
        let others : length (flat_map entry_form (map closed_entry es)) ≤ length es * 290 = closed_size es all.1 in
        record {
          fit = (record { key = all.0.key; row = row_hidden e.row all.0.row }, each_closed es all.1);
          same = ap suc (length-map es closed_entry);
          short = omega (
            arith,
            length-append (entry_form (record { key = e.key; row = hidden_row e.row })) (flat_map entry_form (map closed_entry es)),
            length-append (string e.key) (row_form (hidden_row e.row)),
            length-string e.key,
          );
        }
    step false rest =
        let short_key : length e.key ≤ 255 = all.0.key in
        let row : length (row_digest e.row) ≡ 32 = row_closed e.row all.0.row in
        record {
          fit = (here, rest.fit);
          same = ap suc rest.same;
          short = omega (
            arith,
            length-append (entry_form (closed_entry e)) (flat_map entry_form (opened_row key es)),
            length-append (string e.key) (0 ∷ row_digest e.row),
            length-string e.key,
            rest.short,
          );
        }

opened_leaf : (key : List ℕ) (es : List PartEntry) → FitsPart (leaf es) → IsPart most_open (leaf (opened_row key es)) (leaf es)
opened_leaf key es fits =
    let is = opened_is key es (recursion_from_All FitsEntry es fits.1) in
    record {
      fits = (omega (arith, is.same, fits.0), All-from_recursion FitsEntry (opened_row key es) is.fit);
      low = omega arith;
      short = omega (arith, is.short, fits.0);
    }

-- A replacement.

mutual
  replace_part : (key : List ℕ) (t : RowTree) → FitsPart t → IsPart (levels t * most_open) (replace_proof key t) t
  replace_part key (stub d) fits = record { fits = fits; low = omega arith; short = omega (arith, fits) }
  replace_part key (leaf es) fits = part_within most_open (1 * most_open) (leaf (opened_row key es)) (leaf es) (omega arith) (opened_leaf key es fits)
  replace_part key (inner ss ps) fits =
      part_within (4385 + levels_in ps * most_open) ((levels_in ps + 1) * most_open) (inner ss (path_in (opened_row key) key ss ps)) (inner ss ps) (omega arith)
      (inner_part (levels_in ps * most_open) ss (path_in (opened_row key) key ss ps) ps fits (replace_parts key ss ps fits.4))

  replace_parts : (key : List ℕ) (ss : List (List ℕ)) (ps : RowTrees) → FitsEach FitsEntry ps → AreParts (levels_in ps * most_open) (path_in (opened_row key) key ss ps) ps
  replace_parts key ss none fits = no_parts 0
  replace_parts key ss (more m p ps) fits =
      either_parts (goes_here key (slice_get ss 0)) (levels_in (more m p ps) * most_open)
      (more m (path_to (opened_row key) key p) (closed_parts ps)) (more m (stub (digest p)) (path_in (opened_row key) key (drop 1 ss) ps)) (more m p ps)
      (parts_within (levels p * most_open + 0) (levels_in (more m p ps) * most_open) (more m (path_to (opened_row key) key p) (closed_parts ps)) (more m p ps) (omega arith)
      (part_and_parts (levels p * most_open) 0 m m (path_to (opened_row key) key p) p (closed_parts ps) ps (replace_part key p fits.0) (parts_closed ps fits.1)))
      (parts_within (levels_in ps * most_open) (levels_in (more m p ps) * most_open) (more m (stub (digest p)) (path_in (opened_row key) key (drop 1 ss) ps)) (more m p ps) (omega arith)
      (digest_and_parts (levels_in ps * most_open) m m p (path_in (opened_row key) key (drop 1 ss) ps) ps fits.0 (replace_parts key (drop 1 ss) ps fits.1)))

-- A removal.

-- how many bytes two siblings have at most
abbrev most_both : ℕ
most_both = 11268

sibling_part : (b : Bool) (qs : RowTrees) → FitsEach FitsEntry qs → AreParts most_open (sibling_first b qs) qs
sibling_part b none fits = no_parts most_open
sibling_part b (more m q qs) fits = sibling_and_parts b 0 m m q (closed_parts qs) qs fits.0 (parts_closed qs fits.1)

mutual
  remove_part : (key : List ℕ) (t : RowTree) → FitsPart t → IsPart (levels t * most_both) (remove_proof key t) t
  remove_part key (stub d) fits = record { fits = fits; low = omega arith; short = omega (arith, fits) }
  remove_part key (leaf es) fits = part_within most_open (1 * most_both) (leaf (map closed_entry es)) (leaf es) (omega arith) (closed_leaf es fits)
  remove_part key (inner ss ps) fits =
      part_within (4385 + (most_open + levels_in ps * most_both)) ((levels_in ps + 1) * most_both) (inner ss (remove_proof_in key ss ps)) (inner ss ps) (omega arith)
      (inner_part (most_open + levels_in ps * most_both) ss (remove_proof_in key ss ps) ps fits (remove_parts key ss ps fits.4))

  remove_parts : (key : List ℕ) (ss : List (List ℕ)) (ps : RowTrees) → FitsEach FitsEntry ps → AreParts (most_open + levels_in ps * most_both) (remove_proof_in key ss ps) ps
  remove_parts key ss none fits = no_parts (most_open + 0 * most_both)
  remove_parts key ss (more m p ps) fits =
      either_parts (goes_here key (slice_get ss 0)) (most_open + levels_in (more m p ps) * most_both)
      (more m (remove_proof key p) (sibling_first (becomes_underfull key p) ps)) (remove_proof_after key m p ss ps) (more m p ps)
      (parts_within (levels p * most_both + most_open) (most_open + levels_in (more m p ps) * most_both) (more m (remove_proof key p) (sibling_first (becomes_underfull key p) ps)) (more m p ps) (omega arith)
      (part_and_parts (levels p * most_both) most_open m m (remove_proof key p) p (sibling_first (becomes_underfull key p) ps) ps (remove_part key p fits.0) (sibling_part (becomes_underfull key p) ps fits.1)))
      (parts_within (most_open + levels_in ps * most_both) (most_open + levels_in (more m p ps) * most_both) (remove_proof_after key m p ss ps) (more m p ps) (omega arith)
      (later_remove_parts key m p ss ps fits.0 fits.1))

  later_remove_parts : (key : List ℕ) (m : Unit {0}) (left : RowTree) (ss : List (List ℕ)) (ps : RowTrees) → FitsPart left → FitsEach FitsEntry ps
      → AreParts (most_open + levels_in ps * most_both) (remove_proof_after key m left ss ps) (more m left ps)
  later_remove_parts key m left ss none before fits = digest_and_parts (most_open + 0 * most_both) m m left none none before (no_parts (most_open + 0 * most_both))
  later_remove_parts key m left ss (more n p ps) before fits =
      either_parts (goes_here key (slice_get ss 1)) (most_open + levels_in (more n p ps) * most_both)
      (more m (opened_sibling_if (becomes_underfull key p) left) (more n (remove_proof key p) (closed_parts ps))) (more m (stub (digest left)) (remove_proof_after key n p (drop 1 ss) ps)) (more m left (more n p ps))
      (parts_within (most_open + (levels p * most_both + 0)) (most_open + levels_in (more n p ps) * most_both)
      (more m (opened_sibling_if (becomes_underfull key p) left) (more n (remove_proof key p) (closed_parts ps))) (more m left (more n p ps)) (omega arith)
      (sibling_and_parts (becomes_underfull key p) (levels p * most_both + 0) m m left (more n (remove_proof key p) (closed_parts ps)) (more n p ps) before
      (part_and_parts (levels p * most_both) 0 n n (remove_proof key p) p (closed_parts ps) ps (remove_part key p fits.0) (parts_closed ps fits.1))))
      (parts_within (most_open + levels_in ps * most_both) (most_open + levels_in (more n p ps) * most_both)
      (more m (stub (digest left)) (remove_proof_after key n p (drop 1 ss) ps)) (more m left (more n p ps)) (omega arith)
      (digest_and_parts (most_open + levels_in ps * most_both) m m left (remove_proof_after key n p (drop 1 ss) ps) (more n p ps) before
      (later_remove_parts key n p (drop 1 ss) ps fits.0 fits.1)))

-- The proofs fit where the tree does.

pub replace_proof_fits : (key : List ℕ) (t : RowTree) → FitsTree t → FitsTree (replace_proof key t)
replace_proof_fits key t fits =
    let is = replace_part key t fits.nodes in
    record { nodes = is.fits; depth = omega (arith, is.low, fits.depth) }

pub replace_proof_size : (key : List ℕ) (t : RowTree) → FitsTree t → length (tree_bytes (replace_proof key t)) ≤ levels t * 5634
replace_proof_size key t fits = (replace_part key t fits.nodes).short

pub remove_proof_fits : (key : List ℕ) (t : RowTree) → FitsTree t → FitsTree (remove_proof key t)
remove_proof_fits key t fits =
    let is = remove_part key t fits.nodes in
    record { nodes = is.fits; depth = omega (arith, is.low, fits.depth) }

pub remove_proof_size : (key : List ℕ) (t : RowTree) → FitsTree t → length (tree_bytes (remove_proof key t)) ≤ levels t * 11268
remove_proof_size key t fits = (remove_part key t fits.nodes).short
