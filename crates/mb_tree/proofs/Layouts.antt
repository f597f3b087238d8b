-- Preimages by what they have of each item.
use Rattle.std.proofs.Common.{◌≡◌, ℕ, zero, suc, List, [], ◌∷◌, map, refl, arith, All}
use Rattle.std.proofs.lemmas.List.{length-map}
use Rattle.std.proofs.lemmas.List.Folds.{flat_map-map}
use Rattle.vo_spec.specs.declared.values.Row.{Row}
use Rattle.vo_spec.specs.Bytes.{string}
use Rattle.vo_spec.specs.Cells.{entry_bytes, whole_entry}
use Rattle.vo_spec.specs.Parts.{leaf, inner}
use Rattle.vo_spec.specs.Trees.{RowTree, digest, preimage, open_parts}
use Rattle.vo_spec.specs.Fits.{FitsPart, FitsEach, FitsEntry}
use Rattle.mb_tree.specs.declared.parts.PartTree.{PartTree}
use Rattle.mb_tree.specs.View.{part_of, parts_of}
use Rattle.mb_tree.specs.Layouts.{leaf_layout, inner_layout}
use Rattle.mb_tree.proofs.SubtreeLaws.{count_open_parts, child_bytes_open_parts}
use Rattle.mb_tree.proofs.PartLaws.{count_parts_of, child_bytes_parts_of}

pub whole_leaf : (rows : List Row) → leaf_layout 3 (λ row. entry_bytes (whole_entry row)) rows ≡ preimage (leaf (map whole_entry rows))
whole_leaf rows = rw (length-map, flat_map-map) refl

pub whole_inner : (ss : List (List ℕ)) (ts : List RowTree) → inner_layout 4 string digest ss ts ≡ preimage (inner ss (open_parts ts))
whole_inner ss ts = rw (count_open_parts ts, child_bytes_open_parts ts) refl

pub part_inner : (ss : List (List ℕ)) (ps : List PartTree) → inner_layout 4 string (λ p. digest (part_of p)) ss ps ≡ preimage (inner ss (parts_of ps))
part_inner ss ps = rw (count_parts_of ps, child_bytes_parts_of ps, flat_map-map) refl

-- the children of a node that fits
pub parts_fit : (ps : List PartTree) → FitsEach FitsEntry (parts_of ps) → All (λ p. FitsPart (part_of p)) ps
parts_fit [] f k d h = absurd (omega arith)
parts_fit (p ∷ ps) f zero d h = f.0
parts_fit (p ∷ ps) f (suc k) d h = parts_fit ps f.1 k d (omega arith)
