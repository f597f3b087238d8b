-- The children of a node, as a list and as parts.
use Rattle.std.proofs.Common.{◌≡◌, ℕ, zero, suc, ◌<◌, ◌≤◌, List, [], ◌∷◌, ◌++◌, length, map, get_or, flat_map, refl, sym, ap, subst, arith}
use Rattle.mb_tree.specs.declared.parts.PartTree.{PartTree}
use Rattle.mb_tree.specs.View.{part_of, parts_of}
use Rattle.vo_spec.specs.Parts.{count, levels, levels_in, child_bytes}
use Rattle.vo_spec.specs.Trees.{digest, row_family}
use Rattle.vo_spec.specs.Fits.{FitsPart, FitsEach, FitsEntry}

pub count_parts_of : (ps : List PartTree) → count (parts_of ps) ≡ length ps
count_parts_of [] = refl
count_parts_of (p ∷ ps) = let h : count (parts_of ps) ≡ length ps = count_parts_of ps in omega arith

pub child_bytes_parts_of : (ps : List PartTree) → child_bytes row_family (parts_of ps) ≡ flat_map digest (map part_of ps)
child_bytes_parts_of [] = refl
child_bytes_parts_of (p ∷ ps) = ap (λ bytes. digest (part_of p) ++ bytes) (child_bytes_parts_of ps)

-- a child of a node that fits
pub child_fits : (ps : List PartTree) → FitsEach FitsEntry (parts_of ps) → (i : ℕ) (p : PartTree) → i < length ps → p ≡ get_or ps i p → FitsPart (part_of p)
child_fits [] f i p lt is = absurd (omega arith)
child_fits (q ∷ qs) f zero p lt is = let P : PartTree → Type 0 = λ r. FitsPart (part_of r) in subst P (sym is) f.0
child_fits (q ∷ qs) f (suc i) p lt is = child_fits qs f.1 i p (omega arith) is

-- a child has fewer levels than its parent
pub child_falls : (ps : List PartTree) (i : ℕ) (p : PartTree) → i < length ps → p ≡ get_or ps i p → levels (part_of p) ≤ levels_in (parts_of ps)
child_falls [] i p lt is = absurd (omega arith)
child_falls (q ∷ qs) zero p lt is = let e = ap (λ r. levels (part_of r)) is in omega arith
child_falls (q ∷ qs) (suc i) p lt is =
    let h : levels (part_of p) ≤ levels_in (parts_of qs) = child_falls qs i p (omega arith) is in omega arith
