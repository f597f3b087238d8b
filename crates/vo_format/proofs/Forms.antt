-- The trees of a list: their bytes, and one more of them.
use Rattle.std.proofs.Common.{◌≡◌, ℕ, zero, suc, ◌+◌, ◌-◌, ◌<◌, List, [], ◌∷◌, ◌++◌, length, map, get_or, flat_map, Option, Some, None, refl, sym, ap, subst, ◌∙◌, append_assoc, arith, Result, Ok, Err}
use Rattle.std.specs.Prelude.{OnOk}
use Rattle.std.specs.List.{AllByRecursion}
use mathlib.Core.List.{map-append}
use Rattle.vo_spec.specs.Bytes.{string}
use Rattle.vo_spec.specs.Parts.{inner}
use Rattle.vo_spec.specs.Trees.{RowTree}
use Rattle.vo_spec.specs.Fits.{FitsPart, FitsTree}
use Rattle.vo_spec.specs.TreeBytes.{tree_bytes, trees_bytes_by, row_encoding}
use Rattle.row_bytes.specs.Fields.{times, with_front}
use Rattle.row_bytes.proofs.Rounds.{times_step}
use Rattle.mb_tree.specs.declared.parts.PartTree.{PartTree}
use Rattle.mb_tree.specs.View.{part_of, parts_of}
use Rattle.mb_tree.proofs.PartLaws.{count_parts_of}
use Rattle.batch_format.specs.TreeReading.{tree_at, node_at}

pub bytes_parts_of : (ps : List PartTree) → trees_bytes_by row_encoding (parts_of ps) ≡ flat_map tree_bytes (map part_of ps)
bytes_parts_of [] = refl
bytes_parts_of (p ∷ ps) = ap (λ bytes. tree_bytes (part_of p) ++ bytes) (bytes_parts_of ps)

pub ok_then : {A E : Type 0} (r : Result A E) (P Q : Type 0) → (P → Q) → OnOk r P → OnOk r Q
ok_then (Ok x) P Q then p = then p
ok_then (Err e) P Q then p = tt

-- a node's first bytes, its separators, and its children
pub node_written : (ps : List PartTree) (ss : List (List ℕ)) (old head between new : List ℕ) → head ≡ old ++ 2 ∷ length ps ∷ [] → between ≡ head ++ flat_map string ss
    → new ≡ between ++ flat_map tree_bytes (map part_of ps) → new ≡ old ++ tree_bytes (inner ss (parts_of ps))
node_written ps ss old head between new a b c =
    let ends : List ℕ = flat_map tree_bytes (map part_of ps) in
    let first : List ℕ = 2 ∷ length ps ∷ [] in
    rw (count_parts_of ps, bytes_parts_of ps)
    (c ∙ ap (λ (t : List ℕ). t ++ ends) (b ∙ ap (λ (t : List ℕ). t ++ flat_map string ss) a)
    ∙ append_assoc (old ++ first) (flat_map string ss) ends
    ∙ append_assoc old first (flat_map string ss ++ ends))

-- one of trees that fit
pub tree_fits : (ps : List PartTree) → AllByRecursion FitsTree (map part_of ps) → (i : ℕ) (p : PartTree) → i < length ps → p ≡ get_or ps i p → FitsPart (part_of p)
tree_fits [] f i p lt is = absurd (omega arith)
tree_fits (q ∷ qs) f zero p lt is = let P : PartTree → Type 0 = λ r. FitsPart (part_of r) in subst P (sym is) f.0.nodes
tree_fits (q ∷ qs) f (suc i) p lt is = tree_fits qs f.1 i p (omega arith) is

-- the trees so far with one more
pub one_more_tree : (levels : ℕ) (front : List PartTree) (count counter : ℕ) (bytes : List ℕ) (tree : PartTree) (rest : List ℕ) (all : Option (List RowTree × List ℕ)) → counter < count
    → tree_at levels bytes ≡ Some (part_of tree, rest) → with_front (map part_of front) (times (tree_at levels) (count - counter) bytes) ≡ all
    → with_front (map part_of (front ++ tree ∷ [])) (times (tree_at levels) (count - (counter + 1)) rest) ≡ all
one_more_tree levels front count counter bytes tree rest all lt e is =
    ap (λ (ts : List RowTree). with_front ts (times (tree_at levels) (count - (counter + 1)) rest)) (map-append part_of front (tree ∷ []))
    ∙ times_step (tree_at levels) (map part_of front) count counter bytes (part_of tree) rest lt e
    ∙ is

-- reading one level
pub level_at : (levels : ℕ) (bytes : List ℕ) → 0 < levels → tree_at levels bytes ≡ node_at (tree_at (levels - 1)) bytes
unfolding tree_at
level_at zero bytes lt = absurd (omega arith)
level_at (suc levels) bytes lt =
    let e : suc levels - 1 ≡ levels = omega arith in
    ap (λ (n : ℕ). node_at (tree_at n) bytes) (sym e)

pub no_level : (bytes : List ℕ) → tree_at 0 bytes ≡ None
unfolding tree_at
no_level bytes = refl
