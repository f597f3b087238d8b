-- What whole nodes keep to.
use Rattle.std.proofs.Common.{◌≡◌, ℕ, zero, suc, ◌≤◌, List, [], ◌∷◌, ◌++◌, length, map, All, refl, sym, ap, subst, arith}
use Rattle.std.specs.declared.vec.Vec.{Vec}
use Rattle.std.specs.declared.alloc.Global.{Global}
use Rattle.vo_spec.specs.Bytes.{string}
use Rattle.vo_spec.specs.Parts.{inner, count}
use Rattle.vo_spec.specs.Fits.{FitsKey, FitsEach, max_fill}
use Rattle.btree.specs.Nodes.{parts_from}
use Rattle.btree.specs.Shapes.{IsWithin}
use Rattle.mb_tree.specs.Layouts.{inner_layout}
use Rattle.totals_laws.specs.declared.totals.TotalEntry.{TotalEntry}
use Rattle.totals_laws.specs.TotalsTrees.{TotalsPart, FitsTotalEntry, FitsTotals, preimage, digest, totals_bytes, totals_of}
use Rattle.mb_sum.specs.declared.whole.TotalsNode.{TotalsNode}
use Rattle.mb_sum.specs.declared.whole.TotalsNode.TheVariants.{Leaf, Inner}
use Rattle.mb_sum.specs.Whole.{whole_kid, whole_of}
use Rattle.mb_sum.specs.declared.parts.TotalChild.{TotalChild}
use Rattle.mb_sum.specs.Views.{part_of, part_kid, parts_of}
use Rattle.mb_sum.proofs.Children.{count_parts_from, child_bytes_from}

pub whole_inner : (ss : List (List ℕ)) (ts : List TotalsPart) → inner_layout 7 string (λ t. digest t ++ totals_bytes (totals_of t)) ss ts ≡ preimage (inner ss (parts_from (map whole_kid ts)))
whole_inner ss ts = rw (count_parts_from whole_kid ts, child_bytes_from whole_kid ts) refl

each_fits : (ts : List TotalsPart) → All FitsTotals ts → FitsEach FitsTotalEntry (parts_from (map whole_kid ts))
each_fits [] f = tt
each_fits (t ∷ ts) f = (f 0 t (omega arith), each_fits ts (λ k d h. f (suc k) d (omega arith)))

pub inner_most : (n : TotalsNode) (ss : Vec (List ℕ) Global) (ts : Vec TotalsPart Global) (xs : List TotalsPart) → n ≡ Inner ss ts → xs ≡ ts.items → IsWithin 2 (whole_of n) → length xs ≤ max_fill
inner_most n ss ts xs is children within =
    let P : TotalsNode → Type 0 = λ m. IsWithin 2 (whole_of m) in
    let most : count (parts_from (map whole_kid ts.items)) ≤ max_fill = (subst P is within).most in
    let same : length xs ≡ length ts.items = ap length children in
    omega (arith, count_parts_from whole_kid ts.items)

pub leaf_fits : (n : TotalsNode) (es : Vec TotalEntry Global) (xs : List TotalEntry) → n ≡ Leaf es → xs ≡ es.items → IsWithin 2 (whole_of n) → All FitsTotalEntry xs → FitsTotals (whole_of n)
leaf_fits n es xs is items within fit =
    let P : TotalsNode → Type 0 = λ m. IsWithin 2 (whole_of m) in
    let Q : TotalsNode → Type 0 = λ m. FitsTotals (whole_of m) in
    let R : List TotalEntry → Type 0 = λ l. All FitsTotalEntry l in
    subst Q (sym is) ((subst P is within).most, subst R items fit)

pub inner_fits : (n : TotalsNode) (ss : Vec (List ℕ) Global) (ts : Vec TotalsPart Global) (keys : List (List ℕ)) (xs : List TotalsPart) → n ≡ Inner ss ts → keys ≡ ss.items → xs ≡ ts.items → IsWithin 2 (whole_of n)
    → All FitsKey keys → All FitsTotals xs → FitsTotals (whole_of n)
inner_fits n ss ts keys xs is separators children within keys_fit fit =
    let P : TotalsNode → Type 0 = λ m. IsWithin 2 (whole_of m) in
    let Q : TotalsNode → Type 0 = λ m. FitsTotals (whole_of m) in
    let R : List (List ℕ) → Type 0 = λ l. All FitsKey l in
    let S : List TotalsPart → Type 0 = λ l. All FitsTotals l in
    let w = subst P is within in
    subst Q (sym is) (w.linked.0, w.most, w.linked.1, subst R separators keys_fit, each_fits ts.items (subst S children fit))

pub part_inner : (ss : List (List ℕ)) (cs : List TotalChild) → inner_layout 7 string (λ (c : TotalChild). digest (part_of c.tree) ++ totals_bytes c.totals) ss cs ≡ preimage (inner ss (parts_of cs))
part_inner ss cs = rw (count_parts_from part_kid cs, child_bytes_from part_kid cs) refl

pub parts_fit : (cs : List TotalChild) → FitsEach FitsTotalEntry (parts_of cs) → All (λ (c : TotalChild). FitsTotals (part_of c.tree)) cs
parts_fit [] f k d h = absurd (omega arith)
parts_fit (c ∷ cs) f zero d h = f.0
parts_fit (c ∷ cs) f (suc k) d h = parts_fit cs f.1 k d (omega arith)
