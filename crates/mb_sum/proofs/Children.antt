-- The children of a node, as a list and as parts.
use Rattle.std.proofs.Common.{◌≡◌, ℕ, zero, suc, ◌<◌, ◌≤◌, List, [], ◌∷◌, ◌++◌, length, map, get_or, flat_map, refl, sym, ap, ◌∙◌, subst, append_assoc, arith}
use Rattle.vo_spec.specs.Fits.{FitsEach}
use Rattle.totals_laws.specs.TotalsTrees.{FitsTotalEntry, FitsTotals}
use Rattle.btree.specs.Nodes.{Kid, parts_from}
use Rattle.vo_spec.specs.Parts.{count, levels, levels_in, child_bytes}
use Rattle.totals_laws.specs.declared.totals.TotalEntry.{TotalEntry}
use Rattle.totals_laws.specs.declared.totals.Totals.{Totals}
use Rattle.totals_laws.specs.TotalsTrees.{totals_family, digest, totals_bytes}
use Rattle.mb_sum.specs.declared.parts.TotalChild.{TotalChild}
use Rattle.mb_sum.specs.Views.{part_of, parts_of}

pub count_parts_from : {C : Type 0} (kid : C → Kid TotalEntry Totals) (cs : List C) → count (parts_from (map kid cs)) ≡ length cs
count_parts_from kid [] = refl
count_parts_from kid (c ∷ cs) = omega (arith, count_parts_from kid cs)

-- a child has fewer levels than its parent
pub kid_falls : {C : Type 0} (kid : C → Kid TotalEntry Totals) (cs : List C) (i : ℕ) (c : C) → i < length cs → c ≡ get_or cs i c → levels (kid c).1 ≤ levels_in (parts_from (map kid cs))
kid_falls kid [] i c lt is = absurd (omega arith)
kid_falls kid (d ∷ ds) zero c lt is = let e = ap (λ r. levels (kid r).1) is in omega arith
kid_falls kid (d ∷ ds) (suc i) c lt is = omega (arith, kid_falls kid ds i c (omega arith) is)

pub child_falls : (cs : List TotalChild) (i : ℕ) (c : TotalChild) → i < length cs → c ≡ get_or cs i c → levels (part_of c.tree) ≤ levels_in (parts_of cs)
child_falls [] i c lt is = absurd (omega arith)
child_falls (d ∷ ds) zero c lt is = let e = ap (λ (r : TotalChild). levels (part_of r.tree)) is in omega arith
child_falls (d ∷ ds) (suc i) c lt is = omega (arith, child_falls ds i c (omega arith) is)

pub count_parts_of : (cs : List TotalChild) → count (parts_of cs) ≡ length cs
count_parts_of cs = count_parts_from _ cs

-- what a parent's preimage has of its children
abbrev pub kid_bytes : Kid TotalEntry Totals → List ℕ
kid_bytes k = digest k.1 ++ totals_bytes k.0

pub child_bytes_from : {C : Type 0} (kid : C → Kid TotalEntry Totals) (cs : List C) → child_bytes totals_family (parts_from (map kid cs)) ≡ flat_map (λ c. kid_bytes (kid c)) cs
child_bytes_from kid [] = refl
child_bytes_from kid (c ∷ cs) = ap (λ bytes. digest (kid c).1 ++ (totals_bytes (kid c).0 ++ bytes)) (child_bytes_from kid cs) ∙ sym (append_assoc (digest (kid c).1) (totals_bytes (kid c).0) (flat_map (λ x. kid_bytes (kid x)) cs))

-- a child of a node that fits
pub child_fits : (cs : List TotalChild) → FitsEach FitsTotalEntry (parts_of cs) → (i : ℕ) (c : TotalChild) → i < length cs → c ≡ get_or cs i c → FitsTotals (part_of c.tree)
child_fits [] f i c lt is = absurd (omega arith)
child_fits (d ∷ ds) f zero c lt is = let P : TotalChild → Type 0 = λ r. FitsTotals (part_of r.tree) in subst P (sym is) f.0
child_fits (d ∷ ds) f (suc i) c lt is = child_fits ds f.1 i c (omega arith) is
