-- Levels of trees: a whole tree of fewer than 2 ^ 32 rows has no more than a reader gives.
use Rattle.std.proofs.Common.{◌≡◌, ℕ, zero, suc, ◌+◌, ◌-◌, ◌*◌, ◌^◌, ◌<◌, ◌≤◌, List, [], ◌∷◌, Option, Some, None, length, map, inl, inr, refl, sym, ap, ◌∙◌, subst, arith}
use Rattle.std.specs.List.{AllByRecursion}
use Rattle.std.proofs.lemmas.List.{length-append, length-map}
use Rattle.std.proofs.lemmas.List.Elements.{All-from_recursion, recursion_from_All}
use Rattle.std.proofs.lemmas.Bool.{cases_lt}
use Rattle.std.proofs.Math.Nat.{mul-le-mul_right}
use Rattle.vo_spec.specs.declared.values.Value.{Value}
use Rattle.vo_spec.specs.declared.values.Row.{Row}
use Rattle.vo_spec.specs.declared.cells.Cell.TheVariants.{Shown}
use Rattle.vo_spec.specs.Values.{FitsValue}
use Rattle.vo_spec.specs.Cells.{whole_cells, whole_entry}
use Rattle.vo_spec.specs.Parts.{Part, Parts, Family, stub, leaf, inner, none, more, count, entries, entries_in, levels, levels_in}
use Rattle.vo_spec.specs.Trees.{RowTree, row_family}
use Rattle.vo_spec.specs.Fits.{FitsCell, FitsEntry, FitsRow, FitsTree}
use Rattle.vo_spec.specs.Inserts.{min_fill}
use Rattle.vo_spec.specs.Representation.{IsNode, AreNodes, fewest_in_root, Represents}
use Rattle.vo_laws.proofs.TreeFits.{node_fits}
use Rattle.vo_laws.specs.Separators.{Separated}

-- how many entries a node has at least that isn't the root, so many levels above its leaves
abbrev least : ℕ → ℕ
least zero = 8
least (suc n) = 8 * least n

least_next : (height : ℕ) → 0 < height → least height ≡ 8 * least (height - 1)
least_next zero lt = absurd (omega arith)
least_next (suc h) lt = let same : suc h - 1 ≡ h = omega arith in rw same refl

least_above : (d : ℕ) → least 10 ≤ least (10 + d)
least_above zero = omega arith
least_above (suc d) =
    let next : 10 + suc d ≡ suc (10 + d) = omega arith in
    let below : least 10 ≤ least (10 + d) = least_above d in
    let insertion : least (10 + suc d) ≡ 8 * least (10 + d) = ap least next in
    omega arith

module _ {E M : Type 0} (family : Family E M) where
  mutual
    node_holds : (fewest height : ℕ) (lower upper : Option (List ℕ)) (t : Part E M) → min_fill ≤ fewest → IsNode family fewest height lower upper t
        → least height ≤ length (entries t)
    node_holds fewest height lower upper (stub d) few n = absurd n
    node_holds fewest height lower upper (leaf es) few n = let zero_is : least height ≡ 8 = ap least n.0 in omega (arith, n.1)
    node_holds fewest height lower upper (inner ss ps) few n =
        let eight : 8 * least (height - 1) ≤ count ps * least (height - 1) = mul-le-mul_right (least (height - 1)) (omega (arith, n.1)) in
        let all : count ps * least (height - 1) ≤ length (entries_in ps) = nodes_hold (height - 1) lower upper ss ps n.3 in
        omega (arith, least_next height n.0)

    nodes_hold : (height : ℕ) (lower upper : Option (List ℕ)) (ss : List (List ℕ)) (ps : Parts E M) → AreNodes family height lower upper ss ps
        → count ps * least height ≤ length (entries_in ps)
    nodes_hold height lower upper ss none n = absurd n
    nodes_hold height lower upper [] (more m p none) n =
        let here : least height ≤ length (entries p) = node_holds min_fill height lower upper p (omega arith) n.1 in
        omega (arith, length-append (entries p) [])
    nodes_hold height lower upper [] (more m p (more o q ps)) n = absurd n
    nodes_hold height lower upper (s ∷ ss) (more m p ps) n =
        let here : least height ≤ length (entries p) = node_holds min_fill height lower (Some s) p (omega arith) n.2 in
        let rest : count ps * least height ≤ length (entries_in ps) = nodes_hold height (Some s) upper ss ps n.3 in
        omega (arith, length-append (entries p) (entries_in ps))

  mutual
    pub node_levels : (fewest height : ℕ) (lower upper : Option (List ℕ)) (t : Part E M) → IsNode family fewest height lower upper t → levels t ≡ height + 1
    node_levels fewest height lower upper (stub d) n = absurd n
    node_levels fewest height lower upper (leaf es) n = omega (arith, n.0)
    node_levels fewest height lower upper (inner ss ps) n =
        let below : levels_in ps ≡ height - 1 + 1 = nodes_levels (height - 1) lower upper ss ps n.3 in
        omega (arith, n.0)

    nodes_levels : (height : ℕ) (lower upper : Option (List ℕ)) (ss : List (List ℕ)) (ps : Parts E M) → AreNodes family height lower upper ss ps
        → levels_in ps ≡ height + 1
    nodes_levels height lower upper ss none n = absurd n
    nodes_levels height lower upper [] (more m p none) n = let here : levels p ≡ height + 1 = node_levels min_fill height lower upper p n.1 in omega arith
    nodes_levels height lower upper [] (more m p (more o q ps)) n = absurd n
    nodes_levels height lower upper (s ∷ ss) (more m p ps) n =
        let here : levels p ≡ height + 1 = node_levels min_fill height lower (Some s) p n.2 in
        let rest : levels_in ps ≡ height + 1 = nodes_levels height (Some s) upper ss ps n.3 in
        omega arith

  pub root_low : (fewest height : ℕ) (lower upper : Option (List ℕ)) (t : Part E M) → fewest_in_root family t ≤ fewest → IsNode family fewest height lower upper t
      → length (entries t) < 2 ^ 32 → height ≤ 10
  root_low fewest height lower upper (stub d) few n lt = absurd n
  root_low fewest height lower upper (leaf es) few n lt = omega (arith, n.0)
  root_low fewest height lower upper (inner ss ps) few n lt = elim (cases_lt 10 height) [
    | inl high ↦ absurd (too_many high)
    | inr low ↦ low
  ]
    where
      too_many : 10 < height → ⊥
      too_many high =
          let two_or_more : 2 * least (height - 1) ≤ count ps * least (height - 1) = mul-le-mul_right (least (height - 1)) (omega (arith, n.1)) in
          let all : count ps * least (height - 1) ≤ length (entries_in ps) = nodes_hold (height - 1) lower upper ss ps n.3 in
          let from_ten : height - 1 ≡ 10 + (height - 11) = omega arith in
          let many : least 10 ≤ least (height - 1) = subst (λ h. least 10 ≤ least h) (sym from_ten) (least_above (height - 11)) in
          let number : least 10 ≡ 8589934592 = refl in
          omega arith

cells_fit : (values : List Value) → AllByRecursion FitsValue values → AllByRecursion FitsCell (whole_cells values)
cells_fit [] all = tt
cells_fit (v ∷ values) all = (all.0, cells_fit values all.1)

pub entry_fits : (row : Row) → FitsRow row → FitsEntry (whole_entry row)
entry_fits row fits =
    let few : length row.cells ≤ 31 = fits.cells.count in
    record {
      key = fits.key;
      row = (omega (arith, length-map row.cells Shown), All-from_recursion FitsCell (whole_cells row.cells) (cells_fit row.cells (recursion_from_All FitsValue row.cells fits.cells.each)));
    }

each_entry_fits : (rows : List Row) → AllByRecursion FitsRow rows → AllByRecursion FitsEntry (map whole_entry rows)
each_entry_fits [] all = tt
each_entry_fits (row ∷ rows) all = (entry_fits row all.0, each_entry_fits rows all.1)

-- A whole tree of rows that fit, with separators that fit, is within the limits of a tree.
pub whole_fits : (t : RowTree) (rows : List Row) → Represents t rows → Separated t → AllByRecursion FitsRow rows → length rows < 2 ^ 32 → FitsTree t
whole_fits t rows stands separated fits few =
    let same : length (entries t) ≡ length rows = ap length stands.rows_are ∙ length-map rows whole_entry in
    let low : stands.tree.height ≤ 10 = root_low row_family (fewest_in_root row_family t) stands.tree.height None None t (omega arith) stands.tree.shape (omega arith) in
    record {
      nodes = node_fits (fewest_in_root row_family t) stands.tree.height None None t (omega arith) stands.tree.shape separated
          (subst (AllByRecursion FitsEntry) (sym stands.rows_are) (each_entry_fits rows fits));
      depth = omega (arith, node_levels row_family (fewest_in_root row_family t) stands.tree.height None None t stands.tree.shape);
    }
