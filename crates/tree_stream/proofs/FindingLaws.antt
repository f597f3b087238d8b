-- What is found in a tree says whether it is missing something, or has a surplus, as the proof for the need.
use Rattle.std.proofs.Common.{◌≡◌, ℕ, zero, suc, ◌+◌, ◌<◌, ◌≤◌, Bool, true, false, ◌||◌, cond, eqb, leb, List, [], ◌∷◌, length, Option, Some, None, refl, sym, ap, ◌∙◌, append-nil, arith}
use Rattle.std.specs.Prelude.{not, flat_map, slice_get, is_none}
use Rattle.std.specs.List.{list_any}
use Rattle.std.proofs.lemmas.Bool.{ne_eqb, eq-eqb, le-leb, lt-leb}
use Rattle.std.proofs.Math.Dec.{leb-suc-suc}
use Rattle.tree_stream.specs.declared.target.CellKind.{CellKind}
use Rattle.vo_spec.specs.declared.needs.Need.{Need}
use Rattle.vo_spec.specs.declared.cells.Cell.{Cell}
use Rattle.vo_spec.specs.declared.cells.Cell.TheVariants.{Shown, Hidden}
use Rattle.vo_spec.specs.declared.cells.RowPart.{RowPart}
use Rattle.vo_spec.specs.declared.cells.RowPart.TheVariants.{Digest as Closed, Cells}
use Rattle.vo_spec.specs.declared.cells.PartEntry.{PartEntry}
use Rattle.vo_spec.specs.Cells.{shown_value}
use Rattle.vo_spec.specs.Fits.{FitsEntry, FitsPart, FitsEach}
use Rattle.vo_spec.specs.Parts.{stub, leaf, inner, none, more, count}
use Rattle.vo_spec.specs.Pruning.{Walk, is_missing_by, is_missing_in, has_surplus_by, has_surplus_in, descend, is_any, needed_columns, has_column, hides_any, shows_surplus, row_has_surplus, walk_for, is_missing, has_surplus}
use Rattle.vo_spec.specs.Scans.{in_interval, is_empty_interval}
use Rattle.vo_spec.specs.Trees.{RowTree, RowTrees}
use Rattle.tree_stream.specs.declared.target.Target.{Target}
use Rattle.tree_stream.specs.Findings.{columns_at, cells_findings, row_findings, entry_findings, entries_findings, visits_child, child_visits, tree_findings, children_findings}

-- Tests.

or_swap : (a b c d : Bool) → ((a || b) || (c || d)) ≡ ((a || c) || (b || d))
or_swap true b c d = refl
or_swap false true true d = refl
or_swap false true false d = refl
or_swap false false true d = refl
or_swap false false false d = refl

or_two : (a b c d : Bool) → a ≡ b → c ≡ d → (a || c) ≡ (b || d)
or_two a b c d e f = ap (λ (x : Bool). x || c) e ∙ ap (λ (x : Bool). b || x) f

-- The state of the walk for one need: whether its scan visits the node.

-- the need of a target
abbrev pub need_of : Target → Need
need_of target = record { interval = target.interval; columns = target.columns }

abbrev state : Target → Bool → List Need
state target visited = cond visited (need_of target ∷ []) []

state_any : (target : Target) (visited : Bool) → is_any (state target visited) ≡ visited
state_any target true = refl
state_any target false = refl

descend_is : (target : Target) (visited : Bool) (lower upper : Option (List ℕ)) → descend (state target visited) lower upper ≡ state target (visits_child target visited lower upper)
descend_is target true lower upper = refl
descend_is target false lower upper = refl

columns_by : (target : Target) (test : Bool) → flat_map (λ (n : Need). n.columns) (cond test (need_of target ∷ []) []) ≡ cond test target.columns []
columns_by target true = append-nil target.columns
columns_by target false = refl

columns_are : (target : Target) (key : List ℕ) → needed_columns (need_of target ∷ []) key ≡ columns_at target key
columns_are target key = columns_by target (in_interval target.interval key)

-- Cells that are hidden.

any_named : (named : List ℕ) → list_any (λ (c : ℕ). true) named ≡ is_any named
any_named [] = refl
any_named (c ∷ named) = refl

-- the cell of this column is hidden, where the first cell is that of the other
hides_at : ℕ → ℕ → List Cell → Bool
hides_at c column [] = false
hides_at c column (Hidden d ∷ cells) = eqb c column || hides_at c (column + 1) cells
hides_at c column (Shown v ∷ cells) = hides_at c (column + 1) cells

hides_before : (c column : ℕ) (cells : List Cell) → c < column → hides_at c column cells ≡ false
unfolding hides_at
hides_before c column [] lt = refl
hides_before c column (Hidden d ∷ cells) lt =
    or_two (eqb c column) false (hides_at c (column + 1) cells) false (ne_eqb c column (λ e. omega (arith, lt, e))) (hides_before c (column + 1) cells (omega (arith, lt)))
hides_before c column (Shown v ∷ cells) lt = hides_before c (column + 1) cells (omega (arith, lt))

-- past a first cell that isn't hidden at this column
lacks_later : (column i : ℕ) (cells : List Cell) → is_none (shown_value (slice_get cells i)) ≡ (leb (length cells) i || hides_at (column + 1 + i) (column + 1) cells)
    → is_none (shown_value (slice_get cells i)) ≡ (leb (suc (length cells)) (suc i) || hides_at (column + suc i) (column + 1) cells)
lacks_later column i cells is =
    let moved : column + 1 + i ≡ column + suc i = omega arith in
    is
    ∙ ap (λ (b : Bool). b || hides_at (column + 1 + i) (column + 1) cells) (sym (leb-suc-suc (length cells) i))
    ∙ ap (λ (c : ℕ). leb (suc (length cells)) (suc i) || hides_at c (column + 1) cells) moved

lacks_at : (column i : ℕ) (cells : List Cell) → is_none (shown_value (slice_get cells i)) ≡ (leb (length cells) i || hides_at (column + i) column cells)
unfolding hides_at
lacks_at column i [] = sym (ap (λ (b : Bool). b || hides_at (column + i) column []) (le-leb 0 i (omega arith)))
lacks_at column zero (Hidden d ∷ cells) =
    sym (ap (λ (b : Bool). b || (eqb (column + 0) column || hides_at (column + 0) (column + 1) cells)) (lt-leb (suc (length cells)) 0 (omega arith))
    ∙ ap (λ (b : Bool). b || hides_at (column + 0) (column + 1) cells) (eq-eqb (column + 0) column (omega arith)))
lacks_at column zero (Shown v ∷ cells) =
    sym (ap (λ (b : Bool). b || hides_at (column + 0) (column + 1) cells) (lt-leb (suc (length cells)) 0 (omega arith))
    ∙ hides_before (column + 0) (column + 1) cells (omega arith))
lacks_at column (suc i) (Hidden d ∷ cells) =
    lacks_later column i cells (lacks_at (column + 1) i cells)
    ∙ ap (λ (b : Bool). leb (suc (length cells)) (suc i) || (b || hides_at (column + suc i) (column + 1) cells)) (sym (ne_eqb (column + suc i) column (λ e. omega (arith, e))))
lacks_at column (suc i) (Shown v ∷ cells) = lacks_later column i cells (lacks_at (column + 1) i cells)

-- with one more column named
hides_more : (kinds : List CellKind) (c : ℕ) (named : List ℕ) (column : ℕ) (cells : List Cell)
    → (cells_findings kinds (c ∷ named) column cells).is_missing ≡ (hides_at c column cells || (cells_findings kinds named column cells).is_missing)
unfolding hides_at
hides_more kinds c named column [] = refl
hides_more kinds c named column (Hidden d ∷ cells) =
    ap (λ (b : Bool). (eqb c column || has_column named column) || b) (hides_more kinds c named (column + 1) cells)
    ∙ or_swap (eqb c column) (has_column named column) (hides_at c (column + 1) cells) (cells_findings kinds named (column + 1) cells).is_missing
hides_more kinds c named column (Shown v ∷ cells) = hides_more kinds c named (column + 1) cells

hides_none : (kinds : List CellKind) (column : ℕ) (cells : List Cell) → (cells_findings kinds [] column cells).is_missing ≡ false
hides_none kinds column [] = refl
hides_none kinds column (Hidden d ∷ cells) = hides_none kinds (column + 1) cells
hides_none kinds column (Shown v ∷ cells) = hides_none kinds (column + 1) cells

row_missing : (kinds : List CellKind) (named : List ℕ) (row : RowPart) → hides_any named row ≡ (row_findings kinds named row).is_missing
row_missing kinds named (Closed d) = any_named named
row_missing kinds [] (Cells cells) = sym (hides_none kinds 0 cells)
row_missing kinds (c ∷ named) (Cells cells) =
    let at_zero : 0 + c ≡ c = omega arith in
    let first : is_none (shown_value (slice_get cells c)) ≡ (leb (length cells) c || hides_at c 0 cells) =
    lacks_at 0 c cells ∙ ap (λ (n : ℕ). leb (length cells) c || hides_at n 0 cells) at_zero in
    let beyond : Bool = list_any (λ column. leb (length cells) column) named in
    or_two (is_none (shown_value (slice_get cells c))) (leb (length cells) c || hides_at c 0 cells) (hides_any named (Cells cells)) (beyond || (cells_findings kinds named 0 cells).is_missing) first (row_missing kinds named (Cells cells))
    ∙ or_swap (leb (length cells) c) (hides_at c 0 cells) beyond (cells_findings kinds named 0 cells).is_missing
    ∙ ap (λ (b : Bool). (leb (length cells) c || beyond) || b) (sym (hides_more kinds c named 0 cells))

entries_missing : (target : Target) (es : List PartEntry) → list_any (walk_for (need_of target ∷ [])).lacks es ≡ (entries_findings target es).is_missing
entries_missing target [] = refl
entries_missing target (e ∷ es) =
    or_two (hides_any (needed_columns (need_of target ∷ []) e.key) e.row) (entry_findings target e).is_missing (list_any (walk_for (need_of target ∷ [])).lacks es) (entries_findings target es).is_missing
    (ap (λ (named : List ℕ). hides_any named e.row) (columns_are target e.key) ∙ row_missing target.cell_kinds (columns_at target e.key) e.row)
    (entries_missing target es)

-- Cells that are shown.

cells_surplus : (kinds : List CellKind) (named : List ℕ) (column : ℕ) (cells : List Cell) → shows_surplus named column cells ≡ (cells_findings kinds named column cells).has_surplus
cells_surplus kinds named column [] = refl
cells_surplus kinds named column (Hidden d ∷ cells) = cells_surplus kinds named (column + 1) cells
cells_surplus kinds named column (Shown v ∷ cells) = ap (λ (b : Bool). not (has_column named column) || b) (cells_surplus kinds named (column + 1) cells)

row_surplus : (kinds : List CellKind) (named : List ℕ) (row : RowPart) → row_has_surplus named row ≡ (row_findings kinds named row).has_surplus
row_surplus kinds named (Closed d) = refl
row_surplus kinds named (Cells cells) = ap (λ (b : Bool). not (is_any named) || b) (cells_surplus kinds named 0 cells)

entries_surplus : (target : Target) (es : List PartEntry) → list_any (walk_for (need_of target ∷ [])).exceeds es ≡ (entries_findings target es).has_surplus
entries_surplus target [] = refl
entries_surplus target (e ∷ es) =
    or_two (row_has_surplus (needed_columns (need_of target ∷ []) e.key) e.row) (entry_findings target e).has_surplus (list_any (walk_for (need_of target ∷ [])).exceeds es) (entries_findings target es).has_surplus
    (ap (λ (named : List ℕ). row_has_surplus named e.row) (columns_are target e.key) ∙ row_surplus target.cell_kinds (columns_at target e.key) e.row)
    (entries_surplus target es)

-- Nodes.

module _ (target : Target) where
  abbrev walk : Walk PartEntry (List Need)
  walk = walk_for (need_of target ∷ [])

  mutual
    tree_missing : (visited : Bool) (p : RowTree) → FitsPart p → is_missing_by walk (state target visited) p ≡ (tree_findings target visited p).is_missing
    tree_missing visited (stub d) fits = state_any target visited
    tree_missing visited (leaf es) fits = entries_missing target es
    tree_missing visited (inner ss ps) fits = children_missing visited None ss ps (omega (arith, fits.2)) fits.4

    children_missing : (visited : Bool) (lower : Option (List ℕ)) (ss : List (List ℕ)) (ps : RowTrees) → count ps ≤ length ss + 1 → FitsEach FitsEntry ps
        → is_missing_in walk (state target visited) lower ss ps ≡ (children_findings target (child_visits target visited lower ss) ps).is_missing
    children_missing visited lower ss none few fits = refl
    children_missing visited lower [] (more m p none) few fits =
        let v : Bool = visits_child target visited lower None in
        or_two (is_missing_by walk (descend (state target visited) lower None) p) (tree_findings target v p).is_missing false false
        (ap (λ (s : List Need). is_missing_by walk s p) (descend_is target visited lower None) ∙ tree_missing v p fits.0) refl
    children_missing visited lower [] (more m p (more n q qs)) few fits = absurd (omega (arith, few))
    children_missing visited lower (s ∷ ss) (more m p ps) few fits =
        let v : Bool = visits_child target visited lower (Some s) in
        or_two (is_missing_by walk (descend (state target visited) lower (Some s)) p) (tree_findings target v p).is_missing
        (is_missing_in walk (state target visited) (Some s) ss ps) (children_findings target (child_visits target visited (Some s) ss) ps).is_missing
        (ap (λ (t : List Need). is_missing_by walk t p) (descend_is target visited lower (Some s)) ∙ tree_missing v p fits.0)
        (children_missing visited (Some s) ss ps (omega (arith, few)) fits.1)

  mutual
    tree_surplus : (visited : Bool) (p : RowTree) → FitsPart p → has_surplus_by walk (state target visited) p ≡ (tree_findings target visited p).has_surplus
    tree_surplus visited (stub d) fits = refl
    tree_surplus visited (leaf es) fits =
        or_two (not (is_any (state target visited))) (not visited) (list_any walk.exceeds es) (entries_findings target es).has_surplus
        (ap not (state_any target visited)) (entries_surplus target es)
    tree_surplus visited (inner ss ps) fits =
        or_two (not (is_any (state target visited))) (not visited) (has_surplus_in walk (state target visited) None ss ps) (children_findings target (child_visits target visited None ss) ps).has_surplus
        (ap not (state_any target visited)) (children_surplus visited None ss ps (omega (arith, fits.2)) fits.4)

    children_surplus : (visited : Bool) (lower : Option (List ℕ)) (ss : List (List ℕ)) (ps : RowTrees) → count ps ≤ length ss + 1 → FitsEach FitsEntry ps
        → has_surplus_in walk (state target visited) lower ss ps ≡ (children_findings target (child_visits target visited lower ss) ps).has_surplus
    children_surplus visited lower ss none few fits = refl
    children_surplus visited lower [] (more m p none) few fits =
        let v : Bool = visits_child target visited lower None in
        or_two (has_surplus_by walk (descend (state target visited) lower None) p) (tree_findings target v p).has_surplus false false
        (ap (λ (s : List Need). has_surplus_by walk s p) (descend_is target visited lower None) ∙ tree_surplus v p fits.0) refl
    children_surplus visited lower [] (more m p (more n q qs)) few fits = absurd (omega (arith, few))
    children_surplus visited lower (s ∷ ss) (more m p ps) few fits =
        let v : Bool = visits_child target visited lower (Some s) in
        or_two (has_surplus_by walk (descend (state target visited) lower (Some s)) p) (tree_findings target v p).has_surplus
        (has_surplus_in walk (state target visited) (Some s) ss ps) (children_findings target (child_visits target visited (Some s) ss) ps).has_surplus
        (ap (λ (t : List Need). has_surplus_by walk t p) (descend_is target visited lower (Some s)) ∙ tree_surplus v p fits.0)
        (children_surplus visited (Some s) ss ps (omega (arith, few)) fits.1)

  pub missing_is : (p : RowTree) → FitsPart p → is_missing (need_of target ∷ []) p ≡ (tree_findings target (not (is_empty_interval target.interval)) p).is_missing
  missing_is p fits = tree_missing (not (is_empty_interval target.interval)) p fits

  pub surplus_is : (p : RowTree) → FitsPart p → has_surplus (need_of target ∷ []) p ≡ (tree_findings target (not (is_empty_interval target.interval)) p).has_surplus
  surplus_is p fits = tree_surplus (not (is_empty_interval target.interval)) p fits
