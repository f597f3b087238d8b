-- The steps of the machine: what comes of the new state is what came of the old one with the token in front.
use Rattle.std.proofs.Common.{◌≡◌, ℕ, suc, ◌+◌, ◌-◌, ◌<◌, ◌≤◌, Bool, List, [], ◌∷◌, ◌++◌, length, get_or, Option, Some, None, Result, Ok, Err, refl, sym, ap, ◌∙◌, arith}
use Rattle.std.specs.Prelude.{IfOk, reverse, remove}
use Rattle.std.specs.declared.alloc.AllocError.{AllocError}
use Rattle.sha2.specs.Sha256.{sha256}
use Rattle.tree_stream.specs.declared.target.Target.{Target}
use Rattle.vo_spec.specs.declared.cells.Cell.{Cell as CellPart}
use Rattle.vo_spec.specs.Bytes.{string}
use Rattle.vo_spec.specs.Cells.{cell_digest}
use Rattle.vo_spec.specs.Fits.{max_cells, max_fill, FitsCell}
use Rattle.vo_spec.specs.Tables.{max_key}
use Rattle.vo_spec.specs.TreeBytes.{cell_form}
use Rattle.vo_spec.specs.Pruning.{has_column}
use Rattle.batch_format.specs.BatchReading.{Reader}
use Rattle.tree_stream.specs.declared.findings.Findings.{Findings}
use Rattle.tree_stream.specs.declared.findings.CellFindings.{CellFindings}
use Rattle.tree_stream.specs.declared.findings.Summary.{Summary}
use Rattle.tree_stream.specs.declared.state.State.{State}
use Rattle.tree_stream.specs.declared.state.State.TheVariants.{Node, Separator, Key, Row, Cell, Complete, Invalid}
use Rattle.tree_stream.specs.declared.state.InnerHead.{InnerHead}
use Rattle.tree_stream.specs.declared.state.InnerNode.{InnerNode}
use Rattle.tree_stream.specs.declared.state.OpenLeaf.{OpenLeaf}
use Rattle.tree_stream.specs.declared.state.OpenRow.{OpenRow}
use Rattle.tree_stream.specs.declared.context.Context.{Context}
use Rattle.tree_stream.specs.Findings.{combine, combine_cells, columns_at, fits_kind, cell_findings, row_head_findings, closed_row_findings, entry_findings_by, stub_findings, open_node_findings, visits_child}
use Rattle.tree_stream.specs.Remaining.{with_findings, nothing_more, summary_at, rest_of_leaf, rest_of_children, rest_of_inner, rest_of_row, rest_of_cells, lower_separator, rest_of_node}
use Rattle.tree_stream.specs.Summaries.{levels_below, summary_after, summary_with, summary_by, summary_from, Yields}
use Rattle.tree_stream.proofs.Remainders.{found_with, nothing_with, same_with}
use Rattle.tree_stream.proofs.NodeLaws.{stub_begins, leaf_begins, inner_begins, separator_taken, separators_end}
use Rattle.tree_stream.proofs.LeafLaws.{leaf_end, key_taken, closed_row_taken, open_row_taken, cells_end, cell_taken}
use Rattle.tree_stream.proofs.AncestorLaws as ancestor

-- States.

pub yields_then : (context : Context) (state : State) (f g : Reader Summary) → Yields context state f → ((rest : List ℕ) → f rest ≡ g rest) → Yields context state g
yields_then context state f g yields same = record { each = λ rest. yields.each rest ∙ same rest }

pub ok_then : (context : Context) (r : Result State AllocError) (f g : Reader Summary) → IfOk r (λ state. Yields context state f) → ((rest : List ℕ) → f rest ≡ g rest) → IfOk r (λ state. Yields context state g)
ok_then context (Ok state) f g yields same = yields_then context state f g yields same
ok_then context (Err e) f g yields same = tt

pub yields_invalid : (context : Context) (f : Reader Summary) → ((rest : List ℕ) → f rest ≡ None) → Yields context Invalid f
unfolding summary_from summary_with rest_of_node
yields_invalid context f none = record { each = λ rest. sym (none rest) }

pub yields_node : (context : Context) (visited : Bool) → Yields context (Node visited) (summary_by context (summary_at context.target (levels_below context.ancestors.items) visited))
unfolding summary_from summary_with rest_of_node
yields_node context visited = record { each = λ rest. refl }

pub yields_separator : (context : Context) (head : InnerHead) (left : ℕ) → suc head.left ≡ left
    → Yields context (Separator head) (summary_by context (rest_of_inner context.target (levels_below context.ancestors.items - 1) head.visited head.hasher head.child_visits.items
    (lower_separator head.has_lower context.last_key.items) left))
unfolding summary_from summary_with rest_of_node
yields_separator context head left e = record {
  each = λ rest. ap (λ (n : ℕ). summary_by context (rest_of_inner context.target (levels_below context.ancestors.items - 1) head.visited head.hasher head.child_visits.items
      (lower_separator head.has_lower context.last_key.items) n) rest) e;
}

pub yields_key : (context : Context) (leaf : OpenLeaf) (left : ℕ) → suc leaf.left ≡ left → Yields context (Key leaf) (summary_by context (rest_of_leaf context.target leaf.hasher left))
unfolding summary_from summary_with rest_of_node
yields_key context leaf left e = record { each = λ rest. ap (λ (n : ℕ). summary_by context (rest_of_leaf context.target leaf.hasher n) rest) e }

pub yields_row : (context : Context) (leaf : OpenLeaf) → Yields context (Row leaf) (summary_by context (rest_of_row context.target leaf.hasher context.last_key.items leaf.left))
unfolding summary_from summary_with rest_of_node
yields_row context leaf = record { each = λ rest. refl }

pub yields_cell : (context : Context) (row : OpenRow) (left : ℕ) → suc row.left ≡ left
    → Yields context (Cell row) (summary_by context (rest_of_cells context.target row.leaf.hasher context.last_key.items row.leaf.left row.hasher row.column row.findings left))
unfolding summary_from summary_with rest_of_node
yields_cell context row left e = record {
  each = λ rest. ap (λ (n : ℕ). summary_by context (rest_of_cells context.target row.leaf.hasher context.last_key.items row.leaf.left row.hasher row.column row.findings n) rest) e;
}

-- the token is these bytes
pub yields_token : (context : Context) (state : State) (f : Reader Summary) (token bytes : List ℕ) → token ≡ bytes → Yields context state (λ rest. f (bytes ++ rest)) → Yields context state (λ rest. f (token ++ rest))
yields_token context state f token bytes is yields = record { each = λ rest. yields.each rest ∙ ap (λ (t : List ℕ). f (t ++ rest)) (sym is) }

pub ok_token : (context : Context) (r : Result State AllocError) (f : Reader Summary) (token bytes : List ℕ) → token ≡ bytes → IfOk r (λ state. Yields context state (λ rest. f (bytes ++ rest))) → IfOk r (λ state. Yields context state (λ rest. f (token ++ rest)))
ok_token context (Ok state) f token bytes is yields = yields_token context state f token bytes is yields
ok_token context (Err e) f token bytes is yields = tt

-- Ancestors.

no_items : {A : Type 0} (xs : List A) → length xs ≤ 0 → xs ≡ []
no_items [] le = refl
no_items (x ∷ xs) le = absurd (omega (arith, le))

pub no_children : (target : Target) (levels : ℕ) (hashed : List ℕ) (visits : List Bool) (rest : List ℕ) → 0 < length visits → levels ≡ 0 → rest_of_children target levels hashed visits rest ≡ None
no_children target levels hashed [] rest some e = absurd (omega (arith, some))
no_children target levels hashed (visited ∷ visits) rest some e = ancestor.no_child target hashed visited visits levels rest e

next_visit : (target : Target) (ancestors : List InnerNode) (found : Findings) (hashed : List ℕ) (visits : List Bool) (visited : Bool) (kept : InnerNode) (rest : List ℕ)
    → 0 < length visits → visited ≡ get_or visits 0 visited → kept.hasher ≡ hashed → kept.child_visits.items ≡ remove visits 0
    → summary_with target (ancestors ++ kept ∷ []) found (summary_at target (levels_below (ancestors ++ kept ∷ [])) visited) rest
    ≡ summary_with target ancestors found (rest_of_children target (levels_below ancestors - 1) hashed visits) rest
next_visit target ancestors found hashed [] visited kept rest some first is_hashed others = absurd (omega (arith, some))
next_visit target ancestors found hashed (v ∷ vs) visited kept rest some first is_hashed others =
    ap (λ (w : Bool). summary_with target (ancestors ++ kept ∷ []) found (summary_at target (levels_below (ancestors ++ kept ∷ [])) w) rest) first
    ∙ sym (ancestor.next_child target ancestors found hashed v vs kept rest is_hashed others)

pub child_step : (context new : Context) (node kept : InnerNode) (visited : Bool) → 0 < length node.child_visits.items → visited ≡ get_or node.child_visits.items 0 visited
    → kept.hasher ≡ node.hasher → kept.child_visits.items ≡ remove node.child_visits.items 0
    → new.target ≡ context.target → new.findings ≡ context.findings → new.ancestors.items ≡ context.ancestors.items ++ kept ∷ []
    → Yields new (Node visited) (summary_by context (rest_of_children context.target (levels_below context.ancestors.items - 1) node.hasher node.child_visits.items))
child_step context new node kept visited some first is_hashed others is_need is_found pushed = record {
  each = λ rest.
      (yields_node new visited).each rest
      ∙ ap (λ (nodes : List InnerNode). summary_with new.target nodes new.findings (summary_at new.target (levels_below nodes) visited) rest) pushed
      ∙ ap (λ (target : Target). summary_with target (context.ancestors.items ++ kept ∷ []) new.findings (summary_at target (levels_below (context.ancestors.items ++ kept ∷ [])) visited) rest) is_need
      ∙ ap (λ (found : Findings). summary_with context.target (context.ancestors.items ++ kept ∷ []) found (summary_at context.target (levels_below (context.ancestors.items ++ kept ∷ [])) visited) rest) is_found
      ∙ next_visit context.target context.ancestors.items context.findings node.hasher node.child_visits.items visited kept rest some first is_hashed others;
}

pub root_step : (context new : Context) (d : List ℕ) → length context.ancestors.items ≤ 0 → new.target ≡ context.target → new.findings ≡ context.findings
    → Yields new (Complete d) (summary_after context.target (reverse context.ancestors.items) d context.findings)
unfolding summary_from
root_step context new d none is_need is_found = record {
  each = λ rest.
      ap (λ (target : Target). summary_after target [] d new.findings rest) is_need
      ∙ ap (λ (found : Findings). summary_after context.target [] d found rest) is_found
      ∙ ap (λ (nodes : List InnerNode). summary_after context.target (reverse nodes) d context.findings rest) (sym (no_items context.ancestors.items none));
}

-- a node whose last child ended
pub up_step : (target : Target) (old ancestors : List InnerNode) (node : InnerNode) (d above : List ℕ) (found : Findings) (rest : List ℕ) → old ≡ ancestors ++ node ∷ [] → length node.child_visits.items ≤ 0
    → above ≡ sha256 (node.hasher ++ d) → summary_after target (reverse ancestors) above found rest ≡ summary_after target (reverse old) d found rest
up_step target old ancestors node d above found rest is none hashed =
    let read : List Bool → List ℕ → Option (Summary × List ℕ) = λ visits. rest_of_children target (levels_below ancestors - 1) (node.hasher ++ d) visits in
    ap (λ (t : List ℕ). summary_after target (reverse ancestors) t found rest) hashed
    ∙ sym (nothing_with target ancestors found (sha256 (node.hasher ++ d)) rest)
    ∙ sym (same_with target ancestors found (read []) (nothing_more (sha256 (node.hasher ++ d))) rest rest (ancestor.children_end target (levels_below ancestors - 1) (node.hasher ++ d) rest))
    ∙ ap (λ (visits : List Bool). summary_with target ancestors found (read visits) rest) (sym (no_items node.child_visits.items none))
    ∙ sym (ancestor.after_child target ancestors node d found rest)
    ∙ ap (λ (nodes : List InnerNode). summary_after target (reverse nodes) d found rest) (sym is)

-- a node that has more children
pub over_step : (target : Target) (old ancestors : List InnerNode) (node : InnerNode) (d hashed : List ℕ) (found : Findings) (rest : List ℕ) → old ≡ ancestors ++ node ∷ [] → hashed ≡ node.hasher ++ d
    → summary_with target ancestors found (rest_of_children target (levels_below ancestors - 1) hashed node.child_visits.items) rest ≡ summary_after target (reverse old) d found rest
over_step target old ancestors node d hashed found rest is is_hashed =
    ap (λ (h : List ℕ). summary_with target ancestors found (rest_of_children target (levels_below ancestors - 1) h node.child_visits.items) rest) is_hashed
    ∙ sym (ancestor.after_child target ancestors node d found rest)
    ∙ ap (λ (nodes : List InnerNode). summary_after target (reverse nodes) d found rest) (sym is)

-- Nodes.

pub room : (ancestors : List InnerNode) → length ancestors ≤ 10 → levels_below ancestors ≡ suc (levels_below ancestors - 1)
room ancestors few = omega (arith, few)

pub stub_step : (target : Target) (ancestors : List InnerNode) (found sum : Findings) (visited : Bool) (d rest : List ℕ) → length ancestors ≤ 10 → length d ≡ 32 → sum ≡ combine found (stub_findings visited)
    → summary_after target (reverse ancestors) d sum rest ≡ summary_with target ancestors found (summary_at target (levels_below ancestors) visited) (0 ∷ d ++ rest)
stub_step target ancestors found sum visited d rest few len is =
    ap (λ (f : Findings). summary_after target (reverse ancestors) d f rest) is
    ∙ sym (nothing_with target ancestors (combine found (stub_findings visited)) d rest)
    ∙ sym (found_with target ancestors found (stub_findings visited) (nothing_more d) rest)
    ∙ sym (same_with target ancestors found (summary_at target (suc (levels_below ancestors - 1)) visited) (with_findings (stub_findings visited) (nothing_more d)) (0 ∷ d ++ rest) rest (stub_begins target (levels_below ancestors - 1) visited d rest len))
    ∙ ap (λ (n : ℕ). summary_with target ancestors found (summary_at target n visited) (0 ∷ d ++ rest)) (sym (room ancestors few))

pub leaf_step : (target : Target) (ancestors : List InnerNode) (found sum : Findings) (visited : Bool) (n : ℕ) (hashed rest : List ℕ) → length ancestors ≤ 10 → n ≤ max_fill → sum ≡ combine found (open_node_findings visited)
    → hashed ≡ 3 ∷ n ∷ []
    → summary_with target ancestors sum (rest_of_leaf target hashed n) rest ≡ summary_with target ancestors found (summary_at target (levels_below ancestors) visited) (1 ∷ n ∷ rest)
leaf_step target ancestors found sum visited n hashed rest room_left few is is_hashed =
    ap (λ (f : Findings). summary_with target ancestors f (rest_of_leaf target hashed n) rest) is
    ∙ ap (λ (h : List ℕ). summary_with target ancestors (combine found (open_node_findings visited)) (rest_of_leaf target h n) rest) is_hashed
    ∙ sym (found_with target ancestors found (open_node_findings visited) (rest_of_leaf target (3 ∷ n ∷ []) n) rest)
    ∙ sym (same_with target ancestors found (summary_at target (suc (levels_below ancestors - 1)) visited) (with_findings (open_node_findings visited) (rest_of_leaf target (3 ∷ n ∷ []) n)) (1 ∷ n ∷ rest) rest (leaf_begins target (levels_below ancestors - 1) visited n rest few))
    ∙ ap (λ (k : ℕ). summary_with target ancestors found (summary_at target k visited) (1 ∷ n ∷ rest)) (sym (room ancestors room_left))

pub inner_step : (target : Target) (ancestors : List InnerNode) (found sum : Findings) (visited : Bool) (n : ℕ) (hashed : List ℕ) (visits : List Bool) (rest : List ℕ) → length ancestors ≤ 10 → 2 ≤ n → n ≤ max_fill
    → sum ≡ combine found (open_node_findings visited) → hashed ≡ 4 ∷ n ∷ [] → visits ≡ []
    → summary_with target ancestors sum (rest_of_inner target (levels_below ancestors - 1) visited hashed visits None (n - 1)) rest
    ≡ summary_with target ancestors found (summary_at target (levels_below ancestors) visited) (2 ∷ n ∷ rest)
inner_step target ancestors found sum visited n hashed visits rest room_left least few is is_hashed no_visits =
    let l : ℕ = levels_below ancestors - 1 in
    let f : Findings = open_node_findings visited in
    ap (λ (g : Findings). summary_with target ancestors g (rest_of_inner target l visited hashed visits None (n - 1)) rest) is
    ∙ ap (λ (h : List ℕ). summary_with target ancestors (combine found f) (rest_of_inner target l visited h visits None (n - 1)) rest) is_hashed
    ∙ ap (λ (vs : List Bool). summary_with target ancestors (combine found f) (rest_of_inner target l visited (4 ∷ n ∷ []) vs None (n - 1)) rest) no_visits
    ∙ sym (found_with target ancestors found f (rest_of_inner target l visited (4 ∷ n ∷ []) [] None (n - 1)) rest)
    ∙ sym (same_with target ancestors found (summary_at target (suc l) visited) (with_findings f (rest_of_inner target l visited (4 ∷ n ∷ []) [] None (n - 1))) (2 ∷ n ∷ rest) rest (inner_begins target l visited n rest least few))
    ∙ ap (λ (k : ℕ). summary_with target ancestors found (summary_at target k visited) (2 ∷ n ∷ rest)) (sym (room ancestors room_left))

-- Separators.

pub children_begin : (target : Target) (levels : ℕ) (visited : Bool) (hashed : List ℕ) (visits pushed : List Bool) (visit : Bool) (lower : Option (List ℕ)) (left : ℕ) (rest : List ℕ)
    → pushed ≡ visits ++ visit ∷ [] → visit ≡ visits_child target visited lower None → left ≤ 0
    → rest_of_children target levels hashed pushed rest ≡ rest_of_inner target levels visited hashed visits lower left rest
children_begin target levels visited hashed visits pushed visit lower left rest is_pushed is_visit none =
    let zero_left : left ≡ 0 = omega (arith, none) in
    ap (λ (vs : List Bool). rest_of_children target levels hashed vs rest) (is_pushed ∙ ap (λ (v : Bool). visits ++ v ∷ []) is_visit)
    ∙ sym (separators_end target levels visited hashed visits lower rest)
    ∙ ap (λ (n : ℕ). rest_of_inner target levels visited hashed visits lower n rest) (sym zero_left)

pub separator_step : (target : Target) (levels : ℕ) (visited : Bool) (hashed sum : List ℕ) (visits pushed : List Bool) (visit : Bool) (lower : Option (List ℕ)) (left : ℕ) (token key last rest : List ℕ)
    → token ≡ string key → length key ≤ max_key → sum ≡ hashed ++ token → pushed ≡ visits ++ visit ∷ [] → visit ≡ visits_child target visited lower (Some key) → last ≡ key
    → rest_of_inner target levels visited sum pushed (Some last) left rest ≡ rest_of_inner target levels visited hashed visits lower (suc left) (token ++ rest)
separator_step target levels visited hashed sum visits pushed visit lower left token key last rest is short is_sum is_pushed is_visit is_last =
    ap (λ (h : List ℕ). rest_of_inner target levels visited h pushed (Some last) left rest) (is_sum ∙ ap (λ (t : List ℕ). hashed ++ t) is)
    ∙ ap (λ (vs : List Bool). rest_of_inner target levels visited (hashed ++ string key) vs (Some last) left rest) (is_pushed ∙ ap (λ (v : Bool). visits ++ v ∷ []) is_visit)
    ∙ ap (λ (k : List ℕ). rest_of_inner target levels visited (hashed ++ string key) (visits ++ visits_child target visited lower (Some key) ∷ []) (Some k) left rest) is_last
    ∙ sym (separator_taken target levels visited hashed visits lower left key rest short)
    ∙ ap (λ (t : List ℕ). rest_of_inner target levels visited hashed visits lower (suc left) (t ++ rest)) (sym is)

-- Leaves.

pub leaf_done : (target : Target) (ancestors : List InnerNode) (found : Findings) (hashed d : List ℕ) (left : ℕ) (rest : List ℕ) → left ≡ 0 → d ≡ sha256 hashed
    → summary_after target (reverse ancestors) d found rest ≡ summary_with target ancestors found (rest_of_leaf target hashed left) rest
leaf_done target ancestors found hashed d left rest none is =
    ap (λ (t : List ℕ). summary_after target (reverse ancestors) t found rest) is
    ∙ sym (nothing_with target ancestors found (sha256 hashed) rest)
    ∙ sym (same_with target ancestors found (rest_of_leaf target hashed 0) (nothing_more (sha256 hashed)) rest rest (leaf_end target hashed rest))
    ∙ ap (λ (n : ℕ). summary_with target ancestors found (rest_of_leaf target hashed n) rest) (sym none)

pub key_step : (target : Target) (hashed sum : List ℕ) (left : ℕ) (token key last rest : List ℕ) → token ≡ string key → length key ≤ max_key → sum ≡ hashed ++ token → last ≡ key
    → rest_of_row target sum last left rest ≡ rest_of_leaf target hashed (suc left) (token ++ rest)
key_step target hashed sum left token key last rest is short is_sum is_last =
    ap (λ (h : List ℕ). rest_of_row target h last left rest) (is_sum ∙ ap (λ (t : List ℕ). hashed ++ t) is)
    ∙ ap (λ (k : List ℕ). rest_of_row target (hashed ++ string key) k left rest) is_last
    ∙ sym (key_taken target hashed left key rest short)
    ∙ ap (λ (t : List ℕ). rest_of_leaf target hashed (suc left) (t ++ rest)) (sym is)

pub row_done : (target : Target) (ancestors : List InnerNode) (found sum f : Findings) (hashed all : List ℕ) (left : ℕ) (rest : List ℕ) → sum ≡ combine found f → all ≡ hashed
    → summary_with target ancestors sum (rest_of_leaf target all left) rest ≡ summary_with target ancestors found (with_findings f (rest_of_leaf target hashed left)) rest
row_done target ancestors found sum f hashed all left rest is is_all =
    ap (λ (g : Findings). summary_with target ancestors g (rest_of_leaf target all left) rest) is
    ∙ ap (λ (h : List ℕ). summary_with target ancestors (combine found f) (rest_of_leaf target h left) rest) is_all
    ∙ sym (found_with target ancestors found f (rest_of_leaf target hashed left) rest)

pub closed_step : (target : Target) (hashed key : List ℕ) (left : ℕ) (d : List ℕ) (f : CellFindings) (rest : List ℕ) → length d ≡ 32 → f ≡ closed_row_findings (columns_at target key)
    → with_findings (entry_findings_by target key f) (rest_of_leaf target (hashed ++ d) left) rest ≡ rest_of_row target hashed key left (0 ∷ d ++ rest)
closed_step target hashed key left d f rest len is =
    ap (λ (g : CellFindings). with_findings (entry_findings_by target key g) (rest_of_leaf target (hashed ++ d) left) rest) is
    ∙ sym (closed_row_taken target hashed key left d rest len)

pub open_step : (target : Target) (hashed key : List ℕ) (left n : ℕ) (row_hashed : List ℕ) (f : CellFindings) (rest : List ℕ) → n ≤ max_cells → row_hashed ≡ 2 ∷ n ∷ [] → f ≡ row_head_findings target.cell_kinds (columns_at target key) n
    → rest_of_cells target hashed key left row_hashed 0 f n rest ≡ rest_of_row target hashed key left (1 ∷ n ∷ rest)
open_step target hashed key left n row_hashed f rest few is_hashed is =
    ap (λ (h : List ℕ). rest_of_cells target hashed key left h 0 f n rest) is_hashed
    ∙ ap (λ (g : CellFindings). rest_of_cells target hashed key left (2 ∷ n ∷ []) 0 g n rest) is
    ∙ sym (open_row_taken target hashed key left n rest few)

pub cells_done : (target : Target) (hashed key : List ℕ) (left : ℕ) (row_hashed d : List ℕ) (column : ℕ) (f : CellFindings) (cells_left : ℕ) (rest : List ℕ) → cells_left ≡ 0 → d ≡ sha256 row_hashed
    → with_findings (entry_findings_by target key f) (rest_of_leaf target (hashed ++ d) left) rest ≡ rest_of_cells target hashed key left row_hashed column f cells_left rest
cells_done target hashed key left row_hashed d column f cells_left rest none is =
    ap (λ (t : List ℕ). with_findings (entry_findings_by target key f) (rest_of_leaf target (hashed ++ t) left) rest) is
    ∙ sym (cells_end target hashed key left row_hashed column f rest)
    ∙ ap (λ (n : ℕ). rest_of_cells target hashed key left row_hashed column f n rest) (sym none)

pub cell_step : (target : Target) (hashed key : List ℕ) (left : ℕ) (row_hashed sum : List ℕ) (column : ℕ) (f g : CellFindings) (is_named fits_kinds : Bool) (cells_left : ℕ) (cell : CellPart) (token rest : List ℕ)
    → token ≡ cell_form cell → FitsCell cell → sum ≡ row_hashed ++ cell_digest column cell → is_named ≡ has_column (columns_at target key) column → fits_kinds ≡ fits_kind target.cell_kinds column cell
    → g ≡ combine_cells f (cell_findings is_named fits_kinds cell)
    → rest_of_cells target hashed key left sum (column + 1) g cells_left rest ≡ rest_of_cells target hashed key left row_hashed column f (suc cells_left) (token ++ rest)
cell_step target hashed key left row_hashed sum column f g is_named fits_kinds cells_left cell token rest is fits is_sum named is_of_kind is_found =
    ap (λ (h : List ℕ). rest_of_cells target hashed key left h (column + 1) g cells_left rest) is_sum
    ∙ ap (λ (x : CellFindings). rest_of_cells target hashed key left (row_hashed ++ cell_digest column cell) (column + 1) x cells_left rest)
    (is_found
    ∙ ap (λ (b : Bool). combine_cells f (cell_findings b fits_kinds cell)) named
    ∙ ap (λ (b : Bool). combine_cells f (cell_findings (has_column (columns_at target key) column) b cell)) is_of_kind)
    ∙ sym (cell_taken target hashed key left row_hashed column f cells_left cell rest fits)
    ∙ ap (λ (t : List ℕ). rest_of_cells target hashed key left row_hashed column f (suc cells_left) (t ++ rest)) (sym is)
