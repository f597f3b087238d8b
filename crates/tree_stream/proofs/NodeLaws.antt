-- A node that begins with a token: what is left of it then; and the separators of an inner node.
use Rattle.std.proofs.Common.{◌≡◌, ℕ, suc, ◌-◌, ◌≤◌, Bool, List, [], ◌∷◌, ◌++◌, length, flat_map, Option, Some, None, refl, sym, ap, ◌∙◌, append_assoc, append-nil, arith}
use Rattle.sha2.specs.Sha256.{sha256}
use Rattle.tree_stream.specs.declared.target.Target.{Target}
use Rattle.vo_spec.specs.declared.cells.PartEntry.{PartEntry}
use Rattle.vo_spec.specs.Bytes.{string}
use Rattle.vo_spec.specs.Cells.{entry_bytes}
use Rattle.vo_spec.specs.Fits.{max_fill}
use Rattle.vo_spec.specs.Tables.{max_key}
use Rattle.vo_spec.specs.Parts.{stub, leaf, count, child_bytes}
use Rattle.vo_spec.specs.Trees.{RowTree, digest, open_parts, row_family}
use Rattle.row_bytes.specs.Fields.{◌>>=◌, times}
use Rattle.batch_format.specs.BatchReading.{Reader, one, two}
use Rattle.batch_format.specs.TreeReading.{key_at, entry_at, leaf_at, inner_at, inner_node, node_at, tree_at}
use Rattle.batch_format.proofs.KeyLaws.{bytes_read, counts_read, keys_read}
use Rattle.batch_format.proofs.TreeLaws.{count_open_parts}
use Rattle.tree_stream.specs.declared.findings.Findings.{Findings}
use Rattle.tree_stream.specs.declared.findings.Summary.{Summary}
use Rattle.tree_stream.specs.Findings.{combine, entries_findings, stub_findings, open_node_findings, visits_child, child_visits, children_findings}
use Rattle.tree_stream.specs.Remaining.{summary, with_findings, nothing_more, tree_summary, summary_at, leaf_summary, rest_of_leaf, children_summary, rest_of_children, rest_of_inner}
use Rattle.tree_stream.proofs.Sums.{combine_none}
use Rattle.tree_stream.proofs.Binds.{bind_assoc, bind_same, bind_at, bind_is, times_length}

abbrev End : Type 0
End = Summary × List ℕ

abbrev found_before : Findings → End → Option End
found_before f end = Some (summary end.0.digest (combine f end.0.findings), end.1)

abbrev of_tree : Target → Bool → RowTree × List ℕ → Option End
of_tree target visited p = Some (tree_summary target visited p.0, p.1)

pub stub_begins : (target : Target) (levels : ℕ) (visited : Bool) (d rest : List ℕ) → length d ≡ 32
    → summary_at target (suc levels) visited (0 ∷ d ++ rest) ≡ with_findings (stub_findings visited) (nothing_more d) rest
unfolding summary_at tree_at node_at with_findings
stub_begins target levels visited d rest len =
    let stubbed : List ℕ × List ℕ → Option (RowTree × List ℕ) = λ x. Some (stub x.0, x.1) in
    ap (λ (o : Option (List ℕ × List ℕ)). (o >>= stubbed) >>= of_tree target visited) ((bytes_read 32).again d rest len)
    ∙ ap (λ (f : Findings). Some (summary d f, rest)) (sym (combine_none (stub_findings visited)))

-- a leaf's entries behind their count
leaf_counted : (n : ℕ) (rest : List ℕ) → n ≤ max_fill → leaf_at (n ∷ rest) ≡ one leaf (times entry_at n) rest
unfolding leaf_at
leaf_counted n rest few =
    bind_is _ (n, rest) (λ count. one leaf (times entry_at count.0) count.1) ((counts_read 0 max_fill).again n rest (omega arith, few))

pub leaf_begins : (target : Target) (levels : ℕ) (visited : Bool) (n : ℕ) (rest : List ℕ) → n ≤ max_fill
    → summary_at target (suc levels) visited (1 ∷ n ∷ rest) ≡ with_findings (open_node_findings visited) (rest_of_leaf target (3 ∷ n ∷ []) n) rest
unfolding summary_at tree_at node_at with_findings rest_of_leaf
leaf_begins target levels visited n rest few =
    let entries : Option (List PartEntry × List ℕ) = times entry_at n rest in
    let as_leaf : List PartEntry × List ℕ → Option (RowTree × List ℕ) = λ es. Some (leaf es.0, es.1) in
    let sum : List PartEntry × List ℕ → Option End = λ es. Some (leaf_summary target (3 ∷ n ∷ []) es.0, es.1) in
    let before : End → Option End = found_before (open_node_findings visited) in
    ap (λ (o : Option (RowTree × List ℕ)). o >>= of_tree target visited) (leaf_counted n rest few)
    ∙ bind_assoc entries as_leaf (of_tree target visited)
    ∙ bind_at entries (λ es. as_leaf es >>= of_tree target visited) (λ es. sum es >>= before)
    (λ es e. ap (λ (k : ℕ). Some (summary (sha256 (3 ∷ k ∷ flat_map entry_bytes es.0)) (combine (open_node_findings visited) (entries_findings target es.0)), es.1))
    (times_length entry_at n rest es.0 es.1 e))
    ∙ sym (bind_assoc entries sum before)

inner_counted : (child : Reader RowTree) (n : ℕ) (rest : List ℕ) → 2 ≤ n → n ≤ max_fill
    → inner_at child (n ∷ rest) ≡ two inner_node (times key_at (n - 1)) (times child n) rest
unfolding inner_at
inner_counted child n rest least few =
    bind_is _ (n, rest) (λ count. two inner_node (times key_at (count.0 - 1)) (times child count.0) count.1) ((counts_read 2 max_fill).again n rest (least, few))

child_bytes_of : (ps : List RowTree) → child_bytes row_family (open_parts ps) ≡ flat_map digest ps
child_bytes_of [] = refl
child_bytes_of (p ∷ ps) = ap (λ (bytes : List ℕ). digest p ++ bytes) (child_bytes_of ps)

-- a child more than there are separators
visits_length : (target : Target) (visited : Bool) (lower : Option (List ℕ)) (ss : List (List ℕ)) → length (child_visits target visited lower ss) ≡ suc (length ss)
visits_length target visited lower [] = refl
visits_length target visited lower (s ∷ ss) = ap (λ (k : ℕ). suc k) (visits_length target visited (Some s) ss)

abbrev inner_summary : Target → Bool → ℕ → List (List ℕ) → List ℕ → List RowTree → Summary
inner_summary target visited n ss children ps =
    summary (sha256 ((4 ∷ n ∷ flat_map string ss) ++ children)) (combine (open_node_findings visited) (children_findings target (child_visits target visited None ss) (open_parts ps)))

pub inner_begins : (target : Target) (levels : ℕ) (visited : Bool) (n : ℕ) (rest : List ℕ) → 2 ≤ n → n ≤ max_fill
    → summary_at target (suc levels) visited (2 ∷ n ∷ rest)
    ≡ with_findings (open_node_findings visited) (rest_of_inner target levels visited (4 ∷ n ∷ []) [] None (n - 1)) rest
unfolding summary_at tree_at node_at with_findings rest_of_inner rest_of_children
inner_begins target levels visited n rest least few =
    let separators : Option (List (List ℕ) × List ℕ) = times key_at (n - 1) rest in
    let children : ℕ → List (List ℕ) × List ℕ → Option (List RowTree × List ℕ) = λ k ss. times (tree_at levels) k ss.1 in
    let as_node : List (List ℕ) → List RowTree × List ℕ → Option (RowTree × List ℕ) = λ ss ps. Some (inner_node ss ps.0, ps.1) in
    let visits : List (List ℕ) → List Bool = λ ss. child_visits target visited None ss in
    let sum : List (List ℕ) → List RowTree × List ℕ → Option End = λ ss ps. Some (children_summary target (4 ∷ n ∷ flat_map string ss) (visits ss) ps.0, ps.1) in
    let before : End → Option End = found_before (open_node_findings visited) in
    ap (λ (o : Option (RowTree × List ℕ)). o >>= of_tree target visited) (inner_counted (tree_at levels) n rest least few)
    ∙ bind_assoc separators (λ ss. children n ss >>= as_node ss.0) (of_tree target visited)
    ∙ bind_at separators (λ ss. (children n ss >>= as_node ss.0) >>= of_tree target visited) (λ ss. (children (length (visits ss.0)) ss >>= sum ss.0) >>= before)
    (λ ss e.
    let as_many : length (visits ss.0) ≡ n = omega (arith, visits_length target visited None ss.0, times_length key_at (n - 1) rest ss.0 ss.1 e, least) in
    bind_assoc (children n ss) (as_node ss.0) (of_tree target visited)
    ∙ bind_at (children n ss) (λ ps. as_node ss.0 ps >>= of_tree target visited) (λ ps. sum ss.0 ps >>= before)
    (λ ps f.
    let all : count (open_parts ps.0) ≡ n = count_open_parts ps.0 ∙ times_length (tree_at levels) n ss.1 ps.0 ps.1 f in
    ap (λ (k : ℕ). Some (inner_summary target visited k ss.0 (child_bytes row_family (open_parts ps.0)) ps.0, ps.1)) all
    ∙ ap (λ (bytes : List ℕ). Some (inner_summary target visited n ss.0 bytes ps.0, ps.1)) (child_bytes_of ps.0))
    ∙ sym (bind_assoc (children n ss) (sum ss.0) before)
    ∙ ap (λ (k : ℕ). (children k ss >>= sum ss.0) >>= before) (sym as_many))
    ∙ sym (bind_assoc separators (λ ss. children (length (visits ss.0)) ss >>= sum ss.0) before)

pub no_node_begins : (target : Target) (levels : ℕ) (visited : Bool) (bytes : List ℕ) → ((child : Reader RowTree) → node_at child bytes ≡ None) → summary_at target (suc levels) visited bytes ≡ None
unfolding summary_at tree_at
no_node_begins target levels visited bytes none =
    ap (λ (o : Option (RowTree × List ℕ)). o >>= of_tree target visited) (none (tree_at levels))

-- Separators.

module _ (target : Target) (levels : ℕ) (visited : Bool) where
  abbrev behind_separators : List ℕ → List Bool → Option (List ℕ) → List (List ℕ) × List ℕ → Option End
  behind_separators hashed visits lower ss =
      rest_of_children target levels (hashed ++ flat_map string ss.0) (visits ++ child_visits target visited lower ss.0) ss.1

  pub separator_taken : (hashed : List ℕ) (visits : List Bool) (lower : Option (List ℕ)) (left : ℕ) (key rest : List ℕ) → length key ≤ max_key
      → rest_of_inner target levels visited hashed visits lower (suc left) (string key ++ rest)
      ≡ rest_of_inner target levels visited (hashed ++ string key) (visits ++ visits_child target visited lower (Some key) ∷ []) (Some key) left rest
  unfolding rest_of_inner
  separator_taken hashed visits lower left key rest short =
      let one_more : List ℕ → List (List ℕ) × List ℕ → Option (List (List ℕ) × List ℕ) = λ s ss. Some (s ∷ ss.0, ss.1) in
      let visit : Bool = visits_child target visited lower (Some key) in
      ap (λ (o : Option (List ℕ × List ℕ)). (o >>= λ s. times key_at left s.1 >>= one_more s.0) >>= behind_separators hashed visits lower) (keys_read.again key rest short)
      ∙ bind_assoc (times key_at left rest) (one_more key) (behind_separators hashed visits lower)
      ∙ bind_same (times key_at left rest) (λ ss. one_more key ss >>= behind_separators hashed visits lower)
      (behind_separators (hashed ++ string key) (visits ++ visit ∷ []) (Some key))
      (λ ss. ap (λ (h : List ℕ). rest_of_children target levels h (visits ++ visit ∷ child_visits target visited (Some key) ss.0) ss.1)
      (sym (append_assoc hashed (string key) (flat_map string ss.0)))
      ∙ ap (λ (vs : List Bool). rest_of_children target levels ((hashed ++ string key) ++ flat_map string ss.0) vs ss.1)
      (sym (append_assoc visits (visit ∷ []) (child_visits target visited (Some key) ss.0))))

  pub separators_end : (hashed : List ℕ) (visits : List Bool) (lower : Option (List ℕ)) (rest : List ℕ)
      → rest_of_inner target levels visited hashed visits lower 0 rest ≡ rest_of_children target levels hashed (visits ++ visits_child target visited lower None ∷ []) rest
  unfolding rest_of_inner
  separators_end hashed visits lower rest =
      ap (λ (h : List ℕ). rest_of_children target levels h (visits ++ visits_child target visited lower None ∷ []) rest) (append-nil hashed)

  pub no_separator : (hashed : List ℕ) (visits : List Bool) (lower : Option (List ℕ)) (left : ℕ) (bytes : List ℕ) → key_at bytes ≡ None
      → rest_of_inner target levels visited hashed visits lower (suc left) bytes ≡ None
  unfolding rest_of_inner
  no_separator hashed visits lower left bytes none =
      let one_more : List ℕ → List (List ℕ) × List ℕ → Option (List (List ℕ) × List ℕ) = λ s ss. Some (s ∷ ss.0, ss.1) in
      ap (λ (o : Option (List ℕ × List ℕ)). (o >>= λ s. times key_at left s.1 >>= one_more s.0) >>= behind_separators hashed visits lower) none
