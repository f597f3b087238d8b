-- Up to the ancestors of a node that ends, and down to their next children.
use Rattle.std.proofs.Common.{◌≡◌, ℕ, ◌-◌, Bool, List, [], ◌∷◌, ◌++◌, length, flat_map, Option, Some, None, sym, ap, ◌∙◌, append_assoc, append-nil, arith}
use Rattle.std.specs.Prelude.{reverse}
use Rattle.std.proofs.lemmas.List.{reverse-append, length-reverse, length-append}
use Rattle.sha2.specs.Sha256.{sha256}
use Rattle.tree_stream.specs.declared.target.Target.{Target}
use Rattle.vo_spec.specs.Trees.{RowTree, digest, open_parts}
use Rattle.row_bytes.specs.Fields.{◌>>=◌, times}
use Rattle.batch_format.specs.TreeReading.{tree_at}
use Rattle.tree_stream.specs.declared.findings.Findings.{Findings}
use Rattle.tree_stream.specs.declared.findings.Summary.{Summary}
use Rattle.tree_stream.specs.declared.state.InnerNode.{InnerNode}
use Rattle.tree_stream.specs.Findings.{combine, tree_findings, children_findings}
use Rattle.tree_stream.specs.Remaining.{summary, with_findings, nothing_more, tree_summary, summary_at, children_summary, rest_of_children}
use Rattle.tree_stream.specs.Summaries.{levels_below, summary_after, summary_with}
use Rattle.tree_stream.proofs.Binds.{bind_assoc, bind_same}
use Rattle.tree_stream.proofs.Remainders.{found_with, summary_behind}

abbrev End : Type 0
End = Summary × List ℕ

abbrev Trees : Type 0
Trees = List RowTree × List ℕ

-- a node that ends, under the last of these ancestors
pub after_child : (target : Target) (ancestors : List InnerNode) (node : InnerNode) (d : List ℕ) (found : Findings) (rest : List ℕ)
    → summary_after target (reverse (ancestors ++ node ∷ [])) d found rest
    ≡ summary_with target ancestors found (rest_of_children target (levels_below ancestors - 1) (node.hasher ++ d) node.child_visits.items) rest
unfolding summary_after summary_with
after_child target ancestors node d found rest =
    let levels : levels_below (node ∷ reverse ancestors) ≡ levels_below ancestors - 1 = omega (arith, length-reverse ancestors) in
    ap (λ (nodes : List InnerNode). summary_after target nodes d found rest) (reverse-append ancestors (node ∷ []))
    ∙ ap (λ (n : ℕ). rest_of_children target n (node.hasher ++ d) node.child_visits.items rest >>= summary_behind target ancestors found) levels

pub children_end : (target : Target) (levels : ℕ) (hashed rest : List ℕ) → rest_of_children target levels hashed [] rest ≡ nothing_more (sha256 hashed) rest
unfolding rest_of_children
children_end target levels hashed rest =
    ap (λ (bytes : List ℕ). nothing_more (sha256 bytes) rest) (append-nil hashed)

pub children_next : (target : Target) (levels : ℕ) (hashed : List ℕ) (visited : Bool) (visits : List Bool) (rest : List ℕ)
    → rest_of_children target levels hashed (visited ∷ visits) rest
    ≡ (summary_at target levels visited rest >>= λ end. with_findings end.0.findings (rest_of_children target levels (hashed ++ end.0.digest) visits) end.1)
unfolding rest_of_children with_findings summary_at
children_next target levels hashed visited visits rest =
    let one_more : RowTree → Trees → Option Trees = λ p ps. Some (p ∷ ps.0, ps.1) in
    let sum_all : Trees → Option End = λ ps. Some (children_summary target hashed (visited ∷ visits) ps.0, ps.1) in
    let sum_others : RowTree → Trees → Option End = λ p ps. Some (children_summary target (hashed ++ digest p) visits ps.0, ps.1) in
    let put_first : RowTree → End → Option End = λ p end. Some (summary end.0.digest (combine (tree_findings target visited p) end.0.findings), end.1) in
    let others : RowTree × List ℕ → Option Trees = λ p. times (tree_at levels) (length visits) p.1 in
    let sum_first : RowTree × List ℕ → Option End = λ p. Some (tree_summary target visited p.0, p.1) in
    let go_on : End → Option End = λ end. with_findings end.0.findings (rest_of_children target levels (hashed ++ end.0.digest) visits) end.1 in
    bind_assoc (tree_at levels rest) (λ p. others p >>= one_more p.0) sum_all
    ∙ bind_same (tree_at levels rest) (λ p. (others p >>= one_more p.0) >>= sum_all) (λ p. sum_first p >>= go_on)
    (λ p. bind_assoc (others p) (one_more p.0) sum_all
    ∙ bind_same (others p) (λ ps. one_more p.0 ps >>= sum_all) (λ ps. sum_others p.0 ps >>= put_first p.0)
    (λ ps. ap (λ (bytes : List ℕ). Some (summary (sha256 bytes) (combine (tree_findings target visited p.0) (children_findings target visits (open_parts ps.0))), ps.1))
    (sym (append_assoc hashed (digest p.0) (flat_map digest ps.0))))
    ∙ sym (bind_assoc (others p) (sum_others p.0) (put_first p.0)))
    ∙ sym (bind_assoc (tree_at levels rest) sum_first go_on)

-- the next child of a node that becomes the last of the ancestors
pub next_child : (target : Target) (ancestors : List InnerNode) (found : Findings) (hashed : List ℕ) (visited : Bool) (visits : List Bool) (node : InnerNode) (rest : List ℕ)
    → node.hasher ≡ hashed → node.child_visits.items ≡ visits
    → summary_with target ancestors found (rest_of_children target (levels_below ancestors - 1) hashed (visited ∷ visits)) rest
    ≡ summary_with target (ancestors ++ node ∷ []) found (summary_at target (levels_below (ancestors ++ node ∷ [])) visited) rest
unfolding summary_with
next_child target ancestors found hashed visited visits node rest is_hashed are_visits =
    let n : ℕ = levels_below ancestors - 1 in
    let levels : levels_below (ancestors ++ node ∷ []) ≡ n = omega (arith, length-append ancestors (node ∷ [])) in
    let go_on : End → Option End = λ end. with_findings end.0.findings (rest_of_children target n (hashed ++ end.0.digest) visits) end.1 in
    let behind : End → Option (Summary × List ℕ) = summary_behind target ancestors found in
    let above : End → Option (Summary × List ℕ) = summary_behind target (ancestors ++ node ∷ []) found in
    ap (λ (o : Option End). o >>= behind) (children_next target n hashed visited visits rest)
    ∙ bind_assoc (summary_at target n visited rest) go_on behind
    ∙ bind_same (summary_at target n visited rest) (λ end. go_on end >>= behind) above
    (λ end. found_with target ancestors found end.0.findings (rest_of_children target n (hashed ++ end.0.digest) visits) end.1
    ∙ ap (λ (h : List ℕ). summary_with target ancestors (combine found end.0.findings) (rest_of_children target n (h ++ end.0.digest) visits) end.1) (sym is_hashed)
    ∙ ap (λ (vs : List Bool). summary_with target ancestors (combine found end.0.findings) (rest_of_children target n (node.hasher ++ end.0.digest) vs) end.1) (sym are_visits)
    ∙ sym (after_child target ancestors node end.0.digest (combine found end.0.findings) end.1))
    ∙ ap (λ (k : ℕ). summary_at target k visited rest >>= above) (sym levels)

-- no child has room under ten ancestors and their child
pub no_child : (target : Target) (hashed : List ℕ) (visited : Bool) (visits : List Bool) (levels : ℕ) (rest : List ℕ) → levels ≡ 0 → rest_of_children target levels hashed (visited ∷ visits) rest ≡ None
unfolding rest_of_children tree_at
no_child target hashed visited visits levels rest e =
    ap (λ (n : ℕ). rest_of_children target n hashed (visited ∷ visits) rest) e
