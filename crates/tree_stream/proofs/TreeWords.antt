-- A summary is read exactly where the encoding of a tree is in front, and it is the tree's.
use Rattle.std.proofs.Common.{◌≡◌, ℕ, Bool, List, ◌++◌, Option, Some, sym, ap, ◌∙◌}
use Rattle.std.specs.Prelude.{not}
use Rattle.tree_stream.specs.declared.target.Target.{Target}
use Rattle.vo_spec.specs.Bytes.{IsBytes}
use Rattle.vo_spec.specs.Fits.{FitsTree, max_levels}
use Rattle.vo_spec.specs.Scans.{is_empty_interval}
use Rattle.vo_spec.specs.Trees.{RowTree}
use Rattle.vo_spec.specs.TreeBytes.{tree_bytes}
use Rattle.row_bytes.specs.Fields.{◌>>=◌}
use Rattle.batch_format.proofs.ReaderLaws.{bound, some_is}
use Rattle.batch_format.specs.TreeReading.{tree_at}
use Rattle.batch_format.proofs.TreeLaws.{trees_read}
use Rattle.tree_stream.specs.declared.findings.Summary.{Summary}
use Rattle.tree_stream.specs.Remaining.{tree_summary, summary_at}
use Rattle.tree_stream.specs.Summaries.{summary_of_tree}

module _ (target : Target) where
  abbrev visited : Bool
  visited = not (is_empty_interval target.interval)

  abbrev sum : RowTree × List ℕ → Option (Summary × List ℕ)
  sum p = Some (tree_summary target visited p.0, p.1)

  pub tree_again : (p : RowTree) (rest : List ℕ) → FitsTree p → summary_of_tree target (tree_bytes p ++ rest) ≡ Some (tree_summary target visited p, rest)
  unfolding summary_of_tree summary_at
  tree_again p rest fits = ap (λ (o : Option (RowTree × List ℕ)). o >>= sum) (trees_read.again p rest fits)

  pub tree_found : (bytes : List ℕ) (s : Summary) (rest : List ℕ) → IsBytes bytes → summary_of_tree target bytes ≡ Some (s, rest)
      → (p : RowTree) × FitsTree p × (bytes ≡ tree_bytes p ++ rest) × (s ≡ tree_summary target visited p)
  unfolding summary_of_tree summary_at
  tree_found bytes s rest fits e =
      let all = bound (tree_at max_levels bytes) sum (s, rest) e in
      let f = trees_read.found bytes all.0.0 all.0.1 fits all.1 in
      let end : Summary × List ℕ = (tree_summary target visited all.0.0, all.0.1) in
      let is : end ≡ (s, rest) = some_is end (s, rest) all.2 in (
        all.0.0,
        f.1,
        f.0.parts ∙ ap (λ (q : Summary × List ℕ). tree_bytes all.0.0 ++ q.1) is,
        sym (ap (λ (q : Summary × List ℕ). q.0) is),
      )
