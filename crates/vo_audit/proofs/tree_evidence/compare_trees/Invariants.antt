use Rattle.std.proofs.Common.{map, drop}
use Rattle.std.specs.List.{AllZip}
use Rattle.vo_spec.specs.Conditions.{query_of}
use Rattle.vo_spec.specs.Trees.{Prunes}
use Rattle.vo_spec.specs.Checks.{tables_wanted}
use Rattle.vo_spec.specs.Honest.{catalog_of, trees_for}
use Rattle.mb_tree.specs.View.{part_of}
use Rattle.vo_audit.specs.Showing.{AreHashedInOne}
use Rattle.vo_audit.proofs.WantedLaws.{TreesLeft}
use Rattle.vo_audit.proofs.tree_evidence.compare_trees.Given as goal

-- the trees so far prune: what is left decides for all
abbrev pub invariant-loop-place : goal.invariant-loop-place
invariant-loop-place l =
    TreesLeft l.tables (drop l.place (tables_wanted (query_of l.query) (catalog_of l.tables))) (map part_of (drop l.place l.trees))
    (AllZip Prunes (map part_of l.trees) (trees_for (query_of l.query) l.tables))
    (AreHashedInOne l.tables (tables_wanted (query_of l.query) (catalog_of l.tables)) (map part_of l.trees))
