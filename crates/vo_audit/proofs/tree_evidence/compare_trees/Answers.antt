use Rattle.std.proofs.Common.{List, ℕ, map, sym, ◌∙◌, subst}
use Rattle.std.specs.List.{AllZip}
use Rattle.vo_spec.specs.Conditions.{query_of}
use Rattle.vo_spec.specs.Trees.{Prunes}
use Rattle.vo_spec.specs.Checks.{tables_wanted}
use Rattle.vo_spec.specs.Honest.{catalog_of, stored_tree, trees_for}
use Rattle.mb_tree.specs.View.{part_of}
use Rattle.root_laws.specs.Following.{PrunesTable}
use Rattle.vo_audit.specs.Evidence.{AreHashedIn, HasRoot}
use Rattle.vo_audit.specs.Showing.{AreHashedInOne}
use Rattle.vo_audit.proofs.FindingLaws.{found_of_all, none_found}
use Rattle.vo_audit.proofs.WantedLaws.{tree_here, tree_agrees, tree_shows, trees_done, table_pruned}
use Rattle.vo_audit.proofs.tree_evidence.compare_trees.Goals as goal

pub compare_with_table-requires : goal.compare_with_table-requires
compare_with_table-requires c =
    subst (λ (name : List ℕ). HasRoot c.args.tables.now name (part_of c.index-trees-place.result)) (sym c.table_at.ensures)
    (tree_here c.args.tables.now (query_of c.args.query.now) c.args.trees.now c.loop-place.place c.index-trees-place.result _ _ c.loop-place-test.true c.index-trees-place.is c.loop-place.invariant)

pub loop-place-preserved : goal.loop-place-preserved
loop-place-preserved c =
    let stored = c.args.tables.now in
    let name = c.table_at.result.now in
    let p = part_of c.index-trees-place.result in
    let root : HasRoot stored name p =
    subst (λ (n : List ℕ). HasRoot stored n p) (sym c.table_at.ensures)
    (tree_here stored (query_of c.args.query.now) c.args.trees.now c.loop-place.place c.index-trees-place.result _ _ c.loop-place-test.true c.index-trees-place.is c.loop-place.invariant) in
    let prunes : Prunes p (stored_tree stored name) =
    table_pruned stored name p root
    (none_found c.in_ok-found.found (PrunesTable stored name p) (AreHashedIn stored name p) (sym c.is_some.ensures ∙ c.if-is_some.false) c.in_ok-found.ensures) in
    tree_agrees stored (query_of c.args.query.now) c.args.trees.now c.loop-place.place c.index-trees-place.result _ _ c.loop-place-test.true c.index-trees-place.is c.loop-place.invariant
    (subst (λ (n : List ℕ). Prunes p (stored_tree stored n)) c.table_at.ensures prunes)

pub returns-then-is_some : goal.returns-then-is_some
returns-then-is_some c =
    let stored = c.args.tables.now in
    let q = query_of c.args.query.now in
    let name = c.table_at.result.now in
    let p = part_of c.index-trees-place.result in
    found_of_all c.in_ok-found.found (PrunesTable stored name p) (AllZip Prunes (map part_of c.args.trees.now) (trees_for q stored)) (AreHashedIn stored name p)
    (AreHashedInOne stored (tables_wanted q (catalog_of stored)) (map part_of c.args.trees.now)) (sym c.is_some.ensures ∙ c.if-is_some.true) c.in_ok-found.ensures
    (λ x y hashed.
    tree_shows stored q c.args.trees.now c.loop-place.place c.index-trees-place.result _ _ c.loop-place-test.true c.index-trees-place.is c.loop-place.invariant x y
    (subst (λ (n : List ℕ). AreHashedIn stored n p x y) c.table_at.ensures hashed))

pub returns : goal.returns
returns c = trees_done c.args.tables.now _ c.args.trees.now c.loop-place.place _ _ c.loop-place-test.false c.loop-place.invariant
