use Rattle.std.proofs.Common.{List, map, inl, inr, sym, ◌∙◌, subst}
use Rattle.std.specs.Prelude.{IfOk}
use Rattle.std.specs.List.{AllZip}
use Rattle.vo_spec.specs.Conditions.{query_of}
use Rattle.vo_spec.specs.Trees.{Prunes}
use Rattle.vo_spec.specs.Checks.{tables_wanted}
use Rattle.vo_spec.specs.Honest.{catalog_of, trees_for}
use Rattle.mb_tree.specs.declared.parts.PartTree.{PartTree}
use Rattle.mb_tree.specs.View.{part_of}
use Rattle.vo_format.specs.View.{reply_of}
use Rattle.vo_audit.specs.Evidence.{HasRoot}
use Rattle.vo_audit.specs.Auditing.{CollidesOr}
use Rattle.vo_audit.specs.Showing.{AreHashedInOne}
use Rattle.vo_audit.proofs.FindingLaws.{found_of_more, not_found, or_result}
use Rattle.vo_audit.proofs.WantedLaws.{trees_wanted}
use Rattle.vo_audit.proofs.evidence.evidence.Goals as goal

pub compare_trees-requires : goal.compare_trees-requires
compare_trees-requires c =
    let q = query_of c.args.query.now in
    let stored = c.args.tables.now in
    let same = not_found c.in_ok-found.found _ _ (sym c.is_some.ensures ∙ c.if-is_some.false) c.in_ok-found.ensures in
    subst (λ (trees : List PartTree). AllZip (HasRoot stored) (tables_wanted q (catalog_of stored)) (map part_of trees)) (sym c.deref.ensures.value)
    (trees_wanted q (reply_of c.args.reply.now) stored c.requires.fits c.requires.passed same)

pub returns-then-is_some : goal.returns-then-is_some
returns-then-is_some c = found_of_more c.in_ok-found.found _ _ _ _ (sym c.is_some.ensures ∙ c.if-is_some.true) c.in_ok-found.ensures (λ x y are. inl are)

pub returns : goal.returns
returns c =
    let q = query_of c.args.query.now in
    let stored = c.args.tables.now in
    let same = not_found c.in_ok-found.found _ _ (sym c.is_some.ensures ∙ c.if-is_some.false) c.in_ok-found.ensures in
    or_result c.compare_trees.result _ _ _ _
    (subst (λ (trees : List PartTree).
    IfOk c.compare_trees.result (λ found. CollidesOr found (AllZip Prunes (map part_of trees) (trees_for q stored))
    (AreHashedInOne stored (tables_wanted q (catalog_of stored)) (map part_of trees)))) c.deref.ensures.value c.compare_trees.ensures)
    (λ all. record { catalog = same; trees = all }) (λ x y are. inr are)
