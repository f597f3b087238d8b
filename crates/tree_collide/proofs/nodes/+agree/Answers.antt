use Rattle.std.proofs.Common.{◌≡◌, true, length, ◌+◌, ◌<◌, ◌≤◌, sym, ap, subst, ◌∙◌, arith}
use Rattle.vo_spec.specs.Parts.{levels, levels_in}
use Rattle.vo_spec.specs.Trees.{open_parts}
use Rattle.vo_spec.specs.Fits.{FitsPart, FitsEach, FitsEntry}
use Rattle.mb_tree.specs.declared.subtrees.Node.TheVariants as node
use Rattle.mb_tree.specs.declared.parts.PartTree.TheVariants.{Inner}
use Rattle.mb_tree.specs.View.{part_of, parts_of}
use Rattle.mb_tree.specs.Whole.{whole_of}
use Rattle.mb_tree.proofs.PartLaws.{child_fits, child_falls}
use Rattle.sha2.specs.Sha256.{sha256}
use Rattle.tree_collide.specs.Agreements.{IsLike, SameNodes, is_open}
use Rattle.tree_collide.proofs.Children.{child_count, child_here, child_found, child_passed, node_open}
use Rattle.tree_collide.proofs.Keeping.{open_hash}
use Rattle.tree_collide.proofs.Reading.{like}
use Rattle.tree_collide.proofs.nodes.+agree.Goals as goal

pub collision_of_children-collision_of_subtree-requires : goal.collision_of_children-collision_of_subtree-requires
collision_of_children-collision_of_subtree-requires t c =
    let falls : levels (part_of c.index-parts-place.result) ≤ levels_in (parts_of c.args.parts.now) = child_falls _ _ _ c.loop-place-test.true c.index-parts-place.is in
    let within : c.loop-place.place < length c.args.subtrees.now = omega (arith, c.requires.count, c.loop-place-test.true) in (
      omega arith,
      (
        child_fits _ c.requires.fit _ _ c.loop-place-test.true c.index-parts-place.is,
        child_here _ _ _ _ _ _ _ c.loop-place-test.true c.index-parts-place.is within c.index-subtrees-place.is c.loop-place.invariant,
      ),
    )

pub collision_of_children-returns-then-is_some : goal.collision_of_children-returns-then-is_some
collision_of_children-returns-then-is_some t c =
    let within : c.loop-place.place < length c.args.subtrees.now = omega (arith, c.requires.count, c.loop-place-test.true) in
    child_found _ _ _ _ _ _ _ c.loop-place-test.true c.index-parts-place.is within c.index-subtrees-place.is c.loop-place.invariant c.in_ok-found.found (sym c.is_some.ensures ∙ c.if-is_some.true) c.in_ok-found.ensures

pub collision_of_children-loop-place-preserved : goal.collision_of_children-loop-place-preserved
collision_of_children-loop-place-preserved t c =
    let within : c.loop-place.place < length c.args.subtrees.now = omega (arith, c.requires.count, c.loop-place-test.true) in
    child_passed _ _ _ _ _ _ _ c.loop-place-test.true c.index-parts-place.is within c.index-subtrees-place.is c.loop-place.invariant c.in_ok-found.found (sym c.is_some.ensures ∙ c.if-is_some.false) c.in_ok-found.ensures

pub collision_of_node-compare-requires : goal.collision_of_node-compare-requires
collision_of_node-compare-requires t c =
    let whole : is_open c.args.subtree.now ≡ true = ap is_open (sym c.node-node.ensures.value) ∙ node_open c.node-node.result.now in
    ap sha256 c.in_ok-first.ensures ∙ sym (open_hash (part_of c.args.part.now) c.requires.open) ∙ c.requires.same ∙ open_hash c.args.subtree.now whole ∙ ap sha256 (sym c.in_ok-second.ensures.value)

pub collision_of_node-collision_below-requires : goal.collision_of_node-collision_below-requires
collision_of_node-collision_below-requires t c =
    let same = sym c.in_ok-first.ensures ∙ c.in-None.ensures ∙ c.in_ok-second.ensures.value in
    let alike = like (part_of c.args.part.now) c.args.subtree.now c.requires.fits c.in_ok-second.ensures.fits same c.requires.open in
    (omega arith, (c.requires.fits, subst (IsLike (part_of c.args.part.now)) (sym c.node-node.ensures.value) alike))

pub collision_below-collision_of_children-requires : goal.collision_below-collision_of_children-requires
collision_below-collision_of_children-requires t c =
    let here = c.in-Inner-Inner in
    let children = parts_of c.as_slice-in-Inner-Inner.result.now in
    let subtrees = c.deref-in-Inner-Inner.result.now in
    let kept = sym c.as_slice-in-Inner-Inner.ensures in
    let deeper : levels (part_of c.args.part.now) ≡ levels_in children + 1 =
    ap (λ p. levels (part_of p)) here.is-0 ∙ ap (λ ps. levels_in ps + 1) kept in
    let fits : FitsPart (part_of (Inner here.separators-0 here.children)) = subst (λ p. FitsPart (part_of p)) here.is-0 c.requires.fits in
    let alike : IsLike (part_of (Inner here.separators-0 here.children)) (whole_of (node.Inner here.separators-1 here.subtrees)) =
    subst (λ n. IsLike (part_of (Inner here.separators-0 here.children)) (whole_of n)) here.is-1
    (subst (λ p. IsLike (part_of p) (whole_of c.args.node.now)) here.is-0 c.requires.same) in
    let same : SameNodes children (open_parts subtrees) =
    subst (λ ps. SameNodes ps (open_parts subtrees)) kept
    (subst (λ bs. SameNodes here.children (open_parts bs)) (sym c.deref-in-Inner-Inner.ensures.value) alike.1) in
    (omega (arith, deeper), (child_count _ _ same, (subst (FitsEach FitsEntry) kept fits.4, same)))
