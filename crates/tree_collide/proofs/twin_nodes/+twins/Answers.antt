use Rattle.std.proofs.Common.{◌≡◌, length, ◌+◌, ◌<◌, ◌≤◌, sym, ap, subst, ◌∙◌, arith}
use Rattle.vo_spec.specs.Parts.{levels, levels_in}
use Rattle.vo_spec.specs.Trees.{RowTrees}
use Rattle.vo_spec.specs.Fits.{FitsPart, FitsEach, FitsEntry}
use Rattle.mb_tree.specs.declared.parts.PartTree.TheVariants.{Inner}
use Rattle.mb_tree.specs.View.{part_of, parts_of}
use Rattle.mb_tree.proofs.PartLaws.{child_fits, child_falls}
use Rattle.tree_collide.specs.Agreements.{IsLike, SameNodes}
use Rattle.tree_collide.proofs.TwinSteps.{twin_child_count, child_here, child_found, child_passed}
use Rattle.tree_collide.proofs.twin_nodes.+twins.Goals as goal

pub collision_of_twin_children-collision_of_twins-requires : goal.collision_of_twin_children-collision_of_twins-requires
collision_of_twin_children-collision_of_twins-requires t c =
    let falls : levels (part_of c.index-first-place.result) ≤ levels_in (parts_of c.args.first.now) = child_falls _ _ _ c.loop-place-test.true c.index-first-place.is in
    let within : c.loop-place.place < length c.args.second.now = omega (arith, c.requires.count, c.loop-place-test.true) in (
      omega arith,
      (
        child_fits _ c.requires.fit _ _ c.loop-place-test.true c.index-first-place.is,
        (
          child_fits _ c.requires.second_fit _ _ within c.index-second-place.is,
          child_here _ _ _ _ _ _ _ c.loop-place-test.true c.index-first-place.is within c.index-second-place.is c.loop-place.invariant,
        ),
      ),
    )

pub collision_of_twin_children-returns-then-is_some : goal.collision_of_twin_children-returns-then-is_some
collision_of_twin_children-returns-then-is_some t c =
    let within : c.loop-place.place < length c.args.second.now = omega (arith, c.requires.count, c.loop-place-test.true) in
    child_found _ _ _ _ _ _ _ c.loop-place-test.true c.index-first-place.is within c.index-second-place.is c.loop-place.invariant c.in_ok-found.found (sym c.is_some.ensures ∙ c.if-is_some.true) c.in_ok-found.ensures

pub collision_of_twin_children-loop-place-preserved : goal.collision_of_twin_children-loop-place-preserved
collision_of_twin_children-loop-place-preserved t c =
    let within : c.loop-place.place < length c.args.second.now = omega (arith, c.requires.count, c.loop-place-test.true) in
    child_passed _ _ _ _ _ _ _ c.loop-place-test.true c.index-first-place.is within c.index-second-place.is c.loop-place.invariant c.in_ok-found.found (sym c.is_some.ensures ∙ c.if-is_some.false) c.in_ok-found.ensures

pub collision_below_nodes-collision_of_twin_children-requires : goal.collision_below_nodes-collision_of_twin_children-requires
collision_below_nodes-collision_of_twin_children-requires t c =
    let here = c.in-Inner-Inner in
    let children = parts_of c.as_slice-in-Inner-Inner.result.now in
    let others = parts_of c.as_slice-in-Inner-Inner-2.result.now in
    let kept = sym c.as_slice-in-Inner-Inner.ensures in
    let others_kept = sym c.as_slice-in-Inner-Inner-2.ensures in
    let deeper : levels (part_of c.args.first.now) ≡ levels_in children + 1 =
    ap (λ p. levels (part_of p)) here.is-0 ∙ ap (λ ps. levels_in ps + 1) kept in
    let fits : FitsPart (part_of (Inner here.separators-0 here.children)) = subst (λ p. FitsPart (part_of p)) here.is-0 c.requires.fits in
    let second_fits : FitsPart (part_of (Inner here.separators-1 here.others)) = subst (λ p. FitsPart (part_of p)) here.is-1 c.requires.second_fits in
    let alike : IsLike (part_of (Inner here.separators-0 here.children)) (part_of (Inner here.separators-1 here.others)) =
    subst (λ q. IsLike (part_of (Inner here.separators-0 here.children)) (part_of q)) here.is-1
    (subst (λ p. IsLike (part_of p) (part_of c.args.second.now)) here.is-0 c.requires.same) in
    let same : SameNodes children others =
    subst (λ (ps : RowTrees). SameNodes ps others) kept (subst (λ (qs : RowTrees). SameNodes here.children qs) others_kept alike.1) in
    (omega (arith, deeper), (twin_child_count _ _ same, (subst (FitsEach FitsEntry) kept fits.4, (subst (FitsEach FitsEntry) others_kept second_fits.4, same))))
