use Rattle.std.proofs.Common.{◌≡◌, length, map, ◌+◌, ◌<◌, ◌≤◌, sym, ap, subst, ◌∙◌, arith}
use Rattle.btree.specs.Nodes.{parts_from}
use Rattle.vo_spec.specs.Parts.{leaf, inner, levels, levels_in}
use Rattle.totals_laws.specs.TotalsTrees.{TotalsPart, FitsTotals, Prunes, preimage}
use Rattle.mb_sum.specs.Views.{part_of, parts_of}
use Rattle.mb_sum.specs.Whole.{whole_kid, whole_of}
use Rattle.mb_sum.proofs.Children.{child_fits, child_falls}
use Rattle.mb_sum.proofs.Agreeing.{leaf_settled, below_inner, found_below, child_counted, child_here, child_found, child_passed}
use Rattle.mb_sum.proofs.agreement.+agree.Goals as goal

pub collision_below-returns-in-Leaf-default : goal.collision_below-returns-in-Leaf-default
collision_below-returns-in-Leaf-default t c =
    let n = c.args.node.now in
    let p_is : part_of c.args.part.now ≡ leaf c.in-Leaf-default.field-0-0 = ap part_of c.in-Leaf-default.is-0 in
    let same : preimage (leaf c.in-Leaf-default.field-0-0) ≡ preimage (whole_of n) = ap preimage (sym p_is) ∙ c.requires.same in
    let P : TotalsPart → Type 0 = λ x. Prunes x (whole_of n) in
    subst P (sym p_is) (leaf_settled c.in-Leaf-default.field-0-0 n (subst FitsTotals p_is c.requires.fits) c.requires.node_fits same)

pub collision_below-collision_of_children-requires : goal.collision_below-collision_of_children-requires
collision_below-collision_of_children-requires t c =
    let here = c.in-Inner-Inner in
    let cs = c.as_slice.result.now in
    let ts = c.deref.result.now in
    let p_is : part_of c.args.part.now ≡ inner here.separators-0 (parts_of cs) = ap part_of here.is-0 ∙ ap (inner here.separators-0) (sym c.as_slice.ensures) in
    let t_is : whole_of c.args.node.now ≡ inner here.separators-1.items (parts_from (map whole_kid ts)) = ap whole_of here.is-1 ∙ ap (λ l. inner here.separators-1.items (parts_from (map whole_kid l))) (sym c.deref.ensures.value) in
    let below = below_inner (part_of c.args.part.now) (whole_of c.args.node.now) here.separators-0 cs here.separators-1.items ts p_is t_is c.requires.fits c.requires.counted c.requires.node_fits c.requires.same in
    let deeper : levels (part_of c.args.part.now) ≡ levels_in (parts_of cs) + 1 = ap (λ p. levels p) p_is in
    (omega (arith, deeper), (below.count, (below.fit, (below.counted, below.same))))

pub collision_below-returns-in-Inner-Inner : goal.collision_below-returns-in-Inner-Inner
collision_below-returns-in-Inner-Inner t c =
    let here = c.in-Inner-Inner in
    let cs = c.as_slice.result.now in
    let ts = c.deref.result.now in
    let p_is : part_of c.args.part.now ≡ inner here.separators-0 (parts_of cs) = ap part_of here.is-0 ∙ ap (inner here.separators-0) (sym c.as_slice.ensures) in
    let t_is : whole_of c.args.node.now ≡ inner here.separators-1.items (parts_from (map whole_kid ts)) = ap whole_of here.is-1 ∙ ap (λ l. inner here.separators-1.items (parts_from (map whole_kid l))) (sym c.deref.ensures.value) in
    let below = below_inner (part_of c.args.part.now) (whole_of c.args.node.now) here.separators-0 cs here.separators-1.items ts p_is t_is c.requires.fits c.requires.counted c.requires.node_fits c.requires.same in
    found_below c.collision_of_children.result (part_of c.args.part.now) (whole_of c.args.node.now) here.separators-0 cs here.separators-1.items ts p_is t_is below.keys_same c.collision_of_children.ensures

pub collision_of_children-collision_of_subtree-requires : goal.collision_of_children-collision_of_subtree-requires
collision_of_children-collision_of_subtree-requires t c =
    let falls : levels (part_of c.index-parts-place.result.tree) ≤ levels_in (parts_of c.args.parts.now) = child_falls _ _ _ c.loop-place-test.true c.index-parts-place.is in
    let within : c.loop-place.place < length c.args.subtrees.now = omega (arith, c.requires.count, c.loop-place-test.true) in (
      omega arith,
      (
        child_fits _ c.requires.fit _ _ c.loop-place-test.true c.index-parts-place.is,
        (
          child_counted _ c.requires.counted _ _ c.loop-place-test.true c.index-parts-place.is,
          child_here _ _ _ _ _ _ _ c.loop-place-test.true c.index-parts-place.is within c.index-subtrees-place.is c.loop-place.invariant,
        ),
      ),
    )

pub collision_of_children-returns-then-is_some : goal.collision_of_children-returns-then-is_some
collision_of_children-returns-then-is_some t c =
    let within : c.loop-place.place < length c.args.subtrees.now = omega (arith, c.requires.count, c.loop-place-test.true) in
    child_found _ _ _ _ _ _ _ c.loop-place-test.true c.index-parts-place.is within c.index-subtrees-place.is c.loop-place.invariant c.in_ok-found.found (sym c.is_some.ensures ∙ c.if-is_some.true) c.in_ok-found.ensures

pub collision_of_children-loop-place-preserved : goal.collision_of_children-loop-place-preserved
collision_of_children-loop-place-preserved t c =
    let within : c.loop-place.place < length c.args.subtrees.now = omega (arith, c.requires.count, c.loop-place-test.true) in
    child_passed _ _ _ _ _ _ _ c.loop-place-test.true c.index-parts-place.is within c.index-subtrees-place.is c.loop-place.invariant c.in_ok-found.found (sym c.is_some.ensures ∙ c.if-is_some.false) c.in_ok-found.ensures
