use Rattle.std.proofs.Common.{List, length, ◌<◌, sym, subst, arith}
use Rattle.vo_spec.specs.declared.needs.Need.{Need}
use Rattle.vo_spec.specs.Pruning.{IsCanonical}
use Rattle.mb_tree.specs.View.{part_of}
use Rattle.reply_meeting.proofs.ProofSteps.{twins_here, canonical_here, second_canonical_here, tree_differs, tree_passed, of_trees_at, proofs_done}
use Rattle.reply_meeting.proofs.trees.compare_proofs.Goals as goal

pub agree_two-requires : goal.agree_two-requires
agree_two-requires c =
    let within : c.loop-place.place < length c.args.second.now = omega (arith, c.requires.count, c.loop-place-test.true) in
    let needs_within : c.loop-place.place < length c.args.needs.now = omega (arith, c.requires.needs_count, c.loop-place-test.true) in
    let twins = twins_here c.loop-place.place c.args.needs.now c.args.first.now c.args.second.now c.index-needs-place.result c.index-first-place.result c.index-second-place.result _ needs_within c.index-needs-place.is c.loop-place-test.true c.index-first-place.is
    within c.index-second-place.is c.loop-place.invariant in
    let canonical = canonical_here c.loop-place.place c.args.needs.now c.args.first.now c.args.second.now c.index-needs-place.result c.index-first-place.result c.index-second-place.result _ needs_within c.index-needs-place.is c.loop-place-test.true c.index-first-place.is
    within c.index-second-place.is c.loop-place.invariant in
    let second_canonical = second_canonical_here c.loop-place.place c.args.needs.now c.args.first.now c.args.second.now c.index-needs-place.result c.index-first-place.result c.index-second-place.result _ needs_within c.index-needs-place.is c.loop-place-test.true c.index-first-place.is
    within c.index-second-place.is c.loop-place.invariant in
    record {
      fits = twins.fits;
      second_fits = twins.second_fits;
      same = twins.same;
      canonical = subst (λ (ns : List Need). IsCanonical ns (part_of c.index-first-place.result)) (sym c.as_slice.ensures) canonical;
      second_canonical = subst (λ (ns : List Need). IsCanonical ns (part_of c.index-second-place.result)) (sym c.as_slice.ensures) second_canonical;
    }

pub returns-in-Collides : goal.returns-in-Collides
returns-in-Collides c =
    let told = rw c.in-Collides.is at c.in_ok-agree_two.ensures.same in
    let strings = rw c.in-Collides.is at c.in_ok-agree_two.ensures.strings in
    let within : c.loop-place.place < length c.args.second.now = omega (arith, c.requires.count, c.loop-place-test.true) in
    let needs_within : c.loop-place.place < length c.args.needs.now = omega (arith, c.requires.needs_count, c.loop-place-test.true) in (
      tree_differs c.loop-place.place c.args.needs.now c.args.first.now c.args.second.now c.index-needs-place.result c.index-first-place.result c.index-second-place.result _ needs_within c.index-needs-place.is c.loop-place-test.true c.index-first-place.is
          within c.index-second-place.is c.loop-place.invariant told.0,
      told.1,
      of_trees_at c.args.first.now c.args.second.now c.loop-place.place c.index-first-place.result c.index-second-place.result c.loop-place-test.true c.index-first-place.is within c.index-second-place.is _ _ strings,
    )

pub loop-place-preserved : goal.loop-place-preserved
loop-place-preserved c =
    let told = rw c.in-Same.is at c.in_ok-agree_two.ensures.same in
    let within : c.loop-place.place < length c.args.second.now = omega (arith, c.requires.count, c.loop-place-test.true) in
    let needs_within : c.loop-place.place < length c.args.needs.now = omega (arith, c.requires.needs_count, c.loop-place-test.true) in
    tree_passed c.loop-place.place c.args.needs.now c.args.first.now c.args.second.now c.index-needs-place.result c.index-first-place.result c.index-second-place.result _ needs_within c.index-needs-place.is c.loop-place-test.true c.index-first-place.is
    within c.index-second-place.is c.loop-place.invariant told

pub returns : goal.returns
returns c = proofs_done c.loop-place.place _ c.args.first.now c.args.second.now _ c.loop-place-test.false c.requires.count c.loop-place.invariant
