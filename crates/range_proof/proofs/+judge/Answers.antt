use Rattle.std.proofs.Common.{◌≡◌, ◌≤◌, true, false, ◌||◌, [], ◌∷◌, refl, sym, ap, ◌∙◌, slice_get, arith, Ok, Err}
use Rattle.std.proofs.lemmas.Grind.{common_steps}
use Rattle.std.specs.Option.{option_copied}
use Rattle.vo_spec.specs.Parts.{levels, levels_in}
use Rattle.vo_spec.specs.Scans.{visits}
use Rattle.vo_spec.specs.Pruning.{walk_for, descend, is_missing_by, has_surplus_by}
use Rattle.mb_tree.specs.View.{part_of, parts_of}
use Rattle.mb_tree.proofs.PartLaws.{child_falls}
use Rattle.range_proof.specs.Judging.{JudgesOrMissing}
use Rattle.range_proof.proofs.Visits.{goes_alone, passes_by}
use Rattle.range_proof.proofs.Walking.{missing_step, surplus_step, missing_here, judge_on}
use Rattle.range_proof.proofs.+judge.Goals as goal
use Rattle.range_proof.proofs.+judge.Goals.{judging::judge_each-then-surplus, judging::judge_each-else-surplus, judge_for_one::judge_children_for_one-then-visits_from, judge_for_one::judge_children_for_one-else-visits_from, judge_for_one::judge_children_for_one-then-surplus, judge_for_one::judge_children_for_one-else-surplus}

pub judging::judge_each-judge_node-requires : goal.judging::judge_each-judge_node-requires
judging::judge_each-judge_node-requires t c =
    let falls : levels (part_of c.index-children-place.result) ≤ levels_in (parts_of c.args.children.now) = child_falls _ _ _ c.loop-place-test.true c.index-children-place.is in
    (omega arith, tt)

pub judging::judge_each-returns-in-Err : goal.judging::judge_each-returns-in-Err
judging::judge_each-returns-in-Err t c =
    let walk = walk_for c.args.needs.now.all in
    let next = c.in_ok-below.below in
    let child = part_of c.index-children-place.result in
    let raw : JudgesOrMissing (Err c.in-Err.fault) (is_missing_by (walk_for next.all) next.active child) (has_surplus_by (walk_for next.all) next.active child) = c.in-Err.ensures in
    let told = rw (c.in_ok-below.ensures, c.separator_at-upper.ensures) at raw in
    judge_on c.in-Err.fault _ _ _ _ told
    (λ here. missing_here walk c.args.needs.now.active _ c.args.separators.now c.loop-place.place _ _ _ c.loop-place-test.true c.index-children-place.is here c.loop-place.invariant.0)

pub judging::judge_each-loop-place-preserved : goal.judging::judge_each-loop-place-preserved
judging::judge_each-loop-place-preserved t c =
    let walk = walk_for c.args.needs.now.all in
    let next = c.in_ok-below.below in
    let active = c.args.needs.now.active in
    let ss = c.args.separators.now in
    let raw : (is_missing_by (walk_for next.all) next.active (part_of c.index-children-place.result) ≡ false)
    × (c.in-Ok.more ≡ has_surplus_by (walk_for next.all) next.active (part_of c.index-children-place.result)) = c.in-Ok.ensures in
    let told = rw (c.in_ok-below.ensures, c.separator_at-upper.ensures) at raw in
    let both : c.if-surplus.surplus ≡ c.loop-place.surplus || c.in-Ok.more = elim c.if-surplus.branch [
      | judging::judge_each-then-surplus w ↦ rw (w.surplus-is, w.if-surplus.true) refl
      | judging::judge_each-else-surplus w ↦ rw (w.surplus-is, w.if-surplus.false) refl
    ] in
    rw (c.separator_at-upper.ensures, both) (
      missing_step walk active _ ss c.loop-place.place _ _ _ c.loop-place-test.true c.index-children-place.is told.0 c.loop-place.invariant.0,
      surplus_step walk active _ ss c.loop-place.place _ _ _ _ _ c.loop-place-test.true c.index-children-place.is told.1 c.loop-place.invariant.1,
    )

pub judge_for_one::judge_children_for_one-judge_for_one-judged-requires : goal.judge_for_one::judge_children_for_one-judge_for_one-judged-requires
judge_for_one::judge_children_for_one-judge_for_one-judged-requires t c =
    let falls : levels (part_of c.index-children-place.result) ≤ levels_in (parts_of c.args.children.now) = child_falls _ _ _ c.loop-place-test.true c.index-children-place.is in
    (omega arith, tt)

pub judge_for_one::judge_children_for_one-judge_unvisited-judged-requires : goal.judge_for_one::judge_children_for_one-judge_unvisited-judged-requires
judge_for_one::judge_children_for_one-judge_unvisited-judged-requires t c =
    let falls : levels (part_of c.index-children-place.result) ≤ levels_in (parts_of c.args.children.now) = child_falls _ _ _ c.loop-place-test.true c.index-children-place.is in
    (omega arith, tt)

pub judge_for_one::judge_children_for_one-returns-in-Err : goal.judge_for_one::judge_children_for_one-returns-in-Err
judge_for_one::judge_children_for_one-returns-in-Err t c =
    let walk = walk_for c.args.needs.now.all in
    let need = c.args.need.now in
    let ss = c.args.separators.now in
    let lower = option_copied c.loop-place.lower in
    let upper = slice_get ss c.loop-place.place in
    let child = part_of c.index-children-place.result in
    let is : c.if-visits_from.judged ≡ Err c.in-Err.fault = c.in-Err.is in
    let judged : JudgesOrMissing c.if-visits_from.judged (is_missing_by walk (descend (need ∷ []) lower upper) child) (has_surplus_by walk (descend (need ∷ []) lower upper) child) = elim c.if-visits_from.branch [
      | judge_for_one::judge_children_for_one-then-visits_from w ↦
          let visited : visits need.interval lower upper ≡ true = sym (ap (visits need.interval lower) c.separator_at-upper.ensures) ∙ sym c.visits_from.ensures ∙ w.if-visits_from.true in
          rw (goes_alone need lower upper visited, w.judged-is) w.judge_for_one-judged.ensures
      | judge_for_one::judge_children_for_one-else-visits_from w ↦
          let passed : visits need.interval lower upper ≡ false = sym (ap (visits need.interval lower) c.separator_at-upper.ensures) ∙ sym c.visits_from.ensures ∙ w.if-visits_from.false in
          rw (passes_by need lower upper passed, w.judged-is) w.judge_unvisited-judged.ensures
    ] in
    let told = rw is at judged in
    judge_on c.in-Err.fault _ _ _ _ told
    (λ here. missing_here walk (need ∷ []) _ ss c.loop-place.place _ _ _ c.loop-place-test.true c.index-children-place.is here c.loop-place.invariant.0)

pub judge_for_one::judge_children_for_one-loop-place-preserved : goal.judge_for_one::judge_children_for_one-loop-place-preserved
judge_for_one::judge_children_for_one-loop-place-preserved t c =
    let walk = walk_for c.args.needs.now.all in
    let need = c.args.need.now in
    let ss = c.args.separators.now in
    let lower = option_copied c.loop-place.lower in
    let upper = slice_get ss c.loop-place.place in
    let child = part_of c.index-children-place.result in
    let is : c.if-visits_from.judged ≡ Ok c.in-Ok.more = c.in-Ok.is in
    let judged : JudgesOrMissing c.if-visits_from.judged (is_missing_by walk (descend (need ∷ []) lower upper) child) (has_surplus_by walk (descend (need ∷ []) lower upper) child) = elim c.if-visits_from.branch [
      | judge_for_one::judge_children_for_one-then-visits_from w ↦
          let visited : visits need.interval lower upper ≡ true = sym (ap (visits need.interval lower) c.separator_at-upper.ensures) ∙ sym c.visits_from.ensures ∙ w.if-visits_from.true in
          rw (goes_alone need lower upper visited, w.judged-is) w.judge_for_one-judged.ensures
      | judge_for_one::judge_children_for_one-else-visits_from w ↦
          let passed : visits need.interval lower upper ≡ false = sym (ap (visits need.interval lower) c.separator_at-upper.ensures) ∙ sym c.visits_from.ensures ∙ w.if-visits_from.false in
          rw (passes_by need lower upper passed, w.judged-is) w.judge_unvisited-judged.ensures
    ] in
    let told = rw is at judged in
    let both : c.if-surplus.surplus ≡ c.loop-place.surplus || c.in-Ok.more = elim c.if-surplus.branch [
      | judge_for_one::judge_children_for_one-then-surplus w ↦ rw (w.surplus-is, w.if-surplus.true) refl
      | judge_for_one::judge_children_for_one-else-surplus w ↦ rw (w.surplus-is, w.if-surplus.false) refl
    ] in
    let next : option_copied c.if-surplus.lower ≡ upper = elim c.if-surplus.branch [
      | judge_for_one::judge_children_for_one-then-surplus w ↦ rw w.lower-is c.separator_at-upper.ensures
      | judge_for_one::judge_children_for_one-else-surplus w ↦ rw w.lower-is c.separator_at-upper.ensures
    ] in
    rw (next, both) (
      missing_step walk (need ∷ []) _ ss c.loop-place.place _ _ _ c.loop-place-test.true c.index-children-place.is told.0 c.loop-place.invariant.0,
      surplus_step walk (need ∷ []) _ ss c.loop-place.place _ _ _ _ _ c.loop-place-test.true c.index-children-place.is told.1 c.loop-place.invariant.1,
    )

pub judge_for_one::judge_children_for_one-returns : goal.judge_for_one::judge_children_for_one-returns
judge_for_one::judge_children_for_one-returns t c = grind (arith, common_steps)

pub judging::judge_each-returns : goal.judging::judge_each-returns
judging::judge_each-returns t c = grind (arith, common_steps)

pub judge_for_one::judge_unvisited-returns-in-Leaf : goal.judge_for_one::judge_unvisited-returns-in-Leaf
judge_for_one::judge_unvisited-returns-in-Leaf t c = grind (arith, common_steps)
