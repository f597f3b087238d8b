use Rattle.std.proofs.Common.{◌≡◌, ◌≤◌, ◌||◌, map, sym, ap, ◌∙◌, arith}
use Rattle.vo_spec.specs.Parts.{levels, levels_in}
use Rattle.mb_tree.specs.View.{part_of, parts_of}
use Rattle.mb_tree.proofs.PartLaws.{child_falls}
use Rattle.update_proof.specs.Changes.{change_has_surplus, surplus_along}
use Rattle.update_proof.proofs.InsertionPaths.{or_then, or_else}
use Rattle.update_proof.proofs.SurplusChildren.{past_surplus, child_surplus}
use Rattle.update_proof.proofs.surplus.+has_surplus.Goals as goal

pub children_have_surplus-returns-then-step-children : goal.children_have_surplus-returns-then-step-children
children_have_surplus-returns-then-step-children t c =
    c.any_open.ensures
    ∙ past_surplus c.args.key.now c.args.separators.now c.args.children.now c.step_of-step.result.child c.step_of-step.ensures.child c.args.change c.if-step-children.true

pub children_have_surplus-has_surplus-requires : goal.children_have_surplus-has_surplus-requires
children_have_surplus-has_surplus-requires t c =
    let falls : levels (part_of c.index-children-step.result) ≤ levels_in (parts_of c.args.children.now) = child_falls _ _ _ c.if-step-children.false c.index-children-step.is in
    (omega arith, tt)

pub children_have_surplus-returns-then-has_surplus : goal.children_have_surplus-returns-then-has_surplus
children_have_surplus-returns-then-has_surplus t c =
    let p = c.index-children-step.result in
    let opens = c.step_of-step.ensures.opens_sibling p c.if-step-children.false c.index-children-step.is in
    let beside = surplus_along c.step_of-step.result.child c.step_of-step.result.opens_sibling (map part_of c.args.children.now) in
    or_then c.has_surplus.result beside c.if-has_surplus.true
    ∙ ap (λ b. b || beside) c.has_surplus.ensures
    ∙ ap (λ b. change_has_surplus c.args.change c.args.key.now (part_of p) || surplus_along c.step_of-step.result.child b (map part_of c.args.children.now)) opens
    ∙ child_surplus c.args.key.now c.args.separators.now c.args.children.now c.step_of-step.result.child c.step_of-step.ensures.child p c.if-step-children.false c.index-children-step.is c.args.change

pub children_have_surplus-returns-else-has_surplus : goal.children_have_surplus-returns-else-has_surplus
children_have_surplus-returns-else-has_surplus t c =
    let p = c.index-children-step.result in
    let opens = c.step_of-step.ensures.opens_sibling p c.if-step-children.false c.index-children-step.is in
    or_else c.has_surplus.result c.has_sibling_surplus.result c.if-has_surplus.false
    ∙ ap (λ b. c.has_surplus.result || b) c.has_sibling_surplus.ensures
    ∙ ap (λ b. b || surplus_along c.step_of-step.result.child c.step_of-step.result.opens_sibling (map part_of c.args.children.now)) c.has_surplus.ensures
    ∙ ap (λ b. change_has_surplus c.args.change c.args.key.now (part_of p) || surplus_along c.step_of-step.result.child b (map part_of c.args.children.now)) opens
    ∙ child_surplus c.args.key.now c.args.separators.now c.args.children.now c.step_of-step.result.child c.step_of-step.ensures.child p c.if-step-children.false c.index-children-step.is c.args.change
