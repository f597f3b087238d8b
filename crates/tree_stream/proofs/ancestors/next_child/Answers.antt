use Rattle.std.proofs.Common.{◌≡◌, ℕ, suc, List, ◌++◌, length, subst, sym}
use Rattle.std.specs.Prelude.{reverse}
use Rattle.tree_stream.specs.declared.state.InnerNode.{InnerNode}
use Rattle.tree_stream.specs.Places.{IsInnerFront}
use Rattle.tree_stream.specs.Positions.{IsBelow}
use Rattle.tree_stream.proofs.PlaceLaws.{below_push}
use Rattle.std.proofs.Common.{◌-◌, refl, arith}
use Rattle.tree_stream.specs.Summaries.{levels_below}
use Rattle.tree_stream.specs.Remaining.{rest_of_children}
use Rattle.std.proofs.lemmas.Bool.{eqb-true}
use Rattle.tree_stream.proofs.Remainders.{none_with}
use Rattle.tree_stream.proofs.Steps.{yields_invalid, no_children, child_step}
use Rattle.tree_stream.proofs.ancestors.next_child.Goals as goal

pub returns-then-is_full-clause-yields : goal.returns-then-is_full-clause-yields
returns-then-is_full-clause-yields c =
    yields_invalid _ _ (λ rest. none_with c.args.context.now.target c.args.context.now.ancestors.items c.args.context.now.findings
    (rest_of_children c.args.context.now.target (levels_below c.args.context.now.ancestors.items - 1) c.args.node.hasher c.args.node.child_visits.items) rest
    (no_children c.args.context.now.target (levels_below c.args.context.now.ancestors.items - 1) c.args.node.hasher c.args.node.child_visits.items rest c.requires (grind (arith, eqb-true, c.is_full.ensures.value, c.if-is_full.true))))

pub returns-clause-yields : goal.returns-clause-yields
returns-clause-yields c =
    child_step c.args.context.now _ c.args.node _ c.remove-visited.result c.requires c.remove-visited.ensures.value refl c.remove-visited.ensures.items refl refl c.push.ensures.items

pub returns-clause-stands : goal.returns-clause-stands
returns-clause-stands c = λ above parent below front.
    let node : InnerNode = record { hasher = c.args.node.hasher; child_visits = c.remove-visited.new.self } in
    let ancestors : List InnerNode = c.args.context.now.ancestors.items in
    let n : length c.args.node.child_visits.items ≡ suc (length c.remove-visited.new.self.items) = omega (arith, c.requires, c.remove-visited.ensures.len) in
    let Q : ℕ → Type 0 = λ left. IsInnerFront parent left in
    let P : List InnerNode → Type 0 = λ all. IsBelow (reverse all) (above ++ parent) in
    subst P (sym c.push.ensures.items) (below_push ancestors node above parent below (subst Q n front))
