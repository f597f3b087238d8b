use Rattle.std.proofs.Common.{◌≡◌, ℕ, List, ◌++◌, suc, ◌-◌, subst, sym, ap, ◌∙◌}
use Rattle.vo_spec.specs.TreeBytes.{tree_bytes}
use Rattle.tree_stream.specs.Places.{IsLeafFront}
use Rattle.tree_stream.specs.Positions.{IsInLeaf, StandsAt}
use Rattle.tree_stream.proofs.PlaceLaws.{leaf_whole}
use Rattle.std.proofs.Common.{arith}
use Rattle.tree_stream.proofs.Steps.{yields_then, yields_key, leaf_done}
use Rattle.tree_stream.proofs.leaves.next_entry.Goals as goal

pub returns-then-left-eq0-clause-yields : goal.returns-then-left-eq0-clause-yields
returns-then-left-eq0-clause-yields c =
    yields_then _ _ _ _ c.end_node.ensures.yields (λ rest.
    leaf_done c.args.context.now.target c.args.context.now.ancestors.items c.args.context.now.findings c.args.hasher c.digest.result c.args.left rest (omega arith) c.digest.ensures)

pub returns-clause-yields : goal.returns-clause-yields
returns-clause-yields c = yields_key c.args.context.now _ c.args.left (omega arith)

pub returns-then-left-eq0-clause-stands : goal.returns-then-left-eq0-clause-stands
returns-then-left-eq0-clause-stands c = λ bytes at.
    let none : c.args.left ≡ 0 = omega arith in
    let Q : ℕ → Type 0 = λ left. IsLeafFront at.leaf left in
    let w = leaf_whole at.leaf (subst Q none at.begun) in
    let P : List ℕ → Type 0 = λ t. StandsAt c.end_node.new.context c.end_node.result t in
    let is : at.above ++ tree_bytes w.tree ≡ bytes = ap (λ (t : List ℕ). at.above ++ t) (sym w.bytes_are) ∙ sym at.parts in
    subst P is (c.end_node.ensures.stands at.above w.tree at.node w.fits)

pub returns-clause-stands : goal.returns-clause-stands
returns-clause-stands c = λ bytes at.
    let n : c.args.left ≡ suc (c.args.left - 1) = omega arith in
    let P : ℕ → Type 0 = λ left. IsInLeaf c.args.context.now.ancestors.items left bytes in
    subst P n at
