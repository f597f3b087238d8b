use Rattle.std.proofs.Common.{◌≡◌, Bool, suc, length, subst, sym, [], ◌∷◌}
use Rattle.std.proofs.lemmas.List.{length-append}
use Rattle.tree_stream.specs.Positions.{IsInSeparators, StandsAt}
use Rattle.tree_stream.proofs.PlaceLaws.{separators_taken}
use Rattle.std.proofs.Common.{List, ℕ, ◌-◌, Option, ap, ◌∙◌, arith}
use Rattle.std.specs.Prelude.{None}
use Rattle.tree_stream.specs.Findings.{visits_child}
use Rattle.tree_stream.specs.Remaining.{rest_of_children, rest_of_inner, lower_separator}
use Rattle.tree_stream.specs.Summaries.{levels_below}
use Rattle.tree_stream.proofs.Remainders.{same_with}
use Rattle.tree_stream.proofs.Steps.{yields_separator, yields_then, children_begin}
use Rattle.tree_stream.proofs.inner.next_separator.Goals as goal

pub returns-then-left-gt0-clause-yields : goal.returns-then-left-gt0-clause-yields
returns-then-left-gt0-clause-yields c = yields_separator c.args.context.now _ c.args.left (omega arith)

pub returns-clause-yields : goal.returns-clause-yields
returns-clause-yields c =
    let target = c.args.context.now.target in
    let levels = levels_below c.args.context.now.ancestors.items - 1 in
    let lower = lower_separator c.args.has_lower c.args.context.now.last_key.items in
    yields_then _ _ _ _ c.next_child.ensures.yields (λ rest.
    same_with target c.args.context.now.ancestors.items c.args.context.now.findings
    (rest_of_children target levels c.args.hasher c.push.new.self.items)
    (rest_of_inner target levels c.args.visited c.args.hasher c.args.child_visits.items lower c.args.left) rest rest
    (children_begin target levels c.args.visited c.args.hasher c.args.child_visits.items c.push.new.self.items c.visits_child.result lower c.args.left rest
    c.push.ensures.items
    (c.visits_child.ensures ∙ ap (λ (o : Option (List ℕ)). visits_child target c.args.visited o None) (c.lower_separator-lower.ensures ∙ ap (lower_separator c.args.has_lower) c.as_slice.ensures.value))
    (omega arith)))

pub returns-then-left-gt0-clause-stands : goal.returns-then-left-gt0-clause-stands
returns-then-left-gt0-clause-stands c = λ bytes at.
    let n : c.args.left ≡ suc (c.args.left - 1) = omega arith in
    let P : ℕ → Type 0 = λ left. IsInSeparators c.args.context.now.ancestors.items (length c.args.child_visits.items) left bytes in
    subst P n at

pub returns-clause-stands : goal.returns-clause-stands
returns-clause-stands c = λ bytes at.
    let grown : length c.push.new.self.items ≡ suc (length c.args.child_visits.items) =
    omega (arith, ap (λ (t : List Bool). length t) c.push.ensures.items, length-append c.args.child_visits.items (c.visits_child.result ∷ [])) in
    let w = separators_taken c.args.context.now.ancestors.items (length c.args.child_visits.items) (length c.push.new.self.items) c.args.left bytes at (omega arith) grown in
    let P : List ℕ → Type 0 = λ t. StandsAt c.next_child.new.context c.next_child.result t in
    subst P (sym w.parts) (c.next_child.ensures.stands w.above w.parent w.below w.front)
