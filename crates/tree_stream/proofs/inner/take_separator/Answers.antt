use Rattle.std.proofs.Common.{◌≡◌, length, arith, Bool, [], ◌∷◌}
use Rattle.std.proofs.lemmas.List.{length-append}
use Rattle.tree_stream.proofs.KeepingLaws.{rows_later}
use Rattle.tree_stream.proofs.PlaceLaws.{separator_taken}
use Rattle.std.proofs.Common.{List, ℕ, ◌-◌, ◌++◌, suc, Option, Some, ap, ◌∙◌}
use Rattle.tree_stream.specs.Findings.{visits_child}
use Rattle.tree_stream.specs.Remaining.{rest_of_inner, lower_separator}
use Rattle.tree_stream.specs.Summaries.{levels_below}
use Rattle.tree_stream.proofs.NodeLaws.{no_separator}
use Rattle.tree_stream.proofs.Remainders.{same_with, none_with}
use Rattle.tree_stream.proofs.Steps.{yields_invalid, yields_then, separator_step}
use Rattle.tree_stream.proofs.inner.take_separator.Goals as goal

pub returns-in-None-clause-yields : goal.returns-in-None-clause-yields
returns-in-None-clause-yields c =
    let target = c.args.context.now.target in
    let levels = levels_below c.args.context.now.ancestors.items - 1 in
    let lower = lower_separator c.args.head.has_lower c.args.context.now.last_key.items in
    yields_invalid _ _ (λ rest. none_with target c.args.context.now.ancestors.items c.args.context.now.findings
    (rest_of_inner target levels c.args.head.visited c.args.head.hasher c.args.head.child_visits.items lower (suc c.args.head.left)) (c.args.token.now ++ rest)
    (no_separator target levels c.args.head.visited c.args.head.hasher c.args.head.child_visits.items lower c.args.head.left (c.args.token.now ++ rest) (c.in-None.ensures rest)))

pub returns-in-Some-clause-yields : goal.returns-in-Some-clause-yields
returns-in-Some-clause-yields c =
    let target = c.args.context.now.target in
    let levels = levels_below c.args.context.now.ancestors.items - 1 in
    let lower = lower_separator c.args.head.has_lower c.args.context.now.last_key.items in
    yields_then _ _ _ _ c.next_separator.ensures.yields (λ rest.
    same_with target c.args.context.now.ancestors.items c.args.context.now.findings
    (rest_of_inner target levels c.args.head.visited c.add.new.self c.push.new.self.items (Some c.replace_key.new.last_key.items) c.args.head.left)
    (rest_of_inner target levels c.args.head.visited c.args.head.hasher c.args.head.child_visits.items lower (suc c.args.head.left)) rest (c.args.token.now ++ rest)
    (separator_step target levels c.args.head.visited c.args.head.hasher c.add.new.self c.args.head.child_visits.items c.push.new.self.items c.visits_child.result lower c.args.head.left
    c.args.token.now c.in-Some.separator.now c.replace_key.new.last_key.items rest
    c.in-Some.ensures.0 c.in-Some.ensures.1 c.add.ensures c.push.ensures.items
    (c.visits_child.ensures ∙ ap (λ (o : Option (List ℕ)). visits_child target c.args.head.visited o (Some c.in-Some.separator.now)) (c.lower_separator-lower.ensures ∙ ap (lower_separator c.args.head.has_lower) c.as_slice.ensures.value))
    c.replace_key.ensures))

pub returns-in-Some-clause-stands : goal.returns-in-Some-clause-stands
returns-in-Some-clause-stands c = λ bytes at.
    let grown : length c.push.new.self.items ≡ suc (length c.args.head.child_visits.items) =
    omega (arith, ap (λ (t : List Bool). length t) c.push.ensures.items, length-append c.args.head.child_visits.items (c.visits_child.result ∷ [])) in
    c.next_separator.ensures.stands (bytes ++ c.args.token.now)
    (separator_taken c.args.context.now.ancestors.items (length c.args.head.child_visits.items) (length c.push.new.self.items) c.args.head.left bytes c.in-Some.separator.now c.args.token.now at grown c.in-Some.ensures.0 c.in-Some.ensures.1)

pub returns-in-None-clause-keeps : goal.returns-in-None-clause-keeps
returns-in-None-clause-keeps c = λ bytes keeps. rows_later c.args.context.now bytes c.args.token.now keeps

pub returns-in-Some-clause-keeps : goal.returns-in-Some-clause-keeps
returns-in-Some-clause-keeps c = λ bytes keeps.
    c.next_separator.ensures.keeps (bytes ++ c.args.token.now) (rows_later c.args.context.now bytes c.args.token.now keeps)
