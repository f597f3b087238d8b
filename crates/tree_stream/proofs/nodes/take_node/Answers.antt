use Rattle.std.proofs.Common.{ℕ, ◌-◌, ◌++◌, ap, ◌∙◌}
use Rattle.tree_stream.specs.Remaining.{summary_at}
use Rattle.tree_stream.specs.Summaries.{levels_below}
use Rattle.tree_stream.proofs.KeepingLaws.{rows_later}
use Rattle.tree_stream.proofs.NodeLaws.{no_node_begins}
use Rattle.tree_stream.proofs.Remainders.{none_with}
use Rattle.tree_stream.proofs.Steps.{room, yields_invalid}
use Rattle.tree_stream.proofs.nodes.take_node.Goals as goal

pub returns-in-Invalid-clause-yields : goal.returns-in-Invalid-clause-yields
returns-in-Invalid-clause-yields c =
    let target = c.args.context.now.target in
    let ancestors = c.args.context.now.ancestors.items in
    yields_invalid _ _ (λ rest. none_with target ancestors c.args.context.now.findings (summary_at target (levels_below ancestors) c.args.visited) (c.args.token.now ++ rest)
    (ap (λ (n : ℕ). summary_at target n c.args.visited (c.args.token.now ++ rest)) (room ancestors c.args.context.now.few)
    ∙ no_node_begins target (levels_below ancestors - 1) c.args.visited (c.args.token.now ++ rest) (λ child. c.in-Invalid.ensures child rest)))

pub returns-in-Invalid-clause-keeps : goal.returns-in-Invalid-clause-keeps
returns-in-Invalid-clause-keeps c = λ bytes keeps. rows_later c.args.context.now bytes c.args.token.now keeps
