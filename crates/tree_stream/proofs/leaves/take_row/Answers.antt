use Rattle.std.proofs.Common.{◌++◌}
use Rattle.tree_stream.specs.Remaining.{rest_of_row}
use Rattle.tree_stream.proofs.KeepingLaws.{behind_key, rows_later}
use Rattle.tree_stream.proofs.LeafLaws.{no_row}
use Rattle.tree_stream.proofs.Remainders.{none_with}
use Rattle.tree_stream.proofs.Steps.{yields_invalid}
use Rattle.tree_stream.proofs.leaves.take_row.Goals as goal

pub returns-in-Invalid-clause-ok : goal.returns-in-Invalid-clause-ok
returns-in-Invalid-clause-ok c =
    let target = c.args.context.now.target in
    let key = c.args.context.now.last_key.items in
    yields_invalid _ _ (λ rest. none_with target c.args.context.now.ancestors.items c.args.context.now.findings (rest_of_row target c.args.leaf.hasher key c.args.leaf.left) (c.args.token.now ++ rest)
    (no_row target c.args.leaf.hasher key c.args.leaf.left (c.args.token.now ++ rest) (c.in-Invalid.ensures rest)))

pub returns-in-Invalid-clause-keeps : goal.returns-in-Invalid-clause-keeps
returns-in-Invalid-clause-keeps c = λ bytes keeps. rows_later c.args.context.now bytes c.args.token.now (behind_key c.args.context.now bytes keeps)
