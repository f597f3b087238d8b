use Rattle.std.proofs.Common.{sym, ◌∙◌}
use Rattle.reply_stream.proofs.TreesLaws.{end_found, end_lost}
use Rattle.reply_stream.proofs.trees_stream.end_tree.Goals as goal

pub returns-in-Some : goal.returns-in-Some
returns-in-Some c = c.end_last.ensures ∙ end_found c.args.tree c.in-Some.summary (sym c.in-Some.is ∙ c.end.ensures.summary)

pub returns-in-None : goal.returns-in-None
returns-in-None c = end_lost c.args.tree (sym c.in-None.is ∙ c.end.ensures.summary)
