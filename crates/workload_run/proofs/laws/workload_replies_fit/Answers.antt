use Rattle.std.proofs.lemmas.List.Elements.{All-from_recursion}
use Rattle.workload_run.proofs.ReplyFits.{replies_fit}
use Rattle.workload_run.proofs.laws.workload_replies_fit.Goals as goal

pub returns : goal.returns
returns c = λ steps number most. All-from_recursion _ _ (replies_fit steps number most)
