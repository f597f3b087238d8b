use Rattle.query_plan.proofs.AnswerLaws.{plain_same}
use Rattle.query_plan.proofs.laws.plans_keep_results.Goals as goal

pub returns : goal.returns
returns c = λ ss q tables. plain_same ss q tables
