use Rattle.vo_spec.specs.Results.{place_value}
use Rattle.query_plan.proofs.MeaningLaws.{met_same}
use Rattle.query_plan.proofs.laws.bindings_keep_conditions.Goals as goal

pub returns : goal.returns
returns c = λ ss q rows. met_same ss (place_value rows) q.condition
