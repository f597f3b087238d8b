use Rattle.plan_run.proofs.ByNames.{needs_same, right_needs_same, rows_same}
use Rattle.plan_run.proofs.QueryStops.{stopped_needs}
use Rattle.plan_run.proofs.laws.plans_run_as_their_queries.Goals as goal

pub returns : goal.returns
returns c = record { rows = rows_same; needs = needs_same; rights = right_needs_same; stops = stopped_needs }
