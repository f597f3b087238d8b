use Rattle.std.proofs.Common.{◌≡◌, subst, IfOk}
use Rattle.query_plan.specs.Plans.{QueryPlan}
use Rattle.vo_format.specs.View.{row_trees_of}
use Rattle.vo_store.specs.Proving.{plan_proofs}
use Rattle.vo_store.proofs.proving.bound_proofs.Goals as goal

pub returns : goal.returns
returns c =
    subst (λ (p : QueryPlan). IfOk c.plan_proofs.result (λ trees. row_trees_of trees ≡ plan_proofs p c.args.tables.now)) c.in_ok-plan.ensures c.plan_proofs.ensures
