use Rattle.std.proofs.Common.{◌≡◌, List, true, map, inl, inr, refl, sym, ap, subst, ◌∙◌}
use Rattle.std.specs.Prelude.{zip}
use Rattle.std.proofs.lemmas.List.{length-map}
use Rattle.vo_spec.specs.declared.needs.Need.{Need}
use Rattle.mb_tree.specs.declared.parts.PartTree.{PartTree}
use Rattle.mb_tree.specs.View.{part_of}
use Rattle.query_plan.specs.PlanViews.{plan_seen}
use Rattle.query_plan.proofs.SourceLaws.{paired}
use Rattle.plan_run.specs.Running.{run_needs, run_rows, stops}
use Rattle.plan_run.proofs.MissingLaws.{stopped_missing}
use Rattle.vo_format.specs.View.{reply_of}
use Rattle.held_replies.specs.Testing.{any_missing, any_surplus}
use Rattle.held_replies.specs.Judging.{needed_for}
use Rattle.held_replies.proofs.ReplyTests.{missed, not_bare, not_missed}
use Rattle.held_replies.proofs.held_trees.run_trees.Goals as goal

pub returns-in-Err-Missing : goal.returns-in-Err-Missing
returns-in-Err-Missing c =
    let p = plan_seen c.args.plan.now in
    let r = reply_of c.args.reply.now in
    let stopped : stops (plan_seen c.args.plan.now) (map part_of c.deref.result.now) ≡ true = rw (c.in-Err-Missing.is, c.in-Err-Missing.field-0-is) at c.run_plan.ensures in
    inr (
      refl,
      stopped_missing p r.trees (length-map _ part_of ∙ c.requires) (paired c.args.plan.now.query.now)
          (subst (λ ts. stops (plan_seen c.args.plan.now) (map part_of ts) ≡ true) c.deref.ensures.value stopped),
    )

pub returns-in-Ok-are_bare : goal.returns-in-Ok-are_bare
returns-in-Ok-are_bare c =
    let p = plan_seen c.args.plan.now in
    let r = reply_of c.args.reply.now in
    let needed : c.as_slice.result.now ≡ run_needs p r.trees =
    c.as_slice.ensures ∙ c.in-Ok.ensures.2 ∙ ap (λ (ts : List PartTree). run_needs p (map part_of ts)) c.deref.ensures.value in
    let same : zip c.as_slice.result.now (map part_of c.deref-2.result.now) ≡ needed_for p r =
    ap (λ (ns : List (List Need)). zip ns (map part_of c.deref-2.result.now)) needed ∙ ap (λ (ts : List PartTree). zip (run_needs p r.trees) (map part_of ts)) c.deref-2.ensures.value in (
      ap any_missing (sym same) ∙ not_missed _ c.in-Ok-are_bare.ensures.0,
      not_bare _ _ c.in-Ok-are_bare.ensures.1 ∙ ap any_surplus same,
      c.in-Ok.ensures.1 ∙ ap (λ (ts : List PartTree). run_rows p (map part_of ts)) c.deref.ensures.value,
    )

pub returns-in-Err : goal.returns-in-Err
returns-in-Err c =
    let p = plan_seen c.args.plan.now in
    let r = reply_of c.args.reply.now in
    let needed : c.as_slice.result.now ≡ run_needs p r.trees =
    c.as_slice.ensures ∙ c.in-Ok.ensures.2 ∙ ap (λ (ts : List PartTree). run_needs p (map part_of ts)) c.deref.ensures.value in
    let same : zip c.as_slice.result.now (map part_of c.deref-2.result.now) ≡ needed_for p r =
    ap (λ (ns : List (List Need)). zip ns (map part_of c.deref-2.result.now)) needed ∙ ap (λ (ts : List PartTree). zip (run_needs p r.trees) (map part_of ts)) c.deref-2.ensures.value in
    elim c.in-Err.ensures [
      | inl memory ↦ inl memory
      | inr found ↦ let told = missed _ _ found in inr (told.0, ap any_missing (sym same) ∙ told.1)
    ]
