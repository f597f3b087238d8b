use Rattle.std.proofs.Common.{arith, ◌≡◌, List, [], ◌∷◌, ◌++◌, length, refl, sym, ap, subst, ◌∙◌, append_assoc, append-nil}
use Rattle.std.proofs.lemmas.List.{nil_from_length}
use Rattle.vo_world.specs.declared.events.Event.{Event}
use Rattle.vo_world.specs.declared.events.Said.{Said}
use Rattle.vo_world.specs.Runs.{Runs}
use Rattle.vo_world.specs.Steps.{FitsEvent}
use Rattle.vo_world.specs.WorldModel.{WorldModel}
use Rattle.vo_world.proofs.RunLaws.{fits_there, front_runs, on_err, run_clients, run_more}
use Rattle.vo_world.proofs.world.World.run.Goals as goal

pub loop-event-init : goal.loop-event-init
loop-event-init c = record {
  runs = subst (λ (said : List Said). Runs c.args.self.now [] said c.args.self.now) (sym c.new-said.ensures.items) refl;
  left = c.into_iter-event-iterator.ensures.into_iter_gives.0;
}

pub step-requires : goal.step-requires
step-requires c =
    let clients = run_clients c.args.self.now c.loop-event.yielded c.loop-event.said.items c.loop-event.self c.loop-event.invariant.runs in
    subst (λ n. FitsEvent n c.in-Some.event) (sym clients)
    (fits_there (length c.args.self.now.leasts) c.args.events.items c.loop-event.yielded c.next.new.self.rest.items c.in-Some.event
    (ap (λ (es : List Event). c.loop-event.yielded ++ es) (sym c.in-Some.ensures.steps.0) ∙ c.loop-event.invariant.left) c.requires)

pub returns-in_err-step-clause-err : goal.returns-in_err-step-clause-err
returns-in_err-step-clause-err c =
    on_err c.from_residual.result (front_runs c.args.self.now c.args.events.items c.loop-event.yielded c.loop-event.event-iterator.rest.items c.loop-event.said.items c.step.new.self
    c.loop-event.invariant.left
    (subst (λ (v : WorldModel). Runs c.args.self.now c.loop-event.yielded c.loop-event.said.items v) (sym c.in_err-step.ensures.err) c.loop-event.invariant.runs))

pub loop-event-preserved : goal.loop-event-preserved
loop-event-preserved c =
    let clients = run_clients c.args.self.now c.loop-event.yielded c.loop-event.said.items c.loop-event.self c.loop-event.invariant.runs in
    let here = ap (λ (es : List Event). c.loop-event.yielded ++ es) (sym c.in-Some.ensures.steps.0) ∙ c.loop-event.invariant.left in
    let fits = subst (λ n. FitsEvent n c.in-Some.event) (sym clients)
    (fits_there (length c.args.self.now.leasts) c.args.events.items c.loop-event.yielded c.next.new.self.rest.items c.in-Some.event here c.requires) in
    record {
      runs = subst (λ (said : List Said). Runs c.args.self.now (c.loop-event.yielded ++ c.in-Some.event ∷ []) said c.step.new.self) (sym c.in_ok-push.ensures.items)
          (run_more c.args.self.now c.loop-event.yielded c.loop-event.said.items c.loop-event.self c.in-Some.event c.in_ok-step.field-0 c.step.new.self
          c.loop-event.invariant.runs fits c.in_ok-step.ensures.ok);
      left = append_assoc c.loop-event.yielded (c.in-Some.event ∷ []) c.next.new.self.rest.items ∙ here;
    }

pub returns-in_err-push-clause-err : goal.returns-in_err-push-clause-err
returns-in_err-push-clause-err c =
    let clients = run_clients c.args.self.now c.loop-event.yielded c.loop-event.said.items c.loop-event.self c.loop-event.invariant.runs in
    let here = ap (λ (es : List Event). c.loop-event.yielded ++ es) (sym c.in-Some.ensures.steps.0) ∙ c.loop-event.invariant.left in
    let fits = subst (λ n. FitsEvent n c.in-Some.event) (sym clients)
    (fits_there (length c.args.self.now.leasts) c.args.events.items c.loop-event.yielded c.next.new.self.rest.items c.in-Some.event here c.requires) in
    on_err c.from_residual-in_err-push.result (front_runs c.args.self.now c.args.events.items (c.loop-event.yielded ++ c.in-Some.event ∷ []) c.next.new.self.rest.items
    (c.loop-event.said.items ++ c.in_ok-step.field-0 ∷ []) c.step.new.self (append_assoc c.loop-event.yielded (c.in-Some.event ∷ []) c.next.new.self.rest.items ∙ here)
    (run_more c.args.self.now c.loop-event.yielded c.loop-event.said.items c.loop-event.self c.in-Some.event c.in_ok-step.field-0 c.step.new.self
    c.loop-event.invariant.runs fits c.in_ok-step.ensures.ok))

pub returns-clause-ok : goal.returns-clause-ok
returns-clause-ok c =
    let none : c.loop-event.event-iterator.rest.items ≡ [] = nil_from_length c.loop-event.event-iterator.rest.items (omega (arith, c.loop-event.event-iterator.rest.ok, c.in-None.ensures.steps.0)) in
    let all : c.loop-event.yielded ≡ c.args.events.items =
    sym (append-nil c.loop-event.yielded) ∙ ap (λ (es : List Event). c.loop-event.yielded ++ es) (sym none) ∙ c.loop-event.invariant.left in
    subst (λ (es : List Event). Runs c.args.self.now es c.loop-event.said.items c.loop-event.self) all c.loop-event.invariant.runs
