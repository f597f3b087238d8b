use Rattle.std.proofs.Common.{◌≡◌, ℕ, ◌+◌, ◌<◌, List, Ok, Err, inr, sym, ap, subst, arith}
use Rattle.vo_spec.specs.declared.tables.Command.{Command}
use Rattle.vo_spec.specs.declared.records.Entry.{Entry}
use Rattle.vo_spec.specs.Secret.{public_of_secret, secret_leaves}
use Rattle.owner_roots.specs.declared.roots.Roots.{Roots}
use Rattle.owner_roots.specs.Owners.{IsNextEntry}
use Rattle.owner_roots.proofs.OwnedLaws.{next_version}
use Rattle.owner_state.specs.declared.steps.Step.{Step}
use Rattle.owner_state.specs.Held.{Held}
use Rattle.owner_state.specs.Stepping.{StepOf, signed_entry}
use Rattle.owner_state.proofs.OwnerSteps.{Steps, given, left_over, next_of_step, proofs_fit, refused, step_made, step_refused, step_spent}
use Rattle.owner_state.proofs.owner.Owner.step.Goals as goal

pub returns-then-is_spent-clause-answer : goal.returns-then-is_spent-clause-answer
returns-then-is_spent-clause-answer c =
    inr (step_spent c.args.self.now.key c.args.self.now.roots c.args.batch.now.commands c.args.proofs.now (c.is_spent.ensures.spent.0 c.if-is_spent.true))

pub returns-in-Err-clause-answer : goal.returns-in-Err-clause-answer
returns-in-Err-clause-answer c =
    let left = left_over c.is_spent.result (secret_leaves c.args.self.now.key) c.args.self.now.roots.version c.is_spent.ensures.spent.1 c.if-is_spent.false in
    let own : c.self.inside.roots.version + 1 < secret_leaves c.self.inside.key = subst (λ (h : Held). h.roots.version + 1 < secret_leaves h.key) (sym c.self.view_is) left in
    subst (λ (h : Held). Steps h.key h.roots c.args.batch.now.commands c.args.proofs.now (Err c.in-Err.fault)) c.self.view_is
    (step_refused c.self.inside.key c.self.inside.roots c.args.batch.now.commands c.args.proofs.now c.in-Err.fault own
    (refused c.self.inside.roots c.args.batch.now.commands c.args.proofs.now c.next.result c.in-Err.fault c.in-Err.is c.next.ensures.answer))

pub sign_copy-requires-clause-leaf : goal.sign_copy-requires-clause-leaf
sign_copy-requires-clause-leaf c =
    let left = left_over c.is_spent.result (secret_leaves c.args.self.now.key) c.args.self.now.roots.version c.is_spent.ensures.spent.1 c.if-is_spent.false in
    let own : c.self.inside.roots.version + 1 < secret_leaves c.self.inside.key = subst (λ (h : Held). h.roots.version + 1 < secret_leaves h.key) (sym c.self.view_is) left in
    let next = given c.self.inside.roots c.args.batch.now.commands c.args.proofs.now c.next.result c.in-Ok.roots c.in-Ok.is c.next.ensures.answer in
    omega (arith, own, next_version c.self.inside.roots c.args.batch.now.commands c.args.proofs.now c.in-Ok.roots next)

pub sign_copy-requires-clause-proofs : goal.sign_copy-requires-clause-proofs
sign_copy-requires-clause-proofs c =
    let next = given c.self.inside.roots c.args.batch.now.commands c.args.proofs.now c.next.result c.in-Ok.roots c.in-Ok.is c.next.ensures.answer in
    proofs_fit c.self.inside.roots c.args.batch.now.commands c.args.proofs.now c.in-Ok.roots next

pub returns-clause-answer : goal.returns-clause-answer
returns-clause-answer c =
    let batch : List Command = c.args.batch.now.commands in
    let proofs : List ℕ = c.args.proofs.now in
    let roots : Roots = c.in-Ok.roots in
    let left = left_over c.is_spent.result (secret_leaves c.args.self.now.key) c.args.self.now.roots.version c.is_spent.ensures.spent.1 c.if-is_spent.false in
    let own : c.self.inside.roots.version + 1 < secret_leaves c.self.inside.key = subst (λ (h : Held). h.roots.version + 1 < secret_leaves h.key) (sym c.self.view_is) left in
    let next = given c.self.inside.roots batch proofs c.next.result roots c.in-Ok.is c.next.ensures.answer in
    let entry : c.in_ok-entry.entry ≡ signed_entry c.self.inside.key roots batch proofs = c.in_ok-entry.ensures.value in
    let step : Step = record { entry = c.in_ok-entry.entry; roots = roots } in
    inr (subst (λ (h : Held). StepOf h.key h.roots batch proofs (Ok step)) c.self.view_is
    (step_made c.self.inside.key c.self.inside.roots batch proofs roots step own next (ap (λ (e : Entry). made e roots) entry)))
  where
    made : Entry → Roots → Step
    made e r = record { entry = e; roots = r }

pub returns-clause-next : goal.returns-clause-next
returns-clause-next c =
    let batch : List Command = c.args.batch.now.commands in
    let proofs : List ℕ = c.args.proofs.now in
    let roots : Roots = c.in-Ok.roots in
    let next = given c.self.inside.roots batch proofs c.next.result roots c.in-Ok.is c.next.ensures.answer in
    let entry : c.in_ok-entry.entry ≡ signed_entry c.self.inside.key roots batch proofs = c.in_ok-entry.ensures.value in
    subst (λ (h : Held). IsNextEntry (public_of_secret h.key) h.roots c.in_ok-entry.entry roots) c.self.view_is
    (next_of_step c.self.inside.key c.self.inside.roots batch proofs roots c.in_ok-entry.entry entry next c.in_ok-entry.ensures.signed)

pub returns-clause-few : goal.returns-clause-few
returns-clause-few c =
    let next = given c.self.inside.roots c.args.batch.now.commands c.args.proofs.now c.next.result c.in-Ok.roots c.in-Ok.is c.next.ensures.answer in
    let few = c.is_spent.ensures.few c.if-is_spent.false in
    let same = ap (λ (h : Held). h.roots.version) c.self.view_is in
    omega (arith, few, same, next_version c.self.inside.roots c.args.batch.now.commands c.args.proofs.now c.in-Ok.roots next)
