use Rattle.std.proofs.Common.{◌≡◌, ◌≤◌, ℕ, List, [], length, sym, ap, ◌∙◌, subst}
use Rattle.vo_spec.specs.declared.tables.Command.{Command}
use Rattle.vo_spec.specs.Batches.{FitsBatch}
use Rattle.vo_spec.specs.Journals.{max_proofs}
use Rattle.vo_spec.specs.Secret.{public_of_secret}
use Rattle.vo_laws.specs.Sealing.{SignsValidly}
use Rattle.vo_laws.proofs.StepLaws.{no_commands_fit}
use Rattle.owner_roots.specs.declared.roots.Roots.{Roots}
use Rattle.owner_roots.specs.Owners.{IsSignedFor, first_roots}
use Rattle.owner_state.specs.Stepping.{signed_entry}
use Rattle.owner_state.proofs.FirstVersion.{starts}
use Rattle.owner_state.proofs.OwnerSteps.{no_proofs_fit}
use Rattle.owner_state.proofs.owner.Owner.start.Goals as goal

pub sign_entry-requires-clause-batch : goal.sign_entry-requires-clause-batch
sign_entry-requires-clause-batch c = subst FitsBatch (sym c.new.ensures) no_commands_fit

pub sign_entry-requires-clause-proofs : goal.sign_entry-requires-clause-proofs
sign_entry-requires-clause-proofs c = subst (λ (bytes : List ℕ). length bytes ≤ max_proofs) (sym c.in_ok-proofs.ensures) no_proofs_fit

pub returns-clause-first : goal.returns-clause-first
returns-clause-first c =
    let kept : c.keep_tree_of.new.self ≡ c.args.key.now = c.keep_tree_of.ensures ∙ c.in_ok-own.ensures.value in
    starts (public_of_secret c.args.key.now) c.args.key.now c.in_ok-entry.entry
    ((rw kept at c.in_ok-entry.ensures.value)
    ∙ ap (λ (r : Roots). signed_entry c.args.key.now r c.new.result c.in_ok-proofs.proofs.items) c.first_roots-roots.ensures.value
    ∙ ap (λ (batch : List Command). signed_entry c.args.key.now first_roots batch c.in_ok-proofs.proofs.items) c.new.ensures
    ∙ ap (signed_entry c.args.key.now first_roots []) c.in_ok-proofs.ensures)
    (subst (λ (r : Roots). IsSignedFor (public_of_secret c.args.key.now) r c.in_ok-entry.entry) c.first_roots-roots.ensures.value (rw kept at c.in_ok-entry.ensures.signed))

pub returns-clause-signs : goal.returns-clause-signs
returns-clause-signs c =
    let told = c.in_ok-own.ensures in
    subst SignsValidly told.value (λ q message leaf. (told.valid q message leaf, told.by q message leaf))
