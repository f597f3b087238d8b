-- An owner refuses no proofs that lead it on while its key has a leaf left.
use Rattle.std.proofs.Common.{◌≡◌, ℕ, ◌+◌, ◌<◌, List, Result, Ok, Err, inl, inr, refl}
use Rattle.std.specs.Prelude.{◌≢◌}
use Rattle.vo_spec.specs.declared.tables.Command.{Command}
use Rattle.vo_spec.specs.Secret.{Secret, secret_leaves}
use Rattle.owner_roots.specs.declared.owner_fault.OwnerFault.{OwnerFault}
use Rattle.owner_roots.specs.declared.owner_fault.OwnerFault.TheVariants as owner
use Rattle.owner_roots.specs.declared.roots.Roots.{Roots}
use Rattle.owner_roots.specs.Next.{NextOf}
use Rattle.owner_state.specs.declared.steps.Step.{Step}
use Rattle.owner_state.specs.Stepping.{step_to}
use Rattle.owner_state.proofs.OwnerSteps.{Steps, step_made, step_never_both, step_refused_by}

pub never_refused : (secret : Secret) (roots : Roots) (batch : List Command) (proofs : List ℕ)
    (answer : Result Step OwnerFault) (why : OwnerFault) (next : Roots) → answer ≡ Err why
    → why ≢ owner.Memory → Steps secret roots batch proofs answer
    → roots.version + 1 < secret_leaves secret → NextOf roots batch proofs (Ok next) → ⊥
never_refused secret roots batch proofs answer why next is known told left leads =
    elim (step_refused_by secret roots batch proofs answer why is told) [
      | inl memory ↦ known memory
      | inr refusal ↦
          step_never_both secret roots batch proofs why (step_to secret batch proofs next) refusal
          (step_made secret roots batch proofs next (step_to secret batch proofs next) left leads refl)
    ]
