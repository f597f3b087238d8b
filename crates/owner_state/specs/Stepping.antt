-- What an owner that holds roots alone writes: the entry of version 0, and of each batch that leads
-- it on.
use Rattle.std.specs.Prelude.{◌≡◌, ◌⊎◌, ℕ, ◌+◌, ◌<◌, ◌≤◌, List, [], ◌∷◌, take, Result, Ok, Err}
use Rattle.std.specs.Result.{result_map_both}
use Rattle.vo_spec.specs.declared.tables.Command.{Command}
use Rattle.vo_spec.specs.declared.records.Entry.{Entry}
use Rattle.vo_spec.specs.Records.{record_bytes}
use Rattle.vo_spec.specs.Replies.{proofs_bytes}
use Rattle.vo_spec.specs.Secret.{Secret, public_of_secret, lms_signature, secret_leaves}
use Rattle.owner_roots.specs.declared.owner_fault.OwnerFault.{OwnerFault}
use Rattle.owner_roots.specs.declared.owner_fault.OwnerFault.TheVariants as fault
use Rattle.owner_roots.specs.declared.roots.Roots.{Roots}
use Rattle.owner_roots.specs.Next.{NextOf}
use Rattle.owner_roots.specs.Owners.{first_roots, record_of_roots}
use Rattle.owner_state.specs.declared.steps.Step.{Step}

-- the entry of a batch with these proofs, the roots being those behind it
unfoldable pub signed_entry : Secret → Roots → List Command → List ℕ → Entry
signed_entry secret roots batch proofs =
    let rec = record_of_roots (public_of_secret secret) roots in
    record {
      batch = record { commands = batch };
      proofs = proofs;
      rec = rec;
      signature = lms_signature secret roots.version (record_bytes rec);
    }

-- the entry of version 0: no commands, and proofs of no trees
abbrev pub first_entry : Secret → Entry
first_entry secret = signed_entry secret first_roots [] (proofs_bytes [])

abbrev pub step_to : Secret → List Command → List ℕ → Roots → Step
step_to secret batch proofs roots =
    record { entry = signed_entry secret roots batch proofs; roots = roots }

-- What an owner of this key, with these roots, makes of a batch and its proofs: nothing where the
-- key has no leaf for another version, and else the entry of the next roots. Want of memory is no
-- answer of this.
unfoldable pub StepOf : Secret → Roots → List Command → List ℕ → Result Step OwnerFault → Type 0
StepOf secret roots batch proofs answer =
    ((secret_leaves secret ≤ roots.version + 1) × (answer ≡ Err fault.KeySpent))
    ⊎ ((roots.version + 1 < secret_leaves secret)
    × (next : Result Roots OwnerFault) × NextOf roots batch proofs next
    × (answer ≡ result_map_both (step_to secret batch proofs) (λ why. why) next))

-- the entry is what a step gives of its batch and its proofs
abbrev pub IsStepTo : Secret → Roots → Entry → Roots → Type 0
IsStepTo secret before e after =
    StepOf secret before e.batch.commands e.proofs (Ok (record { entry = e; roots = after }))

-- Each entry is such a step, from the roots before the first of them to those behind the last.
abbrev pub AreSteps : Secret → Roots → List Entry → Roots → Type 0
AreSteps secret before [] behind = before ≡ behind
AreSteps secret before (e ∷ es) behind =
    (after : Roots) × IsStepTo secret before e after × AreSteps secret after es behind

-- The entries that an owner of this key writes from version 0 on, and its roots behind the last of
-- them.
unfoldable pub AreStepsTo : Secret → List Entry → Roots → Type 0
AreStepsTo secret [] behind = ⊥
AreStepsTo secret (e ∷ es) behind = (e ≡ first_entry secret) × AreSteps secret first_roots es behind

-- The first entry that is not so, or is wanted and isn't there, has this number.
pub record IsNoStepAt (secret : Secret) (es : List Entry) (index : ℕ) : Type 0 where
  pub so_far : 0 < index → (behind : Roots) × AreStepsTo secret (take index es) behind
  pub not_on : (behind : Roots) → AreStepsTo secret (take (index + 1) es) behind → ⊥
