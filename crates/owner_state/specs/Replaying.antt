-- A step to an entry that is there.
use Rattle.std.specs.Prelude.{◌≡◌, Option, Some, None}
use Rattle.vo_spec.specs.declared.records.Entry.{Entry}
use Rattle.vo_spec.specs.Records.{FitsCatalog}
use Rattle.vo_spec.specs.Secret.{Secret, public_of_secret}
use Rattle.owner_roots.specs.declared.roots.Roots.{Roots}
use Rattle.owner_roots.specs.Owners.{IsNextEntry}
use Rattle.owner_state.specs.declared.steps.Step.{Step}
use Rattle.owner_state.specs.Stepping.{IsStepTo}

-- the step to the entry, or nothing, where there is none
abbrev pub GivesStepAs : Secret → Roots → Entry → Option Step → Type 0
GivesStepAs secret before e None = (after : Roots) → IsStepTo secret before e after → ⊥
GivesStepAs secret before e (Some step) =
    (step.entry ≡ e) × IsStepTo secret before e step.roots
    × IsNextEntry (public_of_secret secret) before e step.roots × FitsCatalog step.roots.catalog
