-- Entries that an owner writes: they fit, and lead it on.
use Rattle.std.proofs.Common.{◌≡◌, ℕ, ◌+◌, ◌^◌, ◌<◌, ◌≤◌, lit<, zero, suc, take, List, [], ◌∷◌, length, Ok, refl, sym, ap, subst, ◌∙◌, arith}
use Rattle.vo_spec.specs.declared.tables.Command.{Command}
use Rattle.vo_spec.specs.declared.records.Entry.{Entry}
use Rattle.vo_spec.specs.Batches.{FitsBatch}
use Rattle.vo_spec.specs.Journals.{FitsEntry, max_proofs}
use Rattle.vo_spec.specs.Records.{FitsRecord, catalog_bytes, catalog_digest, record_bytes}
use Rattle.vo_spec.specs.Secret.{Secret, public_of_secret, secret_leaves}
use Rattle.vo_laws.specs.Sealing.{SignsValidly}
use Rattle.lms_sign.proofs.SignatureLaws.{signed_short}
use Rattle.sha2.proofs.Facts256.{length-sha256}
use Rattle.owner_roots.specs.declared.roots.Roots.{Roots}
use Rattle.owner_roots.specs.Owners.{first_roots, record_of_roots}
use Rattle.owner_roots.proofs.OwnedLaws.{next_version}
use Rattle.round_trips.proofs.SealedJournals.{secret_leaves_few}
use Rattle.owner_state.specs.declared.steps.Step.{Step}
use Rattle.owner_state.specs.Stepping.{AreSteps, AreStepsTo, IsNoStepAt, IsStepTo, StepOf, first_entry, signed_entry}
use Rattle.owner_state.proofs.OwnerSteps.{proofs_fit, step_parts}
use Rattle.vo_commands.proofs.OwnerLaws.{count_of}
use Rattle.honest_peers.proofs.Beginnings.{begins}
use Rattle.vo_world.specs.Keeping.{AreReplayable}

module _ (key : Secret) (signs : SignsValidly key) where
  pub first_fits : FitsEntry (first_entry key)
  first_fits = (begins key signs).fit.0

  -- each record of the owner has the key's identifier
  key_long : (roots : Roots) → length (record_of_roots (public_of_secret key) roots).id ≡ 16
  unfolding signed_entry record_of_roots
  key_long roots = first_fits.rec.id

  digest_long : (roots : Roots) → length (record_of_roots (public_of_secret key) roots).catalog ≡ 32
  unfolding record_of_roots catalog_digest
  digest_long roots = length-sha256 (5 ∷ catalog_bytes roots.catalog)

  version_is : (roots : Roots) → (record_of_roots (public_of_secret key) roots).version ≡ roots.version
  unfolding record_of_roots
  version_is roots = refl

  record_fits : (roots : Roots) → roots.version < 2 ^ 64 → FitsRecord (record_of_roots (public_of_secret key) roots)
  record_fits roots few = record { id = key_long roots; version = omega (arith, few, version_is roots); catalog = digest_long roots }

  signed_fits : (roots : Roots) (batch : List Command) (proofs : List ℕ) → roots.version < 2 ^ 64 → FitsBatch batch → length proofs ≤ max_proofs
      → FitsEntry (signed_entry key roots batch proofs)
  unfolding signed_entry
  signed_fits roots batch proofs few fits short = record {
    batch = fits;
    proofs = short;
    rec = record_fits roots few;
    signature =
        signed_short key roots.version (record_bytes (record_of_roots (public_of_secret key) roots));
  }

  pub step_fits : (roots : Roots) (batch : List Command) (proofs : List ℕ) (step : Step) → FitsBatch batch → StepOf key roots batch proofs (Ok step)
      → FitsEntry step.entry
  step_fits roots batch proofs step fits is =
      let parts = step_parts key roots batch proofs step is in
      let wide : 1125899906842624 < 2 ^ 64 = lit< tt in
      let few : step.roots.version < 2 ^ 64 =
      omega (arith, next_version roots batch proofs step.roots parts.next, parts.left, secret_leaves_few key, wide) in
      subst FitsEntry (sym parts.entry)
      (signed_fits step.roots batch proofs few fits (proofs_fit roots batch proofs step.roots parts.next))

module _ (key : Secret) where
  batch_of_signed : (roots : Roots) (batch : List Command) (proofs : List ℕ) → (signed_entry key roots batch proofs).batch.commands ≡ batch
  unfolding signed_entry
  batch_of_signed roots batch proofs = refl

  proofs_of_signed : (roots : Roots) (batch : List Command) (proofs : List ℕ) → (signed_entry key roots batch proofs).proofs ≡ proofs
  unfolding signed_entry
  proofs_of_signed roots batch proofs = refl

  -- the entry of a step leads to its roots
  pub step_leads : (roots : Roots) (batch : List Command) (proofs : List ℕ) (step : Step) → StepOf key roots batch proofs (Ok step)
      → IsStepTo key roots step.entry step.roots
  step_leads roots batch proofs step is =
      let parts = step_parts key roots batch proofs step is in
      let commands : step.entry.batch.commands ≡ batch = ap (λ (e : Entry). e.batch.commands) parts.entry ∙ batch_of_signed step.roots batch proofs in
      let bytes : step.entry.proofs ≡ proofs = ap (λ (e : Entry). e.proofs) parts.entry ∙ proofs_of_signed step.roots batch proofs in
      subst (λ (b : List Command). StepOf key roots b step.entry.proofs (Ok step)) (sym commands)
      (subst (λ (p : List ℕ). StepOf key roots batch p (Ok step)) (sym bytes) is)

  pub some_entry : (es : List Entry) (roots : Roots) → AreStepsTo key es roots → 0 < length es
  some_entry es roots steps = omega (arith, count_of key es roots steps)

  -- entries that an owner writes are so from the front on

  front_after : (before : Roots) (es : List Entry) (behind : Roots) (n : ℕ) → AreSteps key before es behind
      → (middle : Roots) × AreSteps key before (take n es) middle
  front_after before [] behind zero all = (before, refl)
  front_after before [] behind (suc n) all = (before, refl)
  front_after before (e ∷ es) behind zero all = (before, refl)
  front_after before (e ∷ es) behind (suc n) (after, is, rest) =
      let front = front_after after es behind n rest in
      (front.0, (after, is, front.1))

  front_steps : (es : List Entry) (roots : Roots) (n : ℕ) → AreStepsTo key es roots → (behind : Roots) × AreStepsTo key (take (suc n) es) behind
  unfolding AreStepsTo
  front_steps [] roots n all = absurd all
  front_steps (e ∷ es) roots n all = let front = front_after first_roots es roots n all.1 in (front.0, (all.0, front.1))

  pub never_no_step : (es : List Entry) (index : ℕ) → AreReplayable key es → IsNoStepAt key es index → ⊥
  never_no_step es index replayable stops =
      let front = front_steps es replayable.0 index replayable.1 in
      let same : suc index ≡ index + 1 = omega arith in
      stops.not_on front.0 (subst (λ (n : ℕ). AreStepsTo key (take n es) front.0) same front.1)

  -- an owner that takes a step has few entries
  pub few_entries : (es : List Entry) (roots : Roots) (batch : List Command) (proofs : List ℕ) (step : Step) → AreStepsTo key es roots
      → StepOf key roots batch proofs (Ok step) → step.roots.version < 1048576 → length es < 2 ^ 32
  few_entries es roots batch proofs step steps is few =
      let parts = step_parts key roots batch proofs step is in
      let wide : 1048576 < 2 ^ 32 = lit< tt in
      omega (arith, count_of key es roots steps, next_version roots batch proofs step.roots parts.next, few, wide)
