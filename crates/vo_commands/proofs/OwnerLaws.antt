-- The owner of a key behind its journal.
use Rattle.std.proofs.Common.{◌≡◌, ℕ, zero, suc, ◌+◌, ◌^◌, ◌<◌, lit<, List, [], ◌∷◌, ◌++◌, Option, Some, None, Ok, Err, length, slice_get, sym, ap, ◌∙◌, subst, arith}
use mathlib.Core.Logic.{inl, inr}
use Rattle.std.proofs.lemmas.List.{length-append}
use Rattle.std.specs.Prelude.{◌⊎◌, IfSome}
use Rattle.outside.specs.DiskModel.{DiskModel}
use Rattle.vo_spec.specs.declared.tables.Command.{Command}
use Rattle.vo_spec.specs.declared.records.Entry.{Entry}
use Rattle.vo_spec.specs.declared.records.Record.{Record}
use Rattle.vo_spec.specs.Journals.{FitsEntry}
use Rattle.vo_spec.specs.Records.{FitsCatalog}
use Rattle.vo_spec.specs.Secret.{Secret, public_of_secret}
use Rattle.owner_roots.specs.declared.owner_fault.OwnerFault.TheVariants as owner
use Rattle.owner_roots.specs.declared.roots.Roots.{Roots}
use Rattle.owner_roots.specs.Owners.{IsNextEntry, first_roots, record_of_roots}
use Rattle.owner_roots.proofs.OwnedLaws.{next_version}
use Rattle.owner_state.specs.declared.steps.Step.{Step}
use Rattle.owner_state.specs.Held.{Held}
use Rattle.owner_state.specs.Stepping.{AreSteps, AreStepsTo, IsStepTo, StepOf, first_entry, signed_entry}
use Rattle.owner_state.proofs.OwnerSteps.{step_parts}
use Rattle.owner_state.proofs.ReplayLaws.{first_step}
use Rattle.owner_journal.specs.declared.fault.JournalFault.{JournalFault}
use Rattle.owner_journal.specs.declared.fault.JournalFault.TheVariants as fault
use Rattle.owner_journal.specs.Resting.{IsFaultOf}
use Rattle.vo_commands.specs.declared.report.Stop.{Stop}
use Rattle.vo_commands.specs.Committing.{AreOfVersions, Follows}
use Rattle.vo_commands.specs.Owning.{IsBadJournal, StopsAtFault, StopsOpening}

module _ (secret : Secret) where
  step_versions : (before : Roots) (e : Entry) (after : Roots) → IsStepTo secret before e after
      → (after.version ≡ before.version + 1) × (e.rec.version ≡ after.version)
  unfolding signed_entry record_of_roots
  step_versions before e after is =
      let parts = step_parts secret before e.batch.commands e.proofs (record { entry = e; roots = after }) is in
      (next_version before e.batch.commands e.proofs after parts.next, ap (λ (x : Entry). x.rec.version) parts.entry)

  count_behind : (before : Roots) (es : List Entry) (behind : Roots) → AreSteps secret before es behind
      → behind.version ≡ before.version + length es
  count_behind before [] behind same = sym (ap (λ (r : Roots). r.version) same) ∙ omega arith
  count_behind before (e ∷ es) behind all =
      let here = (step_versions before e all.0 all.1).0 in
      let rest = count_behind all.0 es behind all.2 in
      omega (arith, here, rest)

  version_behind : (before : Roots) (es : List Entry) (behind : Roots) (v : ℕ) (e : Entry) → AreSteps secret before es behind
      → slice_get es v ≡ Some e → e.rec.version ≡ before.version + 1 + v
  version_behind before [] behind v e all found = absurd (cc)
  version_behind before (f ∷ es) behind zero e all found =
      let same : f ≡ e = cc in
      let here = step_versions before f all.0 all.1 in
      sym (ap (λ (g : Entry). g.rec.version) same) ∙ here.1 ∙ here.0 ∙ omega arith
  version_behind before (f ∷ es) behind (suc v) e all found =
      let here = (step_versions before f all.0 all.1).0 in
      let rest = version_behind all.0 es behind v e all.2 found in
      omega (arith, here, rest)

  pub count_of : (es : List Entry) (behind : Roots) → AreStepsTo secret es behind → length es ≡ behind.version + 1
  unfolding AreStepsTo
  count_of [] behind all = absurd all
  count_of (e ∷ es) behind all = omega (arith, count_behind first_roots es behind all.1)

  pub versions_of : (es : List Entry) (behind : Roots) → AreStepsTo secret es behind → AreOfVersions es
  unfolding AreStepsTo signed_entry record_of_roots
  versions_of [] behind all v e found = absurd all
  versions_of (f ∷ es) behind all zero e found =
      let same : f ≡ e = cc in
      sym (ap (λ (g : Entry). g.rec.version) same) ∙ ap (λ (g : Entry). g.rec.version) all.0
  versions_of (f ∷ es) behind all (suc v) e found = version_behind first_roots es behind v e all.1 found ∙ omega arith

more_from : (n : ℕ) (es : List Entry) (e : Entry) → ((v : ℕ) (g : Entry) → slice_get es v ≡ Some g → g.rec.version ≡ n + v) → e.rec.version ≡ n + length es
    → (v : ℕ) (f : Entry) → slice_get (es ++ e ∷ []) v ≡ Some f → f.rec.version ≡ n + v
more_from n [] e are is zero f found =
    let same : e ≡ f = cc in
    sym (ap (λ (g : Entry). g.rec.version) same) ∙ is
more_from n [] e are is (suc v) f found = absurd (cc)
more_from n (g ∷ es) e are is zero f found = are zero f found
more_from n (g ∷ es) e are is (suc v) f found =
    let more : (w : ℕ) (h : Entry) → slice_get es w ≡ Some h → h.rec.version ≡ suc n + w = λ w h at. are (suc w) h at ∙ omega arith in
    more_from (suc n) es e more (is ∙ omega arith) v f found ∙ omega arith

pub versions_more : (es : List Entry) (e : Entry) → AreOfVersions es → e.rec.version ≡ length es → AreOfVersions (es ++ e ∷ [])
versions_more es e are is v f found = more_from 0 es e (λ w g at. are w g at ∙ omega arith) (is ∙ omega arith) v f found ∙ omega arith

pub follows_given : (held : Held) (step : Step) (commands : List Command) (proofs : List ℕ) → (Ok step ≡ Err (owner.Memory) ⊎ StepOf held.key held.roots commands proofs (Ok step))
    → IsNextEntry (public_of_secret held.key) held.roots step.entry step.roots → FitsEntry step.entry → FitsCatalog step.roots.catalog
    → step.roots.version < 1048576 → Follows held step
follows_given held step commands proofs (inl never) next entry catalog few = absurd (cc)
follows_given held step commands proofs (inr is) next entry catalog few =
    record { left = (step_parts held.key held.roots commands proofs step is).left; next = next; entry = entry; catalog = catalog; few = few }

-- a journal to which a step's entry comes has few entries
pub few_entries : (held : Held) (step : Step) (es : List Entry) → Follows held step → length es ≡ held.roots.version + 1 → length es < 2 ^ 32
few_entries held step es follows count =
    let next = next_version held.roots step.entry.batch.commands step.entry.proofs step.roots follows.next.next in
    let wide : 1048576 < 2 ^ 32 = lit< tt in
    omega (arith, next, count, follows.few, wide)

pub versions_appended : (held : Held) (step : Step) (es later : List Entry) → Follows held step → AreOfVersions es → length es ≡ held.roots.version + 1
    → later ≡ es ++ step.entry ∷ [] → AreOfVersions later
unfolding record_of_roots
versions_appended held step es later follows are count is =
    let next = next_version held.roots step.entry.batch.commands step.entry.proofs step.roots follows.next.next in
    let own : step.entry.rec.version ≡ step.roots.version = ap (λ (r : Record). r.version) follows.next.signed.record_is in
    subst AreOfVersions (sym is) (versions_more es step.entry are (own ∙ next ∙ sym count))

pub count_appended : (held : Held) (step : Step) (es later : List Entry) (roots : Roots) → Follows held step → length es ≡ held.roots.version + 1
    → later ≡ es ++ step.entry ∷ [] → roots ≡ step.roots → length later ≡ roots.version + 1
count_appended held step es later roots follows count is same =
    let next = next_version held.roots step.entry.batch.commands step.entry.proofs step.roots follows.next.next in
    let more : length later ≡ length es + 1 = ap length is ∙ length-append es (step.entry ∷ []) in
    let own : roots.version ≡ step.roots.version = ap (λ (r : Roots). r.version) same in
    omega (arith, next, more, own, count)

-- Opening.

pub begun : (secret : Secret) (old new : List Entry) (e : Entry) (roots : Roots) → old ≡ [] → new ≡ old ++ e ∷ [] → e ≡ first_entry secret → roots ≡ first_roots
    → AreStepsTo secret new roots
begun secret old new e roots empty more is same =
    subst (λ (es : List Entry). AreStepsTo secret es roots) (sym (more ∙ ap (λ (es : List Entry). es ++ e ∷ []) empty)) (first_step secret e roots is same)

pub stops_damaged : (secret : Secret) (drive : Option DiskModel) (why : JournalFault) (stop : Stop) → StopsAtFault why stop
    → IfSome drive (λ known. IsFaultOf known.seen why) → StopsOpening secret drive stop
stops_damaged secret drive fault.Disk stop is found = subst (StopsOpening secret drive) (sym is) tt
stops_damaged secret drive (fault.Damaged index at) stop is found =
    subst (StopsOpening secret drive) (sym is.1) (index, is.2, bad drive found)
  where
    bad : (o : Option DiskModel) → IfSome o (λ known. IsFaultOf known.seen (fault.Damaged index at)) → IfSome o (λ known. IsBadJournal secret known.seen index)
    bad None found = tt
    bad (Some known) found = (found.0, inl (found.1, found.2))
stops_damaged secret drive fault.Memory stop is found = subst (StopsOpening secret drive) (sym is) tt
