-- An owner that reopens its plain journal, and the run of `own` from there.
use Rattle.std.proofs.Common.{◌≡◌, ℕ, zero, suc, ◌+◌, List, [], ◌∷◌, take, Option, Some, Err, refl, sym, ap, ◌∙◌, subst, inl, inr, arith}
use Rattle.std.specs.Prelude.{◌⊎◌}
use Rattle.outside.specs.ConnectionModel.{ConnectionModel, open_next}
use Rattle.outside.specs.DiskModel.{DiskModel}
use Rattle.outside.specs.Outputs.{Writes, outside_failure}
use Rattle.vo_spec.specs.declared.records.Entry.{Entry}
use Rattle.vo_spec.specs.declared.tables.Batch.{Batch}
use Rattle.vo_spec.specs.declared.tables.Command.{Command}
use Rattle.vo_spec.specs.Journals.{IsJournal, batches_of}
use Rattle.vo_spec.specs.Secret.{Secret}
use Rattle.owner_roots.specs.declared.roots.Roots.{Roots}
use Rattle.owner_roots.specs.Owners.{first_roots}
use Rattle.owner_state.specs.Held.{Held}
use Rattle.owner_state.specs.Sealing.{FitEach}
use Rattle.owner_state.specs.Stepping.{AreSteps, AreStepsTo}
use Rattle.owner_state.proofs.JournalLaws.{one_journal}
use Rattle.owner_state.proofs.ReplayLaws.{same_behind}
use Rattle.vo_store.specs.StoreState.{StoreState}
use Rattle.owner_session.specs.Runs.{AreJudgements, input_of, snapshot_of}
use Rattle.owner_session.specs.Sessions.{SessionEnds}
use Rattle.owner_session.specs.SessionWork.{session}
use Rattle.sql_text.specs.Scripts.{IsScript}
use Rattle.vo_commands.specs.declared.report.Report.{Report}
use Rattle.vo_commands.specs.declared.report.Stop.{Stop}
use Rattle.vo_commands.specs.declared.report.Stop.TheVariants.{Refused, Outside, Memory}
use Rattle.vo_commands.specs.Committing.{IsJudgement, LeavesWith, entry_forms}
use Rattle.vo_commands.specs.Expected.{Ends}
use Rattle.vo_commands.specs.Owning.{Commits, CommitsFrom, CommitsOnline, Leaves, Opens, OwnEnds, StopsOpening, or_first_entry}
use Rattle.vo_commands.specs.Reports.{WritesOutcome}
use Rattle.honest_peers.specs.Owning.{IsOwnerAfter, IsStoreWithin, OwnsPlainly}
use Rattle.honest_peers.specs.Reopening.{EndsOnDisk, ServesOwner, ServesScript, owner_expected}
use Rattle.honest_peers.proofs.OwnRuns.{HasStatus, SessionsEnd, finished}

-- The journal.

-- steps up to some entry are steps
front_steps : (secret : Secret) (before : Roots) (es : List Entry) (behind : Roots) (n : ℕ)
    → AreSteps secret before es behind → (mid : Roots) × AreSteps secret before (take n es) mid
front_steps secret before es behind zero all = (before, refl)
front_steps secret before [] behind (suc n) all = (behind, all)
front_steps secret before (e ∷ es) behind (suc n) all =
    let rest = front_steps secret all.0 es behind n all.2 in (rest.0, (all.0, all.1, rest.1))

front_stands : (secret : Secret) (es : List Entry) (behind : Roots) (n : ℕ)
    → AreStepsTo secret es behind → (mid : Roots) × AreStepsTo secret (take (suc n) es) mid
unfolding AreStepsTo
front_stands secret [] behind n all = absurd all
front_stands secret (e ∷ es) behind n all =
    let rest = front_steps secret first_roots es behind n all.1 in (rest.0, (all.0, rest.1))

some_entries : (batches : List (List Command)) (es : List Entry) → batches_of es ≡ [] ∷ batches
    → (secret : Secret) → or_first_entry secret es ≡ es
some_entries batches [] are secret = absurd (cc are)
some_entries batches (e ∷ es) are secret = refl

same_held : (a b : Held) → a.key ≡ b.key → a.roots ≡ b.roots → a ≡ b
same_held a b keys roots =
    ap (λ (k : Secret). record { key = k; roots = a.roots }) keys
    ∙ ap (λ (r : Roots). record { key = b.key; roots = r }) roots

module _ (secret : Secret) (batches : List (List Command)) (held : Held) (es : List Entry)
    (drive : DiskModel) (own : IsOwnerAfter secret batches held es)
    (journal : IsJournal drive.seen es) where
  -- the owner stands as before
  stands_again : (opened : Option DiskModel) (again : Held) (found : List Entry)
      → Opens secret (Some drive) opened again found → (again ≡ held) × (found ≡ es)
  stands_again opened again found opens =
      let was = opens.found in
      let same : was.0 ≡ es = one_journal drive.seen was.0 es was.1 journal in
      let found_is : found ≡ es = was.2 ∙ ap (or_first_entry secret) same
      ∙ some_entries batches es own.batches_are secret in
      let steps : AreStepsTo secret es again.roots =
      subst (λ (fs : List Entry). AreStepsTo secret fs again.roots) found_is opens.steps in (
        same_held again held (opens.key ∙ sym own.key_is)
            (same_behind secret es again.roots held.roots steps own.steps),
        found_is,
      )

  -- and its journal isn't bad
  never_bad : (report : Report) → StopsOpening secret (Some drive) (Refused report) → ⊥
  never_bad report stops = elim stops.2.1 [
    | inl damaged ↦ damaged.0.1 es journal
    | inr bad ↦
        let same : stops.2.0 ≡ es = one_journal drive.seen stops.2.0 es bad.0 journal in
        let front = front_stands secret es held.roots stops.0 own.steps in
        let next : suc stops.0 ≡ stops.0 + 1 = omega arith in
        bad.2.not_on front.0 (subst (λ (fs : List Entry). AreStepsTo secret (take (stops.0 + 1) fs) front.0)
        (sym same) (subst (λ (n : ℕ). AreStepsTo secret (take n es) front.0) next front.1))
  ]

-- The run.

last_written : {Out : Type 0} (status : ℕ) (before after : Option (List ℕ))
    → Writes outside_failure Out status before after → HasStatus 3 Out status
last_written status before after (inl h) = inl h.0
last_written status before after (inr (inl h)) = inr (inl (h.0, h.1))
last_written status before after (inr (inr h)) = inr (inr h.0)

module _ (Files Net Disk Out : Type 0) (secret : Secret) (law : SessionsEnd)
    (batches : List (List Command)) (new : List Batch) (status : ℕ) (held : Held) (es : List Entry)
    (s : StoreState) (own : IsOwnerAfter secret batches held es) (within : IsStoreWithin secret batches s)
    (fit : FitEach new) where
  abbrev Plainly : Option DiskModel → Type 0
  Plainly drive = EndsOnDisk secret batches new (Files ⊎ Net ⊎ Disk ⊎ Out) status drive

  faulty : (drive : Option DiskModel) → Files ⊎ Net ⊎ Disk ⊎ Out → HasStatus 3 Out status → Plainly drive
  faulty drive rose (inl is) = inl (is, rose)
  faulty drive rose (inr (inl h)) = inl (h.0, rose)
  faulty drive rose (inr (inr h)) = inr (inl h)

  session_plain : (drive : Option DiskModel) (before after : ConnectionModel) (written later_written : Option (List ℕ))
      → Commits new Net Disk Out status held es drive before after written later_written
      → ServesOwner s held es new before.coming → Plainly drive
  session_plain drive before after written later_written run serves = step run.runs.ends
    where
      ended : (store : StoreState) → Leaves drive run.entries
          → OwnsPlainly secret batches new (Net ⊎ Disk ⊎ Out) status run.later run.entries store → Plainly drive
      ended store leaves (inl h) = inl (h.0, inr h.1)
      ended store leaves (inr (inl h)) = inr (inl h)
      ended store leaves (inr (inr (ending, behind, comes, is, owner, stands, represent))) =
          inr (inr (ending, behind, run.later, run.entries, store, comes, is, owner, leaves, stands))

      step : SessionEnds (session entry_forms held es new (input_of (snapshot_of before written held es) run.runs.judgements))
          Net Disk Out (Leaves drive run.entries) (LeavesWith drive run.entries) status run.runs.deeds
          (snapshot_of before written held es) (snapshot_of after later_written run.later run.entries) → Plainly drive
      step (inl h) =
          let judged = subst (AreJudgements IsJudgement) h.1.2.others_are run.runs.are_judgements in
          let served = serves run.runs.judgements judged in
          ended served.0 h.0
          (finished secret law batches new status held es drive before after written later_written s served.0 run own within fit served.1 h.1)
      step (inr (inl h)) = faulty drive (inr (inl h.0)) (last_written status _ _ h.2.1)
      step (inr (inr (inl h))) = faulty drive (inr (inr (inl h.0))) (last_written status _ _ h.2.1)
      step (inr (inr (inr (inl h)))) = inl (h.2.0, inr (inr (inr h.0)))
      step (inr (inr (inr (inr h)))) = inr (inl h.1.0)

  online_plain : (drive : Option DiskModel) (before : ConnectionModel) (wire : Option ConnectionModel)
      (written later_written : Option (List ℕ))
      → CommitsOnline new Net Disk Out status held es drive before wire written later_written
      → ServesOwner s held es new (open_next before).coming → Plainly drive
  online_plain drive before wire written later_written (inl (rose, leaves, same, wrote)) serves =
      faulty drive (inr (inl rose)) (last_written status written later_written wrote)
  online_plain drive before wire written later_written (inr (after, is, commits)) serves =
      session_plain drive (open_next before) after written later_written commits serves

  pub from_plain : (drive : DiskModel) (later_drive : Option DiskModel) (before : ConnectionModel)
      (wire : Option ConnectionModel) (written later_written : Option (List ℕ)) → IsJournal drive.seen es
      → CommitsFrom secret new Net Disk Out status (Some drive) later_drive (Some before) wire written later_written
      → ServesOwner s held es new (open_next before).coming → Plainly later_drive
  from_plain drive later_drive before wire written later_written journal (inl (stop, stops, rose, leaves, same, wrote)) serves =
      stopped stop stops rose wrote
    where
      stopped : (stop : Stop) → StopsOpening secret (Some drive) stop → (stop ≡ Outside → Disk)
          → WritesOutcome (Err stop) Out status written later_written → Plainly later_drive
      stopped (Refused report) stops rose wrote = absurd (never_bad secret batches held es drive own journal report stops)
      stopped Outside stops rose wrote =
          faulty later_drive (inr (inr (inl (rose refl)))) (last_written status written later_written wrote)
      stopped Memory stops rose wrote = inr (inl wrote.0)
  from_plain drive later_drive before wire written later_written journal (inr (again, found, opened, opens, goes)) serves =
      let stands = stands_again secret batches held es drive own journal opened again found opens in
      online_plain later_drive before wire written later_written
      (subst (λ (fs : List Entry). CommitsOnline new Net Disk Out status held fs later_drive before wire written later_written) stands.1
      (subst (λ (k : Held). CommitsOnline new Net Disk Out status k found later_drive before wire written later_written) stands.0
      (goes before refl))) serves

pub own_runs : {Files Net Disk Out : Type 0} (secret : Secret) (law : SessionsEnd) (batches : List (List Command))
    (text : List ℕ) (some : List Batch) (status : ℕ) (held : Held) (es : List Entry) (drive : DiskModel)
    (later_drive : Option DiskModel) (before : ConnectionModel) (wire : Option ConnectionModel)
    (written later_written : Option (List ℕ)) (s : StoreState) → IsOwnerAfter secret batches held es
    → IsJournal drive.seen es → IsStoreWithin secret batches s → IsScript text some
    → ServesScript s held es text (open_next before).coming
    → OwnEnds (owner_expected secret text) Files Net Disk Out status (Some drive) later_drive (Some before) wire
    written later_written
    → (new : List Batch) × IsScript text new
    × EndsOnDisk secret batches new (Files ⊎ Net ⊎ Disk ⊎ Out) status later_drive
own_runs {Files = Files} {Net = Net} {Disk = Disk} {Out = Out} secret law batches text some status held es drive later_drive before wire written
    later_written s own journal within script serves (inl (ends, same, still)) = (some, script, step ends)
  where
    step : Ends (owner_expected secret text) Files Out status written later_written
        → EndsOnDisk secret batches some (Files ⊎ Net ⊎ Disk ⊎ Out) status later_drive
    step (inl h) = inr (inl h.0)
    step (inr (inl (output, inl h, wrote))) = absurd h.2
    step (inr (inl (output, inr h, wrote))) = absurd (h.0 some script)
    step (inr (inr (rose, wrote))) = elim (last_written status written later_written wrote) [
      | inl is ↦ inl (is, inl rose)
      | inr (inl h) ↦ inl (h.0, inl rose)
      | inr (inr h) ↦ inr (inl h)
    ]
own_runs {Files = Files} {Net = Net} {Disk = Disk} {Out = Out} secret law batches text some status held es drive later_drive before wire written
    later_written s own journal within script serves (inr (owner, new, commitment, commits)) =
    let is_script : IsScript text new = subst (IsScript text) commitment.2.1 commitment.1 in
    let due = serves new is_script in (
      new,
      is_script,
      from_plain Files Net Disk Out secret law batches new status held es s own within due.0 drive later_drive before wire
          written later_written journal
          (subst (λ (k : Secret). CommitsFrom k new Net Disk Out status (Some drive) later_drive (Some before) wire written later_written)
          (sym commitment.2.0) commits) due.1,
    )
