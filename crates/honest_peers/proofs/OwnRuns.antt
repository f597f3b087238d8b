-- What a run of `own` comes to over a connection that an honest store serves.
use Rattle.std.proofs.Common.{◌≡◌, ℕ, List, ◌++◌, Option, sym, ap, ◌∙◌, subst, inl, inr, Some}
use Rattle.std.specs.Prelude.{◌⊎◌}
use Rattle.outside.specs.ConnectionModel.{ConnectionModel}
use Rattle.outside.specs.DiskModel.{DiskModel}
use Rattle.outside.specs.Outputs.{Output, outside_failure}
use Rattle.vo_spec.specs.declared.records.Entry.{Entry}
use Rattle.vo_spec.specs.declared.tables.Batch.{Batch}
use Rattle.vo_spec.specs.declared.tables.Command.{Command}
use Rattle.vo_spec.specs.Honest.{RepresentTables}
use Rattle.vo_spec.specs.Secret.{Secret}
use Rattle.vo_spec.specs.Tables.{tables_after}
use Rattle.owner_state.specs.Held.{Held}
use Rattle.owner_state.specs.Sealing.{FitEach}
use Rattle.link_frames.specs.Scripts.{others}
use Rattle.vo_store.specs.StoreState.{StoreState}
use Rattle.owner_session.specs.Endings.{Ending, Done, StoreRefuses, StandsElsewhere, OwnerRefuses, BadAnswer, CutAnswer, output_of}
use Rattle.owner_session.specs.Runs.{AreJudgements, Snapshot, entries_of, input_of, snapshot_of, state_after}
use Rattle.owner_session.specs.Sessions.{Finishes, SessionEnds, WritesEnding, WritesLast}
use Rattle.owner_session.specs.SessionWork.{session}
use Rattle.vo_commands.specs.Committing.{IsJudgement, LeavesWith, entry_forms}
use Rattle.vo_commands.specs.Owning.{Commits, Leaves}
use Rattle.honest_peers.specs.Answering.{AreServed}
use Rattle.honest_peers.specs.Owning.{EndsPlainly, IsOwnerAfter, IsStoreWithin, OwnsPlainly}
use Rattle.honest_peers.proofs.Trading.{Deeds, OwnInput, OwnWork}

-- the status by what is written last
abbrev pub HasStatus : ℕ → Type 0 → ℕ → Type 0
HasStatus due Out status = (status ≡ due) ⊎ ((status ≡ 3) × Out) ⊎ (status ≡ 4)

last_status : {Out : Type 0} (output : Output) (status : ℕ) (deeds : Deeds)
    (before after : Snapshot Held Entry) → WritesLast output Out status deeds before after
    → HasStatus output.status Out status
last_status output status deeds before after (inl h) = inl h.0
last_status output status deeds before after (inr (inl h)) = inr (inl (h.0, h.1))
last_status output status deeds before after (inr (inr h)) = inr (inr h.0)

ending_status : {Out : Type 0} (ending : Ending) (status : ℕ) (deeds : Deeds)
    (before after : Snapshot Held Entry) → WritesEnding ending Out status deeds before after
    → HasStatus (output_of ending).status Out status
ending_status Done status deeds before after h = inl h.0
ending_status (StoreRefuses code) status deeds before after h =
    last_status (output_of (StoreRefuses code)) status deeds before after h
ending_status StandsElsewhere status deeds before after h = last_status (output_of StandsElsewhere)
    status deeds before after h
ending_status (OwnerRefuses cause lines) status deeds before after h =
    last_status (output_of (OwnerRefuses cause lines)) status deeds before after h
ending_status (BadAnswer size) status deeds before after h =
    last_status (output_of (BadAnswer size)) status deeds before after h
ending_status (CutAnswer got) status deeds before after h = last_status (output_of (CutAnswer got))
    status deeds before after h

-- what sessions come to
abbrev pub SessionsEnd : Type 0
SessionsEnd = (secret : Secret) (batches : List (List Command)) (held : Held) (es : List Entry)
    (new : List Batch) (s later : StoreState) (input : OwnInput) (ending : Ending)
    → IsOwnerAfter secret batches held es → IsStoreWithin secret batches s → FitEach new
    → AreServed s (session entry_forms held es new input).events input.coming later
    → AreJudgements IsJudgement (others (session entry_forms held es new input).events)
    → (session entry_forms held es new input).value ≡ Some ending
    → (ends : EndsPlainly secret batches held es new
    (others (session entry_forms held es new input).events) ending later)
    × RepresentTables later.tables (tables_after ends.behind)

module _ {Net Disk Out : Type 0} (secret : Secret) (law : SessionsEnd)
    (batches : List (List Command)) (new : List Batch) (status : ℕ) (held : Held) (es : List Entry)
    (drive : Option DiskModel) (before after : ConnectionModel)
    (written later_written : Option (List ℕ)) (s store : StoreState)
    (run : Commits new Net Disk Out status held es drive before after written later_written) where
  abbrev start : Snapshot Held Entry
  start = snapshot_of before written held es

  abbrev end : Snapshot Held Entry
  end = snapshot_of after later_written run.later run.entries

  abbrev work : OwnWork
  work = session entry_forms held es new (input_of start run.runs.judgements)

  abbrev Plainly : Type 0
  Plainly = OwnsPlainly secret batches new (Net ⊎ Disk ⊎ Out) status run.later run.entries store

  by_fault : Net ⊎ Disk ⊎ Out
      → WritesLast outside_failure Out status run.runs.deeds start end → Plainly
  by_fault rose writes =
      step (last_status outside_failure status run.runs.deeds start end writes)
    where
      step : HasStatus 3 Out status → Plainly
      step (inl is) = inl (is, rose)
      step (inr (inl h)) = inl (h.0, rose)
      step (inr (inr h)) = inr (inl h)

  pub finished : IsOwnerAfter secret batches held es → IsStoreWithin secret batches s → FitEach new
      → AreServed s work.events before.coming store
      → Finishes work Out status run.runs.deeds start end → Plainly
  finished own within fit served fin =
      let deeds_are : run.runs.deeds ≡ others work.events = fin.2.others_are in
      let judged : AreJudgements IsJudgement (others work.events) =
      subst (AreJudgements IsJudgement) deeds_are run.runs.are_judgements in
      let shown = law secret batches held es new s store (input_of start run.runs.judgements) fin.0
      own within fit served judged fin.1 in
      let ends = shown.0 in
      let state : state_after held (others work.events) ≡ run.later =
      ap (state_after held) (sym deeds_are) ∙ sym run.runs.leads.state in
      let entries : es ++ entries_of (others work.events) ≡ run.entries =
      ap (λ (deeds : Deeds). es ++ entries_of deeds) (sym deeds_are)
      ∙ sym run.runs.leads.entries in
      let stands : IsOwnerAfter secret ends.behind run.later run.entries =
      subst (IsOwnerAfter secret ends.behind run.later) entries
      (subst (λ (h : Held). IsOwnerAfter secret ends.behind h
      (es ++ entries_of (others work.events))) state ends.owner) in
      elim (ending_status fin.0 status run.runs.deeds start end fin.3) [
        | inl is ↦ inr (inr (fin.0, ends.behind, ends.comes, is, stands, ends.store, shown.1))
        | inr (inl h) ↦ inl (h.0, inr (inr h.1))
        | inr (inr h) ↦ inr (inl h)
      ]

  pub own_ends : IsOwnerAfter secret batches held es → IsStoreWithin secret batches s → FitEach new
      → AreServed s work.events before.coming store → Plainly
  own_ends own within fit served = step run.runs.ends
    where
      step : SessionEnds work Net Disk Out (Leaves drive run.entries) (LeavesWith drive run.entries)
          status run.runs.deeds start end → Plainly
      step (inl h) = finished own within fit served h.1
      step (inr (inl h)) = by_fault (inl h.0) h.2.1
      step (inr (inr (inl h))) = by_fault (inr (inl h.0)) h.2.1
      step (inr (inr (inr (inl h)))) = inl (h.2.0, inr (inr h.0))
      step (inr (inr (inr (inr h)))) = inr (inl h.1.0)
