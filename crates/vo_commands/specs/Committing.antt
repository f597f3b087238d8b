-- The owner of a key with its journal, as a session with a store goes by it.
use Rattle.std.specs.Prelude.{◌≡◌, ℕ, ◌+◌, if◌then◌else◌, ◌<◌, false, List, [], ◌∷◌, codes, Option, Some, None, option_map, Result, Ok, Err, IfSome, slice_get}
use Rattle.std.specs.List.{AllByRecursion}
use Rattle.outside.specs.DiskModel.{DiskModel, MayLeave}
use Rattle.vo_spec.specs.declared.tables.Batch.{Batch}
use Rattle.vo_spec.specs.declared.records.Record.{Record}
use Rattle.vo_spec.specs.declared.records.Entry.{Entry}
use Rattle.vo_spec.specs.Batches.{batch_bytes}
use Rattle.vo_spec.specs.Journals.{FitsEntry}
use Rattle.vo_spec.specs.Records.{FitsCatalog}
use Rattle.vo_spec.specs.Secret.{public_of_secret, secret_leaves}
use Rattle.owner_roots.specs.declared.owner_fault.OwnerFault.{OwnerFault}
use Rattle.owner_roots.specs.declared.owner_fault.OwnerFault.TheVariants as fault
use Rattle.owner_roots.specs.Owners.{IsNextEntry}
use Rattle.owner_state.specs.declared.steps.Step.{Step}
use Rattle.owner_state.specs.Held.{Held}
use Rattle.owner_state.specs.Stepping.{StepOf}
use Rattle.owner_journal.specs.declared.journal.Journal.{Journal}
use Rattle.owner_journal.specs.Entries.{entries_of, has_failed}
use Rattle.owner_journal.specs.Resting.{HoldsWith}
use Rattle.owner_session.specs.declared.place.Place.{Place}
use Rattle.owner_session.specs.declared.place.Place.TheVariants.{Holds, Elsewhere, NoStanding}
use Rattle.owner_session.specs.declared.refusals.RefusalCause.{RefusalCause}
use Rattle.owner_session.specs.declared.refusals.RefusalCause.TheVariants.{Proofs, Command}
use Rattle.owner_session.specs.declared.refusals.NoStep.{NoStep}
use Rattle.owner_session.specs.declared.refusals.NoStep.TheVariants.{Refused, Memory}
use Rattle.owner_session.specs.SessionWork.{Forms, Judgement, Makes, Refuses}
use Rattle.store_requests.specs.Bodies.{install_bytes, standing_in}
use Rattle.vo_store.specs.Calls.{same_record}
use Rattle.hex.specs.Hex.{encode_lower}
use Rattle.outside.specs.Outputs.{Output}
use Rattle.vo_commands.specs.Lines.{command_output, proof_refusal, spent_key}

-- How batches and entries stand in frames.

-- a store that stands at this record, of which version the journal has this entry
abbrev pub place_beside : Record → Option Entry → Place
place_beside rec None = Elsewhere
place_beside rec (Some e) = if same_record e.rec rec then Holds (rec.version + 1) else Elsewhere

abbrev pub place_of_record : List Entry → Option Record → Place
place_of_record es None = Holds 0
place_of_record es (Some rec) = place_beside rec (slice_get es rec.version)

abbrev pub place_if_read : List Entry → Option (Option Record) → Place
place_if_read es None = NoStanding
place_if_read es (Some installed) = place_of_record es installed

-- where a store stands that answers with this standing
abbrev pub place_by : List Entry → List ℕ → Place
place_by es standing = place_if_read es (standing_in standing)

abbrev pub entry_forms : Forms Batch Entry
entry_forms = record {
  proposal = λ batch. batch_bytes batch.commands;
  batch = λ e. e.batch;
  install = λ e. install_bytes e.rec e.signature;
  version = λ e. e.rec.version;
  place = place_by;
}

-- What the owner makes of a batch.

-- what an owner refuses: the batch or the key, or the proofs, each with its line; want of memory is
-- no refusal
abbrev pub refusal_of : OwnerFault → Option (RefusalCause × Output)
refusal_of (fault.Command index why) = Some (Command, command_output index why)
refusal_of (fault.ProofForm index) = Some (Proofs, proof_refusal (codes "form") index [])
refusal_of (fault.ProofRoot index want got) =
    Some (Proofs, proof_refusal (codes "root") index (encode_lower want ∷ encode_lower got ∷ []))
refusal_of (fault.ProofMissing index) = Some (Proofs, proof_refusal (codes "missing") index [])
refusal_of (fault.ProofSurplus index) = Some (Proofs, proof_refusal (codes "surplus") index [])
refusal_of fault.KeySpent = Some (Command, spent_key)
refusal_of fault.Memory = None

abbrev pub held_behind : Held → Step → Held
held_behind held step = record held { roots = step.roots }

abbrev pub judgement_of : Held → Result Step OwnerFault → Option (Judgement Held Entry)
judgement_of held (Ok step) = Some (Makes step.entry (held_behind held step))
judgement_of held (Err why) =
    option_map (λ (r : RefusalCause × Output). Refuses r.0 r.1.bytes) (refusal_of why)

-- an owner of this key, with these roots, makes this of a batch by the bytes of its proofs
abbrev pub IsJudgement : Held → Batch → List ℕ → Judgement Held Entry → Type 0
IsJudgement held batch proofs judgement =
    (answer : Result Step OwnerFault) × StepOf held.key held.roots batch.commands proofs answer
    × (judgement_of held answer ≡ Some judgement)

-- the owner takes no step for this fault, unless memory ran out
abbrev pub RefusesBy : OwnerFault → NoStep → Type 0
RefusesBy why (Refused refusal) =
    option_map {U = RefusalCause × List ℕ} (λ (r : RefusalCause × Output). (r.0, r.1.bytes))
    (refusal_of why)
    ≡ Some (refusal.cause, refusal.lines.items)
RefusesBy why Memory = Unit {0}

-- the step is one of an owner that stands so
pub record Follows (held : Held) (step : Step) : Type 0 where
  pub left : held.roots.version + 1 < secret_leaves held.key
  pub next : IsNextEntry (public_of_secret held.key) held.roots step.entry step.roots
  pub entry : FitsEntry step.entry
  pub catalog : FitsCatalog step.roots.catalog
  pub few : step.roots.version < 1048576

-- no append has failed, and each entry can be put in frames
pub record CanGoOn (journal : Journal) : Type 0 where
  pub works : has_failed journal ≡ false
  pub fit : AllByRecursion FitsEntry (entries_of journal)

-- the entries are of the versions 0, 1, and so on
abbrev pub AreOfVersions : List Entry → Type 0
AreOfVersions es =
    (version : ℕ) (e : Entry) → slice_get es version ≡ Some e → e.rec.version ≡ version

-- What a stop of the machine leaves, where the disk is known.

-- these entries, or these and one more
abbrev pub LeavesWith : Option DiskModel → List Entry → Entry → Type 0
LeavesWith drive es e =
    IfSome drive (λ known. (image : List ℕ) → MayLeave known image → HoldsWith es e image)
