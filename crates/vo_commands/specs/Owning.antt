-- What `own` comes to: the owner of a key opens its journal, gives a store what it lacks of it, and
-- commits the batches of a script.
use Rattle.std.specs.Prelude.{◌≡◌, ◌⊎◌, ℕ, ◌<◌, List, [], ◌∷◌, ◌++◌, length, map, All, Option, Some, None, option_map, Result, Ok, Err, IfSome}
use Rattle.std.specs.Global.{Vec}
use Rattle.outside.specs.ConnectionModel.{ConnectionModel, open_next}
use Rattle.outside.specs.DiskModel.{DiskModel, MayLeave}
use Rattle.outside.specs.Moments.{IfKnown}
use Rattle.outside.specs.Shelf.{Files}
use Rattle.outside.specs.Outputs.{Writes, outside_failure}
use Rattle.vo_spec.specs.declared.tables.Batch.{Batch}
use Rattle.vo_spec.specs.declared.records.Entry.{Entry}
use Rattle.vo_spec.specs.Journals.{Holds, IsDamaged, IsJournal}
use Rattle.vo_spec.specs.Secret.{Secret}
use Rattle.owner_state.specs.Held.{Held}
use Rattle.owner_state.specs.Stepping.{AreStepsTo, IsNoStepAt, first_entry}
use Rattle.owner_journal.specs.declared.fault.JournalFault.{JournalFault}
use Rattle.owner_journal.specs.declared.fault.JournalFault.TheVariants as fault
use Rattle.owner_journal.specs.Resting.{HoldsAsBefore, IsAtRest}
use Rattle.owner_session.specs.Requests.{PutsRequests}
use Rattle.owner_session.specs.Runs.{snapshot_of}
use Rattle.owner_session.specs.Sessions.{SessionRuns, SessionIsDone}
use Rattle.sql_text.specs.Scripts.{IsScript}
use Rattle.cli_args.specs.Shapes.{PlainShape}
use Rattle.cli_args.specs.PlainRequest.{PlainRequest, Own}
use Rattle.vo_commands.specs.declared.report.Report.{Report}
use Rattle.vo_commands.specs.declared.report.Stop.{Stop}
use Rattle.vo_commands.specs.declared.report.Stop.TheVariants.{Refused, Outside, Memory}
use Rattle.vo_commands.specs.Lines.{bad_journal}
use Rattle.vo_commands.specs.Expected.{Expected, OfScript, Owns, Allows, Ends, script_limit, with_file, with_seed, with_text}
use Rattle.vo_commands.specs.Reports.{WritesOutcome, output_of}
use Rattle.vo_commands.specs.Committing.{IsJudgement, LeavesWith, entry_forms}

-- What is expected by the files.

-- of a script's bytes
abbrev pub commitment_in : Secret → List ℕ → Expected
commitment_in secret = with_text (λ text. OfScript text (λ batches. Owns secret batches))

abbrev pub commitment_expected : List ℕ → List ℕ → PlainShape → Files → Expected
commitment_expected seed script shape files = with_seed files seed shape
    (λ secret. with_file files script script_limit (commitment_in secret))

abbrev pub own_expected : Option PlainRequest → Option Files → Option Expected
own_expected (Some (Own seed address script shape)) files =
    option_map (commitment_expected seed script shape) files
own_expected _ files = None

-- an owner of this key is expected, who commits these batches
abbrev pub IsCommitment : Expected → Secret → List Batch → Type 0
IsCommitment (OfScript text rest) secret batches =
    (found : List Batch) × IsScript text found × IsCommitment (rest found) secret batches
IsCommitment (Owns owner due) secret batches = (owner ≡ secret) × (due ≡ batches)
IsCommitment _ secret batches = ⊥

-- no owner is expected: the seed file or the script is refused, or isn't there
abbrev pub CommitsNothing : Expected → Type 0
CommitsNothing expected =
    (secret : Secret) (batches : List Batch) → IsCommitment expected secret batches → ⊥

-- the batches that the owner of a key commits, or what is written in their place
abbrev pub Prepares : Expected → Secret → Result (Vec Batch) Stop → Type 0
Prepares expected secret (Ok batches) = IsCommitment expected secret batches.items
Prepares expected secret (Err (Refused report)) = Allows expected (output_of report)
Prepares expected secret (Err Outside) = Unit {0}
Prepares expected secret (Err Memory) = Unit {0}

-- The journal on the disk.

-- What is there is damaged at the entry of this number; or it is a journal of some entries, of
-- which this is the first that the owner of the key doesn't write there.
abbrev pub IsBadJournal : Secret → List ℕ → ℕ → Type 0
IsBadJournal secret bytes index = (es : List Entry)
    × ((IsDamaged bytes es × (index ≡ length es))
    ⊎ (IsJournal bytes es × (0 < length es) × IsNoStepAt secret es index))

-- why no owner stands behind the journal on a disk
abbrev pub StopsOpening : Secret → Option DiskModel → Stop → Type 0
StopsOpening secret drive (Refused report) = (index : ℕ) × (output_of report ≡ bad_journal index)
    × IfSome drive (λ known. IsBadJournal secret known.seen index)
StopsOpening secret drive Outside = Unit {0}
StopsOpening secret drive Memory = Unit {0}

-- the same of entries that were read
abbrev pub StopsReplaying : Secret → List Entry → Stop → Type 0
StopsReplaying secret es (Refused report) = (index : ℕ)
    × (output_of report ≡ bad_journal index) × IsNoStepAt secret es index × (0 < length es)
StopsReplaying secret es Outside = Unit {0}
StopsReplaying secret es Memory = Unit {0}

-- and of a fault of the journal
abbrev pub StopsAtFault : JournalFault → Stop → Type 0
StopsAtFault fault.Disk stop = stop ≡ Outside
StopsAtFault (fault.Damaged index at) stop =
    (report : Report) × (stop ≡ Refused report) × (output_of report ≡ bad_journal index)
StopsAtFault fault.Memory stop = stop ≡ Memory

-- What a stop leaves is what one may have left before, or a journal of the same entries; where
-- reads gave none, it may be one of the entry of version 0.
abbrev pub LeavesAsBefore : Secret → DiskModel → DiskModel → Type 0
LeavesAsBefore secret before after = (image : List ℕ) → MayLeave after image
    → HoldsAsBefore before image
    ⊎ (IsJournal before.seen [] × IsJournal image (first_entry secret ∷ []))

-- a stop leaves a journal of these entries, or, of none, one of the entry of version 0
abbrev pub LeavesAsFound : Secret → List Entry → DiskModel → Type 0
LeavesAsFound secret es drive = (image : List ℕ) → MayLeave drive image
    → IsJournal image es ⊎ ((es ≡ []) × IsJournal image (first_entry secret ∷ []))

-- an empty journal gets the entry of version 0
abbrev pub or_first_entry : Secret → List Entry → List Entry
or_first_entry secret [] = first_entry secret ∷ []
or_first_entry secret (e ∷ es) = e ∷ es

-- The owner stands behind these entries, which are those of its journal on the disk; a stop of the
-- machine leaves them there.
pub record Opens (secret : Secret) (before after : Option DiskModel) (held : Held) (es : List Entry)
    : Type 0 where
  pub key : held.key ≡ secret
  pub steps : AreStepsTo secret es held.roots
  pub found : IfSome before (λ known. (was : List Entry) × IsJournal known.seen was
      × (es ≡ or_first_entry secret was))
  pub at_rest : IfSome after (IsAtRest es)

-- The session.

-- a stop of the machine leaves a journal of these entries, where the disk is known
abbrev pub Leaves : Option DiskModel → List Entry → Type 0
Leaves drive es =
    IfSome drive (λ known. (image : List ℕ) → MayLeave known image → IsJournal image es)

-- a stop leaves a journal that holds this entry's record
abbrev pub KeepsEntry : Option DiskModel → Entry → Type 0
KeepsEntry drive e = IfSome drive (λ known. (image : List ℕ) → MayLeave known image
    → (es : List Entry) × IsJournal image es × Holds es e.rec)

-- The owner, who stood so behind these entries, held a session with a store over a connection. A
-- status of 0 comes only where all is done. What was put is requests, which install no entry but
-- those that a stop leaves in the journal.
pub record Commits (batches : List Batch) (NetRose DiskRose OutRose : Type 0)
    (status : ℕ) (held : Held) (es : List Entry) (drive : Option DiskModel)
    (before after : ConnectionModel) (written later_written : Option (List ℕ)) : Type 0 where
  pub later : Held
  pub entries : List Entry
  pub runs : SessionRuns entry_forms IsJudgement batches NetRose DiskRose OutRose
      (Leaves drive entries) (LeavesWith drive entries) status
      (snapshot_of before written held es) (snapshot_of after later_written later entries)
  pub done : status ≡ 0 → SessionIsDone entry_forms IsJudgement batches
      (snapshot_of before written held es) (snapshot_of after later_written later entries)
  pub puts : PutsRequests entry_forms (map entry_forms.batch es ++ batches) entries before after
  pub kept : All (KeepsEntry drive) entries

-- so it is over the connection that stands, where the network is known
unfoldable pub CommitsOver : List Batch → Type 0 → Type 0 → Type 0 → ℕ → Held → List Entry
    → Option DiskModel → Option ConnectionModel → Option ConnectionModel → Option (List ℕ)
    → Option (List ℕ) → Type 0
CommitsOver batches NetRose DiskRose OutRose status held es drive wire later_wire written after =
    (before : ConnectionModel) → wire ≡ Some before
    → (later : ConnectionModel) × (later_wire ≡ Some later)
    × Commits batches NetRose DiskRose OutRose status held es drive before later written after

-- no connection was made, and the journal is as it stood; or a session was held over the first of
-- those to come
abbrev pub CommitsOnline : List Batch → Type 0 → Type 0 → Type 0 → ℕ → Held → List Entry
    → Option DiskModel → ConnectionModel → Option ConnectionModel → Option (List ℕ)
    → Option (List ℕ) → Type 0
CommitsOnline batches NetRose DiskRose OutRose status held es drive before wire written
    after =
    (NetRose × Leaves drive es × (wire ≡ Some before)
    × Writes outside_failure OutRose status written after)
    ⊎ ((later : ConnectionModel) × (wire ≡ Some later) × Commits batches NetRose DiskRose OutRose
    status held es drive (open_next before) later written after)

-- No owner stands behind the journal, and the network is as it was; or one does, which goes on,
-- where the network is known.
abbrev pub CommitsFrom : Secret → List Batch → Type 0 → Type 0 → Type 0 → ℕ → Option DiskModel
    → Option DiskModel → Option ConnectionModel → Option ConnectionModel → Option (List ℕ)
    → Option (List ℕ) → Type 0
CommitsFrom secret batches NetRose DiskRose OutRose status drive later_drive wire later_wire
    written after =
    ((stop : Stop) × StopsOpening secret drive stop × (stop ≡ Outside → DiskRose)
    × IfKnown drive later_drive (LeavesAsBefore secret) × (later_wire ≡ wire)
    × WritesOutcome (Err stop) OutRose status written after)
    ⊎ ((held : Held) × (es : List Entry) × (opened : Option DiskModel)
    × Opens secret drive opened held es
    × ((before : ConnectionModel) → wire ≡ Some before
    → CommitsOnline batches NetRose DiskRose OutRose status held es later_drive before later_wire
    written after))

-- What a run of `own` ends with: an expected output, and disk and network are as they were; or the
-- batches were to be committed.
abbrev pub OwnEnds : Expected → Type 0 → Type 0 → Type 0 → Type 0 → ℕ → Option DiskModel
    → Option DiskModel → Option ConnectionModel → Option ConnectionModel → Option (List ℕ)
    → Option (List ℕ) → Type 0
OwnEnds expected FilesRose NetRose DiskRose OutRose status drive later_drive wire later_wire
    written after =
    (Ends expected FilesRose OutRose status written after × (later_drive ≡ drive)
    × (later_wire ≡ wire))
    ⊎ ((secret : Secret) × (batches : List Batch) × IsCommitment expected secret batches
    × CommitsFrom secret batches NetRose DiskRose OutRose status drive later_drive wire later_wire
    written after)
