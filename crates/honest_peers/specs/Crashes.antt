-- One disk through runs of `own` and stops of the machine: which records are released meanwhile,
-- and that no stop takes one away.
use mathlib.Core.Logic.{inl, inr}
use mathlib.Core.Path.{refl}
use Rattle.std.specs.Prelude.{◌≡◌, ◌⊎◌, ℕ, List, [], ◌∷◌, ◌++◌, Option, Some, Contains}
use Rattle.std.specs.List.{AllByRecursion}
use Rattle.outside.specs.ConnectionModel.{ConnectionModel}
use Rattle.outside.specs.DiskModel.{DiskModel, LeftSince, MayLeave, fresh, now}
use Rattle.outside.specs.FaultRose.{FaultRose}
use Rattle.outside.specs.Moments.{LeavesOnly}
use Rattle.vo_spec.specs.declared.tables.Batch.{Batch}
use Rattle.vo_spec.specs.declared.records.Entry.{Entry}
use Rattle.vo_spec.specs.declared.records.Record.{Record}
use Rattle.vo_spec.specs.Journals.{Holds, IsJournal}
use Rattle.vo_spec.specs.Secret.{Secret}
use Rattle.owner_journal.specs.Resting.{HoldsAsBefore, HoldsWith, IsAtRest}
use Rattle.owner_session.specs.Requests.{Request, AsksStanding, Proposes, Installs}
use Rattle.owner_state.specs.Held.{Held}
use Rattle.vo_commands.specs.Expected.{Expected}
use Rattle.vo_commands.specs.Owning.{CommitsFrom, CommitsOnline, OwnEnds}

-- A run of `own` that came to its end.

-- the records in the install frames among these requests
abbrev pub records_in : List (Request Batch Entry) → List Record
records_in [] = []
records_in (AsksStanding ∷ requests) = records_in requests
records_in (Proposes batch ∷ requests) = records_in requests
records_in (Installs entry ∷ requests) = entry.rec ∷ records_in requests

-- the records in the install frames that a run put, by how it ended; the last may be there in part
abbrev pub put_online : {batches : List Batch} {Net Disk Out : Type 0} {status : ℕ} {held : Held}
    {es : List Entry} {drive : Option DiskModel} {before : ConnectionModel}
    {wire : Option ConnectionModel} {written after : Option (List ℕ)}
    → CommitsOnline batches Net Disk Out status held es drive before wire written after
    → List Record
put_online (inl offline) = []
put_online (inr (later, is, commits)) = records_in commits.puts.requests

abbrev pub put_from : {secret : Secret} {batches : List Batch} {Net Disk Out : Type 0} {status : ℕ}
    {drive later_drive : Option DiskModel} {before : ConnectionModel}
    {wire : Option ConnectionModel} {written after : Option (List ℕ)}
    → CommitsFrom secret batches Net Disk Out status drive later_drive (Some before) wire written
    after → List Record
put_from (inl stopped) = []
put_from {before = before} (inr (held, es, opened, opens, online)) = put_online (online before refl)

abbrev pub put_in : (expected : Expected) (Files : Type 0) {Net Disk Out : Type 0} {status : ℕ}
    {drive later_drive : Option DiskModel} {before : ConnectionModel}
    {wire : Option ConnectionModel} {written after : Option (List ℕ)}
    → OwnEnds expected Files Net Disk Out status drive later_drive (Some before) wire written after
    → List Record
put_in expected Files (inl ended) = []
put_in expected Files (inr (secret, batches, is, from)) = put_from from

-- A run, by what the top call says of it, with the disk as it found and as it left it. Of a disk
-- whose calls fail from one on, that is what a stop of the program at this call leaves.
pub record OwnRun (before after : DiskModel) : Type 0 where
  pub expected : Expected
  pub status : ℕ
  pub files : ℕ × ℕ  -- the counts of faults, before and after
  pub net : ℕ × ℕ
  pub disk : ℕ × ℕ
  pub out : ℕ × ℕ
  pub wire : ConnectionModel
  pub later_wire : Option ConnectionModel
  pub written : Option (List ℕ)
  pub later_written : Option (List ℕ)
  pub ends : OwnEnds expected (FaultRose files.0 files.1) (FaultRose net.0 net.1)
      (FaultRose disk.0 disk.1) (FaultRose out.0 out.1) status (Some before) (Some after)
      (Some wire) later_wire written later_written
  pub sees : MayLeave after after.seen  -- as of every disk

-- those that it put in install frames
abbrev pub records_put : {before after : DiskModel} → OwnRun before after → List Record
records_put run = put_in run.expected (FaultRose run.files.0 run.files.1) run.ends

-- A journal in use, and a stop of the machine. What is released the journal has by then.

-- these entries have each of the records at its version
abbrev pub HoldsEach : List Entry → List Record → Type 0
HoldsEach es released = AllByRecursion (Holds es) released

-- The journal has these entries, and gets some more. The machine stops inside an append, or once
-- all are there, and leaves these bytes; these records were released.
abbrev pub StopsBehind : List Entry → List Entry → DiskModel → List ℕ → List Record → Type 0
StopsBehind es [] drive image released = MayLeave drive image × HoldsEach es released
StopsBehind es (e ∷ more) drive image released = (later : DiskModel)
    × LeavesOnly drive later (HoldsWith es e)
    × ((LeftSince later (now drive) image × HoldsEach es released)
    ⊎ (IsAtRest (es ++ e ∷ []) later × StopsBehind (es ++ e ∷ []) more later image released))

-- it stops inside the opening, or behind it
abbrev pub StopsInUse : DiskModel → List ℕ → List Record → Type 0
StopsInUse before image released = (opened : DiskModel)
    × LeavesOnly before opened (HoldsAsBefore before)
    × ((LeftSince opened (now before) image × (released ≡ []))
    ⊎ ((es : List Entry) × IsJournal before.seen es × IsAtRest es opened
    × ((more : List Entry) × StopsBehind es more opened image released)))

-- Any number of them.

-- the disk goes through a run that ends; or the machine stops while its journal is in use, or while
-- it isn't; these records are released meanwhile
abbrev pub IsStage : DiskModel → DiskModel → List Record → Type 0
IsStage before after released =
    ((run : OwnRun before after) × (released ≡ records_put run))
    ⊎ ((image : List ℕ) × StopsInUse before image released × (after ≡ fresh image))
    ⊎ ((image : List ℕ) × MayLeave before image × (after ≡ fresh image) × (released ≡ []))

-- one after the other; what is released comes behind what was before
abbrev pub GoesThrough : List (List Record) → DiskModel → List Record → DiskModel → List Record
    → Type 0
GoesThrough [] before was after all = (before ≡ after) × (was ≡ all)
GoesThrough (released ∷ later) before was after all = (mid : DiskModel)
    × IsStage before mid released × GoesThrough later mid (was ++ released) after all

-- Whatever a stop leaves is a journal that has each of these records at its version; and no two of
-- them are of one version, for which an owner's key has one leaf.
pub record KeepsReleased (drive : DiskModel) (released : List Record) : Type 0 where
  pub held : (rec : Record) → Contains released rec → (image : List ℕ) → MayLeave drive image
      → (es : List Entry) × IsJournal image es × Holds es rec
  pub one_each : (a b : Record) → Contains released a → Contains released b
      → a.version ≡ b.version → a ≡ b
