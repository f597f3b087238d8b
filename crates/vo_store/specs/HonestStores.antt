-- What every store keeps: its tables are those of some batches, and its record is theirs, signed;
-- and of the versions before them the last are kept.
use Rattle.std.specs.Prelude.{◌≡◌, ℕ, ◌+◌, ◌-◌, ◌≤◌, List, [], length, take, Option, Some, None, Result, Ok, slice_get}
use Rattle.std.specs.List.{AllByRecursion}
use Rattle.vo_spec.specs.declared.tables.Command.{Command}
use Rattle.vo_spec.specs.Batches.{FitsBatch}
use Rattle.vo_spec.specs.Conditions.{Query}
use Rattle.vo_spec.specs.Journals.{max_signature}
use Rattle.vo_spec.specs.Owners.{IsSigned}
use Rattle.vo_spec.specs.Records.{FitsRecord, magic_of}
use Rattle.vo_spec.specs.Honest.{Stored, catalog_of, honest_record, honest_trees, work_all}
use Rattle.vo_store.specs.declared.signed_record.SignedRecord.{SignedRecord}
use Rattle.vo_store.specs.declared.fault.StoreFault.{StoreFault}
use Rattle.vo_store.specs.declared.kept_version.KeptVersion.{KeptVersion}
use Rattle.vo_store.specs.StoreState.{StoreState, oldest_of}
use Rattle.vo_store.specs.Calls.{signed_reply}

-- the record is that of the version of these batches, signed by the version's leaf
pub record IsRecordOf (key : List ℕ) (batches : List (List Command))
    (installed : SignedRecord) : Type 0 where
  pub record_is : installed.rec ≡ honest_record key (length batches) (honest_trees batches)
  pub signed : IsSigned key installed.rec installed.signature

-- what is kept of the version of these batches: its record, signed, and its trees
pub record IsKeptOf (key : List ℕ) (batches : List (List Command)) (kept : KeptVersion) : Type 0 where
  pub signed : IsRecordOf key batches kept.signed
  pub tables : kept.tables ≡ honest_trees batches

-- Of the versions before that of these batches the last are kept, each as that of its first batches.
pub record AreKept (key : List ℕ) (batches : List (List Command))
    (earlier : List KeptVersion) : Type 0 where
  pub count : length earlier ≡ length batches - oldest_of (length batches)
  pub each : (place : ℕ) (kept : KeptVersion) → slice_get earlier place ≡ Some kept
      → IsKeptOf key (take (oldest_of (length batches) + place) batches) kept

-- the trees are those of some batches
abbrev pub AreHonest : List Stored → Type 0
AreHonest tables = (batches : List (List Command)) × AllByRecursion FitsBatch batches
    × (tables ≡ honest_trees batches)

-- a version by which a query can be answered
pub record IsAnswering (kept : KeptVersion) : Type 0 where
  pub signed : FitsRecord kept.signed.rec
  pub short : length kept.signed.signature ≤ max_signature
  pub honest : AreHonest kept.tables
  pub magic : kept.signed.rec.magic ≡ magic_of (catalog_of kept.tables)

-- the trees are what some batch makes of these
abbrev pub FollowBy : List Stored → List Stored → Type 0
FollowBy tables after = (batch : List Command) × FitsBatch batch
    × (work_all batch tables ≡ Ok after)

-- what is proposed behind what is installed: version 0 where nothing is
abbrev pub IsPending : Option SignedRecord → List Stored → Option (List Stored) → Type 0
IsPending None tables pending = pending ≡ Some []
IsPending (Some installed) tables None = Unit {0}
IsPending (Some installed) tables (Some after) = FollowBy tables after

abbrev pub IsInstalled : List ℕ → List (List Command) → Option SignedRecord → Type 0
IsInstalled key batches None = batches ≡ []
IsInstalled key batches (Some installed) = IsRecordOf key batches installed

-- The store has installed the versions of these batches, version 0 before them, or nothing.
pub record IsHonestAfter (batches : List (List Command)) (s : StoreState) : Type 0 where
  pub fit : AllByRecursion FitsBatch batches
  pub tables : s.tables ≡ honest_trees batches
  pub installed : IsInstalled s.key batches s.installed
  pub earlier : AreKept s.key batches s.earlier
  pub pending : IsPending s.installed s.tables s.pending

abbrev pub IsHonestStore : StoreState → Type 0
IsHonestStore s = (batches : List (List Command)) × IsHonestAfter batches s

-- the answer is the one reply to the query by the version of these batches
abbrev pub IsAnswerBy : List ℕ → List (List Command) → Query → Result (List ℕ) StoreFault → Type 0
IsAnswerBy key batches q answer = (signed : SignedRecord) × IsRecordOf key batches signed
    × (answer ≡ signed_reply q signed (honest_trees batches))
