-- What one event makes of a world, and what is said of it.
use Rattle.std.specs.Prelude.{◌≡◌, ◌⊎◌, ℕ, ◌+◌, ◌<◌, List, [], ◌∷◌, ◌++◌, length, fold, replicate, if◌then◌else◌, slice_index, slice_set, Result, Ok, Err}
use Rattle.std.specs.List.{list_any}
use Rattle.outside.specs.DiskModel.{DiskModel, LeftSince, fresh, now, sync_now, write_on}
use Rattle.vo_spec.specs.declared.checks.Answer.{Answer}
use Rattle.vo_spec.specs.declared.checks.CheckFault.{CheckFault}
use Rattle.vo_spec.specs.declared.queries.QueryText.{QueryText}
use Rattle.vo_spec.specs.declared.records.Entry.{Entry}
use Rattle.vo_spec.specs.declared.records.Record.{Record}
use Rattle.vo_spec.specs.declared.tables.Batch.{Batch}
use Rattle.vo_spec.specs.Batches.{FitsBatch}
use Rattle.vo_spec.specs.Checks.{CheckOf}
use Rattle.vo_spec.specs.Conditions.{query_of}
use Rattle.vo_spec.specs.Journals.{IsJournal}
use Rattle.vo_spec.specs.Secret.{Secret, public_of_secret}
use Rattle.owner_roots.specs.declared.owner_fault.OwnerFault.{OwnerFault}
use Rattle.owner_roots.specs.declared.roots.Roots.{Roots}
use Rattle.owner_roots.specs.Owners.{first_roots}
use Rattle.owner_state.specs.declared.steps.Step.{Step}
use Rattle.owner_state.specs.Stepping.{AreStepsTo, StepOf, first_entry}
use Rattle.owner_journal.specs.Resting.{behind_gate, end_of}
use Rattle.vo_store.specs.Calls.{same_record}
use Rattle.vo_world.specs.declared.events.Event.{Event}
use Rattle.vo_world.specs.declared.events.Event.TheVariants.{Commit, Crash, Receive}
use Rattle.vo_world.specs.declared.events.Said.{Said}
use Rattle.vo_world.specs.declared.events.Said.TheVariants as said
use Rattle.vo_world.specs.WorldModel.{WorldModel, records_of}

-- Released records.

-- the record comes behind the others, where it isn't one of them
abbrev pub with_record : List Record → Record → List Record
with_record released rec =
    if list_any (same_record rec) released then released else released ++ rec ∷ []

unfoldable pub gain_records : List Record → List Record → List Record
gain_records released records = fold with_record released records

-- An event other than a crash begins: what the journal has may be sent from now on.
abbrev pub begun : WorldModel → WorldModel
begun w = record w {
  released = gain_records w.released (records_of w.entries);
  since = now w.drive;
}

-- Disks.

abbrev pub persist : ℕ → List ℕ → DiskModel → DiskModel
persist place piece drive = sync_now (write_on place piece drive)

-- an entry was appended behind these: written behind the closed gate, which is then opened
unfoldable pub with_entry : List Entry → Entry → DiskModel → DiskModel
with_entry es e drive =
    persist (end_of es) (1 ∷ []) (persist (end_of es + 1) (behind_gate e) drive)

-- an empty disk on which a journal was opened
unfoldable pub empty_disk : DiskModel
empty_disk = persist 0 (0 ∷ []) (sync_now (fresh []))

-- The world of an owner that has just started, and so many clients.
unfoldable pub start : Secret → ℕ → WorldModel
start key clients =
    let first = first_entry key in
    let drive = with_entry [] first empty_disk in
    record {
      key = key;
      roots = first_roots;
      entries = first ∷ [];
      drive = drive;
      since = now drive;
      leasts = replicate clients 0;
      accepted = [];
      released = [];
    }

-- Steps.

-- the owner's step is taken, and its entry is behind the others
abbrev pub CommitGives : Result Step OwnerFault → WorldModel → Said → WorldModel → Type 0
CommitGives (Err fault) w says after = (says ≡ said.Denied fault) × (after ≡ w)
CommitGives (Ok step) w says after = (says ≡ said.Committed step.roots.version)
    × (after ≡ record w {
      roots = step.roots;
      entries = w.entries ++ step.entry ∷ [];
      drive = with_entry w.entries step.entry w.drive;
    })

abbrev pub Commits : WorldModel → Batch → List ℕ → Said → WorldModel → Type 0
Commits w batch proofs says after = (answer : Result Step OwnerFault)
    × StepOf w.key w.roots batch.commands proofs answer × CommitGives answer (begun w) says after

-- the owner comes back to what the disk may have left, which is put down then
abbrev pub Reopens : WorldModel → List ℕ → Said → WorldModel → Type 0
Reopens w image says after = LeftSince w.drive w.since image
    × (es : List Entry) × IsJournal image es × (roots : Roots) × AreStepsTo w.key es roots
    × (says ≡ said.Reopened (length es))
    × (after ≡ record w {
      roots = roots;
      entries = es;
      drive = sync_now (fresh image);
      since = 0;
    })

-- no other bytes change anything
abbrev pub Crashes : WorldModel → List ℕ → Said → WorldModel → Type 0
Crashes w image says after = Reopens w image says after
    ⊎ ((LeftSince w.drive w.since image → ⊥) × (says ≡ said.NoImage) × (after ≡ w))

-- what is accepted is kept, and the client takes no older version
abbrev pub ReceiveGives : ℕ → QueryText → List ℕ → Result Answer CheckFault → WorldModel → Said
    → WorldModel → Type 0
ReceiveGives client query bytes (Err fault) w says after =
    (says ≡ said.Refused fault) × (after ≡ w)
ReceiveGives client query bytes (Ok answer) w says after = (says ≡ said.Accepted answer)
    × (after ≡ record w {
      leasts = slice_set w.leasts client answer.version;
      accepted =
          w.accepted ++ record {
            client = client;
            query = query;
            bytes = bytes;
            version = answer.version;
          } ∷ [];
    })

abbrev pub Receives : WorldModel → ℕ → QueryText → List ℕ → Said → WorldModel → Type 0
Receives w client query bytes says after = (answer : Result Answer CheckFault)
    × CheckOf (public_of_secret w.key) (slice_index w.leasts client) (query_of query) bytes answer
    × ReceiveGives client query bytes answer (begun w) says after

-- a batch that keeps the limits of its bytes, and a client that there is
abbrev pub FitsEvent : ℕ → Event → Type 0
FitsEvent clients (Commit batch proofs) = FitsBatch batch.commands
FitsEvent clients (Crash image) = Unit {0}
FitsEvent clients (Receive client query bytes) = client < clients

-- The event makes this of the world, and this is said.
abbrev pub Steps : WorldModel → Event → Said → WorldModel → Type 0
Steps w (Commit batch proofs) says after = Commits w batch proofs says after
Steps w (Crash image) says after = Crashes w image says after
Steps w (Receive client query bytes) says after = Receives w client query bytes says after
