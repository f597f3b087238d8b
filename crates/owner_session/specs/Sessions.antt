-- A run of a whole session, with its exit status and its output.
use Rattle.std.specs.Prelude.{◌≡◌, ◌⊎◌, ℕ, List, [], take, Some}
use Rattle.outside.specs.Sink.{append_known}
use Rattle.link_frames.specs.Scripts.{IsDone, Stops}
use Rattle.outside.specs.Outputs.{Output, Writes, outside_failure}
use Rattle.owner_session.specs.Endings.{Ending, Done, output_of}
use Rattle.owner_session.specs.SessionWork.{Judgement, Deed, Appends, Says, SessionWork, Forms, session}
use Rattle.owner_session.specs.Stopping.{StopsOnLink}
use Rattle.owner_session.specs.Runs.{Snapshot, LeadsTo, AreJudgements, IsNext, HasWritten, input_of, lines_of}

-- the same behind the lines of these deeds
abbrev pub WritesLast : {S B E : Type 0} → Output → Type 0 → ℕ → List (Deed S B E) → Snapshot S E
    → Snapshot S E → Type 0
WritesLast output OutRose status deeds before after =
    Writes output OutRose status (append_known before.written (lines_of deeds)) after.written

-- the ending is written; where all is done there is nothing to write, and the status is 0
abbrev pub WritesEnding : {S B E : Type 0} → Ending → Type 0 → ℕ → List (Deed S B E) → Snapshot S E
    → Snapshot S E → Type 0
WritesEnding Done OutRose status deeds before after =
    (status ≡ 0) × HasWritten deeds [] before after
WritesEnding ending OutRose status deeds before after =
    WritesLast (output_of ending) OutRose status deeds before after

-- all of the work was done, and its ending is written
abbrev pub Finishes : {S B E : Type 0} → SessionWork S B E → Type 0 → ℕ → List (Deed S B E)
    → Snapshot S E
    → Snapshot S E → Type 0
Finishes work OutRose status deeds before after =
    (ending : Ending) × (work.value ≡ Some ending)
    × IsDone work.events deeds before.wire after.wire
    × WritesEnding ending OutRose status deeds before after

-- the link failed in the midst of an event of the connection, and so it is written
abbrev pub StopsAtLink : {S B E : Type 0} → SessionWork S B E → Type 0 → ℕ → List (Deed S B E)
    → Snapshot S E → Snapshot S E → Type 0
StopsAtLink work OutRose status deeds before after =
    StopsOnLink work.events deeds before.wire after.wire
    × WritesLast outside_failure OutRose status deeds before after

-- the same of the disk, in the midst of any event
abbrev pub StopsAtFault : {S B E : Type 0} → SessionWork S B E → Type 0 → ℕ → List (Deed S B E)
    → Snapshot S E → Snapshot S E → Type 0
StopsAtFault work OutRose status deeds before after =
    Stops work.events deeds before.wire after.wire
    × WritesLast outside_failure OutRose status deeds before after

-- the output failed at a line, which is there in part
abbrev pub StopsAtLine : {S B E : Type 0} → SessionWork S B E → ℕ → List (Deed S B E) → Snapshot S E
    → Snapshot S E → Type 0
StopsAtLine work status deeds before after =
    (status ≡ 3) × Stops work.events deeds before.wire after.wire
    × ((line : List ℕ) × (n : ℕ) × IsNext (Says line) deeds work
    × HasWritten deeds (take n line) before after)

-- memory ran out
abbrev pub StopsInWant : {S B E : Type 0} → SessionWork S B E → ℕ → List (Deed S B E) → Snapshot S E
    → Snapshot S E → Type 0
StopsInWant work status deeds before after =
    (status ≡ 4) × Stops work.events deeds before.wire after.wire × HasWritten deeds [] before after

-- The work was done, or a fault rose or memory ran out. What the disk has is kept; where it failed,
-- it is kept with the entry that was next.
abbrev pub SessionEnds : {S B E : Type 0} → SessionWork S B E → Type 0 → Type 0 → Type 0 → Type 0
    → (E → Type 0) → ℕ → List (Deed S B E) → Snapshot S E → Snapshot S E → Type 0
SessionEnds work LinkRose DiskRose OutRose Kept KeptWith status deeds before after =
    (Kept × Finishes work OutRose status deeds before after)
    ⊎ (LinkRose × Kept × StopsAtLink work OutRose status deeds before after)
    ⊎ (DiskRose
    × ((entry : _) × (next : _) × IsNext (Appends entry next) deeds work × KeptWith entry)
    × StopsAtFault work OutRose status deeds before after)
    ⊎ (OutRose × Kept × StopsAtLine work status deeds before after)
    ⊎ (Kept × StopsInWant work status deeds before after)

-- The session's work, by the bytes that come and by what the owner made, ended so.
pub record SessionRuns {S B E : Type 0} (forms : Forms B E)
    (IsJudgement : S → B → List ℕ → Judgement S E → Type 0) (batches : List B)
    (LinkRose DiskRose OutRose Kept : Type 0) (KeptWith : E → Type 0) (status : ℕ)
    (before after : Snapshot S E) : Type 0 where
  pub judgements : List (Judgement S E)
  pub deeds : List (Deed S B E)
  pub are_judgements : AreJudgements IsJudgement deeds
  pub leads : LeadsTo deeds before after
  pub ends : SessionEnds
      (session forms before.state before.entries batches (input_of before judgements))
      LinkRose DiskRose OutRose Kept KeptWith status deeds before after

-- All of the session's work was done: the store was given what it lacked, each batch was committed,
-- and all lines are written.
pub record SessionIsDone {S B E : Type 0} (forms : Forms B E)
    (IsJudgement : S → B → List ℕ → Judgement S E → Type 0) (batches : List B)
    (before after : Snapshot S E) : Type 0 where
  pub judgements : List (Judgement S E)
  pub deeds : List (Deed S B E)
  pub are_judgements : AreJudgements IsJudgement deeds
  pub leads : LeadsTo deeds before after
  pub ending :
      (session forms before.state before.entries batches (input_of before judgements)).value
      ≡ Some Done
  pub done : IsDone
      (session forms before.state before.entries batches (input_of before judgements)).events
      deeds before.wire after.wire
  pub written : HasWritten deeds [] before after
