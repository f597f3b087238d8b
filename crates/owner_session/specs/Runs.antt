-- A run of a piece of work: how far it came, and how it stopped.
use Rattle.std.specs.Prelude.{◌≡◌, ◌⊎◌, ℕ, ◌+◌, Bool, true, false, List, [], ◌∷◌, ◌++◌, take, Option, Some, Result, Ok, Err}
use Rattle.std.specs.Global.{Vec}
use Rattle.outside.specs.ConnectionModel.{ConnectionModel, take_from, send_on}
use Rattle.outside.specs.Sink.{append_known}
use Rattle.link_frames.specs.declared.frame_kind.FrameKind.{FrameKind}
use Rattle.link_frames.specs.Frames.{Coming, Whole, span}
use Rattle.link_frames.specs.Reading.{IsBrokenOff, IsHalfAsked}
use Rattle.link_frames.specs.Scripts.{Event, behind, others, IsDone, Stops}
use Rattle.owner_session.specs.declared.refusals.RefusalCause.{RefusalCause}
use Rattle.owner_session.specs.declared.refusals.NoAppend.{NoAppend}
use Rattle.owner_session.specs.declared.refusals.NoAppend.TheVariants as no_append
use Rattle.owner_session.specs.declared.stop.SessionReport.{SessionReport}
use Rattle.owner_session.specs.declared.stop.SessionStop.{SessionStop}
use Rattle.owner_session.specs.declared.stop.SessionStop.TheVariants as stop
use Rattle.owner_session.specs.declared.place.Place.{Place}
use Rattle.owner_session.specs.declared.place.Place.TheVariants.{Holds, Elsewhere, NoStanding}
use Rattle.owner_session.specs.Endings.{Ending, StandsElsewhere, BadAnswer, OwnerRefuses, Reports, StopsWith}
use Rattle.owner_session.specs.Stopping.{StopsOnLink}
use Rattle.owner_session.specs.SessionWork.{Judgement, Makes, Refuses, Deed, Steps, Appends, Says, SessionWork, Input, Body, NoBody, answer_of}

-- What deeds leave.

abbrev pub lines_of : {S B E : Type 0} → List (Deed S B E) → List ℕ
lines_of [] = []
lines_of (Steps before batch proofs judgement ∷ deeds) = lines_of deeds
lines_of (Appends entry next ∷ deeds) = lines_of deeds
lines_of (Says line ∷ deeds) = line ++ lines_of deeds

abbrev pub entries_of : {S B E : Type 0} → List (Deed S B E) → List E
entries_of [] = []
entries_of (Steps before batch proofs judgement ∷ deeds) = entries_of deeds
entries_of (Appends entry next ∷ deeds) = entry ∷ entries_of deeds
entries_of (Says line ∷ deeds) = entries_of deeds

abbrev pub state_after : {S B E : Type 0} → S → List (Deed S B E) → S
state_after state [] = state
state_after state (Steps before batch proofs judgement ∷ deeds) = state_after state deeds
state_after state (Appends entry next ∷ deeds) = state_after next deeds
state_after state (Says line ∷ deeds) = state_after state deeds

-- the owner made of each batch what it is said to have made
abbrev pub AreJudgements : {S B E : Type 0} → (S → B → List ℕ → Judgement S E → Type 0)
    → List (Deed S B E) → Type 0
AreJudgements IsJudgement [] = Unit {0}
AreJudgements IsJudgement (Steps before batch proofs judgement ∷ deeds) =
    IsJudgement before batch proofs judgement × AreJudgements IsJudgement deeds
AreJudgements IsJudgement (Appends entry next ∷ deeds) = AreJudgements IsJudgement deeds
AreJudgements IsJudgement (Says line ∷ deeds) = AreJudgements IsJudgement deeds

-- what there is at a moment: the connection, what is written, where the owner stands, and the
-- entries of its journal
pub record Snapshot (S E : Type 0) : Type 0 where
  pub wire : ConnectionModel
  pub written : Option (List ℕ)
  pub state : S
  pub entries : List E

abbrev pub snapshot_of : {S E : Type 0} → ConnectionModel → Option (List ℕ) → S → List E
    → Snapshot S E
snapshot_of wire written state entries =
    record { wire = wire; written = written; state = state; entries = entries }

-- owner and journal are as the deeds leave them
pub record LeadsTo {S B E : Type 0} (deeds : List (Deed S B E)) (before after : Snapshot S E)
    : Type 0 where
  pub state : after.state ≡ state_after before.state deeds
  pub entries : after.entries ≡ before.entries ++ entries_of deeds

-- the output has the deeds' lines, and this besides
abbrev pub HasWritten : {S B E : Type 0} → List (Deed S B E) → List ℕ → Snapshot S E → Snapshot S E
    → Type 0
HasWritten deeds besides before after =
    after.written ≡ append_known before.written (lines_of deeds ++ besides)

-- the next of the work's deeds is this
abbrev pub IsNext : {S B E : Type 0} → Deed S B E → List (Deed S B E) → SessionWork S B E → Type 0
IsNext deed deeds work = (later : List _) × (others work.events ≡ deeds ++ deed ∷ later)

-- Pieces of work that go on.

-- a piece of work, which goes on with a rest
abbrev pub Piece : (S B E G : Type 0) → Type 0
Piece S B E G = Input S E → G → SessionWork S B E

-- nothing is left of it: the rest follows, and is handed what was given
abbrev pub continuation : {S B E : Type 0} → Piece S B E (Input S E → SessionWork S B E)
continuation input go = go input

abbrev pub continuation_with : {S B E X : Type 0} → X
    → Piece S B E (X → Input S E → SessionWork S B E)
continuation_with given input go = go given input

abbrev pub input_of : {S E : Type 0} → Snapshot S E → List (Judgement S E) → Input S E
input_of snapshot judgements =
    record { coming = snapshot.wire.coming; judgements = judgements }

-- The first piece came to the second: events were done in between, and for these the owner made
-- something.
pub record Reaches {S B E G : Type 0} (IsJudgement : S → B → List ℕ → Judgement S E → Type 0)
    (work rest : Piece S B E G) (before after : Snapshot S E) : Type 0 where
  pub judgements : List (Judgement S E)
  pub events : List (Event (Deed S B E))
  pub deeds : List (Deed S B E)
  pub goes_on : (more : List (Judgement S E)) (go : G)
      → work (input_of before (judgements ++ more)) go
      ≡ behind events (rest (input_of after more) go)
  pub done : IsDone events deeds before.wire after.wire
  pub are_judgements : AreJudgements IsJudgement deeds
  pub leads : LeadsTo deeds before after
  pub wrote : HasWritten deeds [] before after

-- The work stopped so: it was done; or it stopped in the midst of an event, which is one of the
-- connection where the link failed, and where after a failing disk the entry that was next has Kept.
abbrev pub Halts : {S B E : Type 0} → (E → Type 0) → SessionWork S B E → SessionStop
    → List (Deed S B E)
    → Snapshot S E → Snapshot S E → Type 0
Halts Kept work (stop.Refused report) deeds before after =
    ((ending : Ending) × (work.value ≡ Some ending) × Reports report ending)
    × IsDone work.events deeds before.wire after.wire × HasWritten deeds [] before after
Halts Kept work stop.LinkFault deeds before after =
    StopsOnLink work.events deeds before.wire after.wire × HasWritten deeds [] before after
Halts Kept work stop.DiskFault deeds before after =
    Stops work.events deeds before.wire after.wire × HasWritten deeds [] before after
    × ((entry : _) × (next : _) × IsNext (Appends entry next) deeds work × Kept entry)
Halts Kept work stop.OutputFault deeds before after =
    Stops work.events deeds before.wire after.wire
    × ((line : List ℕ) × (n : ℕ) × IsNext (Says line) deeds work
    × HasWritten deeds (take n line) before after)
Halts Kept work stop.Memory deeds before after =
    Stops work.events deeds before.wire after.wire × HasWritten deeds [] before after

-- the piece stopped so, whatever the rest is
pub record Fails {S B E G : Type 0} (IsJudgement : S → B → List ℕ → Judgement S E → Type 0)
    (Kept : E → Type 0) (work : Piece S B E G) (why : SessionStop) (before after : Snapshot S E)
    : Type 0 where
  pub judgements : List (Judgement S E)
  pub deeds : List (Deed S B E)
  pub are_judgements : AreJudgements IsJudgement deeds
  pub leads : LeadsTo deeds before after
  pub halts : (more : List (Judgement S E)) (go : G)
      → Halts Kept (work (input_of before (judgements ++ more)) go) why deeds before after

-- a call did the piece, and what it gave is handed to the rest; or the piece stopped
abbrev pub Runs : {S B E G T : Type 0} → (S → B → List ℕ → Judgement S E → Type 0) → (E → Type 0)
    → Piece S B E G → (T → Piece S B E G) → Result T SessionStop → Snapshot S E → Snapshot S E
    → Type 0
Runs IsJudgement Kept work rest (Ok given) before after =
    Reaches IsJudgement work (rest given) before after
Runs IsJudgement Kept work rest (Err why) before after =
    Fails IsJudgement Kept work why before after

-- the same of a call that does something to the connection alone
abbrev pub RunsOnWire : {S B E G T : Type 0} → (S → B → List ℕ → Judgement S E → Type 0)
    → Piece S B E G → (T → Piece S B E G) → Result T SessionStop → Snapshot S E
    → Option ConnectionModel → Type 0
RunsOnWire IsJudgement work rest result before wire =
    (later : ConnectionModel) × (wire ≡ Some later)
    × Runs IsJudgement (λ entry. ⊥) work rest result before (record before { wire = later })

-- the same of a call after which there is this
abbrev pub RunsTo : {S B E G T : Type 0} → (S → B → List ℕ → Judgement S E → Type 0) → (E → Type 0)
    → Piece S B E G → (T → Piece S B E G) → Result T SessionStop → Snapshot S E
    → Option ConnectionModel → Option (List ℕ) → S → List E → Type 0
RunsTo IsJudgement Kept work rest result before wire written state entries =
    (later : ConnectionModel) × (wire ≡ Some later)
    × Runs IsJudgement Kept work rest result before (snapshot_of later written state entries)

-- One exchange.

-- a frame was put, and its answer is this body; or it stopped
abbrev pub Exchanges : List ℕ → Coming → Result (Vec ℕ) SessionStop → ConnectionModel
    → Option ConnectionModel → Type 0
Exchanges frame first (Ok body) before wire =
    (answer_of first ≡ Body body.items)
    × (wire ≡ Some (take_from (span first) (send_on frame before)))
Exchanges frame first (Err (stop.Refused report)) before wire =
    ((ending : Ending) × (answer_of first ≡ NoBody ending) × Reports report ending)
    × (wire ≡ Some (take_from (span first) (send_on frame before)))
Exchanges frame first (Err stop.LinkFault) before wire = IsBrokenOff frame first before wire
Exchanges frame first (Err stop.Memory) before wire = IsHalfAsked frame first before wire
Exchanges frame first (Err _) before wire = ⊥

-- of an answer that came whole, this is the body, or why there is none
abbrev pub AnswersBody : FrameKind → List ℕ → Result (Vec ℕ) SessionStop → Type 0
AnswersBody kind body (Ok given) = answer_of (Whole kind body) ≡ Body given.items
AnswersBody kind body (Err why) =
    (ending : Ending) × (answer_of (Whole kind body) ≡ NoBody ending) × StopsWith ending why

-- the installed version is the entry's, or the session ends
abbrev pub ChecksVersion : Bool → Result (Unit {0}) SessionStop → Type 0
ChecksVersion same (Ok done) = same ≡ true
ChecksVersion same (Err why) = (same ≡ false) × StopsWith StandsElsewhere why

-- so many entries are held, or the session ends
abbrev pub HoldsSome : Place → ℕ → Result ℕ SessionStop → Type 0
HoldsSome place length (Ok count) = place ≡ Holds count
HoldsSome Elsewhere length (Err why) = StopsWith StandsElsewhere why
HoldsSome NoStanding length (Err why) = StopsWith (BadAnswer (length + 1)) why
HoldsSome (Holds count) length (Err why) = ⊥

-- what the owner makes of a batch; where it makes no entry, so the session ends
abbrev pub TakesStep : {S E T : Type 0} → (Judgement S E → Type 0) → (T → E) → (T → S)
    → Result T SessionStop → Type 0
TakesStep IsJudgement entry_of next_of (Ok step) =
    IsJudgement (Makes (entry_of step) (next_of step))
TakesStep IsJudgement entry_of next_of (Err why) =
    (why ≡ stop.Memory)
    ⊎ ((cause : RefusalCause) × (lines : List ℕ) × IsJudgement (Refuses cause lines)
    × (report : SessionReport) × (why ≡ stop.Refused report)
    × Reports report (OwnerRefuses cause lines))

-- a line was put, or a front of it where the output failed
abbrev pub PutsLine : List ℕ → Result (Unit {0}) SessionStop → Option (List ℕ)
    → Option (List ℕ) → Type 0
PutsLine line (Ok done) before after = after ≡ append_known before line
PutsLine line (Err stop.OutputFault) before after =
    (n : ℕ) × (after ≡ append_known before (take n line))
PutsLine line (Err stop.Memory) before after = after ≡ before
PutsLine line (Err _) before after = ⊥

-- Facts that are kept.

-- what is kept once an append ended so
abbrev pub KeepsBy : Result (Unit {0}) NoAppend → Type 0 → Type 0 → Type 0
KeepsBy (Ok done) Kept KeptWith = Kept
KeepsBy (Err no_append.Memory) Kept KeptWith = Kept
KeepsBy (Err no_append.Disk) Kept KeptWith = KeptWith

-- P, unless the disk failed
abbrev pub UnlessDisk : {T : Type 0} → Result T SessionStop → Type 0 → Type 0
UnlessDisk (Err stop.DiskFault) P = Unit {0}
UnlessDisk _ P = P
