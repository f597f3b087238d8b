-- The work of a session, as a script: by the bytes that come, and by what the owner makes of them.
use Rattle.std.specs.Prelude.{ℕ, zero, suc, ◌+◌, if◌then◌else◌, Bool, true, false, bytes_eq, List, [], ◌∷◌, length, drop, slice_index, Option, Some, None, Result, Ok, Err}
use Rattle.vo_spec.specs.Bytes.{u64_bytes}
use Rattle.link_frames.specs.declared.awaits.Awaits.{Awaits}
use Rattle.link_frames.specs.declared.awaits.Awaits.TheVariants as awaits
use Rattle.link_frames.specs.declared.frame_kind.FrameKind.{FrameKind}
use Rattle.link_frames.specs.declared.frame_kind.FrameKind.TheVariants as kind
use Rattle.link_frames.specs.Frames.{Coming, Whole, Ended, Cut, Bad, first_frame, frame_bytes, span}
use Rattle.link_frames.specs.Scripts.{Script, Puts, Takes, Does, behind}
use Rattle.owner_session.specs.declared.place.Place.{Place}
use Rattle.owner_session.specs.declared.place.Place.TheVariants.{Holds, Elsewhere, NoStanding}
use Rattle.owner_session.specs.declared.refusals.RefusalCause.{RefusalCause}
use Rattle.owner_session.specs.declared.refusals.NoStep.{NoStep}
use Rattle.owner_session.specs.declared.refusals.NoStep.TheVariants as no_step
use Rattle.owner_session.specs.Endings.{Ending, Done, StoreRefuses, StandsElsewhere, OwnerRefuses, BadAnswer, CutAnswer, version_line}

-- The owner's side.

-- how batches and entries stand in frames, and where a store stands by the standing that it answers
pub record Forms (B E : Type 0) : Type 0 where
  pub proposal : B → List ℕ  -- the body that proposes a batch
  pub batch : E → B
  pub install : E → List ℕ  -- the body that installs an entry
  pub version : E → ℕ
  pub place : List E → List ℕ → Place

-- what an owner makes of a batch by its proofs: an entry, behind which it stands so; or a refusal
pub data Judgement (S E : Type 0) : Type 0 where
  Makes : (entry : E) (next : S) → Judgement S E
  Refuses : (cause : RefusalCause) (lines : List ℕ) → Judgement S E

-- what a step answered is what the owner makes; want of memory says nothing
abbrev pub StepsTo : {S E T : Type 0} → (Judgement S E → Type 0) → (T → E) → (T → S)
    → Result T NoStep → Type 0
StepsTo IsJudgement entry_of next_of (Ok step) = IsJudgement (Makes (entry_of step) (next_of step))
StepsTo IsJudgement entry_of next_of (Err (no_step.Refused refusal)) =
    IsJudgement (Refuses refusal.cause refusal.lines.items)
StepsTo IsJudgement entry_of next_of (Err no_step.Memory) = Unit {0}

-- What is done beside the connection: the owner, standing so, makes this of a batch by the proofs
-- that came; an entry is appended to the journal, and the owner stands behind it; a line is put.
pub data Deed (S B E : Type 0) : Type 0 where
  Steps : (before : S) (batch : B) (proofs : List ℕ) (judgement : Judgement S E) → Deed S B E
  Appends : (entry : E) (next : S) → Deed S B E
  Says : (line : List ℕ) → Deed S B E

-- Pieces of work. Each goes on with the rest.

-- events, and the ending; none where more would be made than is given
abbrev pub SessionWork : (S B E : Type 0) → Type 0
SessionWork S B E = Script (Deed S B E) (Option Ending)

abbrev pub ends_with : {S B E : Type 0} → Ending → SessionWork S B E
ends_with ending = record { events = []; value = Some ending }

-- what is to come: the bytes on the connection, and what the owner makes, in order
pub record Input (S E : Type 0) : Type 0 where
  pub coming : List ℕ
  pub judgements : List (Judgement S E)

-- the same once n bytes were taken
abbrev pub input_after : {S E : Type 0} → ℕ → Input S E → Input S E
input_after n input = record input { coming = drop n input.coming }

-- an answer has this body; or there is none, and so the session ends
pub data AnswerBody : Type 0 where
  Body : (body : List ℕ) → AnswerBody
  NoBody : (ending : Ending) → AnswerBody

abbrev pub is_refusal : FrameKind → Bool
is_refusal kind.Refusal = true
is_refusal _ = false

abbrev pub answer_of : Coming → AnswerBody
answer_of (Whole kind body) =
    if is_refusal kind then NoBody (StoreRefuses (slice_index body 0)) else Body body
answer_of Ended = NoBody (CutAnswer 0)
answer_of (Cut got) = NoBody (CutAnswer got)
answer_of (Bad length taken) = NoBody (BadAnswer length)

abbrev pub with_answer : {S B E : Type 0} → AnswerBody → Input S E
    → (List ℕ → Input S E → SessionWork S B E) → SessionWork S B E
with_answer (Body body) input go = go body input
with_answer (NoBody ending) input go = ends_with ending

-- a frame is put, and its answer taken
unfoldable pub exchange : {S B E : Type 0} → FrameKind → List ℕ → Awaits → Input S E
    → (List ℕ → Input S E → SessionWork S B E) → SessionWork S B E
exchange kind body awaits input go =
    behind (Puts (frame_bytes kind body) ∷ Takes (span (first_frame awaits input.coming)) ∷ [])
    (with_answer (answer_of (first_frame awaits input.coming))
    (input_after (span (first_frame awaits input.coming)) input) go)

-- an entry is installed, as its version
unfoldable pub installation : {S B E : Type 0} → Forms B E → E → Input S E
    → (Input S E → SessionWork S B E) → SessionWork S B E
installation forms entry input go =
    exchange kind.Install (forms.install entry) awaits.Installed input (λ body rest.
    if bytes_eq body (u64_bytes (forms.version entry)) then go rest else ends_with StandsElsewhere)

-- a batch is proposed
unfoldable pub proposal : {S B E : Type 0} → Forms B E → B → Input S E
    → (List ℕ → Input S E → SessionWork S B E) → SessionWork S B E
proposal forms batch input go =
    exchange kind.Propose (forms.proposal batch) awaits.Proofs input go

-- the store is given the entry of this number: the first is installed alone
unfoldable pub delivery : {S B E : Type 0} → Forms B E → ℕ → E → Input S E
    → (Input S E → SessionWork S B E) → SessionWork S B E
delivery forms zero entry input go = installation forms entry input go
delivery forms (suc i) entry input go = proposal forms (forms.batch entry) input
    (λ proofs rest. installation forms entry rest go)

-- the store is given these entries, of which the first has this number
unfoldable pub deliveries : {S B E : Type 0} → Forms B E → ℕ → List E → Input S E
    → (Input S E → SessionWork S B E) → SessionWork S B E
deliveries forms i [] input go = go input
deliveries forms i (entry ∷ entries) input go =
    delivery forms i entry input (λ rest. deliveries forms (suc i) entries rest go)

-- how many entries the store holds, by its standing
abbrev pub with_place : {S B E : Type 0} → Place → List ℕ → Input S E
    → (ℕ → Input S E → SessionWork S B E) → SessionWork S B E
with_place (Holds count) body input go = go count input
with_place Elsewhere body input go = ends_with StandsElsewhere
with_place NoStanding body input go = ends_with (BadAnswer (length body + 1))

unfoldable pub standing : {S B E : Type 0} → Forms B E → List E → Input S E
    → (ℕ → Input S E → SessionWork S B E) → SessionWork S B E
standing forms entries input go = exchange kind.Status [] awaits.Standing input
    (λ body rest. with_place (forms.place entries body) body rest go)

-- the store is given what it lacks of these entries
unfoldable pub catch_up : {S B E : Type 0} → Forms B E → List E → Input S E
    → (Input S E → SessionWork S B E) → SessionWork S B E
catch_up forms entries input go = standing forms entries input
    (λ count rest. deliveries forms count (drop count entries) rest go)

-- an entry is installed, and its version written
unfoldable pub publication : {S B E : Type 0} → Forms B E → E → Input S E
    → (Input S E → SessionWork S B E) → SessionWork S B E
publication forms entry input go = installation forms entry input
    (λ rest. behind (Does (Says (version_line (forms.version entry))) ∷ []) (go rest))

-- the journal has it before
unfoldable pub commit : {S B E : Type 0} → Forms B E → E → S → Input S E
    → (S → Input S E → SessionWork S B E) → SessionWork S B E
commit forms entry next input go =
    behind (Does (Appends entry next) ∷ []) (publication forms entry input (go next))

abbrev pub with_judgement : {S B E : Type 0} → Forms B E → Judgement S E → Input S E
    → (S → Input S E → SessionWork S B E) → SessionWork S B E
with_judgement forms (Makes entry next) input go = commit forms entry next input go
with_judgement forms (Refuses cause lines) input go = ends_with (OwnerRefuses cause lines)

-- the owner makes the first of these of the batch
abbrev pub with_first_judgement : {S B E : Type 0} → Forms B E → S → B → List ℕ → List ℕ
    → List (Judgement S E) → (S → Input S E → SessionWork S B E) → SessionWork S B E
with_first_judgement forms state batch proofs coming [] go = record { events = []; value = None }
with_first_judgement forms state batch proofs coming (judgement ∷ left) go =
    behind (Does (Steps state batch proofs judgement) ∷ [])
    (with_judgement forms judgement (record { coming = coming; judgements = left }) go)

unfoldable pub step : {S B E : Type 0} → Forms B E → S → B → List ℕ → Input S E
    → (S → Input S E → SessionWork S B E) → SessionWork S B E
step forms state batch proofs input go =
    with_first_judgement forms state batch proofs input.coming input.judgements go

unfoldable pub batch_commit : {S B E : Type 0} → Forms B E → S → B → Input S E
    → (S → Input S E → SessionWork S B E) → SessionWork S B E
batch_commit forms state batch input go = proposal forms batch input
    (λ proofs rest. step forms state batch proofs rest go)

unfoldable pub commits : {S B E : Type 0} → Forms B E → S → List B → Input S E
    → (Input S E → SessionWork S B E) → SessionWork S B E
commits forms state [] input go = go input
commits forms state (batch ∷ batches) input go =
    batch_commit forms state batch input (λ next rest. commits forms next batches rest go)

-- the store is given what it lacks, and then each batch is committed
unfoldable pub session_on : {S B E : Type 0} → Forms B E → S → List E → List B → Input S E
    → (Input S E → SessionWork S B E) → SessionWork S B E
session_on forms state entries batches input go = catch_up forms entries input
    (λ rest. commits forms state batches rest go)

unfoldable pub session : {S B E : Type 0} → Forms B E → S → List E → List B → Input S E
    → SessionWork S B E
session forms state entries batches input =
    session_on forms state entries batches input (λ rest. ends_with Done)
