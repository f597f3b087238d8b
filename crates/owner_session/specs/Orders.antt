-- What holds of a session's events: their orders, and what they come to.
use Rattle.std.specs.Prelude.{◌≡◌, ℕ, List, [], ◌∷◌, ◌++◌, flat_map, Some, Contains}
use Rattle.link_frames.specs.declared.frame_kind.FrameKind.TheVariants.{Install}
use Rattle.link_frames.specs.Frames.{frame_bytes}
use Rattle.link_frames.specs.Scripts.{Event, Puts, Takes, Does, others}
use Rattle.owner_session.specs.Endings.{Done, version_line}
use Rattle.owner_session.specs.SessionWork.{Forms, Makes, Refuses, Deed, Steps, Appends, Says, SessionWork}
use Rattle.owner_session.specs.Runs.{lines_of, entries_of}

-- each frame is followed at once by its answer
abbrev pub Alternates : {X : Type 0} → List (Event X) → Type 0
Alternates [] = Unit {0}
Alternates (Puts frame ∷ Takes count ∷ events) = Alternates events
Alternates (Does deed ∷ events) = Alternates events
Alternates _ = ⊥

-- what the frame installs, if it installs anything, is one of these entries
abbrev pub InstallsOneOf : {E : Type 0} → (E → List ℕ) → List E → List ℕ → Type 0
InstallsOneOf install entries frame =
    (body : List ℕ) → frame ≡ frame_bytes Install body
    → (entry : _) × Contains entries entry × (body ≡ install entry)

-- each entry that is installed is in the journal by then, which begins with these
abbrev pub KeepsFirst : {S B E : Type 0} → (E → List ℕ) → List E → List (Event (Deed S B E))
    → Type 0
KeepsFirst install entries [] = Unit {0}
KeepsFirst install entries (Puts frame ∷ events) =
    InstallsOneOf install entries frame × KeepsFirst install entries events
KeepsFirst install entries (Takes count ∷ events) = KeepsFirst install entries events
KeepsFirst install entries (Does (Appends entry next) ∷ events) =
    KeepsFirst install (entries ++ entry ∷ []) events
KeepsFirst install entries (Does (Steps before batch proofs judgement) ∷ events) =
    KeepsFirst install entries events
KeepsFirst install entries (Does (Says line) ∷ events) = KeepsFirst install entries events

-- The owner, which stands so at first, steps from where it stands, and each entry that is appended
-- is what its step just made; the owner stands behind it then.
abbrev pub StepsFirst : {S B E : Type 0} → S → List (Event (Deed S B E)) → Type 0
StepsFirst state [] = Unit {0}
StepsFirst state (Puts frame ∷ events) = StepsFirst state events
StepsFirst state (Takes count ∷ events) = StepsFirst state events
StepsFirst state (Does (Says line) ∷ events) = StepsFirst state events
StepsFirst state (Does (Steps before batch proofs (Makes entry next)) ∷ Does (Appends kept behind)
    ∷ events) = (before ≡ state) × (kept ≡ entry) × (behind ≡ next) × StepsFirst next events
StepsFirst state (Does (Steps before batch proofs (Refuses cause lines)) ∷ events) =
    (before ≡ state) × StepsFirst state events
StepsFirst state (Does deed ∷ events) = ⊥

-- the batches that the owner stepped on
abbrev pub batches_of : {S B E : Type 0} → List (Deed S B E) → List B
batches_of [] = []
batches_of (Steps before batch proofs judgement ∷ deeds) = batch ∷ batches_of deeds
batches_of (Appends entry next ∷ deeds) = batches_of deeds
batches_of (Says line ∷ deeds) = batches_of deeds

abbrev pub version_lines : {B E : Type 0} → Forms B E → List E → List ℕ
version_lines forms entries = flat_map (λ entry. version_line (forms.version entry)) entries

-- Work that is done was done on each of these batches, in order, and its lines are the versions of
-- the entries that were appended.
abbrev pub CommitsEach : {S B E : Type 0} → Forms B E → List B → SessionWork S B E → Type 0
CommitsEach forms batches work = work.value ≡ Some Done
    → (batches_of (others work.events) ≡ batches)
    × (lines_of (others work.events) ≡ version_lines forms (entries_of (others work.events)))
