-- What calls do that read from a connection or put on it.
use Rattle.std.specs.Prelude.{◌≡◌, ◌≢◌, ℕ, ◌+◌, ◌⊎◌, ◌<◌, ◌≤◌, ◌↔◌, min, List, [], ◌∷◌, ◌++◌, length, take, drop, Option, Some, Result, Ok, Err, Bool, IsTrue}
use Rattle.outside.specs.ConnectionModel.{ConnectionModel, has_next, take_from, send_on}
use Rattle.outside.specs.FaultRose.{FaultRose}
use Rattle.link_frames.specs.declared.frame.Frame.{Frame}
use Rattle.link_frames.specs.declared.frame.NoFrame.{NoFrame}
use Rattle.link_frames.specs.declared.frame.NoFrame.TheVariants as no_frame
use Rattle.link_frames.specs.declared.frame_kind.FrameKind.{FrameKind}
use Rattle.link_frames.specs.declared.frame_kind.FrameKind.TheVariants.{Refusal}
use Rattle.link_frames.specs.declared.head.FrameHead.{FrameHead}
use Rattle.link_frames.specs.declared.interrupted.Interrupted.{Interrupted}
use Rattle.link_frames.specs.declared.interrupted.Interrupted.TheVariants as interrupted
use Rattle.link_frames.specs.declared.received.Received.{Received}
use Rattle.link_frames.specs.declared.received.Received.TheVariants as received
use Rattle.link_frames.specs.Frames.{Coming, Whole, Ended, Cut, Bad, span, with_body}

-- a connection, where it is known, of which n bytes were taken
abbrev pub Took : ℕ → ConnectionModel → Option ConnectionModel → Type 0
Took n before after = after ≡ Some (take_from n before)

-- the same of some of the bytes that come, at most so many
abbrev pub TookAtMost : ℕ → ConnectionModel → Option ConnectionModel → Type 0
TookAtMost most before after =
    (n : ℕ) × (n ≤ most) × (n ≤ length before.coming) × Took n before after

-- or fewer
abbrev pub TookFewer : ℕ → ConnectionModel → Option ConnectionModel → Type 0
TookFewer most before after =
    (n : ℕ) × (n < most) × (n ≤ length before.coming) × Took n before after

-- a count that stays where the connection has what is asked for
abbrev pub StaysWhere : (ConnectionModel → Bool) → Option ConnectionModel → ℕ → ℕ → Type 0
StaysWhere has wire before after =
    (w : ConnectionModel) → wire ≡ Some w → IsTrue (has w) → after ≡ before

-- the same where the connection stands
abbrev pub StaysWhereItStands : Option ConnectionModel → ℕ → ℕ → Type 0
StaysWhereItStands wire before after = StaysWhere (λ w. w.stands) wire before after

-- What a call leaves of the counts of what it works on: faults don't fall, one rose where the call
-- failed by it, and else they are as they were; and misses stay where it has what is asked for.
pub record KeepsCounts {T : Type 0} (has : ConnectionModel → Bool) (wire : T → Option ConnectionModel)
    (faults misses : T → ℕ) (old new : T) (failed : Type 0) : Type 0 where
  pub rise : faults old ≤ faults new
  pub cause : failed → FaultRose (faults old) (faults new)
  pub quiet : (failed → ⊥) → faults new ≡ faults old
  pub stays : StaysWhere has (wire old) (misses old) (misses new)

-- of a link, which is asked for nothing but to stand
abbrev pub KeepsLinkCounts : {T : Type 0} → (T → Option ConnectionModel) → (T → ℕ) → (T → ℕ) → T → T
    → Type 0 → Type 0
KeepsLinkCounts wire faults misses old new failed =
    KeepsCounts (λ w. w.stands) wire faults misses old new failed

-- of a network, which is asked for its next connection
abbrev pub KeepsNetCounts : {T : Type 0} → (T → Option ConnectionModel) → (T → ℕ) → (T → ℕ) → T → T
    → Type 0 → Type 0
KeepsNetCounts wire faults misses old new failed =
    KeepsCounts has_next wire faults misses old new failed

-- a buffer is filled with what comes, as far as both reach
abbrev pub Fills : {E : Type 0} → List ℕ → List ℕ → Result ℕ E → ConnectionModel
    → Option ConnectionModel → Type 0
Fills old new (Ok n) before after =
    (n ≡ min (length old) (length before.coming))
    × (new ≡ take n before.coming ++ drop n old) × Took n before after
Fills old new (Err fault) before after = TookFewer (length old) before after

-- of what comes, bytes that fit into the room are put behind what was gathered; none are the end
abbrev pub Gathered : ℕ → List ℕ → List ℕ → Result ℕ Interrupted → ConnectionModel
    → Option ConnectionModel → Type 0
Gathered room old new (Ok n) before after =
    (n ≤ length before.coming) × (new ≡ old ++ take n before.coming)
    × (0 < room → (n ≡ 0) ↔ (before.coming ≡ [])) × Took n before after
Gathered room old new (Err interrupted.LinkFault) before after = Took 0 before after
Gathered room old new (Err interrupted.Memory) before after = TookAtMost room before after

-- the next bytes of what comes, so many or all that are left, are put behind what was gathered
abbrev pub GathersBytes : ℕ → List ℕ → List ℕ → Result ℕ Interrupted → ConnectionModel
    → Option ConnectionModel → Type 0
GathersBytes count old new (Ok n) before after =
    (n ≡ min count (length before.coming)) × (new ≡ old ++ take n before.coming)
    × Took n before after
GathersBytes count old new (Err interrupted.LinkFault) before after = TookFewer count before after
GathersBytes count old new (Err interrupted.Memory) before after = TookAtMost count before after

-- Why there is no frame is what comes first.
abbrev pub Misses : Coming → NoFrame → Type 0
Misses first no_frame.Ended = first ≡ Ended
Misses first (no_frame.Cut got) = first ≡ Cut got
Misses first (no_frame.BadFrame length) = (taken : ℕ) × (first ≡ Bad length taken)
Misses first no_frame.LinkFault = Unit {0}
Misses first no_frame.Memory = Unit {0}

-- a read that began k bytes before took the rest of what comes first
abbrev pub TookRest : ℕ → Coming → ConnectionModel → Option ConnectionModel → Type 0
TookRest k first before after = (n : ℕ) × (k + n ≡ span first) × Took n before after

-- a front of that rest
abbrev pub TookWithin : ℕ → Coming → ConnectionModel → Option ConnectionModel → Type 0
TookWithin k first before after = (n : ℕ) × (k + n ≤ span first) × Took n before after

-- what comes first is a frame
abbrev pub IsFrame : Coming → Type 0
IsFrame (Whole kind body) = Unit {0}
IsFrame _ = ⊥

-- a front of it, but not all of a frame
abbrev pub TookPart : ℕ → Coming → ConnectionModel → Option ConnectionModel → Type 0
TookPart k first before after = (n : ℕ) × (k + n ≤ span first)
    × (IsFrame first → k + n < span first) × Took n before after

-- the same of a read without a frame, but that it took a front alone where memory ran out, and
-- where the link failed not all of a frame
abbrev pub TookRestOrFront : ℕ → Coming → NoFrame → ConnectionModel → Option ConnectionModel
    → Type 0
TookRestOrFront k first no_frame.LinkFault before after = TookPart k first before after
TookRestOrFront k first no_frame.Memory before after = TookWithin k first before after
TookRestOrFront k first _ before after = TookRest k first before after

-- a read that began k bytes before gives what comes first, in this form, or says why it is no frame
abbrev pub ReadsAs : {X : Type 0} → (Coming → X → Type 0) → ℕ → Coming → Result X NoFrame
    → ConnectionModel → Option ConnectionModel → Type 0
ReadsAs Is k first (Ok x) before after = Is first x × TookRest k first before after
ReadsAs Is k first (Err fault) before after =
    Misses first fault × TookRestOrFront k first fault before after

-- what comes first is this frame
abbrev pub IsWhole : Coming → Frame → Type 0
IsWhole first frame = first ≡ Whole frame.kind frame.body.items

-- of a frame that is given whole
abbrev pub Reads : ℕ → Coming → Result Frame NoFrame → ConnectionModel → Option ConnectionModel
    → Type 0
Reads k first result before after = ReadsAs IsWhole k first result before after

-- what comes first has this kind, and its body was put behind what was gathered
abbrev pub Adds : FrameKind → List ℕ → List ℕ → Coming → Type 0
Adds kind old new first = (body : List ℕ) × (first ≡ Whole kind body) × (new ≡ old ++ body)

-- the same but of a refusal, of which nothing is gathered
abbrev pub Receives : List ℕ → List ℕ → Coming → Received → Type 0
Receives old new first (received.Body kind) = (kind ≢ Refusal) × Adds kind old new first
Receives old new first (received.Refusal code) =
    (new ≡ old) × (first ≡ Whole Refusal (code ∷ []))

-- the same, up to the body
abbrev pub ReadsHead : ℕ → Coming → Result FrameHead NoFrame → ConnectionModel
    → Option ConnectionModel → Type 0
ReadsHead k first (Ok head) before after =
    (n : ℕ) × (k + n ≡ 5) × (first ≡ with_body head.kind head.length (drop n before.coming))
    × Took n before after
ReadsHead k first (Err fault) before after =
    Misses first fault × TookRestOrFront k first fault before after

-- a head that begins with this length and is followed by these bytes, or none
abbrev pub IsHeadOf : Coming → ℕ → List ℕ → Result FrameHead NoFrame → Type 0
IsHeadOf first length bytes (Ok head) = first ≡ with_body head.kind head.length bytes
IsHeadOf first length bytes (Err fault) =
    (fault ≡ no_frame.BadFrame length) × (first ≡ Bad length 5)

-- of a frame and its answer: a front of the frame was put and nothing taken, or all of it was put,
-- and a front of what comes first was taken then
abbrev pub IsHalfAsked : List ℕ → Coming → ConnectionModel → Option ConnectionModel → Type 0
IsHalfAsked frame first before after =
    ((n : ℕ) × (after ≡ Some (send_on (take n frame) before)))
    ⊎ TookWithin 0 first (send_on frame before) after

-- the same where the link failed: not all of a frame was taken
abbrev pub IsBrokenOff : List ℕ → Coming → ConnectionModel → Option ConnectionModel → Type 0
IsBrokenOff frame first before after =
    ((n : ℕ) × (after ≡ Some (send_on (take n frame) before)))
    ⊎ TookPart 0 first (send_on frame before) after

-- a frame was put, and then what comes first was read, in this form
abbrev pub AsksAs : {X : Type 0} → (Coming → X → Type 0) → List ℕ → Coming → Result X NoFrame
    → ConnectionModel → Option ConnectionModel → Type 0
AsksAs Is frame first (Err no_frame.LinkFault) before after = IsBrokenOff frame first before after
AsksAs Is frame first (Err no_frame.Memory) before after = IsHalfAsked frame first before after
AsksAs Is frame first result before after =
    ReadsAs Is 0 first result (send_on frame before) after

-- the same where the frame that answers is given whole
abbrev pub Asks : List ℕ → Coming → Result Frame NoFrame → ConnectionModel → Option ConnectionModel
    → Type 0
Asks frame first result before after = AsksAs IsWhole frame first result before after
