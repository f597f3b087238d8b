-- A connection that is served: the script of all its requests, by the bytes that come.
use Rattle.std.specs.Prelude.{◌≡◌, ℕ, zero, suc, ◌+◌, List, [], ◌∷◌, length, take, drop, Option, Some, None, Result, Ok, Err}
use Rattle.outside.specs.ConnectionModel.{ConnectionModel, take_from, send_on}
use Rattle.link_frames.specs.declared.frame_kind.FrameKind.{FrameKind}
use Rattle.link_frames.specs.declared.awaits.Awaits.TheVariants.{Request}
use Rattle.link_frames.specs.declared.frame.NoFrame.{NoFrame}
use Rattle.link_frames.specs.declared.frame.NoFrame.TheVariants as no_frame
use Rattle.link_frames.specs.declared.end.End.{End}
use Rattle.link_frames.specs.declared.end.End.TheVariants as end
use Rattle.link_frames.specs.Frames.{frame_bytes, first_frame, Coming, Whole, Ended, Cut, Bad}
use Rattle.link_frames.specs.Scripts.{Puts, Takes, Does, Script, behind, IsDone, Stops}

-- how many requests of one connection are answered at most
unfoldable pub max_turns : ℕ
max_turns = 1048576

-- the kind and the body of the answer to a request; none where the body is none of its kind
abbrev pub Reply : Type 0 → Type 0
Reply S = S → FrameKind → List ℕ → Option (FrameKind × List ℕ)

-- the state after a request that is answered
abbrev pub Next : Type 0 → Type 0
Next S = S → FrameKind → List ℕ → S

-- a script that ends after one event
abbrev pub ends_after : {X : Type 0} → ℕ → End → Script X End
ends_after count end = record { events = Takes count ∷ []; value = end }

-- A request of a body that is its kind's is taken, changes the state and is answered, and the rest
-- follows; at any other the serving ends.
abbrev pub with_reply : {S : Type 0} → Next S → S → FrameKind → List ℕ → Option (FrameKind × List ℕ)
    → Script S End → Script S End
with_reply next state kind body (Some answer) rest =
    behind (Takes (5 + length body) ∷ Does (next state kind body)
    ∷ Puts (frame_bytes answer.0 answer.1) ∷ []) rest
with_reply next state kind body None rest =
    ends_after (5 + length body) (end.BadFrame (length body + 1))

-- the same by what comes first
abbrev pub with_first : {S : Type 0} → Reply S → Next S → S → Coming
    → (FrameKind → List ℕ → Script S End) → Script S End
with_first reply next state (Whole kind body) rest =
    with_reply next state kind body (reply state kind body) (rest kind body)
with_first reply next state Ended rest = ends_after 0 end.Closed
with_first reply next state (Cut got) rest = ends_after got (end.Cut got)
with_first reply next state (Bad length taken) rest = ends_after taken (end.BadFrame length)

-- how a connection is served on which these bytes come, and how that ends
unfoldable pub serving_script : {S : Type 0} → Reply S → Next S → ℕ → S → List ℕ → Script S End
serving_script reply next zero state coming = record { events = []; value = end.Turns }
serving_script reply next (suc turns) state coming =
    with_first reply next state (first_frame Request coming)
    (λ kind body. serving_script reply next turns (next state kind body)
    (drop (5 + length body) coming))

-- the last of some states, or the one before them
abbrev pub last_state : {S : Type 0} → S → List S → S
last_state state [] = state
last_state state (later ∷ states) = last_state later states

-- the script was done up to an event in the midst of which it stopped, or to its end
abbrev pub StopsIn : {S : Type 0} → Script S End → S → S → ConnectionModel → ConnectionModel
    → Type 0
StopsIn script old new before after =
    (states : List _) × (new ≡ last_state old states) × Stops script.events states before after

-- the script was done to its end, which is this one
abbrev pub EndsWith : {S : Type 0} → Script S End → End → S → S → ConnectionModel → ConnectionModel
    → Type 0
EndsWith script end old new before after =
    (script.value ≡ end) × (states : List _) × (new ≡ last_state old states)
    × IsDone script.events states before after

-- A run of the script that ended so: it was stopped where the link failed or memory ran out, else
-- it was done.
abbrev pub Serves : {S : Type 0} → Script S End → End → S → S → ConnectionModel → ConnectionModel
    → Type 0
Serves script end.LinkFault old new before after = StopsIn script old new before after
Serves script end.Memory old new before after = StopsIn script old new before after
Serves script end old new before after = EndsWith script end old new before after

-- the same where the connection is known afterwards
abbrev pub ServesKnown : {S : Type 0} → Script S End → End → S → S → ConnectionModel
    → Option ConnectionModel → Type 0
ServesKnown script end old new before wire =
    (after : ConnectionModel) × (wire ≡ Some after) × Serves script end old new before after

-- the end where no request was read
abbrev pub end_of : NoFrame → End
end_of no_frame.Ended = end.Closed
end_of (no_frame.Cut got) = end.Cut got
end_of (no_frame.BadFrame length) = end.BadFrame length
end_of no_frame.LinkFault = end.LinkFault
end_of no_frame.Memory = end.Memory

-- an answer was put, or a front of it, since the link failed or memory ran out
abbrev pub PutsAnswer : List ℕ → Result (Unit {0}) End → ConnectionModel → Option ConnectionModel
    → Type 0
PutsAnswer frame (Ok done) before wire = wire ≡ Some (send_on frame before)
PutsAnswer frame (Err end.LinkFault) before wire =
    (n : ℕ) × (wire ≡ Some (send_on (take n frame) before))
PutsAnswer frame (Err end.Memory) before wire =
    (n : ℕ) × (wire ≡ Some (send_on (take n frame) before))
PutsAnswer frame (Err _) before wire = ⊥

-- a request was answered in this state: the answer was put, and the state is the next
abbrev pub IsAnswered : {S : Type 0} → Reply S → Next S → FrameKind → List ℕ → S → S
    → ConnectionModel → Option ConnectionModel → Type 0
IsAnswered reply next kind body old new before wire =
    (answer : FrameKind × List ℕ) × (reply old kind body ≡ Some answer)
    × (new ≡ next old kind body)
    × (wire ≡ Some (send_on (frame_bytes answer.0 answer.1) before))

-- a request that was taken was answered, or the serving ended, whatever would have followed
abbrev pub AnswersOne : {S : Type 0} → Reply S → Next S → FrameKind → List ℕ
    → Result (Unit {0}) End → S → S → ConnectionModel → Option ConnectionModel → Type 0
AnswersOne reply next kind body (Ok done) old new before wire =
    IsAnswered reply next kind body old new before wire
AnswersOne reply next kind body (Err end) old new before wire =
    (rest : Script _ End) (start : ConnectionModel) → before ≡ take_from (5 + length body) start
    → ServesKnown (with_reply next old kind body (reply old kind body) rest) end old new start wire

-- the next request was taken and answered, or the serving ended, whatever would have followed
abbrev pub ServesOne : {S : Type 0} → Reply S → Next S → Coming → Result (Unit {0}) End → S → S
    → ConnectionModel → Option ConnectionModel → Type 0
ServesOne reply next first (Ok done) old new before wire =
    (kind : FrameKind) × (body : List ℕ) × (first ≡ Whole kind body)
    × IsAnswered reply next kind body old new (take_from (5 + length body) before) wire
ServesOne reply next first (Err end) old new before wire =
    (rest : FrameKind → List ℕ → Script _ End)
    → ServesKnown (with_first reply next old first rest) end old new before wire
