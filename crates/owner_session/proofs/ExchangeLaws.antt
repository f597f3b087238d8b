-- One exchange, by what was read.
use Rattle.std.proofs.Common.{◌≡◌, ℕ, Bool, true, false, List, Option, Some, Result, Ok, Err, slice_index, sym, ap, ◌∙◌, subst, inr, arith, if◌then◌else◌}
use Rattle.std.specs.Global.{Vec}
use Rattle.outside.specs.ConnectionModel.{ConnectionModel, take_from, send_on}
use Rattle.link_frames.specs.declared.frame.NoFrame.{NoFrame}
use Rattle.link_frames.specs.declared.frame.NoFrame.TheVariants as no_frame
use Rattle.link_frames.specs.declared.frame_kind.FrameKind.{FrameKind}
use Rattle.link_frames.specs.Frames.{Coming, Whole, span}
use Rattle.link_frames.specs.Reading.{TookRest, Took, Asks}
use Rattle.owner_session.specs.declared.stop.SessionStop.{SessionStop}
use Rattle.owner_session.specs.declared.stop.SessionStop.TheVariants as stop
use Rattle.owner_session.specs.Endings.{Ending, StoreRefuses, BadAnswer, CutAnswer, StopsWith}
use Rattle.owner_session.specs.SessionWork.{Body, NoBody, answer_of, is_refusal}
use Rattle.owner_session.specs.Runs.{Exchanges, AnswersBody}

-- all of what came first was taken
took_all : (first : Coming) (before : ConnectionModel) (wire : Option ConnectionModel) → TookRest 0 first before wire
    → wire ≡ Some (take_from (span first) before)
took_all first before wire t =
    let all : t.0 ≡ span first = omega (arith, t.1) in
    subst (λ (k : ℕ). Took k before wire) all t.2

pub trades_not : (frame : List ℕ) (first : Coming) (ending : Ending) (why : SessionStop) (before : ConnectionModel)
    (wire : Option ConnectionModel) → answer_of first ≡ NoBody ending → TookRest 0 first (send_on frame before) wire
    → StopsWith ending why → Exchanges frame first (Err why) before wire
trades_not frame first ending (stop.Refused report) before wire is t h =
    ((ending, is, h), took_all first (send_on frame before) wire t)
trades_not frame first ending stop.Memory before wire is t h = inr (t.0, omega (arith, t.1), t.2)
trades_not frame first ending stop.LinkFault before wire is t h = absurd h
trades_not frame first ending stop.DiskFault before wire is t h = absurd h
trades_not frame first ending stop.OutputFault before wire is t h = absurd h

pub trades : (frame : List ℕ) (first : Coming) (kind : FrameKind) (body : List ℕ) (result : Result (Vec ℕ) SessionStop)
    (before : ConnectionModel) (wire : Option ConnectionModel) → first ≡ Whole kind body
    → TookRest 0 first (send_on frame before) wire → AnswersBody kind body result
    → Exchanges frame first result before wire
trades frame first kind body (Ok given) before wire is t h =
    (ap answer_of is ∙ h, took_all first (send_on frame before) wire t)
trades frame first kind body (Err why) before wire is t h =
    trades_not frame first h.0 why before wire (ap answer_of is ∙ h.1) t h.2

-- what an answer that came whole is
pub is_body : (kind : FrameKind) (body : List ℕ) (given : Vec ℕ) → is_refusal kind ≡ false → body ≡ given.items
    → answer_of (Whole kind body) ≡ Body given.items
is_body kind body given other same =
    ap (λ (b : Bool). if b then NoBody (StoreRefuses (slice_index body 0)) else Body body) other ∙ ap Body same

pub is_no_body : (kind : FrameKind) (body : List ℕ) (code : ℕ) → is_refusal kind ≡ true → code ≡ slice_index body 0
    → answer_of (Whole kind body) ≡ NoBody (StoreRefuses code)
is_no_body kind body code refused is =
    ap (λ (b : Bool). if b then NoBody (StoreRefuses (slice_index body 0)) else Body body) refused
    ∙ ap (λ (c : ℕ). NoBody (StoreRefuses c)) (sym is)

-- why no answer was read is why it stops
abbrev pub StopsFor : NoFrame → SessionStop → Type 0
StopsFor no_frame.Ended why = StopsWith (CutAnswer 0) why
StopsFor (no_frame.Cut got) why = StopsWith (CutAnswer got) why
StopsFor (no_frame.BadFrame length) why = StopsWith (BadAnswer length) why
StopsFor no_frame.LinkFault why = why ≡ stop.LinkFault
StopsFor no_frame.Memory why = why ≡ stop.Memory

asks_not : (frame : List ℕ) (first : Coming) (fault : NoFrame) (why : SessionStop) (before : ConnectionModel)
    (wire : Option ConnectionModel) → Asks frame first (Err fault) before wire → StopsFor fault why
    → Exchanges frame first (Err why) before wire
asks_not frame first no_frame.Ended why before wire h k =
    trades_not frame first (CutAnswer 0) why before wire (ap answer_of h.0) h.1 k
asks_not frame first (no_frame.Cut got) why before wire h k =
    trades_not frame first (CutAnswer got) why before wire (ap answer_of h.0) h.1 k
asks_not frame first (no_frame.BadFrame length) why before wire h k =
    trades_not frame first (BadAnswer length) why before wire (ap answer_of h.0.1) h.1 k
asks_not frame first no_frame.LinkFault why before wire h k =
    subst (λ (w : SessionStop). Exchanges frame first (Err w) before wire) (sym k) h
asks_not frame first no_frame.Memory why before wire h k =
    subst (λ (w : SessionStop). Exchanges frame first (Err w) before wire) (sym k) h

pub no_trade : (frame : List ℕ) (first : Coming) (fault known : NoFrame) (why : SessionStop) (before : ConnectionModel)
    (wire : Option ConnectionModel) → fault ≡ known → Asks frame first (Err fault) before wire → StopsFor known why
    → Exchanges frame first (Err why) before wire
no_trade frame first fault known why before wire is h k =
    asks_not frame first known why before wire
    (subst (λ (f : NoFrame). Asks frame first (Err f) before wire) is h) k
