-- What a request gives: the body of its answer, or why there is none.
use Rattle.std.specs.Prelude.{◌≡◌, ℕ, List, slice_index, Option, Result, Ok, Err, OnOk}
use Rattle.outside.specs.ConnectionModel.{ConnectionModel, send_on}
use Rattle.link_frames.specs.declared.frame_kind.FrameKind.{FrameKind}
use Rattle.link_frames.specs.declared.frame_kind.FrameKind.TheVariants.{Refusal}
use Rattle.link_frames.specs.Frames.{Coming, Whole, Ended, Cut, Bad, span}
use Rattle.link_frames.specs.Reading.{Took, IsHalfAsked}
use Rattle.link_frames.specs.declared.frame.NoFrame.{NoFrame}
use Rattle.link_frames.specs.declared.frame.NoFrame.TheVariants as no_frame
use Rattle.link_frames.specs.declared.received.Received.{Received}
use Rattle.link_frames.specs.declared.received.Received.TheVariants as received
use Rattle.connections.specs.declared.wire_fault.WireFault.{WireFault}
use Rattle.connections.specs.declared.wire_fault.WireFault.TheVariants as fault

-- a refusal is a code
abbrev pub body_of : FrameKind → List ℕ → Result (List ℕ) WireFault
body_of Refusal body = Err (fault.Refused (slice_index body 0))
body_of _ body = Ok body

-- the body of the answer that comes first; a link that ends before it has cut it off
unfoldable pub answer_in : Coming → Result (List ℕ) WireFault
answer_in (Whole kind body) = body_of kind body
answer_in Ended = Err (fault.Cut 0)
answer_in (Cut got) = Err (fault.Cut got)
answer_in (Bad length taken) = Err (fault.BadFrame length)

-- why there is no answer where no frame was read
abbrev pub fault_of : NoFrame → WireFault
fault_of no_frame.Ended = fault.Cut 0
fault_of (no_frame.Cut got) = fault.Cut got
fault_of (no_frame.BadFrame length) = fault.BadFrame length
fault_of no_frame.LinkFault = fault.LinkFault
fault_of no_frame.Memory = fault.Memory

-- A request was put, and what comes first was taken, of which this is the answer; or the link
-- failed or memory ran out on the way.
abbrev pub Requests : {X Y : Type 0} → (X → Y) → List ℕ → Coming → Result Y WireFault
    → Result X WireFault → ConnectionModel → Option ConnectionModel → Type 0
Requests view frame first answer (Ok x) before after =
    (answer ≡ Ok (view x)) × Took (span first) (send_on frame before) after
Requests view frame first answer (Err fault.LinkFault) before after = IsHalfAsked frame first before after
Requests view frame first answer (Err fault.Memory) before after = IsHalfAsked frame first before after
Requests view frame first answer (Err why) before after =
    (answer ≡ Err why) × Took (span first) (send_on frame before) after

-- what a frame is as an answer, whose body was gathered
abbrev pub received_answer : Received → Result (Unit {0}) WireFault
received_answer (received.Body kind) = Ok tt
received_answer (received.Refusal code) = Err (fault.Refused code)

-- The same of a request whose answer's body is one of which this holds.
abbrev pub RequestsInto : (List ℕ → Type 0) → List ℕ → Coming → Result (Unit {0}) WireFault
    → ConnectionModel → Option ConnectionModel → Type 0
RequestsInto Is frame first result before after = (body : List ℕ) × OnOk result (Is body)
    × Requests (λ _. body) frame first (answer_in first) result before after
