-- Answers that are read on.
use Rattle.std.proofs.Common.{◌≡◌, ℕ, List, Option, Some, Result, Ok, Err, refl, sym, ap, ◌∙◌, inl, append-nil}
use Rattle.std.specs.Result.{result_map_both}
use Rattle.vo_spec.specs.Firsts.{and_then}
use Rattle.outside.specs.ConnectionModel.{ConnectionModel}
use Rattle.link_frames.specs.Frames.{Coming}
use Rattle.link_frames.specs.Reading.{IsHalfAsked}
use Rattle.connections.specs.declared.wire_fault.WireFault.{WireFault}
use Rattle.connections.specs.declared.wire_fault.WireFault.TheVariants as fault
use Rattle.connections.specs.Requesting.{Requests, answer_in}
use Rattle.connections.proofs.RequestLaws.{requested}
use Rattle.store_requests.specs.Answers.{or_bad_frame}

-- memory ran out before anything was asked
pub nothing_asked : (frame : List ℕ) (first : Coming) (before : ConnectionModel) (wire : Option ConnectionModel)
    → wire ≡ Some before → IsHalfAsked frame first before wire
nothing_asked frame first before wire is =
    inl (0, is ∙ ap (λ (bytes : List ℕ). Some (record before { sent = bytes })) (sym (append-nil before.sent)))

same_result : {X : Type 0} (result : Result X WireFault) → result_map_both (λ x. x) (λ why. why) result ≡ result
same_result (Ok x) = refl
same_result (Err why) = refl

-- a body that is read as what it says
pub read_on : {X Y : Type 0} (view : Y → List ℕ) (read : List ℕ → Option X) (frame : List ℕ) (first : Coming) (body : Y)
    (bytes : List ℕ) (result : Result X WireFault) (before : ConnectionModel) (after : Option ConnectionModel)
    → Requests view frame first (answer_in first) (Ok body) before after → bytes ≡ view body
    → result ≡ or_bad_frame bytes (read bytes)
    → Requests (λ x. x) frame first (and_then (λ b. or_bad_frame b (read b)) (answer_in first)) result before after
read_on {X} view read frame first body bytes result before after h is_body is_result =
    let due : result_map_both (λ x. x) (λ why. why) result ≡ and_then (λ b. or_bad_frame b (read b)) (answer_in first) =
    same_result result ∙ is_result ∙ ap (λ b. or_bad_frame b (read b)) is_body
    ∙ ap (and_then (λ b. or_bad_frame b (read b))) (sym h.0) in
    requested (λ (x : X). x) frame first (and_then (λ b. or_bad_frame b (read b)) (answer_in first)) result before after due h.1

-- no answer came
pub pass_on : {X Y Z W : Type 0} (view : X → Y) (other : Z → W) (go : Y → Result W WireFault) (frame : List ℕ) (first : Coming)
    (answer : Result Y WireFault) (why : WireFault) (before : ConnectionModel) (after : Option ConnectionModel)
    → Requests view frame first answer (Err why) before after
    → Requests other frame first (and_then go answer) (Err why) before after
pass_on view other go frame first answer fault.LinkFault before after h = h
pass_on view other go frame first answer fault.Memory before after h = h
pass_on view other go frame first answer (fault.BadFrame length) before after h = (ap (and_then go) h.0, h.1)
pass_on view other go frame first answer (fault.Cut got) before after h = (ap (and_then go) h.0, h.1)
pass_on view other go frame first answer (fault.Refused code) before after h = (ap (and_then go) h.0, h.1)
