-- What a question and its answer are as a request.
use Rattle.std.proofs.Common.{◌≡◌, ◌≢◌, ℕ, ◌+◌, ◌<◌, ◌^◌, List, [], ◌∷◌, ◌++◌, length, Option, Some, IfSome, IfOk, Result, Ok, Err, IsErr, IsTrue, refl, sym, ap, ◌∙◌, subst, inr, zero-add, arith, rules, tests}
use Rattle.std.specs.Prelude.{nat_lt}
use Rattle.std.specs.Result.{result_map_both}
use Rattle.std.specs.Global.{Vec}
use Rattle.outside.specs.ConnectionModel.{ConnectionModel, send_on, has_next}
use Rattle.link_frames.specs.declared.frame_kind.FrameKind.{FrameKind}
use Rattle.link_frames.specs.declared.frame_kind.FrameKind.TheVariants as kind
use Rattle.link_frames.specs.declared.received.Received.{Received}
use Rattle.link_frames.specs.declared.received.Received.TheVariants as received
use Rattle.link_frames.specs.declared.frame.NoFrame.{NoFrame}
use Rattle.link_frames.specs.declared.frame.NoFrame.TheVariants as no_frame
use Rattle.link_frames.specs.Frames.{Coming, Whole, Ended, Cut, Bad, span}
use Rattle.link_frames.specs.Reading.{Took, TookRest, AsksAs, Receives}
use Rattle.link_frames.proofs.ReadLaws.{half_asked}
use Rattle.connections.specs.declared.wire_fault.WireFault.{WireFault}
use Rattle.connections.specs.declared.wire_fault.WireFault.TheVariants as fault
use Rattle.connections.specs.Requesting.{answer_in, body_of, fault_of, received_answer, Requests, RequestsInto}

-- a read from the beginning took what comes first
took_span : (first : Coming) (before : ConnectionModel) (after : Option ConnectionModel)
    → TookRest 0 first before after → Took (span first) before after
took_span first before after h = subst (λ (n : ℕ). Took n before after) (sym (zero-add h.0) ∙ h.1) h.2

answer_whole : (first : Coming) (kind : FrameKind) (body : List ℕ) → first ≡ Whole kind body
    → answer_in first ≡ body_of kind body
unfolding answer_in
answer_whole first kind body is = ap answer_in is

answer_ended : (first : Coming) → first ≡ Ended → answer_in first ≡ Err (fault.Cut 0)
unfolding answer_in
answer_ended first is = ap answer_in is

answer_cut : (first : Coming) (got : ℕ) → first ≡ Cut got → answer_in first ≡ Err (fault.Cut got)
unfolding answer_in
answer_cut first got is = ap answer_in is

answer_bad : (first : Coming) (length taken : ℕ) → first ≡ Bad length taken
    → answer_in first ≡ Err (fault.BadFrame length)
unfolding answer_in
answer_bad first length taken is = ap answer_in is

-- what came first was taken, and the answer is what it says
pub requested : {X Y : Type 0} (view : X → Y) (frame : List ℕ) (first : Coming) (answer : Result Y WireFault)
    (result : Result X WireFault) (before : ConnectionModel) (after : Option ConnectionModel)
    → result_map_both view (λ why. why) result ≡ answer → Took (span first) (send_on frame before) after
    → Requests view frame first answer result before after
requested view frame first answer (Ok x) before after gives took = (sym gives, took)
requested view frame first answer (Err fault.LinkFault) before after gives took = inr (span first, omega arith, took)
requested view frame first answer (Err fault.Memory) before after gives took = inr (span first, omega arith, took)
requested view frame first answer (Err (fault.BadFrame length)) before after gives took = (sym gives, took)
requested view frame first answer (Err (fault.Cut got)) before after gives took = (sym gives, took)
requested view frame first answer (Err (fault.Refused code)) before after gives took = (sym gives, took)

-- an answer was read whole
pub whole_requested : (frame : List ℕ) (first : Coming) (kind : FrameKind) (body : List ℕ)
    (result : Result (Vec ℕ) WireFault) (before : ConnectionModel) (after : Option ConnectionModel)
    → (first ≡ Whole kind body) × TookRest 0 first (send_on frame before) after
    → result_map_both (λ bytes. bytes.items) (λ why. why) result ≡ body_of kind body
    → Requests (λ bytes. bytes.items) frame first (answer_in first) result before after
whole_requested frame first kind body result before after h gives =
    requested (λ bytes. bytes.items) frame first (answer_in first) result before after
    (gives ∙ sym (answer_whole first kind body h.0)) (took_span first (send_on frame before) after h.1)

-- no frame was read
pub unanswered : {X Y : Type 0} (view : X → List ℕ) (Is : Coming → Y → Type 0) (frame : List ℕ) (first : Coming)
    (why : NoFrame) (before : ConnectionModel) (after : Option ConnectionModel) → AsksAs Is frame first (Err why) before after
    → Requests view frame first (answer_in first) (Err (fault_of why)) before after
unanswered view Is frame first no_frame.Ended before after h =
    (answer_ended first h.0, took_span first (send_on frame before) after h.1)
unanswered view Is frame first (no_frame.Cut got) before after h =
    (answer_cut first got h.0, took_span first (send_on frame before) after h.1)
unanswered view Is frame first (no_frame.BadFrame length) before after h =
    (answer_bad first length h.0.0 h.0.1, took_span first (send_on frame before) after h.1)
unanswered view Is frame first no_frame.LinkFault before after h = half_asked frame first before after h
unanswered view Is frame first no_frame.Memory before after h = h

-- a body is an answer, but for a refusal's
body_kept : (k : FrameKind) (body : List ℕ) → k ≢ kind.Refusal → body_of k body ≡ Ok body
body_kept kind.Query body other = refl
body_kept kind.Status body other = refl
body_kept kind.Propose body other = refl
body_kept kind.Install body other = refl
body_kept kind.QueryAt body other = refl
body_kept kind.Reply body other = refl
body_kept kind.Standing body other = refl
body_kept kind.Proofs body other = refl
body_kept kind.Installed body other = refl
body_kept kind.Refusal body other = absurd (other refl)

-- an answer was read, and its body gathered
pub gathered_requested : (old new frame : List ℕ) (first : Coming) (received : Received) (before : ConnectionModel)
    (after : Option ConnectionModel) → Receives old new first received × TookRest 0 first (send_on frame before) after
    → RequestsInto (λ body. new ≡ old ++ body) frame first (received_answer received) before after
gathered_requested old new frame first (received.Body k) before after h = (
  h.0.1.0,
  h.0.1.2,
  (answer_whole first k h.0.1.0 h.0.1.1 ∙ body_kept k h.0.1.0 h.0.0, took_span first (send_on frame before) after h.1),
)
gathered_requested old new frame first (received.Refusal code) before after h =
    ([], tt, (answer_whole first kind.Refusal (code ∷ []) h.0.1, took_span first (send_on frame before) after h.1))

-- a body that was read is not too long for a frame
pub short_body : (result : Result (Vec ℕ) WireFault) (body : Vec ℕ) → IfOk result (λ bytes. bytes ≡ body)
    → length body.items + 1 < 2 ^ 32 → IfOk result (λ bytes. length bytes.items + 1 < 2 ^ 32)
short_body (Ok bytes) body same fits = subst (λ (v : Vec ℕ). length v.items + 1 < 2 ^ 32) (sym same) fits
short_body (Err why) body same fits = tt

-- Connections that are made.

some_queue : (queue : List (List ℕ)) → (queue ≡ [] → ⊥) → IsTrue (nat_lt 0 (length queue))
some_queue [] some = absurd (some refl)
some_queue (coming ∷ queue) some = search (rules, tests)

-- one was to come where one is made
pub came : {T E : Type 0} (before : ConnectionModel) (wire : Option ConnectionModel) (result : Result T E) (made : T)
    → wire ≡ Some before → IfSome wire (λ (w : ConnectionModel). w.queue ≡ [] → IsErr result) → result ≡ Ok made
    → IsTrue (has_next before)
came {T} {E} before wire result made is none ok =
    let fails : before.queue ≡ [] → IsErr result =
    subst (λ (o : Option ConnectionModel). IfSome o (λ (w : ConnectionModel). w.queue ≡ [] → IsErr result)) is none in
    some_queue before.queue (λ empty. let err : IsErr {E = E} (Ok made) = subst (λ (r : Result T E). IsErr r) ok (fails empty) in cc err)
