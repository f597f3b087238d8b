use Rattle.std.proofs.Common.{◌≡◌, List, [], ◌++◌, Result, Err, sym, subst, ℕ}
use Rattle.link_frames.specs.Frames.{Coming, frame_bytes, first_frame}
use Rattle.link_frames.specs.Reading.{Receives}
use Rattle.connections.specs.declared.wire_fault.WireFault.{WireFault}
use Rattle.connections.specs.Requesting.{RequestsInto}
use Rattle.connections.proofs.RequestLaws.{gathered_requested, unanswered}
use Rattle.connections.proofs.answers.answer_into.Goals as goal

pub returns-in-Ok-clause-known : goal.returns-in-Ok-clause-known
returns-in-Ok-clause-known g c =
    λ before is.
    let frame : List ℕ = frame_bytes c.args.kind c.args.body.now in
    let first : Coming = first_frame c.args.awaits before.coming in
    let old : List ℕ = g.G.Gathers.gathered c.args.into.now in
    let new : List ℕ = g.G.Gathers.gathered c.ask_into.new.into in
    subst
    (λ (r : Result (Unit {0}) WireFault). RequestsInto (λ body. new ≡ old ++ body) frame first r before (g.L.Link.wire c.ask_into.new.link))
    (sym c.received_answer.ensures)
    (gathered_requested old new frame first c.in-Ok.received before (g.L.Link.wire c.ask_into.new.link)
    (c.in-Ok.ensures.known before is))

pub returns-in-Err-clause-known : goal.returns-in-Err-clause-known
returns-in-Err-clause-known g c =
    λ before is.
    let frame : List ℕ = frame_bytes c.args.kind c.args.body.now in
    let first : Coming = first_frame c.args.awaits before.coming in
    let old : List ℕ = g.G.Gathers.gathered c.args.into.now in
    let new : List ℕ = g.G.Gathers.gathered c.ask_into.new.into in
    subst
    (λ (why : WireFault). RequestsInto (λ body. new ≡ old ++ body) frame first (Err why) before (g.L.Link.wire c.ask_into.new.link))
    (sym c.without_answer.ensures) (
      [],
      tt,
      unanswered (λ (done : Unit {0}). []) (Receives old new) frame first c.in-Err.fault before (g.L.Link.wire c.ask_into.new.link)
          (c.in-Err.ensures.known before is),
    )
