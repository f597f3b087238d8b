use Rattle.std.proofs.Common.{arith, length, refl, sym, ◌∙◌, subst}
use Rattle.outside.specs.ConnectionModel.{take_from}
use Rattle.link_frames.specs.declared.awaits.Awaits.TheVariants.{Request}
use Rattle.link_frames.specs.declared.end.End.{End}
use Rattle.std.proofs.Common.{Err}
use Rattle.link_frames.specs.Frames.{first_frame}
use Rattle.link_frames.specs.Serving.{ServesOne}
use Rattle.link_frames.proofs.FrameLaws.{allowed_length}
use Rattle.link_frames.proofs.Filling.{stays_on}
use Rattle.link_frames.proofs.Results.{no_err}
use Rattle.link_frames.proofs.ServeLaws.{no_request, one_read}
use Rattle.link_frames.proofs.serve.serve_request.Goals as goal

pub answer_request-requires : goal.answer_request-requires
answer_request-requires g c =
    allowed_length Request c.in-Ok.request.kind (length c.in-Ok.request.body.items) c.in-Ok.ensures.allowed

pub returns-in-Ok-clause-known : goal.returns-in-Ok-clause-known
returns-in-Ok-clause-known g c =
    λ before is.
    let read = c.in-Ok.ensures.known before is in
    one_read g.A.Responder.reply g.A.Responder.next (first_frame Request before.coming) c.in-Ok.request.kind c.in-Ok.request.body.items c.answer_request.result (g.A.Responder.state c.args.store.now)
    (g.A.Responder.state c.answer_request.new.store) before (g.L.Link.wire c.read_frame.new.link) (g.L.Link.wire c.answer_request.new.link)
    read.0 read.1 c.answer_request.ensures.known

pub returns-in-Err-clause-known : goal.returns-in-Err-clause-known
returns-in-Err-clause-known g c =
    λ before is. subst
    (λ (e : End). ServesOne g.A.Responder.reply g.A.Responder.next (first_frame Request before.coming) (Err e) (g.A.Responder.state c.args.store.now) (g.A.Responder.state c.args.store.now) before (g.L.Link.wire c.read_frame.new.link))
    (sym c.without_request.ensures)
    (no_request g.A.Responder.reply g.A.Responder.next (first_frame Request before.coming) c.in-Err.fault (g.A.Responder.state c.args.store.now) before (g.L.Link.wire c.read_frame.new.link)
    (c.in-Err.ensures.known before is))

pub returns-in-Ok-clause-counts : goal.returns-in-Ok-clause-counts
returns-in-Ok-clause-counts g c =
    record {
      rise = omega (arith, c.read_frame.ensures.counts.rise, c.answer_request.ensures.counts.rise);
      cause = λ e. omega (arith, c.read_frame.ensures.counts.rise, c.answer_request.ensures.counts.cause e);
      quiet = λ fine. c.answer_request.ensures.counts.quiet fine ∙ c.read_frame.ensures.counts.quiet (λ e. no_err _ _ _ c.in-Ok.is e);
      stays = stays_on _ _ _ _ _ (λ before is. (take_from (c.in-Ok.ensures.known before is).1.0 before, (c.in-Ok.ensures.known before is).1.2, refl))
          c.read_frame.ensures.counts.stays c.answer_request.ensures.counts.stays;
    }
