use Rattle.std.proofs.Common.{length, take, Err, refl, sym, ap, ◌∙◌, arith}
use Rattle.std.proofs.lemmas.List.{length-take}
use Rattle.std.proofs.lemmas.Result.{err_from_is_err_and}
use Rattle.outside.specs.ConnectionModel.{take_from}
use Rattle.link_frames.proofs.Filling.{stays_on, handed_none, handed_more, handed_end, handed_all, hands_err}
use Rattle.link_frames.proofs.Results.{no_err}
use Rattle.link_frames.proofs.gathers.gather_bytes.Goals as goal

pub loop-handed-init : goal.loop-handed-init
loop-handed-init g c =
    record {
      handing = record {
        within = omega arith;
        grows = omega arith;
        known = λ before is. handed_none (g.G.Gathers.gathered c.args.into.now) before (g.L.Link.wire c.args.link.now) is;
        counts = refl;
        stays = λ w is stands. refl;
      };
      kept = refl;
    }

pub returns-in_err-came-clause-known : goal.returns-in_err-came-clause-known
returns-in_err-came-clause-known g c =
    λ before is.
    let p = err_from_is_err_and c.from_residual.result c.from_residual.ensures.1 in
    rw (p.1, p.2) (hands_err c.loop-handed.handed c.args.count (length (take c.min-room.result c.loop-handed.piece))
    (g.G.Gathers.gathered c.args.into.now) (g.G.Gathers.gathered c.loop-handed.into) (g.G.Gathers.gathered c.gather_piece.new.into) _ before _
    (omega arith) (c.loop-handed.invariant.handing.known before is).0
    (omega (arith, length-take c.min-room.result c.loop-handed.piece, c.min-room.ensures))
    (c.in_err-came.ensures.known (take_from c.loop-handed.handed before) (c.loop-handed.invariant.handing.known before is).2))

pub returns-in-0-clause-known : goal.returns-in-0-clause-known
returns-in-0-clause-known g c =
    λ before is. handed_end c.loop-handed.handed c.in_ok-came.came c.args.count (length (take c.min-room.result c.loop-handed.piece))
    (g.G.Gathers.gathered c.args.into.now) (g.G.Gathers.gathered c.loop-handed.into) (g.G.Gathers.gathered c.gather_piece.new.into)
    before (g.L.Link.wire c.loop-handed.link) (g.L.Link.wire c.gather_piece.new.link) c.in-0.is (omega arith)
    (omega (arith, length-take c.min-room.result c.loop-handed.piece, c.min-room.ensures)) (c.loop-handed.invariant.handing.known before is) c.in_ok-came.ensures.known

pub returns-in-0-clause-grows : goal.returns-in-0-clause-grows
returns-in-0-clause-grows g c =
    omega (arith, c.in_ok-came.ensures.grows, c.loop-handed.invariant.handing.grows, c.in-0.is)

pub loop-handed-preserved : goal.loop-handed-preserved
loop-handed-preserved g c =
    record {
      handing = record {
        within = omega (arith, length-take c.min-room.result c.loop-handed.piece, c.min-room.ensures, c.in_ok-came.ensures.fits);
        grows = omega (arith, c.in_ok-came.ensures.grows, c.loop-handed.invariant.handing.grows);
        known = λ before is. handed_more c.loop-handed.handed c.in_ok-came.came (length (take c.min-room.result c.loop-handed.piece))
            (g.G.Gathers.gathered c.args.into.now) (g.G.Gathers.gathered c.loop-handed.into) (g.G.Gathers.gathered c.gather_piece.new.into)
            before (g.L.Link.wire c.loop-handed.link) (g.L.Link.wire c.gather_piece.new.link)
            (c.loop-handed.invariant.handing.known before is) c.in_ok-came.ensures.known;
        counts = c.gather_piece.ensures.counts.quiet (λ e. no_err _ _ _ c.in_ok-came.was e) ∙ c.loop-handed.invariant.handing.counts;
        stays = stays_on _ _ _ _ _ (λ before is. (take_from c.loop-handed.handed before, (c.loop-handed.invariant.handing.known before is).2, refl)) c.loop-handed.invariant.handing.stays c.gather_piece.ensures.counts.stays;
      };
      kept = c.gather_piece.ensures.kept ∙ c.loop-handed.invariant.kept;
    }

pub returns-clause-known : goal.returns-clause-known
returns-clause-known g c =
    λ before is. handed_all c.loop-handed.handed c.args.count (g.G.Gathers.gathered c.args.into.now)
    (g.G.Gathers.gathered c.loop-handed.into) before (g.L.Link.wire c.loop-handed.link) (omega arith) c.loop-handed.invariant.handing.within (c.loop-handed.invariant.handing.known before is)

pub returns-clause-grows : goal.returns-clause-grows
returns-clause-grows g c = c.loop-handed.invariant.handing.grows

pub returns-in_err-came-clause-counts : goal.returns-in_err-came-clause-counts
returns-in_err-came-clause-counts g c =
    let p = err_from_is_err_and c.from_residual.result c.from_residual.ensures.1 in
    record {
      rise = omega (arith, c.loop-handed.invariant.handing.counts, c.gather_piece.ensures.counts.rise);
      cause = grind arith;
      quiet = λ fine. c.gather_piece.ensures.counts.quiet (λ e. fine (p.1 ∙ ap (λ f. Err f) p.2 ∙ sym c.in_err-came.was ∙ e)) ∙ c.loop-handed.invariant.handing.counts;
      stays = stays_on _ _ _ _ _ (λ before is. (take_from c.loop-handed.handed before, (c.loop-handed.invariant.handing.known before is).2, refl)) c.loop-handed.invariant.handing.stays c.gather_piece.ensures.counts.stays;
    }

pub returns-in-0-clause-counts : goal.returns-in-0-clause-counts
returns-in-0-clause-counts g c =
    record {
      rise = omega (arith, c.loop-handed.invariant.handing.counts, c.gather_piece.ensures.counts.rise);
      cause = grind arith;
      quiet = λ fine. c.gather_piece.ensures.counts.quiet (λ e. no_err _ _ _ c.in_ok-came.was e) ∙ c.loop-handed.invariant.handing.counts;
      stays = stays_on _ _ _ _ _ (λ before is. (take_from c.loop-handed.handed before, (c.loop-handed.invariant.handing.known before is).2, refl)) c.loop-handed.invariant.handing.stays c.gather_piece.ensures.counts.stays;
    }
