use Rattle.std.proofs.lemmas.Bool.{false≢true}
use Rattle.std.proofs.Common.{ℕ, ◌+◌, ◌≤◌, length, refl, ◌∙◌, arith}
use Rattle.std.proofs.lemmas.List.{take_rest}
use Rattle.link_frames.proofs.Filling.{misses_stay, filled_none, filled_more, filled_within, filled_end, filled_full, fills_err}
use Rattle.link_frames.proofs.fill.fill.Goals as goal

pub loop-filled-init : goal.loop-filled-init
loop-filled-init g c =
    record {
      within = omega arith;
      known = λ before is. filled_none c.args.into.now before (g.L.Link.wire c.args.link.now) is;
      counts = refl;
      stays = λ w is stands. refl;
    }

pub returns-in_err-count-clause-known : goal.returns-in_err-count-clause-known
returns-in_err-count-clause-known g c =
    λ before is. fills_err _ _ _ c.from_residual.result before _ c.from_residual.ensures.0 (
      c.loop-filled.filled,
      omega arith,
      (c.loop-filled.invariant.known before is).0,
      c.in_err-count.ensures.err ∙ (c.loop-filled.invariant.known before is).2,
    )

pub returns-in-0-clause-known : goal.returns-in-0-clause-known
returns-in-0-clause-known g c =
    λ before is. filled_end ℕ c.loop-filled.filled c.in_ok-count.count c.args.into.now c.loop-filled.into _ c.get.new.into
    before _ _ c.in-0.is (omega arith) (omega arith) (take_rest c.loop-filled.into c.loop-filled.filled)
    (c.loop-filled.invariant.known before is) c.in_ok-count.ensures.taken c.in_ok-count.ensures.ok

pub loop-filled-preserved : goal.loop-filled-preserved
loop-filled-preserved g c =
    let within : c.loop-filled.filled + c.in_ok-count.count ≤ length c.loop-filled.into =
    filled_within c.loop-filled.filled c.in_ok-count.count c.loop-filled.into (omega arith) c.in_ok-count.ensures.some in
    record {
      within = omega arith;
      known = λ before is. filled_more c.loop-filled.filled c.in_ok-count.count c.args.into.now c.loop-filled.into _ c.get.new.into
          before _ _ (take_rest c.loop-filled.into c.loop-filled.filled) (c.loop-filled.invariant.known before is)
          c.in_ok-count.ensures.taken c.in_ok-count.ensures.ok;
      counts = c.in_ok-count.ensures.quiet ∙ c.loop-filled.invariant.counts;
      stays = misses_stay c.loop-filled.filled _ _ _ _ _ (λ before is. (c.loop-filled.invariant.known before is).2) c.loop-filled.invariant.stays c.get.ensures.misses;
    }

pub returns-clause-known : goal.returns-clause-known
returns-clause-known g c =
    λ before is. filled_full ℕ c.loop-filled.filled c.args.into.now c.loop-filled.into before _ (omega arith) c.loop-filled.invariant.within
    (c.loop-filled.invariant.known before is)

pub returns-in_err-count-clause-counts : goal.returns-in_err-count-clause-counts
returns-in_err-count-clause-counts g c =
    record {
      rise = omega (arith, c.loop-filled.invariant.counts, c.get.ensures.counts);
      cause = λ err. omega (arith, c.loop-filled.invariant.counts, c.in_err-count.ensures.cause refl);
      quiet = λ fine. absurd (fine c.from_residual.ensures.0);
      stays = misses_stay c.loop-filled.filled _ _ _ _ _ (λ before is. (c.loop-filled.invariant.known before is).2) c.loop-filled.invariant.stays c.get.ensures.misses;
    }

pub returns-in-0-clause-counts : goal.returns-in-0-clause-counts
returns-in-0-clause-counts g c =
    record {
      rise = omega (arith, c.loop-filled.invariant.counts, c.get.ensures.counts);
      cause = λ err. absurd (false≢true err);
      quiet = λ fine. c.in_ok-count.ensures.quiet ∙ c.loop-filled.invariant.counts;
      stays = misses_stay c.loop-filled.filled _ _ _ _ _ (λ before is. (c.loop-filled.invariant.known before is).2) c.loop-filled.invariant.stays c.get.ensures.misses;
    }
