use Rattle.std.proofs.Common.{arith, ℕ, [], ◌∷◌, refl, ◌∙◌}
use Rattle.outside.specs.ConnectionModel.{take_from}
use Rattle.link_frames.proofs.ReadLaws.{length_fails, length_none, length_cut, length_read}
use Rattle.link_frames.proofs.Filling.{stays_on}
use Rattle.link_frames.proofs.Results.{ok_no_err}
use Rattle.link_frames.proofs.head.read_head.Goals as goal

pub returns-in-Ok-eq0-clause-known : goal.returns-in-Ok-eq0-clause-known
returns-in-Ok-eq0-clause-known g c =
    λ before is. length_none ℕ c.args.awaits (0 ∷ 0 ∷ 0 ∷ 0 ∷ []) c.fill.new.into before (g.L.Link.wire c.fill.new.link) refl
    (rw c.in-Ok-eq0.field-0-test at (c.in-Ok-eq0.ensures.known before is))

pub returns-in-Ok-eq4-clause-known : goal.returns-in-Ok-eq4-clause-known
returns-in-Ok-eq4-clause-known g c =
    λ before is. length_read ℕ c.args.awaits c.from_be_bytes.result (0 ∷ 0 ∷ 0 ∷ 0 ∷ []) c.fill.new.into c.read_kind.result
    before (g.L.Link.wire c.fill.new.link) (g.L.Link.wire c.read_kind.new.link) refl c.from_be_bytes.ensures
    (rw c.in-Ok-eq4.field-0-test at (c.in-Ok-eq4.ensures.known before is)) c.read_kind.ensures.known

pub returns-in-Ok-clause-known : goal.returns-in-Ok-clause-known
returns-in-Ok-clause-known g c =
    λ before is. length_cut ℕ c.args.awaits c.in-Ok.got (0 ∷ 0 ∷ 0 ∷ 0 ∷ []) c.fill.new.into before (g.L.Link.wire c.fill.new.link) refl
    c.in-Ok.got-test.0.1 c.in-Ok.got-test.1 (c.in-Ok.ensures.known before is)

pub returns-in-Err-clause-known : goal.returns-in-Err-clause-known
returns-in-Err-clause-known g c = λ before is. (tt, length_fails c.args.awaits before _ (c.in-Err.ensures.known before is))

pub returns-in-Ok-eq4-clause-counts : goal.returns-in-Ok-eq4-clause-counts
returns-in-Ok-eq4-clause-counts g c =
    record {
      rise = omega (arith, c.fill.ensures.counts.rise, c.read_kind.ensures.counts.rise);
      cause = λ e. omega (arith, c.fill.ensures.counts.rise, c.read_kind.ensures.counts.cause e);
      quiet = λ fine. c.read_kind.ensures.counts.quiet fine ∙ c.fill.ensures.counts.quiet (λ e. ok_no_err _ _ c.in-Ok-eq4.is e);
      stays = stays_on _ _ _ _ _ (λ before is. (take_from c.in-Ok-eq4.field-0 before, (c.in-Ok-eq4.ensures.known before is).2, refl))
          c.fill.ensures.counts.stays c.read_kind.ensures.counts.stays;
    }
