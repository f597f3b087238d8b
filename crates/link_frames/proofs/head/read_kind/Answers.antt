use Rattle.std.proofs.Common.{ℕ, ◌-◌, [], ◌∷◌, get_or, refl, arith}
use Rattle.link_frames.specs.Frames.{kind_of, with_kind}
use Rattle.link_frames.proofs.ReadLaws.{kind_fails, kind_zero, kind_cut, kind_read, not_fault}
use Rattle.link_frames.proofs.Results.{ok_no_err}
use Rattle.link_frames.proofs.head.read_kind.Goals as goal

pub returns-then-length-eq0-clause-known : goal.returns-then-length-eq0-clause-known
returns-then-length-eq0-clause-known g c =
    λ before is. kind_zero c.args.awaits c.args.length before (g.L.Link.wire c.args.link.now) c.if-length-eq0.true is

pub head_of-requires : goal.head_of-requires
head_of-requires g c = omega arith

pub returns-in-Ok-eq0-clause-known : goal.returns-in-Ok-eq0-clause-known
returns-in-Ok-eq0-clause-known g c =
    λ before is. kind_cut ℕ c.args.awaits c.args.length (0 ∷ []) c.fill.new.into before (g.L.Link.wire c.fill.new.link) (omega arith) refl
    (rw c.in-Ok-eq0.field-0-test at (c.in-Ok-eq0.ensures.known before is))

pub returns-in-Ok-clause-known : goal.returns-in-Ok-clause-known
returns-in-Ok-clause-known g c =
    λ before is. kind_read ℕ c.args.awaits c.args.length c.in-Ok.field-0 (get_or c.fill.new.into 0 0) (0 ∷ []) c.fill.new.into c.head_of.result
    before (g.L.Link.wire c.fill.new.link) (omega arith) refl c.in-Ok.field-0-test.1 refl (c.in-Ok.ensures.known before is) c.head_of.ensures.known

pub returns-in-Err-clause-known : goal.returns-in-Err-clause-known
returns-in-Err-clause-known g c = λ before is. (tt, kind_fails c.args.awaits c.args.length before _ (omega arith) (c.in-Err.ensures.known before is))

pub returns-in-Ok-clause-counts : goal.returns-in-Ok-clause-counts
returns-in-Ok-clause-counts g c =
    record {
      rise = c.fill.ensures.counts.rise;
      cause = λ e. absurd (not_fault (with_kind c.args.awaits (kind_of (get_or c.fill.new.into 0 0)) (c.args.length - 1) []) c.args.length [] c.head_of.result
          (c.head_of.ensures.known []) e);
      quiet = λ fine. c.fill.ensures.counts.quiet (λ e. ok_no_err _ _ c.in-Ok.is e);
      stays = c.fill.ensures.counts.stays;
    }
