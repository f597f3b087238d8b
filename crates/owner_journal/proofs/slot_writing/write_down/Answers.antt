use Rattle.std.proofs.Common.{length}
use Rattle.outside.proofs.MomentLaws.{tears_failed}
use Rattle.owner_journal.proofs.slot_writing.write_down.Goals as goal

pub returns-in-Err-clause-any_moment : goal.returns-in-Err-clause-any_moment
returns-in-Err-clause-any_moment g c =
    tears_failed (g.D.Disk.drive c.args.disk.now) (g.D.Disk.drive c.write_at.new.self) c.args.at (length c.args.piece.now) c.in-Err.ensures.err.0 c.in-Err.ensures.err.1
