use Rattle.std.proofs.Common.{refl}
use Rattle.owner_journal.proofs.RestLaws.{same_leaves, put_leaves}
use Rattle.owner_journal.proofs.journal.Journal.put.Goals as goal

pub returns-in_err-reserve-clause-any_moment : goal.returns-in_err-reserve-clause-any_moment
returns-in_err-reserve-clause-any_moment g c =
    same_leaves (g.D.Disk.drive c.args.disk.now) (g.D.Disk.drive c.args.disk.now) c.args.self.now.entries.items c.args.entry refl

pub returns-in_err-reserve-2-clause-any_moment : goal.returns-in_err-reserve-2-clause-any_moment
returns-in_err-reserve-2-clause-any_moment g c =
    same_leaves (g.D.Disk.drive c.args.disk.now) (g.D.Disk.drive c.reserve-2.new.self) c.args.self.now.entries.items c.args.entry c.reserve-2.ensures.kept

pub returns-in-Ok-clause-any_moment : goal.returns-in-Ok-clause-any_moment
returns-in-Ok-clause-any_moment g c =
    put_leaves (g.D.Disk.drive c.args.disk.now) (g.D.Disk.drive c.reserve-2.new.self) (g.D.Disk.drive c.write_slot.new.disk) c.args.self.now.entries.items c.args.entry
    c.args.self.now.gate c.args.behind.now c.requires.fits c.reserve-2.ensures.kept c.args.self.now.at c.requires.behind c.write_slot.ensures.any_moment

pub returns-in-Err-clause-any_moment : goal.returns-in-Err-clause-any_moment
returns-in-Err-clause-any_moment g c =
    put_leaves (g.D.Disk.drive c.args.disk.now) (g.D.Disk.drive c.reserve-2.new.self) (g.D.Disk.drive c.write_slot.new.disk) c.args.self.now.entries.items c.args.entry
    c.args.self.now.gate c.args.behind.now c.requires.fits c.reserve-2.ensures.kept c.args.self.now.at c.requires.behind c.write_slot.ensures.any_moment
