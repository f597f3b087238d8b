use Rattle.owner_journal.specs.Entries.{entries_of}
use Rattle.vo_commands.proofs.OwnerLaws.{begun}
use Rattle.vo_commands.proofs.OwnSteps.{begun_in_part}
use Rattle.vo_commands.proofs.owner_opening.start_owner.Goals as goal

pub returns-in-Ok-clause-steps : goal.returns-in-Ok-clause-steps
returns-in-Ok-clause-steps g c =
    begun c.args.key.now (entries_of c.args.journal.now) (entries_of c.append_entry-appended.new.journal) c.in_ok-owner.first c.in_ok-owner.owner.roots
    c.requires.empty c.in-Ok.ensures.ok c.in_ok-owner.ensures.entry c.in_ok-owner.ensures.roots

pub returns-in-Err-Disk-clause-kept : goal.returns-in-Err-Disk-clause-kept
returns-in-Err-Disk-clause-kept g c =
    begun_in_part c.args.key.now (entries_of c.args.journal.now) c.in_ok-owner.first (g.D.Disk.drive c.args.disk.now) (g.D.Disk.drive c.append_entry-appended.new.disk)
    c.requires.empty c.in_ok-owner.ensures.entry c.append_entry-appended.ensures.any_moment c.requires.at_rest

pub returns-in-Err-Memory-clause-kept : goal.returns-in-Err-Memory-clause-kept
returns-in-Err-Memory-clause-kept g c =
    begun_in_part c.args.key.now (entries_of c.args.journal.now) c.in_ok-owner.first (g.D.Disk.drive c.args.disk.now) (g.D.Disk.drive c.append_entry-appended.new.disk)
    c.requires.empty c.in_ok-owner.ensures.entry c.append_entry-appended.ensures.any_moment c.requires.at_rest
