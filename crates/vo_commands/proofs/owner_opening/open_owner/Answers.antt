use Rattle.owner_journal.specs.Entries.{entries_of}
use Rattle.vo_commands.proofs.OwnerLaws.{stops_damaged}
use Rattle.vo_commands.proofs.OwnSteps.{kept_as_before, opened_in_part}
use Rattle.vo_commands.proofs.owner_opening.open_owner.Goals as goal

pub returns-in_ok-stop_after-in-Err-clause-stopped :
    goal.returns-in_ok-stop_after-in-Err-clause-stopped
returns-in_ok-stop_after-in-Err-clause-stopped g c =
    stops_damaged c.args.key.now (g.D.Disk.drive c.args.disk.now) c.in-Err.fault c.in_ok-stop_after-in-Err.field-0
    c.in_ok-stop_after-in-Err.ensures.stops c.in-Err.ensures.damaged

pub returns-in-Ok-clause-kept : goal.returns-in-Ok-clause-kept
returns-in-Ok-clause-kept g c =
    kept_as_before c.args.key.now (entries_of c.in-Ok.journal) (g.D.Disk.drive c.args.disk.now) (g.D.Disk.drive c.open.new.disk)
    (g.D.Disk.drive c.owner_behind.new.disk) c.owner_behind.result c.in-Ok.ensures.any_moment c.in-Ok.ensures.found
    (g.met.D.Disk.sees c.args.disk.now) c.owner_behind.ensures.kept

pub returns-in_ok-stop_after-in-Err-clause-kept : goal.returns-in_ok-stop_after-in-Err-clause-kept
returns-in_ok-stop_after-in-Err-clause-kept g c =
    opened_in_part c.args.key.now (g.D.Disk.drive c.args.disk.now) (g.D.Disk.drive c.open.new.disk) c.in-Err.ensures.any_moment
