use Rattle.std.proofs.Common.{refl}
use Rattle.owner_journal.specs.Entries.{entries_of}
use Rattle.vo_commands.proofs.OwnSteps.{found_still}
use Rattle.vo_commands.proofs.owner_opening.owner_behind.Goals as goal

pub returns-in-Err-clause-kept : goal.returns-in-Err-clause-kept
returns-in-Err-clause-kept g c =
    let drive = g.D.Disk.drive c.args.disk.now in
    found_still c.args.key.now (entries_of c.args.journal) drive drive refl c.requires.at_rest
