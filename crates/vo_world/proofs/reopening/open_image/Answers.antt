use Rattle.std.proofs.Common.{◌≡◌, ◌≤◌, length, subst}
use Rattle.outside.specs.DiskModel.{fresh, sync_now}
use Rattle.outside.specs.MemDisk.{drive_of}
use Rattle.vo_spec.specs.Journals.{IsJournal}
use Rattle.owner_state.proofs.JournalLaws.{one_journal}
use Rattle.owner_journal.proofs.Cases.{if_ok}
use Rattle.owner_journal.specs.Entries.{entries_of}
use Rattle.vo_world.specs.Keeping.{AreReplayable}
use Rattle.vo_world.proofs.Disks.{journal_long}
use Rattle.vo_world.proofs.EntryFits.{some_entry}
use Rattle.vo_world.proofs.reopening.open_image.Goals as goal

pub returns-clause-drive : goal.returns-clause-drive
returns-clause-drive c =
    let es = c.requires.0 in
    let long = journal_long c.args.image.items es (some_entry c.args.key.now es c.requires.2.0 c.requires.2.1) c.requires.1 in
    if_ok c.open_disk.result (λ opened. 2 ≤ length c.args.image.items → drive_of opened.1 ≡ sync_now (fresh c.args.image.items)) _
    (λ opened later. later long) c.open_disk.ensures.later

pub returns-clause-steps : goal.returns-clause-steps
returns-clause-steps c =
    if_ok c.open_disk.result (λ opened. IsJournal c.args.image.items (entries_of opened.0)) _
    (λ opened found. subst (AreReplayable c.args.key.now) (one_journal c.args.image.items c.requires.0 (entries_of opened.0) c.requires.1 found) c.requires.2)
    c.open_disk.ensures.found
