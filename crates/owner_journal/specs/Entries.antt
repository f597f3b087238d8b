-- What a journal keeps in memory.
use Rattle.std.specs.Prelude.{Bool, List}
use Rattle.vo_spec.specs.declared.records.Entry.{Entry}
use Rattle.owner_journal.specs.declared.journal.Journal.{Journal}

abbrev pub entries_of : Journal → List Entry
entries_of journal = journal.entries.items

-- the disk failed in an append since the journal was opened
abbrev pub has_failed : Journal → Bool
has_failed journal = journal.failed
