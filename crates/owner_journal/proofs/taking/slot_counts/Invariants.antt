use Rattle.std.proofs.Common.{◌≡◌, take}
use Rattle.owner_journal.specs.Taking.{slot_counts}
use Rattle.owner_journal.proofs.taking.slot_counts.Given as goal

abbrev pub invariant-loop-entry : goal.invariant-loop-entry
invariant-loop-entry l = l.counts.items ≡ slot_counts (take l.entry-index l.entries)
