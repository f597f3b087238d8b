use Rattle.std.proofs.Common.{drop}
use Rattle.owner_journal.proofs.TakingLaws.{IsTaking}
use Rattle.owner_journal.proofs.taking.take_entries.Given as goal

abbrev pub invariant-loop-count : goal.invariant-loop-count
invariant-loop-count l = IsTaking l.initial.bytes.items l.bytes.items (drop l.count-index l.count-items) l.entries.items
