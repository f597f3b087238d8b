use Rattle.std.proofs.Common.{length}
use Rattle.owner_state.proofs.JournalLaws.{InFront}
use Rattle.owner_state.proofs.slot_reading.read_front.Given as goal

abbrev pub invariant-slots : goal.invariant-slots
invariant-slots l = InFront l.bytes l.entries.items l.rest

abbrev pub decreases-slots : goal.decreases-slots
decreases-slots l = length l.rest
