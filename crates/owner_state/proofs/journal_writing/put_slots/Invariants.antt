use Rattle.std.proofs.Common.{◌≡◌, ◌++◌, take}
use Rattle.std.specs.List.{flat_map}
use Rattle.vo_spec.specs.Journals.{slot}
use Rattle.owner_state.proofs.journal_writing.put_slots.Given as goal

abbrev pub invariant-loop-entry : goal.invariant-loop-entry
invariant-loop-entry l = l.out.items ≡ l.initial.out.items ++ flat_map slot (take l.entry-index l.entries)
