use Rattle.std.proofs.Common.{◌≡◌, map, take}
use Rattle.vo_spec.specs.declared.records.Entry.{Entry}
use Rattle.vo_commands.proofs.explain.records_of.Given as goal

abbrev pub invariant-loop-entry : goal.invariant-loop-entry
invariant-loop-entry l = l.records.items ≡ map (λ (e : Entry). e.rec) (take l.entry-index l.entries)
