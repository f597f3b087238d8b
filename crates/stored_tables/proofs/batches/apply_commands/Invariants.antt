use Rattle.std.proofs.Common.{◌≡◌, drop}
use Rattle.stored_tables.specs.View.{stored_in}
use Rattle.stored_tables.specs.Representation.{IsStanding}
use Rattle.stored_tables.specs.Working.{work_from}
use Rattle.stored_tables.proofs.batches.apply_commands.Given as goal

abbrev pub invariant-loop-index : goal.invariant-loop-index
invariant-loop-index l = IsStanding (stored_in l.new.items) × (work_from l.index (drop l.index l.commands) (stored_in l.new.items) ≡ work_from 0 l.commands (stored_in l.tables))
