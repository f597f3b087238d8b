-- What every batch of a text keeps.
use Rattle.std.specs.Prelude.{◌≤◌, List, length}
use Rattle.std.specs.List.{AllByRecursion}
use Rattle.vo_spec.specs.declared.tables.Command.{Command}
use Rattle.vo_spec.specs.declared.tables.Batch.{Batch}
use Rattle.vo_spec.specs.Batches.{FitsBatch}

-- one command or more, and bytes for them in a journal
abbrev pub FitCommands : List Command → Type 0
FitCommands commands = (1 ≤ length commands) × FitsBatch commands

abbrev pub AllFit : List Batch → Type 0
AllFit batches = AllByRecursion (λ (b : Batch). FitCommands b.commands) batches
