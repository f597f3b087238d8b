-- When a table's tree can take the work of a command.
use Rattle.std.specs.Prelude.{◌≡◌, true, length, IfSome}
use Rattle.vo_spec.specs.declared.tables.Command.{Command}
use Rattle.vo_spec.specs.Parts.{entries}
use Rattle.vo_spec.specs.Honest.{Stored}
use Rattle.row_works.specs.Operations.{changes_rows, operation}
use Rattle.row_works.specs.Limits.{FitsWork, HasRoom}

pub record IsReady (c : Command) (s : Stored) : Type 0 where
  pub rows : changes_rows c ≡ true
  pub fits : FitsWork s.schema c
  pub room : IfSome (operation s.schema c) (λ op. HasRoom op (length (entries s.tree)))
