-- Trees that stand for plain tables within their limits, and are within those of insertion.
use Rattle.std.specs.Prelude.{List}
use Rattle.vo_spec.specs.declared.tables.Table.{Table}
use Rattle.vo_spec.specs.Honest.{Stored, RepresentTables}
use Rattle.vo_laws.specs.FittingTables.{FitTables}
use Rattle.vo_laws.specs.Separators.{AreSeparatedIn}

pub record IsStanding (stored : List Stored) : Type 0 where
  pub tables : List Table
  pub stand : RepresentTables stored tables
  pub fit : FitTables tables
  pub separated : AreSeparatedIn stored
