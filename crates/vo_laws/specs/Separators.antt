-- Trees whose separators are keys within their limits.
use Rattle.std.specs.Prelude.{List}
use Rattle.std.specs.List.{AllByRecursion}
use Rattle.vo_spec.specs.Parts.{stub, leaf, inner, none, more}
use Rattle.vo_spec.specs.Trees.{RowTree, RowTrees}
use Rattle.vo_spec.specs.Fits.{FitsKey}
use Rattle.vo_spec.specs.Honest.{Stored}

abbrev mutual
  pub Separated : RowTree → Type 0
  Separated (stub d) = Unit {0}
  Separated (leaf es) = Unit {0}
  Separated (inner ss ps) = AllByRecursion FitsKey ss × AreSeparated ps

  pub AreSeparated : RowTrees → Type 0
  AreSeparated none = Unit {0}
  AreSeparated (more m p ps) = Separated p × AreSeparated ps

-- the tree of what is stored, and of each

abbrev pub SeparatedIn : Stored → Type 0
SeparatedIn s = Separated s.tree

abbrev pub AreSeparatedIn : List Stored → Type 0
AreSeparatedIn = AllByRecursion SeparatedIn
