-- Changes whose keys and values keep to their limits. A line gives whole rows alone, none as a part.
use Rattle.mb_update.specs.declared.ops.Op.{Op}
use Rattle.mb_update.specs.declared.ops.Op.TheVariants.{Insert, Replace, Remove, Put, Set}
use Rattle.mb_update.specs.Sets.{FitsSets}
use Rattle.vo_spec.specs.Fits.{FitsRow}

abbrev pub FitsOp : Op → Type 0
FitsOp (Insert row) = FitsRow row
FitsOp (Replace key sets) = FitsSets sets
FitsOp (Remove key) = Unit {0}
FitsOp (Put key part) = ⊥
FitsOp (Set key part) = ⊥
