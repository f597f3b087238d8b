-- The children of a node have fewer levels than it.
use Rattle.std.specs.Prelude.{◌≤◌, List, [], ◌∷◌}
use Rattle.std.proofs.Common.{arith}
use denote.Param.Weighed.{most}
use Rattle.mb_tree.specs.declared.parts.PartTree.{PartTree}
use Rattle.mb_tree.specs.declared.parts.PartTree.TheVariants.{Stub, Leaf, Inner}
use Rattle.mb_tree.specs.declared.parts.Children.TheDeep.{deep-PartTree}
use Rattle.vo_spec.specs.Parts.{levels, levels_in}
use Rattle.mb_tree.specs.View.{part_of, parts_of}

pub deep_le : (p : PartTree) → deep-PartTree p ≤ levels (part_of p)
deep_le (Stub d) = omega arith
deep_le (Leaf es) = omega arith
deep_le (Inner separators children) = omega arith

pub children_fall : (ps : List PartTree) → most deep-PartTree ps ≤ levels_in (parts_of ps)
children_fall [] = omega arith
children_fall (p ∷ ps) = omega (arith, deep_le p, children_fall ps)
