use Rattle.vo_spec.specs.Fits.{FitsPart}
use Rattle.mb_tree.specs.View.{part_of}
use Rattle.tree_lines.proofs.part_calls.part_after_all.Given as goal

-- the part so far keeps to the limits of nodes
abbrev pub invariant-loop-op : goal.invariant-loop-op
invariant-loop-op l = FitsPart (part_of l.part)
