-- What a call that reads a tree ensures: the tree that is read is encoded so, and what is encoded so
-- is read.
use Rattle.std.proofs.Common.{◌≡◌, List, ℕ, ◌++◌, Some, Result, Ok, Err, ap, subst, ◌∙◌}
use Rattle.std.specs.Prelude.{IfOk}
use Rattle.vo_spec.specs.Bytes.{IsBytes}
use Rattle.vo_spec.specs.Fits.{FitsTree, max_levels}
use Rattle.vo_spec.specs.Trees.{RowTree}
use Rattle.vo_spec.specs.TreeBytes.{tree_bytes}
use Rattle.row_bytes.specs.declared.read_fault.ReadFault.{ReadFault}
use Rattle.row_bytes.specs.Fields.{FoundOr}
use Rattle.mb_tree.specs.declared.parts.PartTree.{PartTree}
use Rattle.mb_tree.specs.View.{part_of}
use Rattle.batch_format.specs.TreeReading.{tree_at}
use Rattle.batch_format.proofs.TreeLaws.{trees_read}

pub is_tree : (bytes rest : List ℕ) (r : Result PartTree ReadFault) → IsBytes bytes → FoundOr part_of r bytes rest (tree_at max_levels bytes)
    → IfOk r (λ tree. FitsTree (part_of tree) × (bytes ≡ tree_bytes (part_of tree) ++ rest))
is_tree bytes rest (Ok tree) fits read = let f = trees_read.found bytes (part_of tree) rest fits read in (f.1, f.0.parts)
is_tree bytes rest (Err fault) fits read = tt

pub tree_is_read : (bytes left : List ℕ) (r : Result PartTree ReadFault) (tree : RowTree) (rest : List ℕ) → FoundOr part_of r bytes left (tree_at max_levels bytes)
    → FitsTree tree → bytes ≡ tree_bytes tree ++ rest → FoundOr part_of r bytes left (Some (tree, rest))
tree_is_read bytes left r tree rest read fits e = subst (FoundOr part_of r bytes left) (ap (tree_at max_levels) e ∙ trees_read.again tree rest fits) read
