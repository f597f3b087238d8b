-- The nodes that a secret tree keeps.
use Rattle.std.specs.Prelude.{◌≡◌, ℕ, ◌+◌, ◌-◌, ◌*◌, ◌<◌, ◌≤◌, List, [], length, slice_index_or}
use Rattle.vo_spec.specs.declared.signatures.OtsType.{OtsType}
use Rattle.vo_spec.specs.declared.signatures.LmsType.{LmsType}
use Rattle.vo_spec.specs.LmsSets.{height_of, leaves_of}
use Rattle.vo_spec.specs.SecretTrees.{SecretTree, tree_of, tree_node}

-- these are nodes of the tree from its last one down, so node r stands at 2 ^ (h + 1) - 1 - r
pub record AreNodes (tree : SecretTree) (nodes : List (List ℕ)) : Type 0 where
  pub each : (j : ℕ) → j < length nodes
      → slice_index_or nodes j [] ≡ tree_node tree (2 * leaves_of tree.lms - 1 - j)

-- all nodes of a tree whose height is 10 at most
pub record IsKept (id seed : List ℕ) (ots : OtsType) (lms : LmsType)
    (nodes : List (List ℕ)) : Type 0 where
  pub id_len : length id ≡ 16
  pub low : height_of lms ≤ 10
  pub whole : length nodes + 1 ≡ 2 * leaves_of lms
  pub are : AreNodes (tree_of id seed ots lms) nodes
