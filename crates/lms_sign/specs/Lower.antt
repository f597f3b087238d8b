-- The lower tree that a secret key of two levels keeps.
use Rattle.std.specs.Prelude.{◌≡◌, ◌<◌, ◌≤◌, ◌++◌, length, Option, IfSome}
use Rattle.vo_spec.specs.Bytes.{u32_bytes}
use Rattle.vo_spec.specs.LmsSets.{height_of, leaves_of}
use Rattle.vo_spec.specs.SecretTrees.{SecretTree, public_of_tree, tree_signature}
use Rattle.vo_spec.specs.Secret.{lower_tree}
use Rattle.lms_sign.specs.declared.lower_tree.LowerTree.{LowerTree}

-- a tree below a leaf of an upper tree, with what each signature by its leaves begins with
pub record IsLower (upper : SecretTree) (lower : LowerTree) : Type 0 where
  pub inside : lower.number < leaves_of upper.lms
  pub tree_is : lower.tree ≡ lower_tree upper lower.number
  pub front_is : lower.front.items ≡ u32_bytes 1
      ++ tree_signature upper lower.number (public_of_tree lower.tree)
      ++ public_of_tree lower.tree

-- the lower tree that a key keeps, if it keeps one
pub record Keeps (tree : SecretTree) (lower : Option LowerTree) : Type 0 where
  pub id_len : length tree.id ≡ 16
  pub low : height_of tree.lms ≤ 10
  pub lower_is : IfSome lower (IsLower tree)
