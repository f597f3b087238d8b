-- The secret keys of trees, and what a tree signs (RFC 8554, section 5 and appendix A).
use Rattle.std.specs.Prelude.{ℕ, zero, suc, ◌+◌, ◌-◌, ◌*◌, ◌/◌, ◌%◌, ◌^◌, ◌==◌, nat_le, List, ◌++◌, if◌then◌else◌}
use Rattle.vo_spec.specs.declared.signatures.OtsType.{OtsType}
use Rattle.vo_spec.specs.declared.signatures.LmsType.{LmsType}
use Rattle.vo_spec.specs.Bytes.{u32_bytes, join_pieces}
use Rattle.vo_spec.specs.Ots.{ots_public, ots_signature}
use Rattle.vo_spec.specs.LmsSets.{lms_code_of, height_of}
use Rattle.vo_spec.specs.Lms.{leaf_node, inner_node, tree_key_bytes}

-- a tree's secret key: the identifier I, the seed and the parameter sets
pub record SecretTree : Type 0 where
  pub id : List ℕ
  pub seed : List ℕ
  pub ots : OtsType
  pub lms : LmsType

abbrev pub tree_of : List ℕ → List ℕ → OtsType → LmsType → SecretTree
tree_of id seed ots lms = record { id = id; seed = seed; ots = ots; lms = lms }

-- the tree's node r where it is at or above 2 ^ h, from the one-time key of its leaf
abbrev pub bottom_node : SecretTree → ℕ → List ℕ
bottom_node tree r = leaf_node tree.id r
    (ots_public tree.id (r - 2 ^ height_of tree.lms) tree.ots tree.seed)

-- T[r] (5.3), at most n levels above the leaves
unfoldable pub node_within : SecretTree → ℕ → ℕ → List ℕ
node_within tree zero r = bottom_node tree r
node_within tree (suc n) r =
    if nat_le (2 ^ height_of tree.lms) r then bottom_node tree r
    else inner_node tree.id r (node_within tree n (2 * r)) (node_within tree n (2 * r + 1))

-- T[r] (5.3)
unfoldable pub tree_node : SecretTree → ℕ → List ℕ
tree_node tree r = node_within tree (height_of tree.lms) r

-- the public key of a tree
unfoldable pub public_of_tree : SecretTree → List ℕ
public_of_tree tree = tree_key_bytes tree.lms tree.ots tree.id (tree_node tree 1)

-- the number of a node's sibling
abbrev pub sibling_of : ℕ → ℕ
sibling_of r = if r % 2 == 0 then r + 1 else r - 1

-- the sibling at a level of the path from the leaf q up
abbrev pub path_node : SecretTree → ℕ → ℕ → List ℕ
path_node tree q level = tree_node tree (sibling_of ((2 ^ height_of tree.lms + q) / 2 ^ level))

-- the signature of a message by the leaf q (5.4): q, the one-time signature, a typecode and the
-- path
unfoldable pub tree_signature : SecretTree → ℕ → List ℕ → List ℕ
tree_signature tree q message =
    u32_bytes q ++ ots_signature tree.id q tree.ots tree.seed message
    ++ u32_bytes (lms_code_of tree.lms) ++ join_pieces (path_node tree q) (height_of tree.lms)
