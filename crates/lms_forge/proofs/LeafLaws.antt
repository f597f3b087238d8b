-- A valid signature of a tree, by the leaf that it says.
use Rattle.std.proofs.Common.{◌≡◌, ℕ, ◌<◌, List, length, sym, ◌∙◌, subst}
use Rattle.std.specs.Prelude.{true, IsTrue, ◌&&◌}
use Rattle.std.proofs.lemmas.Bool.{and_parts}
use Rattle.std.proofs.lemmas.Slice.Eq.{bytes_eq-Decides}
use Rattle.vo_spec.specs.Sha256.{sha256}
use Rattle.vo_spec.specs.Bytes.{u32_at, digest_at}
use Rattle.vo_spec.specs.LmsSets.{height_of, leaves_of, lms_signature_len}
use Rattle.vo_spec.specs.Ots.{digits_of, ots_candidate, is_ots_form}
use Rattle.vo_spec.specs.Lms.{ots_part, is_lms_form, lms_candidate, is_valid_under, tree_valid}
use Rattle.vo_spec.specs.SecretTrees.{SecretTree, tree_node, public_of_tree}
use Rattle.vo_laws.proofs.KeyLaws.{length-tree_node}
use Rattle.lms_sign.proofs.Forms.{has_form}
use Rattle.lms_sign.proofs.Keys.{tree_valid-bytes}
use Rattle.lms_forge.specs.Places.{forged_node, forged_key_text}

-- what a valid signature by leaf q is like
pub record IsByLeaf (tree : SecretTree) (q : ℕ) (message signature : List ℕ) : Type 0 where
  pub whole : length signature ≡ lms_signature_len tree.lms tree.ots
  pub leaf_in : q < leaves_of tree.lms
  pub form : IsTrue (is_ots_form tree.ots (ots_part tree.ots signature))
  pub root : forged_node tree q signature
      (sha256 (forged_key_text tree q
      (digits_of tree.id q tree.ots (digest_at (ots_part tree.ots signature) 4) message)
      (ots_part tree.ots signature)))
      (height_of tree.lms) ≡ tree_node tree 1

at_its_leaf : (tree : SecretTree) (message signature : List ℕ)
    → is_valid_under tree.lms tree.ots tree.id (tree_node tree 1) message signature ≡ true
    → IsByLeaf tree (u32_at signature 0) message signature
unfolding is_valid_under lms_candidate ots_candidate
at_its_leaf tree message signature valid =
    let both = and_parts (is_lms_form tree.lms tree.ots signature && is_ots_form tree.ots (ots_part tree.ots signature)) _ valid in
    let forms = and_parts (is_lms_form tree.lms tree.ots signature) _ both.0 in
    let form = has_form tree.lms tree.ots signature forms.0 in
    record {
      whole = form.len_is;
      leaf_in = form.leaf_in;
      form = forms.1;
      root = (bytes_eq-Decides (lms_candidate tree.lms tree.ots tree.id message signature) (tree_node tree 1)).0 both.1;
    }

pub by_leaf : (tree : SecretTree) (q : ℕ) (message signature : List ℕ) → length tree.id ≡ 16
    → IsTrue (tree_valid (public_of_tree tree) message signature) → u32_at signature 0 ≡ q → IsByLeaf tree q message signature
unfolding public_of_tree
by_leaf tree q message signature sixteen valid leaf =
    subst (λ n. IsByLeaf tree n message signature) leaf
    (at_its_leaf tree message signature
    (sym (tree_valid-bytes tree.lms tree.ots tree.id (tree_node tree 1) message signature (record { id_len = sixteen; root_len = length-tree_node tree 1 })) ∙ valid))
