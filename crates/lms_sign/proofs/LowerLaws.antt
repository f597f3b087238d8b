-- What is signed by the leaves of a lower tree.
use Rattle.std.proofs.Common.{◌≡◌, ℕ, ◌/◌, ◌%◌, List, ◌++◌, refl, ap, ◌∙◌}
use Rattle.vo_spec.specs.declared.signatures.Levels.TheVariants.{Two}
use Rattle.vo_spec.specs.Bytes.{u32_bytes}
use Rattle.vo_spec.specs.LmsSets.{leaves_of}
use Rattle.vo_spec.specs.SecretTrees.{SecretTree, public_of_tree, tree_signature}
use Rattle.vo_spec.specs.Secret.{lower_tree, signature_by}
use Rattle.lms_sign.specs.declared.lower_tree.LowerTree.{LowerTree}
use Rattle.lms_sign.specs.Lower.{IsLower}

same_sets : (upper : SecretTree) (u : ℕ) → (lower_tree upper u).lms ≡ upper.lms
unfolding lower_tree
same_sets upper u = refl

-- a lower tree has the sets of the upper one
pub lms_of_lower : (upper : SecretTree) (lower : LowerTree) → IsLower upper lower → lower.tree.lms ≡ upper.lms
lms_of_lower upper lower is = ap (λ (t : SecretTree). t.lms) is.tree_is ∙ same_sets upper lower.number

pub signed_below : (upper : SecretTree) (lower : LowerTree) (q u : ℕ) (message : List ℕ) → IsLower upper lower → lower.number ≡ u
    → u ≡ q / leaves_of upper.lms
    → lower.front.items ++ tree_signature lower.tree (q % leaves_of upper.lms) message ≡ signature_by Two upper q message
signed_below upper lower q u message is number u_is =
    let n : lower.number ≡ q / leaves_of upper.lms = number ∙ u_is in
    ap (λ front. front ++ tree_signature lower.tree (q % leaves_of upper.lms) message) is.front_is
    ∙ ap (λ t. u32_bytes 1 ++ tree_signature upper lower.number (public_of_tree t) ++ public_of_tree t ++ tree_signature t (q % leaves_of upper.lms) message)
    is.tree_is
    ∙ ap (λ v. let t = lower_tree upper v in
    u32_bytes 1 ++ tree_signature upper v (public_of_tree t) ++ public_of_tree t ++ tree_signature t (q % leaves_of upper.lms) message) n
