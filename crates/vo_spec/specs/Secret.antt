-- Secret keys of one level and of two, and what they sign (RFC 8554, section 6).
use Rattle.std.specs.Prelude.{ℕ, ◌*◌, ◌/◌, ◌%◌, ◌==◌, List, ◌++◌, take, if◌then◌else◌}
use Rattle.vo_spec.specs.declared.signatures.OtsType.{OtsType}
use Rattle.vo_spec.specs.declared.signatures.LmsType.{LmsType}
use Rattle.vo_spec.specs.declared.signatures.LmsType.TheVariants.{H5, H10}
use Rattle.vo_spec.specs.declared.signatures.Levels.{Levels}
use Rattle.vo_spec.specs.declared.signatures.Levels.TheVariants.{One, Two}
use Rattle.vo_spec.specs.Bytes.{u32_bytes}
use Rattle.vo_spec.specs.Ots.{step}
use Rattle.vo_spec.specs.LmsSets.{leaves_of}
use Rattle.vo_spec.specs.Keys.{key_bytes, leaves_at}
use Rattle.vo_spec.specs.SecretTrees.{SecretTree, tree_of, public_of_tree, tree_signature}

-- a secret key: its tree, the upper one where there are two levels
pub record Secret : Type 0 where
  pub tree : SecretTree
  pub levels : Levels

abbrev pub secret_of : Levels → List ℕ → List ℕ → OtsType → LmsType → Secret
secret_of levels id seed ots lms = record { tree = tree_of id seed ots lms; levels = levels }

-- The tree below leaf u of an upper tree. Its identifier and its seed are made of the upper tree's
-- as the secrets of a chain are, at two numbers that no chain has.
unfoldable pub lower_tree : SecretTree → ℕ → SecretTree
lower_tree tree u = tree_of (take 16 (step tree.id u 0xffff 0xff tree.seed))
    (step tree.id u 0xfffe 0xff tree.seed) tree.ots tree.lms

-- the public key of a secret one
unfoldable pub public_of_secret : Secret → List ℕ
public_of_secret secret = key_bytes secret.levels (public_of_tree secret.tree)

-- how many messages a secret key signs
abbrev pub secret_leaves : Secret → ℕ
secret_leaves secret = leaves_at secret.levels (leaves_of secret.tree.lms)

abbrev pub signature_by : Levels → SecretTree → ℕ → List ℕ → List ℕ
signature_by One tree q message = tree_signature tree q message
signature_by Two tree q message =
    let u = q / leaves_of tree.lms in
    let lower = lower_tree tree u in
    u32_bytes 1 ++ tree_signature tree u (public_of_tree lower) ++ public_of_tree lower
    ++ tree_signature lower (q % leaves_of tree.lms) message

-- the signature of a message by leaf q, those of the lower trees numbered through
unfoldable pub lms_signature : Secret → ℕ → List ℕ → List ℕ
lms_signature secret q message = signature_by secret.levels secret.tree q message

-- the set of a height that secret keys are made with: 5 or 10
abbrev pub lms_of_height : ℕ → LmsType
lms_of_height h = if h == 10 then H10 else H5
