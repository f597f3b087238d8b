-- What a signature is that is valid under an owner's key, though the owner did not make it: which
-- leaf of which of the owner's trees it is by, and what the owner signed by that leaf.
use Rattle.std.specs.Prelude.{ℕ, ◌/◌, ◌%◌, ◌==◌, Bool, List, Option, Some, None, option_map, find, if◌then◌else◌}
use Rattle.std.specs.List.{list_any}
use Rattle.std.specs.Str.{bytes_eq}
use Rattle.vo_spec.specs.declared.records.Record.{Record}
use Rattle.vo_spec.specs.declared.signatures.Levels.{Levels}
use Rattle.vo_spec.specs.declared.signatures.Levels.TheVariants.{One, Two}
use Rattle.vo_spec.specs.Records.{record_bytes}
use Rattle.vo_spec.specs.LmsSets.{leaves_of}
use Rattle.vo_spec.specs.Keys.{upper_signature, lower_key, lower_signature}
use Rattle.vo_spec.specs.SecretTrees.{SecretTree, public_of_tree}
use Rattle.vo_spec.specs.Secret.{Secret, lower_tree}

pub record Forgery : Type 0 where
  -- the owner's tree, and its level: 0 for the only one or the upper one, 1 for a lower one
  pub tree : SecretTree
  pub level : ℕ
  -- the leaf's number in that tree
  pub leaf : ℕ
  -- the message, and the tree's signature of it
  pub message : List ℕ
  pub signature : List ℕ
  -- the message that the owner signed by the leaf, if it signed one
  pub released : Option (List ℕ)

abbrev pub forgery : SecretTree → ℕ → ℕ → List ℕ → List ℕ → Option (List ℕ) → Forgery
forgery tree level leaf message signature released = record {
  tree = tree;
  level = level;
  leaf = leaf;
  message = message;
  signature = signature;
  released = released;
}

-- what the owner signed by the leaf of a version: its record
abbrev pub signed_at : List Record → ℕ → Option (List ℕ)
signed_at signed version =
    option_map record_bytes (find (λ (r : Record). r.version == version) signed)

-- the record of one of the versions in lower tree u was signed
abbrev pub has_signed_below : List Record → ℕ → ℕ → Bool
has_signed_below signed leaves u = list_any (λ (r : Record). r.version / leaves == u) signed

-- by a leaf of the upper tree, which signed the key of a tree that isn't the owner's
abbrev pub forgery_of_upper : SecretTree → List Record → Record → List ℕ → Forgery
forgery_of_upper tree signed rec signature =
    let u = rec.version / leaves_of tree.lms in
    forgery tree 0 u (lower_key (public_of_tree tree) signature)
    (upper_signature (public_of_tree tree) signature)
    (if has_signed_below signed (leaves_of tree.lms) u
    then Some (public_of_tree (lower_tree tree u)) else None)

-- by a leaf of the owner's lower tree
abbrev pub forgery_of_lower : SecretTree → List Record → Record → List ℕ → Forgery
forgery_of_lower tree signed rec signature =
    forgery (lower_tree tree (rec.version / leaves_of tree.lms)) 1 (rec.version % leaves_of tree.lms)
    (record_bytes rec) (lower_signature (public_of_tree tree) signature)
    (signed_at signed rec.version)

-- of two levels it is by the upper tree where the lower key in it isn't the owner's of that place
abbrev pub forgery_by : Levels → SecretTree → List Record → Record → List ℕ → Forgery
forgery_by One tree signed rec signature =
    forgery tree 0 rec.version (record_bytes rec) signature (signed_at signed rec.version)
forgery_by Two tree signed rec signature =
    let own = public_of_tree (lower_tree tree (rec.version / leaves_of tree.lms)) in
    if bytes_eq (lower_key (public_of_tree tree) signature) own
    then forgery_of_lower tree signed rec signature
    else forgery_of_upper tree signed rec signature

-- the forgery that the signature of a record is, by the leaf of its version, beside what the owner
-- signed
unfoldable pub forgery_of : Secret → List Record → Record → List ℕ → Forgery
forgery_of secret signed rec signature = forgery_by secret.levels secret.tree signed rec signature
