-- The places between a tree's root and the chains of a leaf at which a string is hashed, both where
-- a signature by the leaf is verified and where the owner makes the tree or signs.
use Rattle.std.specs.Prelude.{◌≡◌, ℕ, ◌+◌, ◌-◌, ◌*◌, ◌/◌, ◌^◌, ◌<◌, ◌≤◌, List, Option, Some, None}
use Rattle.vo_spec.specs.Sha256.{sha256}
use Rattle.vo_spec.specs.Bytes.{digest_at, join_pieces}
use Rattle.vo_spec.specs.OtsSets.{width_of, count_of}
use Rattle.vo_spec.specs.LmsSets.{height_of, leaves_of}
use Rattle.vo_spec.specs.Ots.{coef, step_text, advance, secret, randomizer, message_text, public_text, public_end, candidate_end}
use Rattle.vo_spec.specs.Lms.{leaf_text, leaf_node, climb, path_at, ots_part}
use Rattle.vo_spec.specs.SecretTrees.{SecretTree, tree_node, path_node}
use Rattle.lms_sign.specs.Paths.{parent_text}
use Rattle.lms_forge.specs.Forgeries.{Forgery}
use Rattle.lms_forge.specs.ChainValues.{one_time, forged_digits}

-- In the order from the root down: above a node of the path, which is so many levels above the
-- leaf; at the leaf; at the one-time public key; at the message's digest; at a step of a chain.
pub data Place : Type 0 where
  above : ℕ → Place
  leaf : Place
  public_key : Place
  message_digest : Place
  chain_step : ℕ → ℕ → Place

-- The one-time public key of leaf q.

-- what is hashed for the key that a one-time signature leads to (algorithm 4b), where these digits
-- are signed
abbrev pub forged_key_text : SecretTree → ℕ → List ℕ → List ℕ → List ℕ
forged_key_text tree q digits part = public_text tree.id q
    (join_pieces (candidate_end tree.id q tree.ots digits part) (count_of tree.ots))

-- what the owner hashes for it
abbrev pub own_key_text : SecretTree → ℕ → List ℕ
own_key_text tree q = public_text tree.id q
    (join_pieces (public_end tree.id q tree.ots tree.seed) (count_of tree.ots))

-- Nodes.

-- the number of a leaf's node
abbrev pub leaf_number : SecretTree → ℕ → ℕ
leaf_number tree q = leaves_of tree.lms + q

-- the node so many levels above the leaf that a signature leads to, from the leaf's one-time key
abbrev pub forged_node : SecretTree → ℕ → List ℕ → List ℕ → ℕ → List ℕ
forged_node tree q signature key level =
    let r = leaf_number tree q in
    climb tree.id r (path_at tree.ots signature) (leaf_node tree.id r key) level

-- what is hashed above that node
abbrev pub forged_above : SecretTree → ℕ → List ℕ → List ℕ → ℕ → List ℕ
forged_above tree q signature key level =
    parent_text tree.id (leaf_number tree q / 2 ^ level) (forged_node tree q signature key level)
    (path_at tree.ots signature level)

-- what the owner hashes there
abbrev pub own_above : SecretTree → ℕ → ℕ → List ℕ
own_above tree q level =
    let r = leaf_number tree q / 2 ^ level in
    parent_text tree.id r (tree_node tree r) (path_node tree q level)

-- Chains.

-- what is hashed at step j of chain i, on the way from a value that stands before step `from`
abbrev pub step_text_from : SecretTree → ℕ → ℕ → ℕ → ℕ → List ℕ → List ℕ
step_text_from tree q i j from value =
    step_text tree.id q i j (advance tree.id q i from (j - from) value)

-- what the owner hashes there
abbrev pub own_step_text : SecretTree → ℕ → ℕ → ℕ → List ℕ
own_step_text tree q i j =
    step_text tree.id q i j (advance tree.id q i 0 j (secret tree.id q tree.seed i))

-- The first string is hashed at the place on the way from a signature of these digits to the root,
-- the second is what the owner hashes there; messages apart.
abbrev pub AreOnWay : SecretTree → ℕ → List ℕ → List ℕ → Place → List ℕ → List ℕ → Type 0
AreOnWay tree q digits signature (above level) first second =
    let key = sha256 (forged_key_text tree q digits (ots_part tree.ots signature)) in
    (level < height_of tree.lms) × (first ≡ forged_above tree q signature key level)
    × (second ≡ own_above tree q level)
AreOnWay tree q digits signature leaf first second =
    let key = sha256 (forged_key_text tree q digits (ots_part tree.ots signature)) in
    (first ≡ leaf_text tree.id (leaf_number tree q) key)
    × (second ≡ leaf_text tree.id (leaf_number tree q) (sha256 (own_key_text tree q)))
AreOnWay tree q digits signature public_key first second =
    (first ≡ forged_key_text tree q digits (ots_part tree.ots signature))
    × (second ≡ own_key_text tree q)
AreOnWay tree q digits signature message_digest first second = ⊥
AreOnWay tree q digits signature (chain_step i j) first second =
    let digit = coef digits i (width_of tree.ots) in
    let value = digest_at (ots_part tree.ots signature) (36 + 32 * i) in
    (i < count_of tree.ots) × (digit ≤ j) × (j < 2 ^ width_of tree.ots - 1)
    × (first ≡ step_text_from tree q i j digit value) × (second ≡ own_step_text tree q i j)

-- The first string leads to the message's digest by the forged signature, the second by the owner's
-- of the message that it signed by the leaf, if it signed one.
abbrev pub AreMessages : Forgery → Option (List ℕ) → List ℕ → List ℕ → Type 0
AreMessages f None first second = ⊥
AreMessages f (Some released) first second =
    (first ≡ message_text f.tree.id f.leaf (digest_at (one_time f) 4) f.message)
    × (second ≡ message_text f.tree.id f.leaf (randomizer f.tree.id f.leaf f.tree.seed) released)

-- The first string is hashed at the place on the way from the forged signature to the root, the
-- second is what the owner hashes there.
abbrev pub AreHashedAt : Forgery → Place → List ℕ → List ℕ → Type 0
AreHashedAt f message_digest first second = AreMessages f f.released first second
AreHashedAt f place first second =
    AreOnWay f.tree f.leaf (forged_digits f) f.signature place first second
