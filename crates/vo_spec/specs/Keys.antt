-- Public keys and signatures of one level, LMS, and of two, HSS with L = 2 (RFC 8554, sections 5 and
-- 6). A key of one level is a tree's key of 56 bytes. A key of two levels is the number 2 and the
-- upper tree's key, 60 bytes: each leaf of the upper tree signs the key of a lower tree, whose
-- leaves sign messages.
use Rattle.std.specs.Prelude.{◌≡◌, ◌≢◌, ◌==◌, ℕ, ◌+◌, ◌*◌, Bool, false, ◌&&◌, nat_le, List, ◌++◌, length, take, drop, Option, Some, None, is_some, if◌then◌else◌, ◌⊎◌}
use Rattle.vo_spec.specs.declared.signatures.Levels.{Levels}
use Rattle.vo_spec.specs.declared.signatures.Levels.TheVariants.{One, Two}
use Rattle.vo_spec.specs.Bytes.{u32_bytes, u32_at}
use Rattle.vo_spec.specs.Lms.{tree_lms, tree_ots, tree_id, tree_valid, tree_leaves, tree_signature_len}

-- Keys.

-- the key of so many levels whose tree, the upper one of two, has this key
abbrev pub key_bytes : Levels → List ℕ → List ℕ
key_bytes One tree = tree
key_bytes Two tree = u32_bytes 2 ++ tree

-- a key is of two levels where it has 60 bytes
abbrev pub levels_of : List ℕ → Levels
levels_of key = if length key == 60 then Two else One

abbrev pub tree_by : Levels → List ℕ → List ℕ
tree_by One key = key
tree_by Two key = drop 4 key

-- the key of a key's tree, of the upper one where there are two levels
abbrev pub key_tree : List ℕ → List ℕ
key_tree key = tree_by (levels_of key) key

-- a key's identifier is its tree's
unfoldable pub key_id : List ℕ → List ℕ
key_id key = tree_id (key_tree key)

-- the typecodes of a tree's key both name a set
abbrev pub names_sets : List ℕ → Bool
names_sets tree = is_some (tree_lms tree) && is_some (tree_ots tree)

abbrev pub is_key_by : Levels → List ℕ → Bool
is_key_by One key = (length key == 56) && names_sets key
is_key_by Two key = (u32_at key 0 == 2) && names_sets (drop 4 key)

-- the bytes are a public key
unfoldable pub is_public_key : List ℕ → Bool
is_public_key key = is_key_by (levels_of key) key

-- bytes as long as a key that are none: a number of levels or a typecode is unknown
unfoldable pub IsUnknownSet : List ℕ → Type 0
IsUnknownSet key = ((length key ≡ 56) ⊎ (length key ≡ 60)) × (is_public_key key ≡ false)

-- Signatures. One of two levels is the number 1, the upper tree's signature of a lower tree's key,
-- that key, and the lower tree's signature of the message.

abbrev pub upper_signature : List ℕ → List ℕ → List ℕ
upper_signature upper signature = take (tree_signature_len upper) (drop 4 signature)

abbrev pub lower_key : List ℕ → List ℕ → List ℕ
lower_key upper signature = take 56 (drop (4 + tree_signature_len upper) signature)

abbrev pub lower_signature : List ℕ → List ℕ → List ℕ
lower_signature upper signature = drop (60 + tree_signature_len upper) signature

abbrev pub signature_len_at : Levels → ℕ → ℕ
signature_len_at One len = len
signature_len_at Two len = 60 + 2 * len

-- how long a key's signatures are, in bytes
unfoldable pub key_signature_len : List ℕ → ℕ
key_signature_len key = signature_len_at (levels_of key) (tree_signature_len (key_tree key))

-- A signature of two levels is valid under the upper tree's key. The lower tree has the same
-- parameter sets.
unfoldable pub pair_valid : List ℕ → List ℕ → List ℕ → Bool
pair_valid upper message signature =
    let lower = lower_key upper signature in
    (length signature == 60 + 2 * tree_signature_len upper)
    && (u32_at signature 0 == 1)
    && (u32_at lower 0 == u32_at upper 0)
    && (u32_at lower 4 == u32_at upper 4)
    && tree_valid upper lower (upper_signature upper signature)
    && tree_valid lower message (lower_signature upper signature)

abbrev pub valid_by : Levels → List ℕ → List ℕ → List ℕ → Bool
valid_by One key message signature = tree_valid key message signature
valid_by Two key message signature = (u32_at key 0 == 2) && pair_valid (drop 4 key) message signature

-- the signature of a message is valid under a public key
unfoldable pub lms_valid : List ℕ → List ℕ → List ℕ → Bool
lms_valid key message signature = valid_by (levels_of key) key message signature

-- Leaves. Those of the lower trees are numbered through: leaf q1 of the tree below leaf q0 of an
-- upper tree of n leaves is leaf q0 * n + q1.

abbrev pub leaf_by : Levels → List ℕ → List ℕ → Option ℕ
leaf_by One tree signature =
    if nat_le 4 (length signature) then Some (u32_at signature 0) else None
leaf_by Two tree signature =
    let at = 60 + tree_signature_len tree in
    if nat_le (at + 4) (length signature)
    then Some (u32_at signature 4 * tree_leaves tree + u32_at signature at)
    else None

-- the leaf that a signature says it is by, where it is long enough to say so
unfoldable pub leaf_of : List ℕ → List ℕ → Option ℕ
leaf_of key signature = leaf_by (levels_of key) (key_tree key) signature

abbrev pub leaves_at : Levels → ℕ → ℕ
leaves_at One leaves = leaves
leaves_at Two leaves = leaves * leaves

-- how many leaves a key has for messages, none where its typecode names no set
unfoldable pub leaf_count : List ℕ → ℕ
leaf_count key = leaves_at (levels_of key) (tree_leaves (key_tree key))
