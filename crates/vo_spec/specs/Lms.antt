-- Signatures by a Merkle tree of one-time keys, LMS over SHA-256 with m = 32 (RFC 8554, section 5).
-- A tree's key and its signatures are their bytes.
use Rattle.std.specs.Prelude.{◌≡◌, ◌==◌, ℕ, zero, suc, ◌+◌, ◌*◌, ◌/◌, ◌%◌, ◌^◌, Bool, false, ◌&&◌, nat_lt, nat_le, List, ◌++◌, length, take, drop, Option, Some, None, if◌then◌else◌, ◌⊎◌}
use Rattle.std.specs.Str.{bytes_eq}
use Rattle.std.specs.Option.{option_map_or}
use Rattle.sha2.specs.Sha256.{sha256}
use Rattle.vo_spec.specs.declared.signatures.OtsType.{OtsType}
use Rattle.vo_spec.specs.declared.signatures.LmsType.{LmsType}
use Rattle.vo_spec.specs.Bytes.{u16_bytes, u32_bytes, u32_at, digest_at, id_at}
use Rattle.vo_spec.specs.OtsSets.{ots_of, ots_code_of, ots_signature_len}
use Rattle.vo_spec.specs.Ots.{is_ots_form, ots_candidate}
use Rattle.vo_spec.specs.LmsSets.{lms_of, lms_code_of, height_of, leaves_of, lms_signature_len}

-- what is hashed for the leaf at node r, from its one-time public key: D_LEAF is 8282
unfoldable pub leaf_text : List ℕ → ℕ → List ℕ → List ℕ
leaf_text id r key = id ++ u32_bytes r ++ u16_bytes 0x8282 ++ key

abbrev pub leaf_node : List ℕ → ℕ → List ℕ → List ℕ
leaf_node id r key = sha256 (leaf_text id r key)

-- what is hashed for the inner node r, from its two children: D_INTR is 8383
unfoldable pub inner_text : List ℕ → ℕ → List ℕ → List ℕ → List ℕ
inner_text id r left right = id ++ u32_bytes r ++ u16_bytes 0x8383 ++ left ++ right

abbrev pub inner_node : List ℕ → ℕ → List ℕ → List ℕ → List ℕ
inner_node id r left right = sha256 (inner_text id r left right)

-- the node above node r, from r's digest and its sibling's: an odd r is the right child
unfoldable pub parent : List ℕ → ℕ → List ℕ → List ℕ → List ℕ
parent id r node sibling = if r % 2 == 1 then inner_node id (r / 2) sibling node
    else inner_node id (r / 2) node sibling

-- the node n levels above node r, along a path of siblings
unfoldable pub climb : List ℕ → ℕ → (ℕ → List ℕ) → List ℕ → ℕ → List ℕ
climb id r path node zero = node
climb id r path node (suc n) = parent id (r / 2 ^ n) (climb id r path node n) (path n)

-- the one-time signature inside a signature
unfoldable pub ots_part : OtsType → List ℕ → List ℕ
ots_part ots signature = take (ots_signature_len ots) (drop 4 signature)

-- the path's digest at a level inside a signature
unfoldable pub path_at : OtsType → List ℕ → ℕ → List ℕ
path_at ots signature level = digest_at signature (8 + ots_signature_len ots + 32 * level)

-- a signature's length and typecode are the sets', and its leaf is one of the tree's
unfoldable pub is_lms_form : LmsType → OtsType → List ℕ → Bool
is_lms_form lms ots signature =
    (length signature == lms_signature_len lms ots)
    && (u32_at signature (4 + ots_signature_len ots) == lms_code_of lms)
    && nat_lt (u32_at signature 0) (leaves_of lms)

-- the root that a signature leads to (algorithm 6a)
unfoldable pub lms_candidate : LmsType → OtsType → List ℕ → List ℕ → List ℕ → List ℕ
lms_candidate lms ots id message signature =
    let q = u32_at signature 0 in
    let r = leaves_of lms + q in
    climb id r (path_at ots signature)
    (leaf_node id r (ots_candidate id q ots message (ots_part ots signature))) (height_of lms)

-- a signature of a message is valid under a key with these parts
unfoldable pub is_valid_under : LmsType → OtsType → List ℕ → List ℕ → List ℕ → List ℕ → Bool
is_valid_under lms ots id root message signature =
    is_lms_form lms ots signature
    && is_ots_form ots (ots_part ots signature)
    && bytes_eq (lms_candidate lms ots id message signature) root

-- the same, where the key's typecodes may name no set
abbrev pub is_valid_by : Option LmsType → Option OtsType → List ℕ → List ℕ → List ℕ → List ℕ → Bool
is_valid_by (Some lms) (Some ots) id root message signature =
    is_valid_under lms ots id root message signature
is_valid_by _ _ id root message signature = false

-- the parts of a tree's key: two typecodes, the identifier I and the root (5.3)
abbrev pub tree_lms : List ℕ → Option LmsType
tree_lms tree = lms_of (u32_at tree 0)

abbrev pub tree_ots : List ℕ → Option OtsType
tree_ots tree = ots_of (u32_at tree 4)

unfoldable pub tree_id : List ℕ → List ℕ
tree_id tree = id_at tree 8

unfoldable pub tree_root : List ℕ → List ℕ
tree_root tree = digest_at tree 24

unfoldable pub tree_key_bytes : LmsType → OtsType → List ℕ → List ℕ → List ℕ
tree_key_bytes lms ots id root = u32_bytes (lms_code_of lms) ++ u32_bytes (ots_code_of ots)
    ++ id ++ root

-- the signature of a message is valid under a tree's key (algorithm 6)
unfoldable pub tree_valid : List ℕ → List ℕ → List ℕ → Bool
tree_valid tree message signature =
    (length tree == 56) && is_valid_by (tree_lms tree) (tree_ots tree) (tree_id tree)
    (tree_root tree) message signature

-- how many leaves a tree has, none where its typecode names no set
abbrev pub tree_leaves : List ℕ → ℕ
tree_leaves tree = option_map_or leaves_of (tree_lms tree) 0

-- how long a tree's signatures are, in bytes
abbrev pub signature_len_by : Option LmsType → Option OtsType → ℕ
signature_len_by (Some lms) (Some ots) = lms_signature_len lms ots
signature_len_by _ _ = 0

abbrev pub tree_signature_len : List ℕ → ℕ
tree_signature_len tree = signature_len_by (tree_lms tree) (tree_ots tree)
