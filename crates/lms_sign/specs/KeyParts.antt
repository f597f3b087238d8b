-- The parts of a public key, read back from its bytes.
use Rattle.std.proofs.Common.{◌≡◌, ℕ, ◌^◌, ◌<◌, List, [], ◌++◌, length, refl, sym, append_assoc, lit<}
use Rattle.std.proofs.Math.Seq.{drop-append_seam, take-append_seam}
use Rattle.std.proofs.lemmas.List.{append-nil, length-append}
use Rattle.std.specs.Prelude.{Some, unwrap_or}
use Rattle.vo_spec.specs.declared.signatures.OtsType.{OtsType}
use Rattle.vo_spec.specs.declared.signatures.OtsType.TheVariants.{W1, W2, W4, W8}
use Rattle.vo_spec.specs.declared.signatures.LmsType.{LmsType}
use Rattle.vo_spec.specs.declared.signatures.LmsType.TheVariants.{H5, H10, H15, H20, H25}
use Rattle.vo_spec.specs.Bytes.{u32_bytes, id_at}
use Rattle.vo_spec.specs.OtsSets.{ots_of, ots_code_of}
use Rattle.vo_spec.specs.LmsSets.{lms_of, lms_code_of}
use Rattle.vo_spec.specs.Lms.{tree_lms, tree_ots, tree_id, tree_root, tree_key_bytes}
use Rattle.lm_ots.proofs.Pieces.{length-u32_bytes, u32_at-front, u32_at-append, digest_at-middle}

-- an identifier has 16 bytes and a root 32
pub record HasLengths (id root : List ℕ) : Type 0 where
  pub id_len : length id ≡ 16
  pub root_len : length root ≡ 32

-- the set that a key's first typecode names
abbrev pub lms_in : List ℕ → LmsType
lms_in key = unwrap_or (tree_lms key) H5

-- the set that a key's second typecode names
abbrev pub ots_in : List ℕ → OtsType
ots_in key = unwrap_or (tree_ots key) W8

pub lms_code_fits : (lms : LmsType) → lms_code_of lms < 2 ^ 32
lms_code_fits H5 = lit< tt
lms_code_fits H10 = lit< tt
lms_code_fits H15 = lit< tt
lms_code_fits H20 = lit< tt
lms_code_fits H25 = lit< tt

pub ots_code_fits : (ots : OtsType) → ots_code_of ots < 2 ^ 32
ots_code_fits W1 = lit< tt
ots_code_fits W2 = lit< tt
ots_code_fits W4 = lit< tt
ots_code_fits W8 = lit< tt

lms_of-lms_code_of : (lms : LmsType) → lms_of (lms_code_of lms) ≡ Some lms
lms_of-lms_code_of H5 = refl
lms_of-lms_code_of H10 = refl
lms_of-lms_code_of H15 = refl
lms_of-lms_code_of H20 = refl
lms_of-lms_code_of H25 = refl

ots_of-ots_code_of : (ots : OtsType) → ots_of (ots_code_of ots) ≡ Some ots
ots_of-ots_code_of W1 = refl
ots_of-ots_code_of W2 = refl
ots_of-ots_code_of W4 = refl
ots_of-ots_code_of W8 = refl

pub tree_lms-bytes : (lms : LmsType) (ots : OtsType) (id root : List ℕ)
    → tree_lms (tree_key_bytes lms ots id root) ≡ Some lms
unfolding tree_key_bytes
tree_lms-bytes lms ots id root =
    let first = u32_bytes (lms_code_of lms) in
    let second = u32_bytes (ots_code_of ots) in
    rw (
      append_assoc (first ++ second) id root,
      append_assoc first second (id ++ root),
      u32_at-front
          (lms_code_of lms) (second ++ (id ++ root)) (lms_code_fits lms),
    )
    (lms_of-lms_code_of lms)

pub tree_ots-bytes : (lms : LmsType) (ots : OtsType) (id root : List ℕ)
    → tree_ots (tree_key_bytes lms ots id root) ≡ Some ots
unfolding tree_key_bytes
tree_ots-bytes lms ots id root =
    let first = u32_bytes (lms_code_of lms) in
    let second = u32_bytes (ots_code_of ots) in
    rw (
      append_assoc (first ++ second) id root,
      append_assoc first second (id ++ root),
      u32_at-append first (second ++ (id ++ root)) 4 (sym (length-u32_bytes (lms_code_of lms))),
      u32_at-front (ots_code_of ots) (id ++ root) (ots_code_fits ots),
    )
    (ots_of-ots_code_of ots)

-- the typecodes have 8 bytes
length-codes : (lms : LmsType) (ots : OtsType)
    → length (u32_bytes (lms_code_of lms) ++ u32_bytes (ots_code_of ots)) ≡ 8
length-codes lms ots =
    rw (length-append, length-u32_bytes (lms_code_of lms), length-u32_bytes (ots_code_of ots)) refl

id_at-middle : (front id back : List ℕ) (at : ℕ) → length id ≡ 16 → at ≡ length front
    → id_at (front ++ id ++ back) at ≡ id
unfolding id_at
id_at-middle front id back at full place =
    rw (place, append_assoc front id back, drop-append_seam front (id ++ back), ← full)
    (take-append_seam id back)

pub tree_id-bytes : (lms : LmsType) (ots : OtsType) (id root : List ℕ) → length id ≡ 16
    → tree_id (tree_key_bytes lms ots id root) ≡ id
unfolding tree_id tree_key_bytes
tree_id-bytes lms ots id root full =
    id_at-middle (u32_bytes (lms_code_of lms) ++ u32_bytes (ots_code_of ots)) id root 8 full
    (sym (length-codes lms ots))

pub tree_root-bytes : (lms : LmsType) (ots : OtsType) (id root : List ℕ) → HasLengths id root
    → tree_root (tree_key_bytes lms ots id root) ≡ root
unfolding tree_root tree_key_bytes
tree_root-bytes lms ots id root lengths =
    let front = u32_bytes (lms_code_of lms) ++ u32_bytes (ots_code_of ots) ++ id in
    let place : 24 ≡ length front = rw (length-append, length-codes lms ots, lengths.id_len) refl in
    let found = digest_at-middle front root [] 24 lengths.root_len place in
    rw append-nil at found

pub length-bytes : (lms : LmsType) (ots : OtsType) (id root : List ℕ) → HasLengths id root
    → length (tree_key_bytes lms ots id root) ≡ 56
unfolding tree_key_bytes
length-bytes lms ots id root lengths =
    rw (length-append, length-append, length-codes lms ots, lengths.id_len, lengths.root_len) refl

-- what is read back of a key's bytes
pub record ReadBack (lms : LmsType) (ots : OtsType) (id root : List ℕ) : Type 0 where
  pub lms_is : lms_in (tree_key_bytes lms ots id root) ≡ lms
  pub ots_is : ots_in (tree_key_bytes lms ots id root) ≡ ots
  pub id_is : tree_id (tree_key_bytes lms ots id root) ≡ id
  pub root_is : tree_root (tree_key_bytes lms ots id root) ≡ root

pub parts_read_back : (lms : LmsType) (ots : OtsType) (id root : List ℕ) → HasLengths id root
    → ReadBack lms ots id root
parts_read_back lms ots id root lengths = record {
  lms_is = rw (tree_lms-bytes lms ots id root) refl;
  ots_is = rw (tree_ots-bytes lms ots id root) refl;
  id_is = tree_id-bytes lms ots id root lengths.id_len;
  root_is = tree_root-bytes lms ots id root lengths;
}
