-- Merkle B-trees, whole or in part: their nodes, digests, and what a part may leave out of a tree.
-- One type has them all. A family of trees says what its entries are, and what a node holds of each
-- child beside the child itself (its annotation: nothing, in the trees of rows).
use Rattle.std.specs.Prelude.{◌≡◌, ℕ, ◌+◌, max, List, [], ◌∷◌, ◌++◌, length, flat_map}
use Rattle.std.specs.List.{AllZip}
use Rattle.sha2.specs.Sha256.{sha256}
use Rattle.vo_spec.specs.Bytes.{string}

-- A stub is a digest alone. The separators of an inner node stand between its children.
mutual
  pub data Part (E M : Type 0) : Type 0 where
    stub : List ℕ → Part E M
    leaf : List E → Part E M
    inner : List (List ℕ) → Parts E M → Part E M

  pub data Parts (E M : Type 0) : Type 0 where
    none : Parts E M
    more : M → Part E M → Parts E M → Parts E M

-- What a family has of its own: the first bytes of its preimages, its entries' keys, and the bytes
-- of its entries and of its annotations.
pub record Family (E M : Type 0) : Type 0 where
  pub leaf_tag : ℕ
  pub inner_tag : ℕ
  pub key : E → List ℕ
  pub entry_bytes : E → List ℕ
  pub annotation : Part E M → M
  pub annotation_bytes : M → List ℕ

module _ {E M : Type 0} where
  abbrev pub count : Parts E M → ℕ
  count none = 0
  count (more m p ps) = count ps + 1

  -- the entries from left to right
  abbrev mutual
    pub entries : Part E M → List E
    entries (stub d) = []
    entries (leaf es) = es
    entries (inner ss ps) = entries_in ps

    pub entries_in : Parts E M → List E
    entries_in none = []
    entries_in (more m p ps) = entries p ++ entries_in ps

  -- how many levels of nodes there are, stubs counted
  abbrev mutual
    pub levels : Part E M → ℕ
    levels (stub d) = 1
    levels (leaf es) = 1
    levels (inner ss ps) = levels_in ps + 1

    pub levels_in : Parts E M → ℕ
    levels_in none = 0
    levels_in (more m p ps) = max (levels p) (levels_in ps)

module _ {E M : Type 0} (family : Family E M) where
  -- The digest of a tree is that of its preimage; a stub is its own.

  abbrev pub leaf_bytes : List E → List ℕ
  leaf_bytes es = family.leaf_tag ∷ length es ∷ flat_map family.entry_bytes es

  -- an inner node's bytes before its children's
  abbrev pub inner_head : List (List ℕ) → ℕ → List ℕ
  inner_head ss children = family.inner_tag ∷ children ∷ flat_map string ss

  abbrev mutual
    pub digest_by : Part E M → List ℕ
    digest_by (stub d) = d
    digest_by (leaf es) = sha256 (leaf_bytes es)
    digest_by (inner ss ps) = sha256 (inner_head ss (count ps) ++ child_bytes ps)

    pub child_bytes : Parts E M → List ℕ
    child_bytes none = []
    child_bytes (more m p ps) = digest_by p ++ (family.annotation_bytes m ++ child_bytes ps)

  abbrev pub inner_bytes : List (List ℕ) → Parts E M → List ℕ
  inner_bytes ss ps = inner_head ss (count ps) ++ child_bytes ps

  -- a stub has none
  abbrev pub preimage_by : Part E M → List ℕ
  preimage_by (stub d) = []
  preimage_by (leaf es) = leaf_bytes es
  preimage_by (inner ss ps) = inner_bytes ss ps

  -- The one is the other with some of its subtrees replaced by their digests, and its entries so
  -- far as the relation says.
  module _ (EntryPrunes : E → E → Type 0) where
    abbrev mutual
      pub PrunesBy : Part E M → Part E M → Type 0
      PrunesBy (stub d) t = d ≡ digest_by t
      PrunesBy (leaf es) (leaf fs) = AllZip EntryPrunes es fs
      PrunesBy (inner ss ps) (inner ts qs) = (ss ≡ ts) × PrunesEach ps qs
      PrunesBy _ _ = ⊥

      pub PrunesEach : Parts E M → Parts E M → Type 0
      PrunesEach none none = Unit {0}
      PrunesEach (more m p ps) (more n q qs) = (m ≡ n) × PrunesBy p q × PrunesEach ps qs
      PrunesEach _ _ = ⊥
