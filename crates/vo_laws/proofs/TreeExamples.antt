-- Definitions of trees at work, computed: 17 insertions, scans, proofs, and the bytes of trees.
use Rattle.std.proofs.Common.{◌≡◌, refl, ℕ, List, [], ◌∷◌, map, length, replicate, Some, None, Err, true, false, pos}
use Rattle.std.specs.Result.{result_unwrap_or}
use Rattle.vo_spec.specs.declared.keys.Bound.{Bound}
use Rattle.vo_spec.specs.declared.keys.Bound.TheVariants.{Absent, Inclusive, Exclusive}
use Rattle.vo_spec.specs.declared.needs.Need.{Need}
use Rattle.vo_spec.specs.declared.values.Value.TheVariants.{Int, Text}
use Rattle.vo_spec.specs.declared.cells.Cell.TheVariants.{Shown}
use Rattle.vo_spec.specs.declared.cells.RowPart.TheVariants.{Digest as Closed, Cells}
use Rattle.vo_spec.specs.declared.cells.PartEntry.{PartEntry}
use Rattle.vo_spec.specs.declared.trees.UpdateFault.TheVariants.{DuplicateKey, Missing}
use Rattle.vo_spec.specs.Bytes.{u16_bytes, u64_bytes}
use Rattle.vo_spec.specs.Values.{key_of}
use Rattle.vo_spec.specs.Parts.{stub, leaf, inner, none, more}
use Rattle.vo_spec.specs.Trees.{RowTree, RowTrees, preimage}
use Rattle.vo_spec.specs.Scans.{seen}
use Rattle.vo_spec.specs.Pruning.{is_missing, has_surplus, prune_tree}
use Rattle.vo_spec.specs.Inserts.{tree_with_entry, insert_proof, insert_is_missing}
use Rattle.vo_spec.specs.TreeBytes.{tree_bytes}

-- keys of one byte, and rows of the one text 'x'
abbrev row : ℕ → PartEntry
row k = record { key = k ∷ []; row = Cells (Shown (Text (120 ∷ [])) ∷ []) }

abbrev with_rows : List ℕ → RowTree → RowTree
with_rows [] t = t
with_rows (k ∷ ks) t = with_rows ks (result_unwrap_or (tree_with_entry (row k) t) t)

-- the keys 1 to 17, one after the other
abbrev tree : RowTree
tree = with_rows (1 ∷ 2 ∷ 3 ∷ 4 ∷ 5 ∷ 6 ∷ 7 ∷ 8 ∷ 9 ∷ 10 ∷ 11 ∷ 12 ∷ 13 ∷ 14 ∷ 15 ∷ 16 ∷ 17 ∷ []) (leaf [])

-- A tree in short: of a leaf its keys, of a node the separators and its children.
mutual
  data Short : Type 0 where
    closed : Short
    keys : List (List ℕ) → Short
    node : List (List ℕ) → Shorts → Short

  data Shorts : Type 0 where
    end : Shorts
    next : Short → Shorts → Shorts

abbrev mutual
  short : RowTree → Short
  short (stub d) = closed
  short (leaf es) = keys (map (λ (e : PartEntry). e.key) es)
  short (inner ss ps) = node ss (shorts ps)

  shorts : RowTrees → Shorts
  shorts none = end
  shorts (more m p ps) = next (short p) (shorts ps)

abbrev first_leaf : Short
first_leaf = keys ((1 ∷ []) ∷ (2 ∷ []) ∷ (3 ∷ []) ∷ (4 ∷ []) ∷ (5 ∷ []) ∷ (6 ∷ []) ∷ (7 ∷ []) ∷ (8 ∷ []) ∷ [])

abbrev last_leaf : Short
last_leaf = keys ((9 ∷ []) ∷ (10 ∷ []) ∷ (11 ∷ []) ∷ (12 ∷ []) ∷ (13 ∷ []) ∷ (14 ∷ []) ∷ (15 ∷ []) ∷ (16 ∷ []) ∷ (17 ∷ []) ∷ [])

abbrev root : Short → Short → Short
root left right = node ((9 ∷ []) ∷ []) (next left (next right end))

seventeen_rows : short tree ≡ root first_leaf last_leaf
seventeen_rows = refl

insert_again : tree_with_entry (row 8) tree ≡ Err DuplicateKey
insert_again = refl

insert_into_stub : tree_with_entry (row 8) (stub []) ≡ Err Missing
insert_into_stub = refl

abbrev need : Bound → Bound → List ℕ → Need
need low high columns = record { interval = record { low = low; high = high }; columns = columns }

abbrev key : ℕ → List ℕ
key k = k ∷ []

-- both leaves are open where the interval ends in the one and begins in the other
eight_to_nine : short (prune_tree (need (Inclusive (key 8)) (Inclusive (key 9)) [] ∷ []) tree) ≡ root first_leaf last_leaf
eight_to_nine = refl

-- a leaf that ends at the lower bound is visited
above_eight : short (prune_tree (need (Exclusive (key 8)) Absent [] ∷ []) tree) ≡ root first_leaf last_leaf
above_eight = refl

nine : short (prune_tree (need (Inclusive (key 9)) (Inclusive (key 9)) [] ∷ []) tree) ≡ root closed last_leaf
nine = refl

-- a leaf that shows the absence
twenty : short (prune_tree (need (Inclusive (key 20)) (Inclusive (key 20)) [] ∷ []) tree) ≡ root closed last_leaf
twenty = refl

-- an empty interval visits nothing, the root neither
none_from_nine : short (prune_tree (need (Inclusive (key 9)) (Exclusive (key 9)) [] ∷ []) tree) ≡ closed
none_from_nine = refl

no_needs : short (prune_tree [] tree) ≡ closed
no_needs = refl

seen_at_nine : seen (need (Inclusive (key 9)) (Inclusive (key 9)) (0 ∷ [])) tree ≡ Some (record { key = key 9; values = Text (120 ∷ []) ∷ [] } ∷ [])
seen_at_nine = refl

-- a stub, or a row that hides the column, is missed; a column that isn't there counts as hidden
closed_leaf : seen (need Absent Absent []) (stub []) ≡ None
closed_leaf = refl

hidden_column : seen (need Absent Absent (0 ∷ [])) (leaf (record { key = key 1; row = Closed [] } ∷ [])) ≡ None
hidden_column = refl

absent_column : is_missing (need Absent Absent (1 ∷ []) ∷ []) (leaf (row 1 ∷ [])) ≡ true
absent_column = refl

-- what isn't named may not be shown
unnamed_column : has_surplus (need Absent Absent [] ∷ []) (leaf (row 1 ∷ [])) ≡ true
unnamed_column = refl

open_stub : has_surplus (need (Inclusive (key 9)) Absent [] ∷ []) (inner (key 9 ∷ []) (more tt (leaf []) (more tt (leaf []) none))) ≡ true
open_stub = refl

path_to_nine : short (insert_proof (key 9) tree) ≡ root closed last_leaf
path_to_nine = refl

path_to_eight : short (insert_proof (key 8) tree) ≡ root first_leaf closed
path_to_eight = refl

path_is_there : insert_is_missing (key 8) (insert_proof (key 8) tree) ≡ false
path_is_there = refl

empty_tree : tree_bytes (leaf []) ≡ 1 ∷ 0 ∷ []
empty_tree = refl

empty_preimage : preimage (leaf []) ≡ 3 ∷ 0 ∷ []
empty_preimage = refl

-- The tree of `SELECT name FROM t WHERE id > 1` on the rows (1, 'ann') and (3, 'bob'): 64 bytes.
abbrev bob : RowTree
bob = leaf (record { key = key_of (Int (pos 1)); row = Closed (replicate 32 7) }
    ∷ record { key = key_of (Int (pos 3)); row = Cells (Shown (Text (98 ∷ 111 ∷ 98 ∷ [])) ∷ []) } ∷ [])

bob_length : length (tree_bytes bob) ≡ 64
unfolding u16_bytes u64_bytes
bob_length = refl
