-- Where a machine stands in the bytes of a tree that it took.
use Rattle.std.specs.Prelude.{◌≡◌, ℕ, suc, ◌+◌, ◌≤◌, List, [], ◌∷◌, ◌++◌, All, length, flat_map, reverse}
use Rattle.vo_spec.specs.declared.cells.Cell.{Cell}
use Rattle.vo_spec.specs.Bytes.{string}
use Rattle.vo_spec.specs.Fits.{FitsCell, FitsKey, max_cells, max_fill}
use Rattle.vo_spec.specs.TreeBytes.{cell_form}
use Rattle.tree_stream.specs.declared.context.Context.{Context}
use Rattle.tree_stream.specs.declared.state.InnerNode.{InnerNode}
use Rattle.tree_stream.specs.declared.state.State.{State}
use Rattle.tree_stream.specs.declared.state.State.TheVariants.{Node, Separator, Key, Row, Cell as CellState, Complete, Invalid}
use Rattle.tree_stream.specs.Places.{IsInnerFront, IsLeafFront}

-- behind the bytes a node begins with these ancestors, the nearest first
abbrev pub IsBelow : List InnerNode → List ℕ → Type 0
IsBelow [] bytes = bytes ≡ []
IsBelow (node ∷ nodes) bytes = (above parent : List ℕ) × IsBelow nodes above
    × IsInnerFront parent (suc (length node.child_visits.items)) × (bytes ≡ above ++ parent)

-- Of a node with these ancestors, the root first, there came:

-- so many separators, and so many more come
pub record IsInSeparators (ancestors : List InnerNode) (count left : ℕ) (bytes : List ℕ)
    : Type 0 where
  pub above : List ℕ
  pub separators : List (List ℕ)
  pub node : IsBelow (reverse ancestors) above
  pub bytes_are : bytes ≡ above ++ 2 ∷ (count + left + 1) ∷ flat_map string separators
  pub are_so_many : length separators ≡ count
  pub least : 1 ≤ count + left
  pub most : count + left + 1 ≤ max_fill
  pub fit : All FitsKey separators

-- some entries of a leaf, and so many more come
pub record IsInLeaf (ancestors : List InnerNode) (left : ℕ) (bytes : List ℕ) : Type 0 where
  pub above : List ℕ
  pub leaf : List ℕ
  pub node : IsBelow (reverse ancestors) above
  pub begun : IsLeafFront leaf left
  pub parts : bytes ≡ above ++ leaf

-- the key of an entry behind which so many more come
pub record IsBehindKey (ancestors : List InnerNode) (left : ℕ) (key bytes : List ℕ)
    : Type 0 where
  pub before : List ℕ
  pub entry : IsInLeaf ancestors (suc left) before
  pub fits : FitsKey key
  pub parts : bytes ≡ before ++ string key

-- so many cells of its row, and so many more come
pub record IsInCells (ancestors : List InnerNode) (left_behind : ℕ) (key : List ℕ)
    (count left : ℕ) (bytes : List ℕ) : Type 0 where
  pub before : List ℕ
  pub cells : List Cell
  pub entry : IsBehindKey ancestors left_behind key before
  pub bytes_are : bytes ≡ before ++ 1 ∷ (count + left) ∷ flat_map cell_form cells
  pub are_so_many : length cells ≡ count
  pub most : count + left ≤ max_cells
  pub fit : All FitsCell cells

-- the state stands behind these bytes of a tree
abbrev pub StandsAt : Context → State → List ℕ → Type 0
StandsAt context (Node visited) bytes = IsBelow (reverse context.ancestors.items) bytes
StandsAt context (Separator head) bytes =
    IsInSeparators context.ancestors.items (length head.child_visits.items) (suc head.left) bytes
StandsAt context (Key leaf) bytes = IsInLeaf context.ancestors.items (suc leaf.left) bytes
StandsAt context (Row leaf) bytes =
    IsBehindKey context.ancestors.items leaf.left context.last_key.items bytes
StandsAt context (CellState row) bytes = IsInCells context.ancestors.items row.leaf.left
    context.last_key.items row.column (suc row.left) bytes
StandsAt context (Complete digest) bytes = Unit {0}
StandsAt context Invalid bytes = Unit {0}
