-- Where the bytes of a part tree are cut off: inside which nodes, and behind which of their
-- children, entries and cells, all of which came whole.
use Rattle.std.specs.Prelude.{◌≡◌, ◌⊎◌, ℕ, zero, suc, ◌+◌, ◌≤◌, ◌<◌, IsTrue, List, [], ◌∷◌, ◌++◌, All, length, flat_map}
use Rattle.vo_spec.specs.declared.cells.Cell.{Cell}
use Rattle.vo_spec.specs.declared.cells.PartEntry.{PartEntry}
use Rattle.vo_spec.specs.declared.cells.RowPart.{RowPart}
use Rattle.vo_spec.specs.declared.keys.Interval.{Interval}
use Rattle.vo_spec.specs.Bytes.{string}
use Rattle.vo_spec.specs.Fits.{FitsCell, FitsEntry, FitsKey, FitsPart, FitsRowPart, max_cells, max_fill}
use Rattle.vo_spec.specs.Scans.{in_interval}
use Rattle.vo_spec.specs.TreeBytes.{cell_form, entry_form, row_form, tree_bytes}
use Rattle.vo_spec.specs.Trees.{RowTree}
use Rattle.tree_stream.specs.Tokens.{cell_size, max_token, row_size}

-- the bytes are an inner node up to the end of one of its children, behind which so many come
pub record IsInnerFront (bytes : List ℕ) (left : ℕ) : Type 0 where
  pub separators : List (List ℕ)
  pub children : List RowTree
  pub bytes_are : bytes ≡ 2 ∷ (length children + left) ∷ flat_map string separators
      ++ flat_map tree_bytes children
  pub least : 2 ≤ length children + left
  pub most : length children + left ≤ max_fill
  pub count : length separators + 1 ≡ length children + left
  pub keys_fit : All FitsKey separators
  pub children_fit : All FitsPart children

-- the bytes are a leaf up to the end of one of its entries, behind which so many come
pub record IsLeafFront (bytes : List ℕ) (left : ℕ) : Type 0 where
  pub entries : List PartEntry
  pub bytes_are : bytes ≡ 1 ∷ (length entries + left) ∷ flat_map entry_form entries
  pub most : length entries + left ≤ max_fill
  pub fit : All FitsEntry entries

-- behind these bytes of a tree a node begins that has so many inner nodes above it
abbrev pub IsNodePlace : ℕ → List ℕ → Type 0
IsNodePlace zero bytes = bytes ≡ []
IsNodePlace (suc depth) bytes = (above parent : List ℕ) × (left : ℕ) × IsNodePlace depth above
    × IsInnerFront parent (suc left) × (bytes ≡ above ++ parent)

-- behind these bytes of a tree an entry of a leaf begins
pub record IsEntryPlace (bytes : List ℕ) : Type 0 where
  pub depth : ℕ
  pub above : List ℕ
  pub leaf : List ℕ
  pub left : ℕ
  pub node : IsNodePlace depth above
  pub begun : IsLeafFront leaf (suc left)
  pub parts : bytes ≡ above ++ leaf

-- the bytes are a row that stands as cells up to some byte of a cell, which isn't whole
pub record IsCellsFront (bytes : List ℕ) : Type 0 where
  pub cells : List Cell
  pub left : ℕ
  pub part : List ℕ
  pub bytes_are : bytes ≡ 1 ∷ (length cells + suc left) ∷ flat_map cell_form cells ++ part
  pub most : length cells + suc left ≤ max_cells
  pub fit : All FitsCell cells
  pub short : length part < cell_size part

-- the bytes are the front of a row, which isn't whole
abbrev pub IsRowFront : List ℕ → Type 0
IsRowFront bytes = (length bytes < row_size bytes) ⊎ IsCellsFront bytes

-- the bytes of a tree end behind this key of an entry, in its row: more of that comes next
pub record EndsInRow (key bytes : List ℕ) : Type 0 where
  pub before : List ℕ
  pub row : List ℕ
  pub entry : IsEntryPlace before
  pub fits : FitsKey key
  pub front : IsRowFront row
  pub parts : bytes ≡ before ++ (string key ++ row)

-- some byte of the piece, which comes behind these bytes of a tree, is of a row whose key is in the
-- interval
pub record HasNeededByte (interval : Interval) (bytes piece : List ℕ) : Type 0 where
  pub key : List ℕ
  pub front : List ℕ
  pub left : List ℕ
  pub parts : piece ≡ front ++ left
  pub some : 0 < length left
  pub inside : EndsInRow key (bytes ++ front)
  pub needed : IsTrue (in_interval interval key)

-- the bytes are a whole row
abbrev pub IsRow : List ℕ → Type 0
IsRow bytes = (row : RowPart) × FitsRowPart row × (bytes ≡ row_form row)

-- behind these bytes of a tree comes an entry whose key is in the interval, as far as it came
pub record IsNeededEntry (interval : Interval) (before entry : List ℕ) : Type 0 where
  pub key : List ℕ
  pub row : List ℕ
  pub place : IsEntryPlace before
  pub fits : FitsKey key
  pub front : IsRowFront row ⊎ IsRow row
  pub parts : entry ≡ string key ++ row
  pub needed : IsTrue (in_interval interval key)

-- such entries stand in these bytes of a tree, none over another; the last is given first
abbrev pub AreNeededEntries : Interval → List (List ℕ) → List ℕ → Type 0
AreNeededEntries interval [] bytes = Unit {0}
AreNeededEntries interval (entry ∷ entries) bytes = (before behind : List ℕ)
    × AreNeededEntries interval entries before × IsNeededEntry interval before entry
    × (bytes ≡ before ++ (entry ++ behind))

-- so many bytes of these of a tree, or more, are of entries whose keys are in the interval
pub record HasNeededEntries (interval : Interval) (bytes : List ℕ) (count : ℕ) : Type 0 where
  pub entries : List (List ℕ)
  pub are_needed : AreNeededEntries interval entries bytes
  pub within : count ≤ length (flat_map (λ (entry : List ℕ). entry) entries)

-- so many are, and those of a token, or more
pub record HasNeededAndToken (interval : Interval) (bytes : List ℕ) (count : ℕ) : Type 0 where
  pub needed : ℕ
  pub has_needed : HasNeededEntries interval bytes needed
  pub within : count ≤ needed + max_token
