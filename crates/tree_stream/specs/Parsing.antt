-- What whole tokens say: what they are the encoding of, or that no reader takes what begins with
-- them.
use Rattle.std.specs.Prelude.{◌≡◌, ◌⊎◌, ℕ, ◌≤◌, List, [], ◌∷◌, ◌++◌, length, Option, Some, None}
use Rattle.std.specs.Borrow.{Bor}
use Rattle.vo_spec.specs.declared.cells.Cell.{Cell}
use Rattle.vo_spec.specs.declared.cells.Cell.TheVariants.{Hidden, Shown}
use Rattle.vo_spec.specs.declared.cells.ValueRef.{ValueRef}
use Rattle.vo_spec.specs.Bytes.{string}
use Rattle.vo_spec.specs.Values.{value_bytes, FitsValue}
use Rattle.vo_spec.specs.Lent.{value_of}
use Rattle.vo_spec.specs.Tables.{max_key}
use Rattle.vo_spec.specs.Trees.{RowTree}
use Rattle.vo_spec.specs.TreeBytes.{cell_form}
use Rattle.vo_spec.specs.Fits.{FitsCell, max_cells, max_fill}
use Rattle.batch_format.specs.BatchReading.{Reader, any_value_at}
use Rattle.batch_format.specs.TreeReading.{count_within, key_at, cell_at, row_at, node_at}
use Rattle.tree_stream.specs.declared.parse.CellToken.{CellToken}
use Rattle.tree_stream.specs.declared.parse.CellToken.TheVariants.{Hidden as HiddenCell, Shown as ShownCell}
use Rattle.tree_stream.specs.declared.parse.NodeToken.{NodeToken}
use Rattle.tree_stream.specs.declared.parse.NodeToken.TheVariants.{Stub, Leaf, Inner, Invalid as NoNode}
use Rattle.tree_stream.specs.declared.parse.RowToken.{RowToken}
use Rattle.tree_stream.specs.declared.parse.RowToken.TheVariants.{Digest as Closed, Cells, Invalid as NoRow}

-- nothing is read of these bytes, whatever comes behind them
abbrev pub NeverReads : {A : Type 0} → Reader A → List ℕ → Type 0
NeverReads read token = (rest : List ℕ) → read (token ++ rest) ≡ None

abbrev pub IsNodeToken : NodeToken → List ℕ → Type 0
IsNodeToken (Stub digest) token = (token ≡ 0 ∷ digest) × (length digest ≡ 32)
IsNodeToken (Leaf count) token = (token ≡ 1 ∷ count ∷ []) × (count ≤ max_fill)
IsNodeToken (Inner count) token =
    (token ≡ 2 ∷ count ∷ []) × (2 ≤ count) × (count ≤ max_fill)
IsNodeToken NoNode token = (child : Reader RowTree) → NeverReads (node_at child) token

abbrev pub IsRowToken : RowToken → List ℕ → Type 0
IsRowToken (Closed digest) token = (token ≡ 0 ∷ digest) × (length digest ≡ 32)
IsRowToken (Cells count) token = (token ≡ 1 ∷ count ∷ []) × (count ≤ max_cells)
IsRowToken NoRow token = NeverReads row_at token

abbrev pub IsCount : ℕ → ℕ → Option ℕ → List ℕ → Type 0
IsCount least most (Some count) bytes = (bytes ≡ count ∷ []) × (least ≤ count) × (count ≤ most)
IsCount least most None bytes = NeverReads (count_within least most) bytes

abbrev pub IsKeyToken : Option (Bor (List ℕ)) → List ℕ → Type 0
IsKeyToken (Some key) token = (token ≡ string key.now) × (length key.now ≤ max_key)
IsKeyToken None token = NeverReads key_at token

abbrev pub IsValueToken : Option ValueRef → List ℕ → Type 0
IsValueToken (Some v) bytes = (bytes ≡ value_bytes (value_of v)) × FitsValue (value_of v)
IsValueToken None bytes = NeverReads any_value_at bytes

-- the cell that a token is
abbrev pub cell_of : CellToken → Cell
cell_of (HiddenCell digest) = Hidden digest.now
cell_of (ShownCell value encoding) = Shown (value_of value)

-- the bytes that stand beside a shown value are those of it
abbrev pub IsEncoded : CellToken → Type 0
IsEncoded (HiddenCell digest) = Unit {0}
IsEncoded (ShownCell value encoding) = encoding.now ≡ value_bytes (value_of value)

abbrev pub IsCellToken : Option CellToken → List ℕ → Type 0
IsCellToken (Some cell) token =
    (token ≡ cell_form (cell_of cell)) × FitsCell (cell_of cell) × IsEncoded cell
IsCellToken None token = NeverReads cell_at token

-- a whole cell
abbrev pub BeginsCell : List ℕ → Type 0
BeginsCell token = (cell : Cell) × (token ≡ cell_form cell) × FitsCell cell

-- a row's digest, or the count of its cells
abbrev pub BeginsRow : List ℕ → Type 0
BeginsRow token =
    ((digest : List ℕ) × (token ≡ 0 ∷ digest) × (length digest ≡ 32))
    ⊎ ((count : ℕ) × (token ≡ 1 ∷ count ∷ []) × (count ≤ max_cells))
