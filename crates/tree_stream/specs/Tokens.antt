-- Tokens of a tree's bytes, one of which is taken at a time: how many bytes the next one has, as
-- far as the first bytes of it tell. A length beyond its limit ends its token.
use Rattle.std.specs.Prelude.{ℕ, suc, ◌+◌, ◌==◌, nat_lt, nat_le, if◌then◌else◌, List, [], ◌∷◌, length, take}
use Rattle.vo_spec.specs.Bytes.{u16_of}
use Rattle.vo_spec.specs.Values.{max_text}
use Rattle.vo_spec.specs.Tables.{max_key}
use Rattle.tree_stream.specs.declared.state.State.{State}
use Rattle.tree_stream.specs.declared.state.State.TheVariants.{Node, Separator, Key, Row, Cell, Complete, Invalid}

-- the most bytes of a token
abbrev pub max_token : ℕ
max_token = 1028

-- a stub, or the first byte and the count of an open node
unfoldable pub node_size : List ℕ → ℕ
node_size [] = 1
node_size (byte ∷ bytes) =
    if byte == 0 then 33 else if byte == 1 then 2 else if byte == 2 then 2 else 1

-- a string of at most so many bytes, behind its length
unfoldable pub string_size : ℕ → List ℕ → ℕ
string_size most bytes =
    if nat_lt (length bytes) 2 then 2
    else if nat_le (u16_of (take 2 bytes)) most then 2 + u16_of (take 2 bytes)
    else 2

-- the digest of a row, or the first byte and the count of its cells
unfoldable pub row_size : List ℕ → ℕ
row_size [] = 1
row_size (byte ∷ bytes) = if byte == 0 then 33 else if byte == 1 then 2 else 1

unfoldable pub value_size : List ℕ → ℕ
value_size [] = 1
value_size (byte ∷ bytes) =
    if byte == 1 then 9
    else if byte == 2 then suc (string_size max_text bytes)
    else if byte == 3 then 2
    else 1

-- a cell's digest, or its value
unfoldable pub cell_size : List ℕ → ℕ
cell_size [] = 1
cell_size (byte ∷ bytes) =
    if byte == 0 then 33 else if byte == 1 then suc (value_size bytes) else 1

-- behind a whole tree, and in bytes that are no tree, no token ends
unfoldable pub token_size : State → List ℕ → ℕ
token_size (Node visited) bytes = node_size bytes
token_size (Separator head) bytes = string_size max_key bytes
token_size (Key leaf) bytes = string_size max_key bytes
token_size (Row leaf) bytes = row_size bytes
token_size (Cell row) bytes = cell_size bytes
token_size (Complete digest) bytes = suc (length bytes)
token_size Invalid bytes = suc (length bytes)
