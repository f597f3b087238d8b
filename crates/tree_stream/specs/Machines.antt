-- What a machine takes of bytes, and what comes of those behind them.
use Rattle.std.specs.Prelude.{◌≡◌, ℕ, suc, ◌+◌, ◌<◌, Bool, List, ◌++◌, All, length, flat_map}
use Rattle.batch_format.specs.BatchReading.{Reader}
use Rattle.tree_stream.specs.declared.findings.Summary.{Summary}
use Rattle.tree_stream.specs.declared.machine.Machine.{Machine}
use Rattle.tree_stream.specs.declared.context.Context.{Context}
use Rattle.tree_stream.specs.declared.state.State.{State}
use Rattle.tree_stream.specs.declared.state.OpenRow.{OpenRow}
use Rattle.vo_spec.specs.declared.cells.Cell.{Cell}
use Rattle.vo_spec.specs.Fits.{FitsCell}
use Rattle.vo_spec.specs.TreeBytes.{cell_form}
use Rattle.tree_stream.specs.Keeping.{KeepsAt, ValuesGrow}
use Rattle.tree_stream.specs.Positions.{StandsAt}
use Rattle.tree_stream.specs.Remaining.{rest_of_cells}
use Rattle.tree_stream.specs.Summaries.{summary_by, summary_from, IsInNeededRow}
use Rattle.tree_stream.specs.Tokens.{token_size}

abbrev pub machine_of : Context → State → Machine
machine_of context state = record { context = context; state = state }

abbrev pub summary_of_machine : Machine → Reader Summary
summary_of_machine machine bytes = summary_from machine.context machine.state bytes

-- of the cells that a row still has, behind what was hashed of it
abbrev pub row_summary : Context → OpenRow → List ℕ → Reader Summary
row_summary context row hashed bytes = summary_by context
    (rest_of_cells context.target row.leaf.hasher context.last_key.items row.leaf.left hashed
    row.column row.findings (suc row.left)) bytes

-- the machine stands behind these bytes of a tree, of whose needed entries it keeps what it keeps
abbrev pub IsAt : Machine → List ℕ → Type 0
IsAt machine bytes = StandsAt machine.context machine.state bytes
    × KeepsAt machine.context machine.state bytes

-- the machine took these bytes
pub record Takes (old new : Machine) (bytes : List ℕ) : Type 0 where
  pub each : (rest : List ℕ) → summary_of_machine new rest ≡ summary_of_machine old (bytes ++ rest)
  pub moves : (before : List ℕ) → IsAt old before → IsAt new (before ++ bytes)

-- some of these bytes were taken, and those at the end left: as comes of them before and after
pub record Passes (before after : Reader Summary) (bytes left : List ℕ) : Type 0 where
  pub taken : List ℕ
  pub parts : bytes ≡ taken ++ left
  pub each : (rest : List ℕ) → after rest ≡ before (taken ++ rest)

-- the machine took some of these bytes, and left those at the end
pub record Advances (old new : Machine) (bytes left : List ℕ) : Type 0 where
  pub taken : List ℕ
  pub parts : bytes ≡ taken ++ left
  pub each : (rest : List ℕ) → summary_of_machine new rest ≡ summary_of_machine old (taken ++ rest)
  pub moves : (before : List ℕ) → IsAt old before → IsAt new (before ++ taken)

-- the row, which is needed or not, took the cells in front of these bytes, and left the bytes
-- behind them
pub record TakesCells (is_needed : Bool) (old new : OpenRow) (bytes rest : List ℕ) : Type 0 where
  pub cells : List Cell
  pub parts : bytes ≡ flat_map cell_form cells ++ rest
  pub column : new.column ≡ old.column + length cells
  pub left : new.left + length cells ≡ old.left
  pub behind : new.leaf.left ≡ old.leaf.left
  pub fit : All FitsCell cells
  pub grown : ValuesGrow is_needed old.findings.values new.findings.values
      (length (flat_map cell_form cells))

abbrev pub EndsWith : List ℕ → List ℕ → Type 0
EndsWith bytes end = (front : List ℕ) × (bytes ≡ front ++ end)

-- bytes that stood in front of a piece were put behind those of a token
pub record Grows (old new piece left : List ℕ) : Type 0 where
  pub front : List ℕ
  pub parts : piece ≡ front ++ left
  pub grown : new ≡ old ++ front

-- Of a piece behind bytes of a token that isn't whole the machine takes some, up to a token of a
-- needed row of its target, which isn't whole in front of the bytes that are left.
pub record StopsInRow (old : Machine) (partial piece : List ℕ) : Type 0 where
  pub reached : Machine
  pub taken : List ℕ
  pub part : List ℕ
  pub front : List ℕ
  pub left : List ℕ
  pub parts : piece ≡ front ++ left
  pub some : 0 < length left
  pub all : partial ++ front ≡ taken ++ part
  pub short : length part < token_size reached.state part
  pub moves : (before : List ℕ) → IsAt old before → IsAt reached (before ++ taken)
  pub target : reached.context.target ≡ old.context.target
  pub inside : IsInNeededRow reached.context reached.state
