-- Commands and batches as bytes.
use Rattle.std.specs.Prelude.{◌≡◌, ℕ, ◌+◌, ◌≤◌, if◌then◌else◌, List, [], ◌∷◌, ◌++◌, length}
use Rattle.std.specs.List.{flat_map, AllByRecursion}
use Rattle.vo_spec.specs.declared.tables.Column.{Column}
use Rattle.vo_spec.specs.declared.tables.SetPart.{SetPart}
use Rattle.vo_spec.specs.declared.tables.Command.{Command}
use Rattle.vo_spec.specs.declared.tables.Command.TheVariants.{Create, Drop, Insert, Update, Delete}
use Rattle.vo_spec.specs.Bytes.{u16_bytes, short_string}
use Rattle.vo_spec.specs.Names.{FitsName}
use Rattle.vo_spec.specs.Values.{type_byte, value_bytes, FitsValue}

-- how many commands a batch may have, and bytes
abbrev pub max_commands : ℕ
max_commands = 1000

abbrev pub max_batch_bytes : ℕ
max_batch_bytes = 1048576

-- how many columns a table may have, values an INSERT, parts a SET
abbrev pub max_columns : ℕ
max_columns = 32

-- Bytes.

-- a byte that says how many, and then each
abbrev pub list_bytes : {A : Type 0} → (A → List ℕ) → List A → List ℕ
list_bytes bytes items = length items ∷ flat_map bytes items

-- a column's kind, with the highest bit set where the column is nullable
abbrev pub column_type : Column → ℕ
column_type c = if c.nullable then 128 + type_byte c.kind else type_byte c.kind

abbrev pub column_bytes : Column → List ℕ
column_bytes c = short_string c.name ++ column_type c ∷ []

abbrev pub set_bytes : SetPart → List ℕ
set_bytes s = short_string s.column ++ value_bytes s.value

unfoldable pub command_bytes : Command → List ℕ
command_bytes (Create name columns key) = 1 ∷ short_string name ++ list_bytes column_bytes columns
    ++ short_string key
command_bytes (Drop name) = 2 ∷ short_string name
command_bytes (Insert name values) = 3 ∷ short_string name ++ list_bytes value_bytes values
command_bytes (Update name sets column value) = 4 ∷ short_string name ++ list_bytes set_bytes sets
    ++ short_string column ++ value_bytes value
command_bytes (Delete name column value) = 5 ∷ short_string name ++ short_string column
    ++ value_bytes value

unfoldable pub batch_bytes : List Command → List ℕ
batch_bytes commands = u16_bytes (length commands) ++ flat_map command_bytes commands

-- What has such bytes.

-- one to 32 that fit
abbrev pub FitCounted : {A : Type 0} → (A → Type 0) → List A → Type 0
FitCounted Fits items = (1 ≤ length items) × (length items ≤ max_columns)
    × AllByRecursion Fits items

abbrev pub FitsColumn : Column → Type 0
FitsColumn c = FitsName c.name

abbrev pub FitsSet : SetPart → Type 0
FitsSet s = FitsName s.column × FitsValue s.value

unfoldable pub FitsCommand : Command → Type 0
FitsCommand (Create name columns key) = FitsName name × FitCounted FitsColumn columns × FitsName key
FitsCommand (Drop name) = FitsName name
FitsCommand (Insert name values) = FitsName name × FitCounted FitsValue values
FitsCommand (Update name sets column value) = FitsName name × FitCounted FitsSet sets
    × FitsName column × FitsValue value
FitsCommand (Delete name column value) = FitsName name × FitsName column × FitsValue value

pub record FitsBatch (commands : List Command) : Type 0 where
  pub count : length commands ≤ max_commands
  pub each : AllByRecursion FitsCommand commands
  pub size : length (batch_bytes commands) ≤ max_batch_bytes

-- The bytes are this batch.
pub record IsBatch (bytes : List ℕ) (batch : List Command) : Type 0 where
  pub fits : FitsBatch batch
  pub encoded : bytes ≡ batch_bytes batch
