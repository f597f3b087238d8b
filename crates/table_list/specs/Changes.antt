-- What a command makes of tables; what a call gives of an answer.
use Rattle.std.specs.Prelude.{◌≡◌, ℕ, not, if◌then◌else◌, List, [], map, filter, Option, Some, None, Result, Ok, Err, bytes_eq}
use Rattle.std.specs.Option.{option_map_or}
use Rattle.vo_spec.specs.declared.values.Row.{Row}
use Rattle.vo_spec.specs.declared.tables.Column.{Column}
use Rattle.vo_spec.specs.declared.tables.Table.{Table}
use Rattle.vo_spec.specs.declared.tables.Command.{Command}
use Rattle.vo_spec.specs.declared.tables.Command.TheVariants.{Create, Drop, Insert, Update, Delete}
use Rattle.vo_spec.specs.declared.tables.CommandFault.{CommandFault}
use Rattle.vo_spec.specs.declared.tables.CommandFault.TheVariants.{DuplicateKey, NoRow}
use Rattle.vo_spec.specs.Values.{key_of}
use Rattle.vo_spec.specs.Tables.{table_named, column_number, put_table, row_of, has_row, put_row, without_row, changed_row, cell_changes}
use Rattle.table_list.specs.TableHeaders.{command_name}
use Rattle.table_list.specs.declared.fault.ApplyFault.{ApplyFault}
use Rattle.table_list.specs.declared.fault.ApplyFault.TheVariants.{Refused, Memory}

-- what a call returned, seen by view, is the answer, unless memory ran out
abbrev pub Returns : {X Y : Type 0} → (X → Y) → Result X ApplyFault → Result Y CommandFault → Type 0
Returns view (Ok x) answer = answer ≡ Ok (view x)
Returns view (Err Memory) answer = Unit {0}
Returns view (Err (Refused fault)) answer = answer ≡ Err fault

-- the refusal by the rows of the command's table
abbrev pub row_fault : Command → Table → Option CommandFault
row_fault (Create name columns key) t = None
row_fault (Drop name) t = None
row_fault (Insert name values) t = if has_row (row_of t.schema values).key t.rows
    then Some DuplicateKey else None
row_fault (Update name sets column value) t = if has_row (key_of value) t.rows then None
    else Some NoRow
row_fault (Delete name column value) t = if has_row (key_of value) t.rows then None else Some NoRow

abbrev pub fault_by_rows : Command → List Table → Option CommandFault
fault_by_rows command tables =
    option_map_or (row_fault command) (table_named (command_name command) tables) None

-- what a command makes of the rows of its table
abbrev pub rows_after : Command → Table → List Row
rows_after (Create name columns key) t = t.rows
rows_after (Drop name) t = t.rows
rows_after (Insert name values) t = put_row (row_of t.schema values) t.rows
rows_after (Update name sets column value) t =
    map (changed_row (key_of value) (cell_changes t.schema sets)) t.rows
rows_after (Delete name column value) t = without_row (key_of value) t.rows

-- the table after a command, be it the command's or another
abbrev pub table_after : Command → Table → Table
table_after command t = if bytes_eq t.name (command_name command)
    then record { name = t.name; schema = t.schema; rows = rows_after command t } else t

-- the table that a CREATE makes
abbrev pub new_table : List ℕ → List Column → List ℕ → Table
new_table name columns key = record {
  name = name;
  schema = record { columns = columns; key = column_number columns key };
  rows = [];
}

-- the tables after a command that isn't refused
abbrev pub changed_tables : Command → List Table → List Table
changed_tables (Create name columns key) tables = put_table (new_table name columns key) tables
changed_tables (Drop name) tables = filter (λ (t : Table). not (bytes_eq t.name name)) tables
changed_tables command tables = map (table_after command) tables
