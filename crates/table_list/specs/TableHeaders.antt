-- What a command's refusal needs of the tables: the table header of the one that it names, and how
-- many there are.
use Rattle.std.specs.Prelude.{ℕ, List}
use Rattle.vo_spec.specs.declared.tables.Command.{Command}
use Rattle.vo_spec.specs.declared.tables.Command.TheVariants.{Create, Drop, Insert, Update, Delete}
use Rattle.vo_spec.specs.Tables.{TableHeader}
use Rattle.table_list.specs.declared.refusal.TableHeaderRef.{TableHeaderRef}

-- the table that a command names
abbrev pub command_name : Command → List ℕ
command_name (Create name columns key) = name
command_name (Drop name) = name
command_name (Insert name values) = name
command_name (Update name sets column value) = name
command_name (Delete name column value) = name

abbrev pub table_header_seen : TableHeaderRef → TableHeader
table_header_seen h = record { name = h.name.now; schema = h.schema.now; count = h.count }
