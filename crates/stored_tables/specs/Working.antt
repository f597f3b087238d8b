-- What commands make of one table, and of all of them in turn.
use Rattle.std.specs.Prelude.{ℕ, ◌+◌, List, [], ◌∷◌, Result, Ok, Err}
use Rattle.std.specs.Result.{result_map_both}
use Rattle.vo_spec.specs.declared.tables.Column.{Column}
use Rattle.vo_spec.specs.declared.tables.Command.{Command}
use Rattle.vo_spec.specs.declared.tables.CommandFault.{CommandFault}
use Rattle.vo_spec.specs.Firsts.{and_then}
use Rattle.vo_spec.specs.Tables.{column_number}
use Rattle.vo_spec.specs.Parts.{leaf}
use Rattle.vo_spec.specs.Trees.{RowTree}
use Rattle.vo_spec.specs.Honest.{Stored, row_refusal, tree_after, work}

abbrev pub with_new_tree : Stored → RowTree → Stored
with_new_tree s tree = record { name = s.name; schema = s.schema; tree = tree }

-- the table with what the command changes of its rows
abbrev pub table_after : Command → Stored → Result Stored CommandFault
table_after c s = result_map_both (with_new_tree s) row_refusal (tree_after c s)

-- a refusal with its command's number
abbrev pub numbered_work : ℕ → Result (List Stored) CommandFault
    → Result (List Stored) (ℕ × CommandFault)
numbered_work index (Ok after) = Ok after
numbered_work index (Err fault) = Err (index, fault)

-- the trees after commands in order, the first of them the one of this number
abbrev pub work_from : ℕ → List Command → List Stored → Result (List Stored) (ℕ × CommandFault)
work_from index [] stored = Ok stored
work_from index (c ∷ cs) stored =
    and_then (work_from (index + 1) cs) (numbered_work index (work c stored))

-- the table that a CREATE makes
abbrev pub made_stored : List ℕ → List Column → List ℕ → Stored
made_stored name columns key =
    record {
      name = name;
      schema = record { columns = columns; key = column_number columns key };
      tree = leaf [];
    }
