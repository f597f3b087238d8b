-- The proofs of a batch as they are written, command by command.
use Rattle.std.specs.Prelude.{List, [], map, if◌then◌else◌, is_some, Result, Ok, Err}
use Rattle.vo_spec.specs.declared.tables.Command.{Command}
use Rattle.vo_spec.specs.Tables.{refusal}
use Rattle.vo_spec.specs.Trees.{RowTree}
use Rattle.vo_spec.specs.Honest.{Stored, stored_table_header, command_proof}
use Rattle.table_list.specs.declared.fault.BatchFault.{BatchFault}
use Rattle.table_list.specs.declared.fault.BatchFault.TheVariants as fault

-- the proof of a command, unless the catalog refuses it
abbrev pub allowed_proof : Command → List Stored → List RowTree
allowed_proof c stored = if is_some (refusal c (map stored_table_header stored)) then []
    else command_proof c stored

-- this holds of what a call leaves, unless memory ran out
abbrev pub UnlessMemory : {X : Type 0} → Result X BatchFault → Type 0 → Type 0
UnlessMemory (Ok x) P = P
UnlessMemory (Err fault.Memory) P = Unit {0}
UnlessMemory (Err (fault.Command index why)) P = P
