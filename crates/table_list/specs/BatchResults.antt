-- What a call gives of a batch's answer.
use Rattle.std.specs.Prelude.{◌≡◌, ℕ, Result, Ok, Err}
use Rattle.vo_spec.specs.declared.tables.CommandFault.{CommandFault}
use Rattle.table_list.specs.declared.fault.BatchFault.{BatchFault}
use Rattle.table_list.specs.declared.fault.BatchFault.TheVariants.{Command, Memory}

-- what a call returned, seen by view, or the number and the fault of the refused command, unless
-- memory ran out
abbrev pub BatchGives : {X Y : Type 0} → (X → Y) → Result X BatchFault
    → Result Y (ℕ × CommandFault) → Type 0
BatchGives view (Ok x) answer = answer ≡ Ok (view x)
BatchGives view (Err Memory) answer = Unit {0}
BatchGives view (Err (Command index fault)) answer = answer ≡ Err (index, fault)
