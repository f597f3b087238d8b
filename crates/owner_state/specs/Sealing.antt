-- Which batches an owner seals.
use Rattle.std.specs.Prelude.{ℕ, nat_le, if◌then◌else◌, List, [], ◌∷◌, ◌++◌, map, length, Option, Some, None, Result, Ok, Err}
use Rattle.std.specs.List.{AllByRecursion}
use Rattle.vo_spec.specs.declared.tables.Table.{Table}
use Rattle.vo_spec.specs.declared.tables.Command.{Command}
use Rattle.vo_spec.specs.declared.tables.Batch.{Batch}
use Rattle.vo_spec.specs.declared.tables.CommandFault.{CommandFault}
use Rattle.vo_spec.specs.Tables.{apply_batch, tables_after}
use Rattle.vo_spec.specs.Batches.{FitsBatch}
use Rattle.owner_state.specs.declared.sealing.SealFault.{SealFault}
use Rattle.owner_state.specs.declared.sealing.SealFault.TheVariants.{KeySpent, Command as Refused}

abbrev pub commands_of : List Batch → List (List Command)
commands_of batches = map (λ (batch : Batch). batch.commands) batches

abbrev pub FitEach : List Batch → Type 0
FitEach = AllByRecursion (λ (batch : Batch). FitsBatch batch.commands)

-- the first fault of one batch, or else of those behind it
abbrev pub or_later : Result (List Table) (ℕ × CommandFault) → Option SealFault → Option SealFault
or_later (Ok tables) later = later
or_later (Err refused) later = Some (Refused refused.0 refused.1)

-- Why these batches are not sealed after those before, from version 0 on: a version has no leaf
-- left of the key, or its batch is refused, whichever comes first.
unfoldable pub seal_fault : ℕ → List (List Command) → List (List Command) → Option SealFault
seal_fault leaves earlier [] = None
seal_fault leaves earlier (batch ∷ batches) =
    if nat_le leaves (length earlier) then Some KeySpent
    else or_later (apply_batch batch (tables_after earlier))
    (seal_fault leaves (earlier ++ batch ∷ []) batches)
