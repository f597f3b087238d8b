-- Reading batches from the front of bytes.
use Rattle.std.specs.Prelude.{ℕ, ◌==◌, nat_le, List, [], ◌∷◌, length, if◌then◌else◌, Option, Some, None, Result}
use Rattle.std.specs.Result.{result_ok}
use Rattle.vo_spec.specs.declared.values.Value.{Value}
use Rattle.vo_spec.specs.declared.tables.Batch.{Batch}
use Rattle.vo_spec.specs.declared.tables.SetPart.{SetPart}
use Rattle.vo_spec.specs.declared.tables.Command.{Command}
use Rattle.vo_spec.specs.declared.tables.Command.TheVariants.{Create, Drop, Insert, Update, Delete}
use Rattle.vo_spec.specs.Batches.{max_commands, max_batch_bytes}
use Rattle.row_bytes.specs.declared.read_fault.ReadFault.{ReadFault}
use Rattle.row_bytes.specs.Reading.{u16_at, value_at}
use Rattle.row_bytes.specs.Fields.{◌>>=◌, name_at, count_at, columns_at, times, whole, ReadsAs}

abbrev pub Reader : Type 0 → Type 0
Reader A = List ℕ → Option (A × List ℕ)

-- One, two, three or four things in turn, and what is made of them.

abbrev pub one : {A X : Type 0} → (A → X) → Reader A → Reader X
one make a bytes = a bytes >>= λ x. Some (make x.0, x.1)

abbrev pub two : {A B X : Type 0} → (A → B → X) → Reader A → Reader B → Reader X
two make a b bytes = a bytes >>= λ x. one (make x.0) b x.1

abbrev pub three : {A B C X : Type 0} → (A → B → C → X) → Reader A → Reader B → Reader C → Reader X
three make a b c bytes = a bytes >>= λ x. two (make x.0) b c x.1

abbrev pub four : {A B C D X : Type 0} → (A → B → C → D → X) → Reader A → Reader B → Reader C
    → Reader D → Reader X
four make a b c d bytes = a bytes >>= λ x. three (make x.0) b c d x.1

unfoldable pub any_value_at : Reader Value
any_value_at bytes = result_ok (value_at bytes)

abbrev pub set_part : List ℕ → Value → SetPart
set_part column value = record { column = column; value = value }

unfoldable pub set_at : Reader SetPart
set_at bytes = two set_part name_at any_value_at bytes

-- 1 to 32 of them
unfoldable pub values_at : Reader (List Value)
values_at bytes = count_at bytes >>= λ count. times any_value_at count.0 count.1

unfoldable pub sets_at : Reader (List SetPart)
sets_at bytes = count_at bytes >>= λ count. times set_at count.0 count.1

-- Commands, each behind its byte.

unfoldable pub create_at : Reader Command
create_at bytes = three Create name_at columns_at name_at bytes

unfoldable pub drop_at : Reader Command
drop_at bytes = one Drop name_at bytes

unfoldable pub insert_at : Reader Command
insert_at bytes = two Insert name_at values_at bytes

unfoldable pub update_at : Reader Command
update_at bytes = four Update name_at sets_at name_at any_value_at bytes

unfoldable pub delete_at : Reader Command
delete_at bytes = three Delete name_at name_at any_value_at bytes

unfoldable pub command_at : Reader Command
command_at [] = None
command_at (byte ∷ bytes) =
    if byte == 1 then create_at bytes
    else if byte == 2 then drop_at bytes
    else if byte == 3 then insert_at bytes
    else if byte == 4 then update_at bytes
    else if byte == 5 then delete_at bytes
    else None

unfoldable pub commands_at : Reader (List Command)
commands_at bytes = u16_at bytes >>=
    λ count. if nat_le count.0 max_commands then times command_at count.0 count.1 else None

-- the batch that all the bytes are
unfoldable pub batch_of : List ℕ → Option (List Command)
batch_of bytes = if nat_le (length bytes) max_batch_bytes then whole (commands_at bytes) else None

-- a call gives the batch of these commands, or says that there is none
abbrev pub BatchRead : Result Batch ReadFault → Option (List Command) → Type 0
BatchRead result read = ReadsAs (λ (batch : Batch). batch.commands) result read
