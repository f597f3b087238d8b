-- What a command makes of tables, by its refusals and its change.
use Rattle.std.proofs.Common.{◌≡◌, ℕ, Bool, true, false, cond, List, [], map, Option, Some, None, Result, Ok, Err, refl, sym, ap, ◌∙◌}
use Rattle.std.specs.Option.{option_map_or}
use Rattle.vo_spec.specs.declared.tables.Table.{Table}
use Rattle.vo_spec.specs.declared.tables.Command.{Command}
use Rattle.vo_spec.specs.declared.tables.Command.TheVariants.{Create, Drop, Insert, Update, Delete}
use Rattle.vo_spec.specs.declared.tables.CommandFault.{CommandFault}
use Rattle.vo_spec.specs.declared.tables.CommandFault.TheVariants.{NoTable, DuplicateKey, NoRow}
use Rattle.vo_spec.specs.Firsts.{first_of, unless, and_then}
use Rattle.vo_spec.specs.Values.{key_of}
use Rattle.vo_spec.specs.Tables.{Tests, TableHeader, table_header_of, table_header_named, table_named, on_table, insert_tests, update_tests, delete_tests, refusal, change_tables, apply, row_of, has_row}
use Rattle.table_list.specs.TableHeaders.{command_name}
use Rattle.table_list.specs.Changes.{row_fault, fault_by_rows, changed_tables}
use Rattle.table_list.proofs.PlainLaws.{table_header_by_name}

pub refused : (command : Command) (tables : List Table) (fault : CommandFault) → refusal command (map table_header_of tables) ≡ Some fault → apply command tables ≡ Err fault
unfolding apply
refused command tables fault e = ap (λ o. and_then (change_tables command) (unless o tables)) e

goes_on : (command : Command) (tables : List Table) → refusal command (map table_header_of tables) ≡ None → apply command tables ≡ change_tables command tables
unfolding apply
goes_on command tables e = ap (λ o. and_then (change_tables command) (unless o tables)) e

-- no table of the name is there only where that refuses the command
absent : (name : List ℕ) (tests : TableHeader → Tests) (tables : List Table) → table_named name tables ≡ None → on_table name (map table_header_of tables) tests ≡ None → ⊥
absent name tests tables none e =
    let o : table_header_named name (map table_header_of tables) ≡ None = rw (table_header_by_name name tables) (rw none refl) in
    absurd (no_table (sym e ∙ ap (λ h. option_map_or (λ h. first_of (tests h)) h (Some NoTable)) o))
  where
    no_table : None ≡ Some NoTable → ⊥
    no_table e = absurd cc

-- The change, where a table of the name is there.

-- of a test that refuses where it holds, and of one that refuses where it doesn't
on_true : (b : Bool) (fault : CommandFault) (o : Option CommandFault) (new : List Table) → cond b (Some fault) None ≡ o
    → cond b (Err fault) (Ok new) ≡ unless o new
on_true true fault o new e = ap (λ o. unless o new) e
on_true false fault o new e = ap (λ o. unless o new) e

on_false : (b : Bool) (fault : CommandFault) (o : Option CommandFault) (new : List Table) → cond b None (Some fault) ≡ o
    → cond b (Ok new) (Err fault) ≡ unless o new
on_false true fault o new e = ap (λ o. unless o new) e
on_false false fault o new e = ap (λ o. unless o new) e

-- a command that no row refuses
no_row_test : (command : Command) (tables : List Table) → change_tables command tables ≡ Ok (changed_tables command tables) → ((t : Table) → row_fault command t ≡ None)
    → change_tables command tables ≡ unless (fault_by_rows command tables) (changed_tables command tables)
no_row_test command tables done none = by (table_named (command_name command) tables)
  where
    by : (o : Option Table) → change_tables command tables ≡ unless (option_map_or (row_fault command) o None) (changed_tables command tables)
    by None = done
    by (Some t) = done ∙ ap (λ o. unless o (changed_tables command tables)) (sym (none t))

change_is : (command : Command) (tables : List Table) → refusal command (map table_header_of tables) ≡ None → change_tables command tables ≡ unless (fault_by_rows command tables) (changed_tables command tables)
change_is (Create name columns key) tables passed = no_row_test (Create name columns key) tables refl (λ t. refl)
change_is (Drop name) tables passed = no_row_test (Drop name) tables refl (λ t. refl)
change_is (Insert name values) tables passed = step (table_named name tables) refl
  where
    new : List Table
    new = changed_tables (Insert name values) tables

    has : Table → Bool
    has t = has_row (row_of t.schema values).key t.rows

    step : (o : Option Table) → table_named name tables ≡ o
        → cond (option_map_or has o false) (Err DuplicateKey) (Ok new) ≡ unless (option_map_or (λ t. cond (has t) (Some DuplicateKey) None) o None) new
    step None e = absurd (absent name (insert_tests values) tables e passed)
    step (Some t) e = on_true (has t) DuplicateKey _ new refl
change_is (Update name sets column value) tables passed = step (table_named name tables) refl
  where
    new : List Table
    new = changed_tables (Update name sets column value) tables

    step : (o : Option Table) → table_named name tables ≡ o
        → cond (has_row (key_of value) (option_map_or (λ (t : Table). t.rows) o [])) (Ok new) (Err NoRow) ≡ unless (option_map_or (λ (t : Table). cond (has_row (key_of value) t.rows) None (Some NoRow)) o None) new
    step None e = absurd (absent name (update_tests sets column value) tables e passed)
    step (Some t) e = on_false (has_row (key_of value) t.rows) NoRow _ new refl
change_is (Delete name column value) tables passed = step (table_named name tables) refl
  where
    new : List Table
    new = changed_tables (Delete name column value) tables

    step : (o : Option Table) → table_named name tables ≡ o
        → cond (has_row (key_of value) (option_map_or (λ (t : Table). t.rows) o [])) (Ok new) (Err NoRow) ≡ unless (option_map_or (λ (t : Table). cond (has_row (key_of value) t.rows) None (Some NoRow)) o None) new
    step None e = absurd (absent name (delete_tests column value) tables e passed)
    step (Some t) e = on_false (has_row (key_of value) t.rows) NoRow _ new refl

pub refused_by_rows : (command : Command) (tables : List Table) (fault : CommandFault) → refusal command (map table_header_of tables) ≡ None → fault_by_rows command tables ≡ Some fault → apply command tables ≡ Err fault
refused_by_rows command tables fault passed e = goes_on command tables passed ∙ change_is command tables passed ∙ ap (λ o. unless o (changed_tables command tables)) e

pub accepted : (command : Command) (tables : List Table) → refusal command (map table_header_of tables) ≡ None → fault_by_rows command tables ≡ None → apply command tables ≡ Ok (changed_tables command tables)
accepted command tables passed e = goes_on command tables passed ∙ change_is command tables passed ∙ ap (λ o. unless o (changed_tables command tables)) e

-- What an answer that is tables came by.

abbrev Answer : Type 0
Answer = Result (List Table) CommandFault

ok_is : (a b : List Table) (answer : Answer) → answer ≡ Ok a → answer ≡ Ok b → a ≡ b
ok_is a b answer e f = cc

not_ok : (fault : CommandFault) (new : List Table) (answer : Answer) → answer ≡ Err fault → answer ≡ Ok new → ⊥
not_ok fault new answer e f = absurd cc

pub came_by : (command : Command) (tables new : List Table) → apply command tables ≡ Ok new → (refusal command (map table_header_of tables) ≡ None) × (changed_tables command tables ≡ new)
came_by command tables new e = by (refusal command (map table_header_of tables)) refl (fault_by_rows command tables) refl
  where
    by : (o : Option CommandFault) → refusal command (map table_header_of tables) ≡ o → (p : Option CommandFault) → fault_by_rows command tables ≡ p
        → (refusal command (map table_header_of tables) ≡ None) × (changed_tables command tables ≡ new)
    by (Some fault) first p rows = absurd (not_ok fault new (apply command tables) (refused command tables fault first) e)
    by None passed (Some fault) rows = absurd (not_ok fault new (apply command tables) (refused_by_rows command tables fault passed rows) e)
    by None passed None rows = (passed, ok_is _ _ (apply command tables) (accepted command tables passed rows) e)
