-- Commands in turn, on trees and on plain tables.
use Rattle.std.proofs.Common.{◌≡◌, ℕ, ◌+◌, List, [], ◌∷◌, Some, None, Result, Ok, Err, map, sym, ap, ◌∙◌, subst}
use Rattle.std.specs.Prelude.{IfOk}
use Rattle.std.specs.List.{AllByRecursion}
use Rattle.vo_spec.specs.declared.tables.Table.{Table}
use Rattle.vo_spec.specs.declared.tables.Command.{Command}
use Rattle.vo_spec.specs.declared.tables.CommandFault.{CommandFault}
use Rattle.vo_spec.specs.Firsts.{and_then, unless}
use Rattle.vo_spec.specs.Batches.{FitsCommand}
use Rattle.vo_spec.specs.Tables.{refusal, apply, apply_from, with_index}
use Rattle.vo_spec.specs.Honest.{Stored, RepresentTables, stored_table_header, changed_trees, work, work_all}
use Rattle.vo_laws.specs.FittingTables.{FitTables}
use Rattle.vo_laws.proofs.RepresentationLaws.{InStep, FitAfter, command_in_step}
use Rattle.table_list.specs.BatchResults.{BatchGives}
use Rattle.table_list.specs.declared.fault.BatchFault.{BatchFault}
use Rattle.table_list.specs.declared.fault.BatchFault.TheVariants as fault
use Rattle.stored_tables.specs.Working.{numbered_work, work_from}
use Rattle.stored_tables.specs.Plain.{GivesPlain}

-- One command.

pub work_allowed : (c : Command) (stored : List Stored) → refusal c (map stored_table_header stored) ≡ None → work c stored ≡ changed_trees c stored
unfolding work
work_allowed c stored e = ap (λ r. and_then (changed_trees c) (unless r stored)) e

pub work_refused : (c : Command) (stored : List Stored) (why : CommandFault) → refusal c (map stored_table_header stored) ≡ Some why → work c stored ≡ Err why
unfolding work
work_refused c stored why e = ap (λ r. and_then (changed_trees c) (unless r stored)) e

-- the trees alone, without the numbers
from_step : (index : ℕ) (cs : List Command) (r : Result (List Stored) CommandFault) (new : List Stored)
    → ((after : List Stored) → work_from (index + 1) cs after ≡ Ok new → work_all cs after ≡ Ok new)
    → and_then (work_from (index + 1) cs) (numbered_work index r) ≡ Ok new → and_then (work_all cs) r ≡ Ok new
from_step index cs (Ok after) new rest e = rest after e
from_step index cs (Err fault) new rest e = absurd (cc)

pub all_from : (index : ℕ) (cs : List Command) (stored new : List Stored) → work_from index cs stored ≡ Ok new → work_all cs stored ≡ Ok new
all_from index [] stored new e = let same : stored ≡ new = cc in ap Ok same
all_from index (c ∷ cs) stored new e = from_step index cs (work c stored) new (λ after f. all_from (index + 1) cs after new f) e

-- Both go on in step, or both refuse the same command for one reason.
abbrev InStepAt : Result (List Stored) (ℕ × CommandFault) → Result (List Table) (ℕ × CommandFault) → Type 0
InStepAt (Ok stored) (Ok tables) = RepresentTables stored tables × FitTables tables
InStepAt (Ok stored) (Err fault) = ⊥
InStepAt (Err fault) (Ok tables) = ⊥
InStepAt (Err fault) (Err other) = other ≡ fault

next_at : (index : ℕ) (cs : List Command) (r : Result (List Stored) CommandFault) (s : Result (List Table) CommandFault) → InStep r s → FitAfter s
    → ((stored : List Stored) (tables : List Table) → RepresentTables stored tables → FitTables tables → InStepAt (work_from (index + 1) cs stored) (apply_from (index + 1) cs tables))
    → InStepAt (and_then (work_from (index + 1) cs) (numbered_work index r)) (and_then (apply_from (index + 1) cs) (with_index index s))
next_at index cs (Ok stored) (Ok tables) i good next = next stored tables i good
next_at index cs (Ok stored) (Err fault) i good next = absurd i
next_at index cs (Err fault) (Ok tables) i good next = absurd i
next_at index cs (Err fault) (Err other) i good next = ap (λ f. (index, f)) (sym i)

in_step_from : (index : ℕ) (cs : List Command) (stored : List Stored) (tables : List Table) → AllByRecursion FitsCommand cs
    → RepresentTables stored tables → FitTables tables → InStepAt (work_from index cs stored) (apply_from index cs tables)
in_step_from index [] stored tables fits zs good = (zs, good)
in_step_from index (c ∷ cs) stored tables fits zs good =
    let i = command_in_step c stored tables fits.0 zs good in
    next_at index cs (work c stored) (apply c tables) i.0 i.1 (λ after others y g. in_step_from (index + 1) cs after others fits.1 y g)

-- what a call gives on trees says what is so of the plain tables
gives_both : {X : Type 0} (view : X → List Stored) (r : Result X BatchFault) (w : Result (List Stored) (ℕ × CommandFault)) (a : Result (List Table) (ℕ × CommandFault))
    → BatchGives view r w → InStepAt w a → GivesPlain view r a
gives_both view (Ok x) (Ok after) (Ok others) g i = let same : after ≡ view x = cc in subst (λ ss. RepresentTables ss others × FitTables others) same i
gives_both view (Ok x) (Ok after) (Err other) g i = absurd i
gives_both view (Ok x) (Err told) a g i = absurd (cc)
gives_both view (Err fault.Memory) w a g i = tt
gives_both view (Err (fault.Command index why)) (Ok after) a g i = absurd (cc)
gives_both view (Err (fault.Command index why)) (Err told) (Ok others) g i = absurd i
gives_both view (Err (fault.Command index why)) (Err told) (Err other) g i = let same : told ≡ (index, why) = cc in ap Err (i ∙ same)

pub gives_plain : {X : Type 0} (view : X → List Stored) (cs : List Command) (stored : List Stored) (tables : List Table) (r : Result X BatchFault)
    → AllByRecursion FitsCommand cs → BatchGives view r (work_from 0 cs stored) → RepresentTables stored tables → FitTables tables → GivesPlain view r (apply_from 0 cs tables)
gives_plain view cs stored tables r fits gives zs good = gives_both view r (work_from 0 cs stored) (apply_from 0 cs tables) gives (in_step_from 0 cs stored tables fits zs good)

pub gives_all : {X : Type 0} (view : X → List Stored) (cs : List Command) (stored : List Stored) (r : Result X BatchFault)
    → BatchGives view r (work_from 0 cs stored) → IfOk r (λ x. work_all cs stored ≡ Ok (view x))
gives_all view cs stored (Ok x) gives = all_from 0 cs stored (view x) gives
gives_all view cs stored (Err told) gives = tt

-- of a fault nothing is seen
pub plain_fault : {X Y : Type 0} (view : X → List Stored) (other : Y → List Stored) (told : BatchFault) (answer : Result (List Table) (ℕ × CommandFault))
    → GivesPlain view (Err told) answer → GivesPlain other (Err told) answer
plain_fault view other fault.Memory answer gives = tt
plain_fault view other (fault.Command index why) answer gives = gives
