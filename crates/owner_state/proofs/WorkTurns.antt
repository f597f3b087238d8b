-- Commands in turn, with the number of the one that is refused and without it.
use Rattle.std.proofs.Common.{◌≡◌, ℕ, ◌+◌, false, List, [], ◌∷◌, Result, Ok, Err, refl, sym, ap, subst, ◌∙◌}
use Rattle.std.specs.Prelude.{IsOk}
use Rattle.std.specs.Result.{is_ok, result_unwrap_or}
use Rattle.vo_spec.specs.declared.tables.Command.{Command}
use Rattle.vo_spec.specs.declared.tables.CommandFault.{CommandFault}
use Rattle.vo_spec.specs.Firsts.{and_then}
use Rattle.vo_spec.specs.Honest.{Stored, after_work, work, work_all}
use Rattle.table_list.specs.BatchResults.{BatchGives}
use Rattle.table_list.specs.declared.fault.BatchFault.{BatchFault}
use Rattle.table_list.specs.declared.fault.BatchFault.TheVariants.{Command as Refused}
use Rattle.stored_tables.specs.Working.{numbered_work, work_from}

abbrev without_number : Result (List Stored) (ℕ × CommandFault) → Result (List Stored) CommandFault
without_number (Ok stored) = Ok stored
without_number (Err fault) = Err fault.1

forgets : (index : ℕ) (cs : List Command) (stored : List Stored) → work_all cs stored ≡ without_number (work_from index cs stored)
forgets index [] stored = refl
forgets index (c ∷ cs) stored = step (work c stored) (forgets (index + 1) cs)
  where
    step : (r : Result (List Stored) CommandFault) → ((next : List Stored) → work_all cs next ≡ without_number (work_from (index + 1) cs next))
        → and_then (work_all cs) r ≡ without_number (and_then (work_from (index + 1) cs) (numbered_work index r))
    step (Ok next) rest = rest next
    step (Err fault) rest = refl

pub work_done : (cs : List Command) (stored after : List Stored) → work_from 0 cs stored ≡ Ok after → work_all cs stored ≡ Ok after
work_done cs stored after e = forgets 0 cs stored ∙ ap without_number e

pub work_refused : (cs : List Command) (stored : List Stored) (index : ℕ) (fault : CommandFault) → work_from 0 cs stored ≡ Err (index, fault) → IsOk (work_all cs stored) → ⊥
work_refused cs stored index fault e ok =
    let is : work_all cs stored ≡ Err fault = forgets 0 cs stored ∙ ap without_number e in
    let not : is_ok (work_all cs stored) ≡ false = ap (λ (r : Result (List Stored) CommandFault). is_ok r) is in
    absurd (cc)

pub work_left : (cs : List Command) (stored after : List Stored) → work_all cs stored ≡ Ok after → after ≡ after_work stored cs
work_left cs stored after e = sym (ap (λ (r : Result (List Stored) CommandFault). result_unwrap_or r stored) e)

-- a batch that is refused leaves the trees
pub refused_left : (cs : List Command) (stored : List Stored) (index : ℕ) (fault : CommandFault) → work_from 0 cs stored ≡ Err (index, fault) → stored ≡ after_work stored cs
refused_left cs stored index fault e = sym (ap (λ (r : Result (List Stored) CommandFault). result_unwrap_or r stored) (forgets 0 cs stored ∙ ap without_number e))

pub work_accepted : (cs : List Command) (stored after : List Stored) → work_all cs stored ≡ Ok after → IsOk (work_all cs stored)
work_accepted cs stored after e = ap (λ (r : Result (List Stored) CommandFault). is_ok r) e

-- what a call tells that gives a refused command
pub told : {X Y : Type 0} (view : X → Y) (fault : BatchFault) (index : ℕ) (why : CommandFault) (answer : Result Y (ℕ × CommandFault)) → fault ≡ Refused index why
    → BatchGives view (Err fault) answer → answer ≡ Err (index, why)
told view fault index why answer is gives = subst (λ (f : BatchFault). BatchGives view (Err f) answer) is gives
