-- A client that has an answer to bytes refuses none of them but for want of memory.
use Rattle.std.proofs.Common.{◌≡◌, ℕ, List, Result, Err, inl, inr}
use Rattle.std.specs.Prelude.{◌≢◌, ◌⊎◌}
use Rattle.vo_spec.specs.declared.checks.Answer.{Answer}
use Rattle.vo_spec.specs.declared.checks.CheckFault.{CheckFault}
use Rattle.vo_spec.specs.declared.checks.CheckFault.TheVariants.{Memory}
use Rattle.vo_spec.specs.Checks.{CheckOf}
use Rattle.vo_spec.specs.Conditions.{Query}
use Rattle.workload_run.specs.Readers.{IsAnswer}

pub never_refuses : (key : List ℕ) (least : ℕ) (q : Query) (bytes : List ℕ) (answer : Answer)
    (given : Result Answer CheckFault) (why : CheckFault) → IsAnswer key least q bytes answer
    → given ≡ Err why → why ≢ Memory → (given ≡ Err Memory) ⊎ CheckOf key least q bytes given → ⊥
never_refuses key least q bytes answer given why is refused known (inl memory) =
    known (same_fault memory)
  where
    same_fault : given ≡ Err Memory → why ≡ Memory
    same_fault e = cc
never_refuses key least q bytes answer given why is refused known (inr told) =
    let e = is given told in
    absurd (cc)
