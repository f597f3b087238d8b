-- A reply that is refusal unread is refusal by every client.
use Rattle.std.proofs.Common.{◌≡◌, ℕ, List, Result, Err, ap, ◌⊎◌, inl, inr}
use Rattle.vo_spec.specs.declared.checks.Answer.{Answer}
use Rattle.vo_spec.specs.declared.checks.CheckFault.{CheckFault}
use Rattle.vo_spec.specs.declared.checks.CheckFault.TheVariants.{Memory}
use Rattle.vo_spec.specs.Conditions.{Query}
use Rattle.vo_spec.specs.Checks.{CheckOf}

abbrev refusal : CheckFault → Result Answer CheckFault
refusal fault = Err fault

pub unread : (key : List ℕ) (least : ℕ) (q : Query) (bytes : List ℕ) (fault : CheckFault)
    → (fault ≡ Memory) ⊎ ((key : List ℕ) (least : ℕ) (q : Query) → CheckOf key least q bytes (Err fault))
    → (refusal fault ≡ refusal Memory) ⊎ CheckOf key least q bytes (refusal fault)
unread key least q bytes fault (inl out) = inl (ap refusal out)
unread key least q bytes fault (inr told) = inr (told key least q)
