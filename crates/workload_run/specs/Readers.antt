-- The readers of a run: one client, and the auditor with the owner's journal.
use Rattle.std.specs.Prelude.{◌≡◌, ℕ, ◌≤◌, List, length, Result, Ok}
use Rattle.vo_spec.specs.declared.checks.Answer.{Answer}
use Rattle.vo_spec.specs.declared.checks.AuditFault.{AuditFault}
use Rattle.vo_spec.specs.declared.checks.CheckFault.{CheckFault}
use Rattle.vo_spec.specs.declared.checks.Verdict.{Verdict}
use Rattle.vo_spec.specs.declared.checks.Verdict.TheVariants.{Exact}
use Rattle.vo_spec.specs.Checks.{CheckOf}
use Rattle.vo_spec.specs.Conditions.{Query}
use Rattle.vo_spec.specs.Honest.{seal_batches}
use Rattle.vo_spec.specs.Journals.{journal_bytes}
use Rattle.vo_spec.specs.Secret.{public_of_secret}
use Rattle.owner_roots.specs.Owners.{OwnedAuditOf}
use Rattle.workload_run.specs.declared.parties.Parties.{Parties}
use Rattle.workload_run.specs.declared.readers.Readers.{Readers}
use Rattle.workload_run.specs.Parties.{batches_behind}

-- whatever a client says of the bytes, it is this answer
abbrev pub IsAnswer : List ℕ → ℕ → Query → List ℕ → Answer → Type 0
IsAnswer key least q bytes answer = (given : Result Answer CheckFault)
    → CheckOf key least q bytes given → given ≡ Ok answer

-- whatever an audit says of the bytes, it is that they are exact
abbrev pub IsExact : List ℕ → List ℕ → Query → List ℕ → ℕ → Type 0
IsExact key journal q bytes version = (given : Result Verdict AuditFault)
    → OwnedAuditOf key journal q bytes given → given ≡ Ok (Exact version)

-- The client and the auditor have the key of this owner, the client takes its last version, and the
-- auditor has its journal.
pub record AreReadersOf (p : Parties) (r : Readers) : Type 0 where
  pub client_key : r.client.key ≡ public_of_secret p.owner.key
  pub least : r.client.least ≤ length (batches_behind p)
  pub auditor_key : r.auditor.key ≡ public_of_secret p.owner.key
  pub journal : r.auditor.journal ≡ journal_bytes (seal_batches p.owner.key (batches_behind p))
