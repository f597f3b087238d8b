-- What an auditor finds of a reply that a client accepts, by the owner's journal.
use Rattle.std.specs.Prelude.{◌≡◌, ◌≢◌, ℕ, List, Result, Ok, Err}
use Rattle.vo_spec.specs.declared.records.Entry.{Entry}
use Rattle.vo_spec.specs.declared.checks.Answer.{Answer}
use Rattle.vo_spec.specs.declared.checks.Verdict.{Verdict}
use Rattle.vo_spec.specs.declared.checks.Verdict.TheVariants.{Unsigned, Exact, Collides as Collide}
use Rattle.vo_spec.specs.declared.checks.AuditFault.{AuditFault}
use Rattle.vo_spec.specs.declared.checks.AuditFault.TheVariants.{BadJournal, Refused, Memory}
use Rattle.vo_spec.specs.Collides.{Collides}
use Rattle.vo_spec.specs.Conditions.{Query}
use Rattle.vo_spec.specs.Results.{result}
use Rattle.vo_spec.specs.Journals.{Holds, tables_at, last_version}
use Rattle.vo_spec.specs.Replies.{Reply, IsReply}
use Rattle.vo_spec.specs.Checks.{CheckOf}
use Rattle.vo_spec.specs.Owners.{IsJournalOf, FailsAt}

-- The journal does not hold the record; or it does, and the outcome is the query's result on the
-- tables of that version; or neither, and here are two different byte strings with one digest.
unfoldable pub IsVerdict : List Entry → Query → Reply → Answer → Verdict → Type 0
IsVerdict es q r answer (Unsigned rec signature last) =
    (Holds es r.rec → ⊥) × (rec ≡ r.rec) × (signature ≡ r.signature) × (last ≡ last_version es)
IsVerdict es q r answer (Exact version) =
    Holds es r.rec × (answer.outcome ≡ result q (tables_at answer.version es))
    × (version ≡ answer.version)
IsVerdict es q r answer (Collide found) =
    Holds es r.rec × (answer.outcome ≢ result q (tables_at answer.version es))
    × Collides found.0 found.1

-- What an audit says of these bytes as the reply to this query, by these bytes as the journal of
-- this key's owner, entries of whom are of this sort. Want of memory is no answer of this.
unfoldable pub AuditOf : (List Entry → Type 0) → List ℕ → List ℕ → Query → List ℕ
    → Result Verdict AuditFault → Type 0
AuditOf AreOwned key journal q bytes (Err (BadJournal index)) = FailsAt AreOwned journal index
AuditOf AreOwned key journal q bytes (Err (Refused fault)) =
    (es : List Entry) × IsJournalOf AreOwned journal es × CheckOf key 0 q bytes (Err fault)
AuditOf AreOwned key journal q bytes (Err Memory) = ⊥
AuditOf AreOwned key journal q bytes (Ok verdict) =
    (es : List Entry) × IsJournalOf AreOwned journal es
    × (r : Reply) × IsReply bytes r × (answer : Answer) × CheckOf key 0 q bytes (Ok answer)
    × IsVerdict es q r answer verdict
