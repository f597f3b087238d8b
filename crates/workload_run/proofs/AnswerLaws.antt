-- What a client and an auditor can say of the honest reply by a sealed journal.
use Rattle.std.proofs.Common.{◌≡◌, ℕ, ◌≤◌, List, ◌++◌, length, Result, Ok, Err, ap, ◌∙◌, subst, inl, inr, arith}
use Rattle.vo_spec.specs.declared.tables.Command.{Command}
use Rattle.vo_spec.specs.declared.records.Entry.{Entry}
use Rattle.vo_spec.specs.declared.checks.Answer.{Answer}
use Rattle.vo_spec.specs.declared.checks.CheckFault.{CheckFault}
use Rattle.vo_spec.specs.declared.checks.AuditFault.{AuditFault}
use Rattle.vo_spec.specs.declared.checks.AuditFault.TheVariants.{BadJournal, Refused, Memory}
use Rattle.vo_spec.specs.declared.checks.Verdict.{Verdict}
use Rattle.vo_spec.specs.declared.checks.Verdict.TheVariants.{Exact}
use Rattle.vo_spec.specs.Audits.{AuditOf, IsVerdict}
use Rattle.vo_spec.specs.Checks.{CheckOf, answer_to}
use Rattle.vo_spec.specs.Conditions.{FitsQuery, Query}
use Rattle.vo_spec.specs.Honest.{seal_batches}
use Rattle.vo_spec.specs.Journals.{journal_bytes}
use Rattle.vo_spec.specs.Replies.{Reply, IsReply, reply_bytes, max_reply}
use Rattle.vo_spec.specs.Secret.{Secret, public_of_secret}
use Rattle.owner_roots.specs.Owners.{IsBadAt, IsOwned, OwnedAuditOf}
use Rattle.round_trips.specs.Trips.{AreSealable, IsHonestReply, plain_answer}
use Rattle.round_trips.proofs.SealedJournals.{owned}
use Rattle.round_trips.proofs.Entries.{sealable_first}
use Rattle.round_trips.proofs.TripLaws.{answer_is, only_exact, read}
use Rattle.workload_run.proofs.Readings.{never_bad, one_owned, one_reply}

says : (key : List ℕ) (least : ℕ) (q : Query) (r : Reply) (plain : Answer) (answer : Result Answer CheckFault) → IsReply (reply_bytes r) r
    → answer_to key least q r ≡ Ok plain → length (reply_bytes r) ≤ max_reply → CheckOf key least q (reply_bytes r) answer → answer ≡ Ok plain
unfolding CheckOf
says key least q r plain answer is told short (inl long) = absurd (omega (arith, long.0, short))
says key least q r plain answer is told short (inr (inl none)) = absurd (none.1 r is)
says key least q r plain answer is told short (inr (inr found)) =
    found.3 ∙ ap (answer_to key least q) (one_reply (reply_bytes r) found.1 r found.2 is) ∙ told

pub checked : (secret : Secret) (batches : List (List Command)) (least : ℕ) (q : Query) (r : Reply) (answer : Result Answer CheckFault)
    → AreSealable secret batches → FitsQuery q → IsHonestReply secret batches q r → least ≤ length batches
    → CheckOf (public_of_secret secret) least q (reply_bytes r) answer → answer ≡ Ok (plain_answer batches q)
checked secret batches least q r answer all numbers honest recent =
    says (public_of_secret secret) least q r (plain_answer batches q) answer (read secret batches q r all honest)
    (answer_is secret batches least q r all numbers honest recent) honest.1

-- An audit.

abbrev answer_of : Answer → Result Answer CheckFault
answer_of answer = Ok answer

abbrev refusal_of : CheckFault → Result Answer CheckFault
refusal_of fault = Err fault

never_refused : (fault : CheckFault) (answer : Answer) → refusal_of fault ≡ answer_of answer → ⊥
never_refused fault answer e = absurd (cc)

same_answer : (a b : Answer) → answer_of a ≡ answer_of b → a ≡ b
same_answer a b e = cc

pub audited : (secret : Secret) (batches later : List (List Command)) (q : Query) (r : Reply) (verdict : Result Verdict AuditFault)
    → AreSealable secret (batches ++ later) → FitsQuery q → IsHonestReply secret batches q r
    → OwnedAuditOf (public_of_secret secret) (journal_bytes (seal_batches secret (batches ++ later))) q (reply_bytes r) verdict
    → verdict ≡ Ok (Exact (length batches))
unfolding AuditOf IsOwned IsBadAt
audited secret batches later q r (Err (BadJournal index)) all numbers honest told =
    let es = seal_batches secret (batches ++ later) in
    absurd (never_bad (public_of_secret secret) (journal_bytes es) es index (owned secret (batches ++ later) all) told)
audited secret batches later q r (Err (Refused fault)) all numbers honest told =
    let first = sealable_first secret batches later all in
    absurd (never_refused fault (plain_answer batches q) (checked secret batches 0 q r (Err fault) first numbers honest (omega arith) told.2))
audited secret batches later q r (Err Memory) all numbers honest told = absurd told
audited secret batches later q r (Ok verdict) all numbers honest told =
    let es = seal_batches secret (batches ++ later) in
    let plain = plain_answer batches q in
    let first = sealable_first secret batches later all in
    let entries : told.0 ≡ es = one_owned (public_of_secret secret) (journal_bytes es) told.0 es told.1 (owned secret (batches ++ later) all) in
    let reply : told.2 ≡ r = one_reply (reply_bytes r) told.2 r told.3 (read secret batches q r first honest) in
    let answer : told.4 ≡ plain = same_answer told.4 plain (checked secret batches 0 q r (Ok told.4) first numbers honest (omega arith) told.5) in
    let v : IsVerdict es q r plain verdict =
    subst (λ (xs : List Entry). IsVerdict xs q r plain verdict) entries
    (subst (λ (s : Reply). IsVerdict told.0 q s plain verdict) reply (subst (λ (x : Answer). IsVerdict told.0 q told.2 x verdict) answer told.6)) in
    ap (λ (w : Verdict). Ok w) (only_exact secret batches later q r verdict all honest v)
