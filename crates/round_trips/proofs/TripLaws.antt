-- What a client and an auditor say of the honest reply by a sealed journal.
use Rattle.std.proofs.Common.{◌≡◌, ℕ, ◌≤◌, List, ◌++◌, length, Result, Ok, refl, sym, ap, ◌∙◌, subst, inr, arith}
use Rattle.vo_spec.specs.declared.tables.Command.{Command}
use Rattle.vo_spec.specs.declared.tables.Table.{Table}
use Rattle.vo_spec.specs.declared.records.Record.{Record}
use Rattle.vo_spec.specs.declared.records.Entry.{Entry}
use Rattle.vo_spec.specs.declared.queries.Outcome.{Outcome}
use Rattle.vo_spec.specs.declared.checks.Answer.{Answer}
use Rattle.vo_spec.specs.declared.checks.CheckFault.{CheckFault}
use Rattle.vo_spec.specs.declared.checks.Verdict.{Verdict}
use Rattle.vo_spec.specs.declared.checks.Verdict.TheVariants.{Unsigned, Exact, Collides as Collide}
use Rattle.vo_spec.specs.Audits.{AuditOf, IsVerdict}
use Rattle.vo_spec.specs.Checks.{CheckOf, answer_to}
use Rattle.vo_spec.specs.Conditions.{FitsQuery, Query}
use Rattle.vo_spec.specs.Results.{result}
use Rattle.vo_spec.specs.Tables.{tables_after}
use Rattle.vo_spec.specs.Honest.{honest_record, seal_batches}
use Rattle.vo_spec.specs.Journals.{Holds, journal_bytes, tables_at}
use Rattle.vo_spec.specs.Replies.{Reply, IsReply, reply_bytes, max_reply}
use Rattle.vo_spec.specs.Secret.{Secret, public_of_secret}
use Rattle.vo_laws.proofs.CompleteReplies.{honest_answer}
use Rattle.owner_roots.specs.Owners.{IsOwned, OwnedAuditOf}
use Rattle.round_trips.specs.Trips.{AreSealable, IsHonestReply, plain_answer}
use Rattle.round_trips.proofs.SealedJournals.{owned}
use Rattle.round_trips.proofs.Entries.{holds, reply_after, sealable_first, tables_are, within_limits}

-- The client.

abbrev with_version : ℕ → Outcome → Result Answer CheckFault
with_version version outcome = Ok (record { version = version; outcome = outcome })

pub answer_is : (secret : Secret) (batches : List (List Command)) (least : ℕ) (q : Query) (r : Reply) → AreSealable secret batches → FitsQuery q
    → IsHonestReply secret batches q r → least ≤ length batches → answer_to (public_of_secret secret) least q r ≡ Ok (plain_answer batches q)
unfolding honest_record
answer_is secret batches least q r all numbers honest recent =
    let key = public_of_secret secret in
    let after = reply_after secret batches q r all honest.0 in
    let version : after.entry.rec.version ≡ length batches = ap (λ (rec : Record). rec.version) after.record_is in
    ap (answer_to key least q) after.is
    ∙ honest_answer batches key (length batches) least q after.entry.rec after.entry.signature all.fit after.record_is after.signed
    (subst (λ (v : ℕ). least ≤ v) (sym version) recent) numbers
    ∙ ap (λ (v : ℕ). with_version v (result q (tables_after batches))) version

said : (key : List ℕ) (least : ℕ) (q : Query) (r : Reply) (plain : Answer) → IsReply (reply_bytes r) r → answer_to key least q r ≡ Ok plain
    → length (reply_bytes r) ≤ max_reply → CheckOf key least q (reply_bytes r) (Ok plain)
unfolding CheckOf
said key least q r plain is told short = inr (inr (short, r, is, sym told))

-- The auditor.

verdict_is : (es : List Entry) (q : Query) (r : Reply) (answer : Answer) (verdict : Verdict) → Holds es r.rec
    → answer.outcome ≡ result q (tables_at answer.version es) → IsVerdict es q r answer verdict → verdict ≡ Exact answer.version
unfolding IsVerdict
verdict_is es q r answer (Unsigned rec signature last) held right v = absurd (v.0 held)
verdict_is es q r answer (Exact version) held right v = ap (λ (n : ℕ). Exact n) v.2
verdict_is es q r answer (Collide found) held right v = absurd (v.1 right)

exact : (es : List Entry) (q : Query) (r : Reply) (answer : Answer) → Holds es r.rec → answer.outcome ≡ result q (tables_at answer.version es)
    → IsVerdict es q r answer (Exact answer.version)
unfolding IsVerdict
exact es q r answer held right = (held, right, refl)

pub read : (secret : Secret) (batches : List (List Command)) (q : Query) (r : Reply) → AreSealable secret batches → IsHonestReply secret batches q r
    → IsReply (reply_bytes r) r
read secret batches q r all honest =
    record { fits = within_limits secret batches q r all.fit (reply_after secret batches q r all honest.0); encoded = refl }

pub checked : (secret : Secret) (batches : List (List Command)) (least : ℕ) (q : Query) (r : Reply) → AreSealable secret batches → FitsQuery q
    → IsHonestReply secret batches q r → least ≤ length batches → CheckOf (public_of_secret secret) least q (reply_bytes r) (Ok (plain_answer batches q))
checked secret batches least q r all numbers honest recent =
    said (public_of_secret secret) least q r (plain_answer batches q) (read secret batches q r all honest)
    (answer_is secret batches least q r all numbers honest recent) honest.1

right : (secret : Secret) (batches later : List (List Command)) (q : Query)
    → (plain_answer batches q).outcome ≡ result q (tables_at (length batches) (seal_batches secret (batches ++ later)))
right secret batches later q = ap (λ (tables : List Table). result q tables) (sym (tables_are secret batches later))

held : (secret : Secret) (batches later : List (List Command)) (q : Query) (r : Reply) → AreSealable secret (batches ++ later)
    → IsHonestReply secret batches q r → Holds (seal_batches secret (batches ++ later)) r.rec
held secret batches later q r all honest =
    holds secret batches later q r (reply_after secret batches q r (sealable_first secret batches later all) honest.0) all

pub only_exact : (secret : Secret) (batches later : List (List Command)) (q : Query) (r : Reply) (verdict : Verdict) → AreSealable secret (batches ++ later)
    → IsHonestReply secret batches q r → IsVerdict (seal_batches secret (batches ++ later)) q r (plain_answer batches q) verdict → verdict ≡ Exact (length batches)
only_exact secret batches later q r verdict all honest v =
    verdict_is (seal_batches secret (batches ++ later)) q r (plain_answer batches q) verdict (held secret batches later q r all honest) (right secret batches later q) v

pub audited : (secret : Secret) (batches later : List (List Command)) (q : Query) (r : Reply) → AreSealable secret (batches ++ later) → FitsQuery q
    → IsHonestReply secret batches q r
    → OwnedAuditOf (public_of_secret secret) (journal_bytes (seal_batches secret (batches ++ later))) q (reply_bytes r) (Ok (Exact (length batches)))
unfolding AuditOf IsOwned
audited secret batches later q r all numbers honest =
    let first = sealable_first secret batches later all in
    let es = seal_batches secret (batches ++ later) in
    let plain = plain_answer batches q in (
      es,
      owned secret (batches ++ later) all,
      r,
      read secret batches q r first honest,
      plain,
      checked secret batches 0 q r first numbers honest (omega arith),
      exact es q r plain (held secret batches later q r all honest) (right secret batches later q),
    )
