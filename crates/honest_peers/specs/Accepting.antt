-- What is known of a reply that a client accepts, and of an audit of it.
use Rattle.std.specs.Prelude.{◌≡◌, ℕ, ◌≤◌, List, Result, Ok}
use Rattle.vo_spec.specs.declared.checks.Answer.{Answer}
use Rattle.vo_spec.specs.declared.checks.AuditFault.{AuditFault}
use Rattle.vo_spec.specs.declared.checks.Verdict.{Verdict}
use Rattle.vo_spec.specs.declared.checks.Verdict.TheVariants.{Collides as Collide}
use Rattle.vo_spec.specs.declared.records.Entry.{Entry}
use Rattle.vo_spec.specs.Audits.{IsVerdict}
use Rattle.vo_spec.specs.Checks.{CheckOf}
use Rattle.vo_spec.specs.Conditions.{Query}
use Rattle.vo_spec.specs.Owners.{IsSigned}
use Rattle.vo_spec.specs.Replies.{IsReply, Reply}

-- The bytes are a reply whose record is validly signed, of the answer's version, which is not below
-- the least one; and a client that takes any version answers the same.
pub record AcceptsReply (key : List ℕ) (least : ℕ) (q : Query) (bytes : List ℕ) (answer : Answer)
    : Type 0 where
  pub reply : Reply
  pub read : IsReply bytes reply
  pub signed : IsSigned key reply.rec reply.signature
  pub version : answer.version ≡ reply.rec.version
  pub age : least ≤ answer.version
  pub by_any : CheckOf key 0 q bytes (Ok answer)

-- The audit has a verdict, and it judges this very answer: the journal doesn't hold the reply's
-- record; or the answer is the query's result on the tables of its version; or two strings collide.
pub record IsJudged (es : List Entry) (q : Query) (bytes : List ℕ) (answer : Answer)
    (verdict : Result Verdict AuditFault) : Type 0 where
  pub found : Verdict
  pub told : verdict ≡ Ok found
  pub reply : Reply
  pub read : IsReply bytes reply
  pub judges : IsVerdict es q reply answer found

-- Two audits say the same, but for the strings that show a collision.
abbrev pub SaysSame : Result Verdict AuditFault → Result Verdict AuditFault → Type 0
SaysSame (Ok (Collide found)) (Ok (Collide other)) = Unit {0}
SaysSame a b = a ≡ b
