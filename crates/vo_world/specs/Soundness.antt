-- What owners, readers and auditors may rely on in a world, whatever happened in it.
use Rattle.std.specs.Prelude.{◌≡◌, ℕ, List, Ok, Result, Contains}
use Rattle.std.specs.List.{AllByRecursion}
use Rattle.outside.specs.DiskModel.{LeftSince, MayLeave}
use Rattle.vo_spec.specs.declared.checks.Answer.{Answer}
use Rattle.vo_spec.specs.declared.checks.AuditFault.{AuditFault}
use Rattle.vo_spec.specs.declared.checks.Verdict.{Verdict}
use Rattle.vo_spec.specs.declared.checks.Verdict.TheVariants.{Unsigned}
use Rattle.vo_spec.specs.declared.records.Entry.{Entry}
use Rattle.vo_spec.specs.declared.records.Record.{Record}
use Rattle.vo_spec.specs.Conditions.{query_of}
use Rattle.vo_spec.specs.Secret.{Secret, public_of_secret}
use Rattle.owner_roots.specs.Owners.{IsOwned, OwnedAuditOf}
use Rattle.honest_peers.specs.Accepting.{AcceptsReply, IsJudged}
use Rattle.honest_peers.specs.Crashes.{HoldsEach}
use Rattle.vo_world.specs.declared.events.AcceptedReply.{AcceptedReply}
use Rattle.vo_world.specs.Keeping.{NeverFall}
use Rattle.vo_world.specs.Steps.{gain_records}
use Rattle.vo_world.specs.WorldModel.{WorldModel, records_of}

-- all that was released by now, the journal's records among it
abbrev pub released_in : WorldModel → List Record
released_in w = gain_records w.released (records_of w.entries)

-- The bytes are the owner's journal, and it has each of these records at its version.
pub record HoldsReleased (key : Secret) (released : List Record) (bytes : List ℕ) : Type 0 where
  pub entries : List Entry
  pub owned : IsOwned (public_of_secret key) bytes entries
  pub holds : HoldsEach entries released

-- A reply that was accepted has a validly signed record of its version, and whatever an audit by
-- the journal says of it is a verdict on the client's own answer; that its record isn't in the
-- journal is said only of one that was never released.
pub record IsAudited (w : WorldModel) (reply : AcceptedReply) : Type 0 where
  pub answer : Answer
  pub version : answer.version ≡ reply.version
  pub least : ℕ
  pub accepts : AcceptsReply (public_of_secret w.key) least (query_of reply.query) reply.bytes
      answer
  pub judged : (verdict : Result Verdict AuditFault)
      → OwnedAuditOf (public_of_secret w.key) w.drive.seen (query_of reply.query) reply.bytes
      verdict → IsJudged w.entries (query_of reply.query) reply.bytes answer verdict
  pub unsigned : (rec : Record) (signature : List ℕ) (last : ℕ)
      → OwnedAuditOf (public_of_secret w.key) w.drive.seen (query_of reply.query) reply.bytes
      (Ok (Unsigned rec signature last)) → Contains (released_in w) rec → ⊥

pub record IsSound (w : WorldModel) : Type 0 where
  -- the journal is the owner's
  pub owned : IsOwned (public_of_secret w.key) w.drive.seen w.entries
  -- a stop inside the last event takes no released record away, and one now none of all
  pub stopped : (image : List ℕ) → LeftSince w.drive w.since image
      → HoldsReleased w.key w.released image
  pub stopped_now : (image : List ℕ) → MayLeave w.drive image
      → HoldsReleased w.key (released_in w) image
  -- no leaf has signed two of them
  pub one_each : (a b : Record) → Contains (released_in w) a → Contains (released_in w) b
      → a.version ≡ b.version → a ≡ b
  -- no client goes back
  pub rising : NeverFall w.accepted
  pub audited : AllByRecursion (IsAudited w) w.accepted
