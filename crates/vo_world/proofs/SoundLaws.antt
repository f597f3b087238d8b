-- What a world comes to is sound.
use Rattle.std.proofs.Common.{◌≡◌, ℕ, List, Result, Ok, sym, subst}
use Rattle.std.specs.Prelude.{Contains}
use Rattle.outside.specs.DiskModel.{MayLeave}
use Rattle.vo_spec.specs.declared.checks.AuditFault.{AuditFault}
use Rattle.vo_spec.specs.declared.checks.Verdict.{Verdict}
use Rattle.vo_spec.specs.declared.checks.Verdict.TheVariants.{Unsigned}
use Rattle.vo_spec.specs.declared.records.Entry.{Entry}
use Rattle.vo_spec.specs.declared.records.Record.{Record}
use Rattle.vo_spec.specs.Audits.{AuditOf, IsVerdict}
use Rattle.vo_spec.specs.Conditions.{query_of}
use Rattle.vo_spec.specs.Journals.{Holds, IsJournal}
use Rattle.vo_spec.specs.Secret.{Secret, public_of_secret}
use Rattle.vo_laws.specs.Sealing.{SignsValidly}
use Rattle.owner_roots.specs.declared.roots.Roots.{Roots}
use Rattle.owner_roots.specs.Owners.{IsOwned, OwnedAuditOf}
use Rattle.owner_state.specs.Stepping.{AreStepsTo}
use Rattle.owner_journal.proofs.RestLaws.{rest_holds}
use Rattle.honest_peers.specs.Accepting.{IsJudged}
use Rattle.honest_peers.specs.Crashes.{HoldsEach}
use Rattle.honest_peers.proofs.Judged.{accepts_reply, judged}
use Rattle.honest_peers.proofs.OwnedSteps.{journal_owned}
use Rattle.workload_run.proofs.Readings.{one_owned}
use Rattle.honest_peers.proofs.HeldLaws.{each, one_held, one_of}
use Rattle.vo_world.specs.declared.events.AcceptedReply.{AcceptedReply}
use Rattle.vo_world.specs.declared.events.Event.{Event}
use Rattle.vo_world.specs.declared.events.Said.{Said}
use Rattle.vo_world.specs.Keeping.{IsAccepted, IsSafe, Keeps}
use Rattle.vo_world.specs.Runs.{Runs}
use Rattle.vo_world.specs.Soundness.{HoldsReleased, IsAudited, IsSound, released_in}
use Rattle.vo_world.specs.Steps.{start}
use Rattle.vo_world.specs.WorldModel.{WorldModel, records_of}
use Rattle.vo_world.proofs.Disks.{seen_is}
use Rattle.vo_world.proofs.HeldRecords.{gained_all, own_held}
use Rattle.vo_world.proofs.RunLaws.{run_keeps}
use Rattle.vo_world.proofs.StepLaws.{start_keeps}

module _ (w : WorldModel) (keeps : Keeps w) where
  abbrev key : List ℕ
  key = public_of_secret w.key

  owned_by : (bytes : List ℕ) (es : List Entry) (roots : Roots) → AreStepsTo w.key es roots → IsJournal bytes es → IsOwned key bytes es
  owned_by bytes es roots steps is = journal_owned w.key keeps.signs bytes es roots steps is

  owned : IsOwned key w.drive.seen w.entries
  owned = owned_by w.drive.seen w.entries w.roots keeps.steps (seen_is w.entries w.drive keeps.rest)

  -- the journal has all that was released by now
  holds_all : HoldsEach w.entries (released_in w)
  holds_all = gained_all (Holds w.entries) w.released (records_of w.entries) keeps.holds (own_held w.key w.entries w.roots keeps.steps)

  safely : (image : List ℕ) → IsSafe w.key w.released image → HoldsReleased w.key w.released image
  safely image safe = record { entries = safe.entries; owned = owned_by image safe.entries safe.roots safe.steps safe.is; holds = safe.holds }

  now_safely : (image : List ℕ) → MayLeave w.drive image → HoldsReleased w.key (released_in w) image
  now_safely image left = record {
    entries = w.entries;
    owned = owned_by image w.entries w.roots keeps.steps (rest_holds w.entries w.drive keeps.rest image left);
    holds = holds_all;
  }

  held : (rec : Record) → Contains (released_in w) rec → Holds w.entries rec
  held rec one = one_of (Holds w.entries) (released_in w) rec holds_all one

  module _ (reply : AcceptedReply) (accepted : IsAccepted key reply) where
    verdict_on : (verdict : Result Verdict AuditFault) → OwnedAuditOf key w.drive.seen (query_of reply.query) reply.bytes verdict
        → IsJudged w.entries (query_of reply.query) reply.bytes accepted.answer verdict
    verdict_on verdict told =
        judged key accepted.least (query_of reply.query) reply.bytes accepted.answer w.drive.seen w.entries verdict owned accepted.checked told

    -- what isn't in the journal was never released
    never_released : (rec : Record) (signature : List ℕ) (last : ℕ)
        → OwnedAuditOf key w.drive.seen (query_of reply.query) reply.bytes (Ok (Unsigned rec signature last)) → Contains (released_in w) rec → ⊥
    unfolding AuditOf IsVerdict IsOwned
    never_released rec signature last told one =
        let same : told.0 ≡ w.entries = one_owned key w.drive.seen told.0 w.entries told.1 owned in
        told.6.0 (subst (λ (es : List Entry). Holds es told.2.rec) (sym same) (subst (Holds w.entries) told.6.1 (held rec one)))

  audited : (reply : AcceptedReply) → IsAccepted key reply → IsAudited w reply
  audited reply accepted = record {
    answer = accepted.answer;
    version = accepted.version;
    least = accepted.least;
    accepts = accepts_reply key accepted.least (query_of reply.query) reply.bytes accepted.answer accepted.checked;
    judged = verdict_on reply accepted;
    unsigned = never_released reply accepted;
  }

  pub sound : IsSound w
  sound = record {
    owned = owned;
    stopped = λ image left. safely image (keeps.left image left);
    stopped_now = now_safely;
    one_each = λ a b first second same. one_held w.entries a b (held a first) (held b second) same;
    rising = keeps.rising;
    audited = each (IsAccepted key) (IsAudited w) w.accepted audited keeps.checked;
  }

pub run_sound : (secret : Secret) (clients : ℕ) (events : List Event) (said : List Said) (w : WorldModel) → SignsValidly secret
    → Runs (start secret clients) events said w → IsSound w
run_sound secret clients events said w signs runs =
    sound w (run_keeps (start secret clients) events said w (start_keeps secret clients signs) runs)
