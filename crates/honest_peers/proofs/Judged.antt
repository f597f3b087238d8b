-- What a client accepts an audit judges, and refuses in no case.
use Rattle.std.proofs.Common.{◌≡◌, ℕ, ◌≤◌, Bool, true, false, if◌then◌else◌, List, ◌∷◌, Option, Some, None, Result, Ok, Err, refl, sym, ap, subst, ◌∙◌, inl, inr, arith}
use Rattle.std.specs.Prelude.{nat_lt}
use Rattle.std.proofs.lemmas.Bool.Decides.{nat_tests}
use Rattle.vo_spec.specs.declared.checks.Answer.{Answer}
use Rattle.vo_spec.specs.declared.checks.AuditFault.{AuditFault}
use Rattle.vo_spec.specs.declared.checks.AuditFault.TheVariants.{BadJournal, Refused, Memory}
use Rattle.vo_spec.specs.declared.checks.CheckFault.{CheckFault}
use Rattle.vo_spec.specs.declared.checks.CheckFault.TheVariants.{Stale}
use Rattle.vo_spec.specs.declared.checks.Verdict.{Verdict}
use Rattle.vo_spec.specs.declared.records.Entry.{Entry}
use Rattle.vo_spec.specs.Audits.{AuditOf, IsVerdict}
use Rattle.vo_spec.specs.Checks.{CheckOf, age_fault, answer_to, check_fault, key_fault, leaf_fault, seen_outcome, signature_fault}
use Rattle.vo_spec.specs.Conditions.{Query}
use Rattle.vo_spec.specs.Firsts.{first_some, unless}
use Rattle.vo_spec.specs.Replies.{Reply}
use Rattle.owner_roots.specs.Owners.{IsBadAt, IsOwned, OwnedAuditOf}
use Rattle.held_replies.proofs.AcceptedRecords.{of_no_fault}
use Rattle.honest_peers.proofs.AskLaws.{one_check}
use Rattle.honest_peers.proofs.OneVerdict.{answer_is}
use Rattle.workload_run.proofs.Readings.{never_bad, one_owned}
use Rattle.honest_peers.specs.Accepting.{AcceptsReply, IsJudged}

-- No version is below the least one of all.

swap_fourth : {F : Type 0} (a b c d e : Option F) (rest : List (Option F)) → e ≡ None
    → first_some (a ∷ b ∷ c ∷ d ∷ rest) ≡ None → first_some (a ∷ b ∷ c ∷ e ∷ rest) ≡ None
swap_fourth (Some f) b c d e rest is none = absurd (cc)
swap_fourth None (Some f) c d e rest is none = absurd (cc)
swap_fourth None None (Some f) d e rest is none = absurd (cc)
swap_fourth None None None (Some f) e rest is none = absurd (cc)
swap_fourth None None None None (Some f) rest is none = absurd (cc)
swap_fourth None None None None None rest is none = none

unless_tested : (b : Bool) (f : CheckFault) → b ≡ false → (if b then Some f else None) ≡ None
unless_tested false f e = refl
unless_tested true f e = absurd (cc)

young : (r : Reply) → age_fault 0 r ≡ None
young r =
    let below : nat_lt r.rec.version 0 ≡ false = grind (arith, nat_tests) in
    unless_tested (nat_lt r.rec.version 0) (Stale 0 r.rec.version) below

module _ (key : List ℕ) (least : ℕ) (q : Query) (r : Reply) where
  passes_at_least : check_fault key least q r ≡ None → check_fault key 0 q r ≡ None
  unfolding check_fault
  passes_at_least none =
      swap_fourth (key_fault key r) (leaf_fault key r) (signature_fault key r) (age_fault least r) (age_fault 0 r) _ (young r) none

  abbrev seen : Answer
  seen = record { version = r.rec.version; outcome = seen_outcome q r.catalog r.trees }

  -- what is answered where no test refuses
  pub record Passed (answer : Answer) : Type 0 where
    pub none : check_fault key least q r ≡ None
    pub is : answer ≡ seen

  passed_by : (o : Option CheckFault) (answer : Answer) → check_fault key least q r ≡ o → Ok answer ≡ unless o seen → Passed answer
  passed_by None answer none e = record { none = none; is = cc }
  passed_by (Some f) answer some e = absurd (cc)

  passed : (answer : Answer) → Ok answer ≡ answer_to key least q r → Passed answer
  unfolding answer_to
  passed answer e = passed_by (check_fault key least q r) answer refl e

  abbrev ok : Answer → Result Answer CheckFault
  ok answer = Ok answer

  answered : (answer : Answer) → Passed answer → ok answer ≡ answer_to key 0 q r
  unfolding answer_to
  answered answer p = ap ok p.is ∙ ap (λ (o : Option CheckFault). unless o seen) (sym (passes_at_least p.none))

module _ (key : List ℕ) (least : ℕ) (q : Query) (bytes : List ℕ) (answer : Answer) where
  pub accepts_reply : CheckOf key least q bytes (Ok answer) → AcceptsReply key least q bytes answer
  unfolding CheckOf
  accepts_reply (inl x) = absurd (cc)
  accepts_reply (inr (inl x)) = absurd (cc)
  accepts_reply (inr (inr x)) =
      let r = x.1 in
      let p = passed key least q r answer x.3 in
      let known = of_no_fault key least r q p.none in
      let version : answer.version ≡ r.rec.version = ap (λ (a : Answer). a.version) p.is in
      record {
        reply = r;
        read = x.2;
        signed = known.0;
        version = version;
        age = subst (λ (v : ℕ). least ≤ v) (sym version) known.1;
        by_any = inr (inr (x.0, r, x.2, answered key least q r answer p));
      }

  never_refused : (journal : List ℕ) (fault : CheckFault) → CheckOf key 0 q bytes (Ok answer) → OwnedAuditOf key journal q bytes (Err (Refused fault)) → ⊥
  unfolding AuditOf
  never_refused journal fault accepted refused =
      let same = one_check key 0 q bytes (Ok answer) (Err fault) accepted refused.2 in absurd (cc)

  pub judged : (journal : List ℕ) (es : List Entry) (verdict : Result Verdict AuditFault) → IsOwned key journal es
      → CheckOf key least q bytes (Ok answer) → OwnedAuditOf key journal q bytes verdict → IsJudged es q bytes answer verdict
  unfolding AuditOf IsOwned IsBadAt
  judged journal es (Err (BadJournal index)) owned accepted told = absurd (never_bad key journal es index owned told)
  judged journal es (Err (Refused fault)) owned accepted told =
      absurd (never_refused journal fault (accepts_reply accepted).by_any told)
  judged journal es (Err Memory) owned accepted told = absurd told
  judged journal es (Ok verdict) owned accepted told =
      let entries : told.0 ≡ es = one_owned key journal told.0 es told.1 owned in
      let same : told.4 ≡ answer = answer_is key q bytes told.4 answer told.5 (accepts_reply accepted).by_any in
      record {
        found = verdict;
        told = refl;
        reply = told.2;
        read = told.3;
        judges = subst (λ (a : Answer). IsVerdict es q told.2 a verdict) same
            (subst (λ (xs : List Entry). IsVerdict xs q told.2 told.4 verdict) entries told.6);
      }
