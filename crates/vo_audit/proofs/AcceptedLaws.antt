-- What a client's tests say of a reply that it accepts.
use Rattle.std.proofs.Common.{◌≡◌, ◌==◌, ℕ, Bool, true, false, if◌then◌else◌, List, [], ◌∷◌, length, map, Option, Some, None, Result, Ok, Err, bytes_eq, refl, sym, ap, ◌∙◌, subst, ◌⊎◌, inl, inr}
use Rattle.std.proofs.lemmas.Bool.{eqb-true}
use Rattle.vo_spec.specs.declared.checks.Answer.{Answer}
use Rattle.vo_spec.specs.declared.checks.CheckFault.{CheckFault}
use Rattle.vo_spec.specs.declared.checks.CheckFault.TheVariants as check
use Rattle.vo_spec.specs.declared.checks.AuditFault.{AuditFault}
use Rattle.vo_spec.specs.declared.checks.AuditFault.TheVariants.{BadJournal, Refused, Memory}
use Rattle.vo_spec.specs.declared.checks.Verdict.{Verdict}
use Rattle.vo_spec.specs.declared.checks.Verdict.TheVariants.{Unsigned, Exact, Collides}
use Rattle.vo_spec.specs.declared.records.Entry.{Entry}
use Rattle.vo_spec.specs.Firsts.{first_some, unless}
use Rattle.vo_spec.specs.Conditions.{Query}
use Rattle.vo_spec.specs.Records.{catalog_digest}
use Rattle.vo_spec.specs.Replies.{Reply, IsReply, max_reply}
use Rattle.vo_spec.specs.Checks.{key_fault, leaf_fault, signature_fault, age_fault, catalog_fault, count_fault, shape_fault, root_fault, missing_fault, surplus_fault, tables_wanted, trees_of, check_fault, answer_to, CheckOf}
use Rattle.vo_spec.specs.Audits.{AuditOf}
use Rattle.owner_roots.specs.Owners.{IsOwned, IsBadAt, OwnedAuditOf}
use Rattle.vo_laws.proofs.JoinLaws.{is_bytes}
use Rattle.held_replies.specs.Judging.{FitsWhereBound}
use Rattle.vo_audit.specs.Auditing.{HasPassed, AuditsReply, audit_fault, seen_answer}
use Rattle.owner_state.specs.declared.departures.Departure.{Departure}
use Rattle.owner_state.specs.Departing.{Departs}
use Rattle.vo_audit.specs.Showing.{AreFound, AreOfDeparture, AreOfProofs, AreShown, Shows, ShowsOf}
use Rattle.std.specs.Prelude.{◌≤◌, IfOk, IsSomeAnd}

unless_ok : {F A : Type 0} (o : Option F) (x y : A) → unless o x ≡ Ok y → (o ≡ None) × (y ≡ x)
unless_ok None x y e = (refl, cc)
unless_ok (Some f) x y e = absurd (cc)

-- the later tests of ten that pass
ten_pass : {F : Type 0} (a b c d e f g h i j : Option F) → first_some (a ∷ b ∷ c ∷ d ∷ e ∷ f ∷ g ∷ h ∷ i ∷ j ∷ []) ≡ None
    → (e ≡ None) × (f ≡ None) × (h ≡ None) × (i ≡ None)
ten_pass (Some x) b c d e f g h i j p = absurd (cc)
ten_pass None (Some x) c d e f g h i j p = absurd (cc)
ten_pass None None (Some x) d e f g h i j p = absurd (cc)
ten_pass None None None (Some x) e f g h i j p = absurd (cc)
ten_pass None None None None (Some x) f g h i j p = absurd (cc)
ten_pass None None None None None (Some x) g h i j p = absurd (cc)
ten_pass None None None None None None (Some x) h i j p = absurd (cc)
ten_pass None None None None None None None (Some x) i j p = absurd (cc)
ten_pass None None None None None None None None (Some x) j p = absurd (cc)
ten_pass None None None None None None None None None j p = (refl, refl, refl, refl)

passes : (b : Bool) (f : CheckFault) → (if b then None else Some f) ≡ None → b ≡ true
passes true f e = refl
passes false f e = absurd (cc)

pub record IsAccepted (q : Query) (r : Reply) (answer : Answer) : Type 0 where
  pub passed : HasPassed q r
  pub answer_is : answer ≡ seen_answer q r

pub accepted : (key : List ℕ) (q : Query) (r : Reply) (answer : Answer) → FitsWhereBound q r → answer_to key 0 q r ≡ Ok answer → IsAccepted q r answer
unfolding answer_to check_fault
accepted key q r answer numbers e =
    let all = unless_ok (check_fault key 0 q r) (seen_answer q r) answer e in
    let none = ten_pass (key_fault key r) (leaf_fault key r) (signature_fault key r) (age_fault 0 r) (catalog_fault r) (count_fault q r) (shape_fault q r)
    (first_some (map root_fault (trees_of q r))) (missing_fault q r) (surplus_fault q r) all.0 in
    record {
      passed = record {
        catalog = is_bytes r.rec.catalog (catalog_digest r.catalog) (passes (bytes_eq r.rec.catalog (catalog_digest r.catalog)) _ none.0);
        count = eqb-true (length r.trees) (length (tables_wanted q r.catalog)) (passes (length r.trees == length (tables_wanted q r.catalog)) _ none.1);
        roots = none.2;
        complete = none.3;
        numbers = numbers;
      };
      answer_is = all.1;
    }

-- what is told of a reply that was read is told of its bytes
pub told_of_bytes : (key journal bytes : List ℕ) (es : List Entry) (q : Query) (r : Reply) (answer : Result Verdict AuditFault)
    → IsOwned key journal es → length bytes ≤ max_reply → IsReply bytes r → AuditsReply key es q r answer
    → (answer ≡ Err Memory) ⊎ OwnedAuditOf key journal q bytes answer
unfolding AuditOf CheckOf IsOwned
told_of_bytes key journal bytes es q r (Err (BadJournal index)) owned short is told = absurd told
told_of_bytes key journal bytes es q r (Err (Refused fault)) owned short is told = inr (es, owned, inr (inr (short, r, is, sym told)))
told_of_bytes key journal bytes es q r (Err Memory) owned short is told = inl refl
told_of_bytes key journal bytes es q r (Ok verdict) owned short is told =
    inr (es, owned, r, is, told.0, inr (inr (short, r, is, sym told.1)), told.2)

-- the departure that a journal's reading gave is the first
of_departure : (key : List ℕ) (es : List Entry) (departure : Option Departure) (version : ℕ) (x y : List ℕ) → Departs key es departure
    → IsSomeAnd departure (λ (d : Departure). (d.index ≤ version) × AreOfProofs es d.index x y) → AreOfDeparture key es version x y
of_departure key es None version x y departs none = absurd none
of_departure key es (Some d) version x y departs found = (d.index, departs.0, found.0, found.1)

shown_by : (key : List ℕ) (es : List Entry) (departure : Option Departure) (q : Query) (r : Reply) (x y : List ℕ) → Departs key es departure
    → AreFound q r es departure x y → AreShown key q r es x y
shown_by key es departure q r x y departs (inl reply) = inl reply
shown_by key es departure q r x y departs (inr proofs) = inr (of_departure key es departure r.rec.version x y departs proofs)

shows_by : (key : List ℕ) (es : List Entry) (departure : Option Departure) (q : Query) (r : Reply) (verdict : Verdict) → Departs key es departure
    → Shows verdict (AreFound q r es departure) → Shows verdict (AreShown key q r es)
shows_by key es departure q r (Unsigned rec signature last) departs shows = tt
shows_by key es departure q r (Exact version) departs shows = tt
shows_by key es departure q r (Collides found) departs shows = shown_by key es departure q r found.0 found.1 departs shows

-- what is shown of a reply that was read is shown of its bytes
pub shown_of_bytes : {E : Type 0} (key journal bytes : List ℕ) (es : List Entry) (departure : Option Departure) (q : Query) (r : Reply) (given : Result Verdict E)
    → IsOwned key journal es → Departs key es departure → IsReply bytes r → IfOk given (λ verdict. Shows verdict (AreFound q r es departure))
    → IfOk given (λ verdict. ShowsOf key journal q bytes verdict)
shown_of_bytes key journal bytes es departure q r (Ok verdict) owned departs is shows = (es, owned, r, is, shows_by key es departure q r verdict departs shows)
shown_of_bytes key journal bytes es departure q r (Err fault) owned departs is shows = tt

memory_or_refused : (fault : CheckFault) → (audit_fault fault ≡ Memory) ⊎ (audit_fault fault ≡ Refused fault)
memory_or_refused check.Memory = inl refl
memory_or_refused fault = inr refl

-- why bytes are refused unread is told where the journal is an owner's
pub told_unread : (key journal bytes : List ℕ) (es : List Entry) (q : Query) (fault : CheckFault) (answer : Result Verdict AuditFault) → IsOwned key journal es
    → (fault ≡ check.Memory) ⊎ ((key : List ℕ) (least : ℕ) (q : Query) → CheckOf key least q bytes (Err fault)) → answer ≡ Err (audit_fault fault)
    → (answer ≡ Err Memory) ⊎ OwnedAuditOf key journal q bytes answer
unfolding AuditOf IsOwned
told_unread key journal bytes es q fault answer owned (inl out) is = inl (is ∙ ap (λ (f : CheckFault). Err (audit_fault f)) out)
told_unread key journal bytes es q fault answer owned (inr refused) is = step (memory_or_refused fault)
  where
    step : (audit_fault fault ≡ Memory) ⊎ (audit_fault fault ≡ Refused fault) → (answer ≡ Err Memory) ⊎ OwnedAuditOf key journal q bytes answer
    step (inl e) = inl (is ∙ ap (λ (f : AuditFault). Err f) e)
    step (inr e) = inr (subst (OwnedAuditOf key journal q bytes) (sym (is ∙ ap (λ (f : AuditFault). Err f) e)) (es, owned, refused key 0 q))

pub told_bad : (key journal bytes : List ℕ) (q : Query) (index : ℕ) (answer : Result Verdict AuditFault) → IsBadAt key journal index → answer ≡ Err (BadJournal index)
    → (answer ≡ Err Memory) ⊎ OwnedAuditOf key journal q bytes answer
unfolding AuditOf IsBadAt
told_bad key journal bytes q index answer bad is = inr (subst (OwnedAuditOf key journal q bytes) (sym is) bad)

-- an answer that a client gives
pub judged : (key : List ℕ) (q : Query) (r : Reply) (answer : Answer) → FitsWhereBound q r → (Ok answer ≡ Err check.Memory) ⊎ (Ok answer ≡ answer_to key 0 q r) → IsAccepted q r answer
judged key q r answer numbers (inl e) = absurd (cc)
judged key q r answer numbers (inr e) = accepted key q r answer numbers (sym e)
