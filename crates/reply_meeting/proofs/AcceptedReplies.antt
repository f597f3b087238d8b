-- Replies that are accepted: no test refuses them.
use Rattle.std.proofs.Common.{◌≡◌, ◌==◌, ℕ, ◌≤◌, Bool, true, false, if◌then◌else◌, List, ◌∷◌, length, map, Option, Some, None, Result, Ok, Err, bytes_eq, refl, ◌⊎◌, inl, inr}
use Rattle.std.proofs.lemmas.Bool.{eqb-true}
use Rattle.vo_spec.specs.declared.checks.Answer.{Answer}
use Rattle.vo_spec.specs.declared.checks.CheckFault.{CheckFault}
use Rattle.vo_spec.specs.declared.checks.CheckFault.TheVariants.{Memory}
use Rattle.vo_spec.specs.Firsts.{first_some, unless}
use Rattle.vo_spec.specs.Conditions.{Query}
use Rattle.vo_spec.specs.Records.{catalog_digest}
use Rattle.vo_spec.specs.Replies.{Reply, IsReply, max_reply}
use Rattle.vo_spec.specs.Owners.{IsSigned}
use Rattle.vo_spec.specs.Checks.{key_fault, leaf_fault, signature_fault, age_fault, catalog_fault, count_fault, shape_fault, root_fault, missing_fault, surplus_fault, tables_wanted, trees_of, check_fault, answer_to, CheckOf}
use Rattle.vo_laws.proofs.JoinLaws.{is_bytes}
use Rattle.held_replies.proofs.AcceptedRecords.{of_no_fault}
use Rattle.reply_meeting.specs.Accepting.{IsAccepted, HasPassed}

none_of : (o : Option CheckFault) (a x : Answer) → Ok a ≡ unless o x → o ≡ None
none_of None a x e = refl
none_of (Some f) a x e = absurd (cc)

pub accepted : (key : List ℕ) (q : Query) (bytes : List ℕ) (r : Reply) (a : Answer) → (length bytes ≤ max_reply) × IsReply bytes r
    → (Ok a ≡ Err Memory) ⊎ (Ok a ≡ answer_to key 0 q r) → IsAccepted key q bytes r
unfolding answer_to
accepted key q bytes r a read (inl e) = absurd (cc)
accepted key q bytes r a read (inr e) = record { size = read.0; read = read.1; passed = none_of (check_fault key 0 q r) a _ e }

pub refused : (key : List ℕ) (q : Query) (bytes : List ℕ) (r : Reply) (fault : CheckFault) → (length bytes ≤ max_reply) × IsReply bytes r
    → (let refused : Result Answer CheckFault = Err fault in (refused ≡ Err Memory) ⊎ (refused ≡ answer_to key 0 q r)) → (fault ≡ Memory) ⊎ CheckOf key 0 q bytes (Err fault)
unfolding CheckOf
refused key q bytes r fault read (inl e) = inl (cc)
refused key q bytes r fault read (inr e) = inr (inr (inr (read.0, r, read.1, e)))

pub refused_unread : (key : List ℕ) (q : Query) (bytes : List ℕ) (fault : CheckFault)
    → (fault ≡ Memory) ⊎ ((key : List ℕ) (least : ℕ) (q : Query) → CheckOf key least q bytes (Err fault)) → (fault ≡ Memory) ⊎ CheckOf key 0 q bytes (Err fault)
refused_unread key q bytes fault (inl e) = inl e
refused_unread key q bytes fault (inr f) = inr (f key 0 q)

pub signed : (key : List ℕ) (q : Query) (bytes : List ℕ) (r : Reply) → IsAccepted key q bytes r → IsSigned key r.rec r.signature
signed key q bytes r is = (of_no_fault key 0 r q is.passed).0

-- Its later tests have passed.

pub none_first : {F : Type 0} (o : Option F) (os : List (Option F)) → first_some (o ∷ os) ≡ None → (o ≡ None) × (first_some os ≡ None)
none_first None os e = (refl, e)
none_first (Some f) os e = absurd (cc)

passes : (b : Bool) (f : CheckFault) → (if b then None else Some f) ≡ None → b ≡ true
passes true f e = refl
passes false f e = absurd (cc)

pub has_passed : (key : List ℕ) (q : Query) (r : Reply) → check_fault key 0 q r ≡ None → HasPassed q r
unfolding check_fault
has_passed key q r e =
    let after_key = (none_first (key_fault key r) _ e).1 in
    let after_leaf = (none_first (leaf_fault key r) _ after_key).1 in
    let after_signature = (none_first (signature_fault key r) _ after_leaf).1 in
    let after_age = (none_first (age_fault 0 r) _ after_signature).1 in
    let at_catalog = none_first (catalog_fault r) _ after_age in
    let at_count = none_first (count_fault q r) _ at_catalog.1 in
    let at_shape = none_first (shape_fault q r) _ at_count.1 in
    let at_roots = none_first (first_some (map root_fault (trees_of q r))) _ at_shape.1 in
    let at_missing = none_first (missing_fault q r) _ at_roots.1 in
    let at_surplus = none_first (surplus_fault q r) _ at_missing.1 in
    record {
      catalog = is_bytes r.rec.catalog (catalog_digest r.catalog) (passes (bytes_eq r.rec.catalog (catalog_digest r.catalog)) _ at_catalog.0);
      count = eqb-true (length r.trees) (length (tables_wanted q r.catalog)) (passes (length r.trees == length (tables_wanted q r.catalog)) _ at_count.0);
      roots = at_roots.0;
      complete = at_missing.0;
      minimal = at_surplus.0;
    }
