-- A reply that no test refuses has a signed record.
use Rattle.std.proofs.Common.{◌≡◌, ℕ, ◌≤◌, ◌==◌, Bool, true, false, if◌then◌else◌, List, ◌∷◌, length, Option, Some, None, Result, Ok, Err, IfOk, refl, sym, ap, ◌∙◌, ◌⊎◌, inl, inr, arith}
use Rattle.std.specs.Prelude.{nat_lt, option_and_then}
use Rattle.std.proofs.lemmas.Bool.{eqb-true}
use Rattle.std.proofs.lemmas.Bool.Decides.{nat_tests}
use Rattle.vo_spec.specs.declared.checks.Answer.{Answer}
use Rattle.vo_spec.specs.declared.checks.CheckFault.{CheckFault}
use Rattle.vo_spec.specs.declared.checks.CheckFault.TheVariants.{Memory, WrongLeaf, Stale}
use Rattle.vo_spec.specs.Firsts.{first_some, unless}
use Rattle.vo_spec.specs.Conditions.{Query}
use Rattle.vo_spec.specs.Records.{record_bytes}
use Rattle.vo_spec.specs.Replies.{Reply, IsReply, max_reply}
use Rattle.vo_spec.specs.Keys.{lms_valid, leaf_of}
use Rattle.vo_spec.specs.Checks.{key_fault, leaf_fault, signature_fault, age_fault, check_fault, seen_outcome, answer_to, CheckOf}
use Rattle.vo_spec.specs.Owners.{IsSigned}
use Rattle.lms_sign.proofs.ValidSignatures.{told_of_valid}
use Rattle.held_replies.specs.Accepting.{IsSignedReply}

-- no test of a list refuses
none_first : {F : Type 0} (o : Option F) (others : List (Option F)) → first_some (o ∷ others) ≡ None → (o ≡ None) × (first_some others ≡ None)
none_first None others e = (refl, e)
none_first (Some f) others e = absurd cc

passed : (b : Bool) (f : CheckFault) → (if b then None else Some f) ≡ None → b ≡ true
passed true f e = refl
passed false f e = absurd cc

not_refused : (b : Bool) (f : CheckFault) → (if b then Some f else None) ≡ None → b ≡ false
not_refused true f e = absurd cc
not_refused false f e = refl

has_leaf : (key message signature : List ℕ) → lms_valid key message signature ≡ true → leaf_of key signature ≡ None → ⊥
has_leaf key message signature valid none = not_none (sym (told_of_valid key message signature valid).leaf_is ∙ none)
  where
    not_none : {q : ℕ} → Some q ≡ None → ⊥
    not_none e = absurd cc

module _ (key : List ℕ) (least : ℕ) (r : Reply) where
  by_leaf : (o : Option ℕ) → leaf_of key r.signature ≡ o → option_and_then (λ q. if q == r.rec.version then None else Some (WrongLeaf r.rec.version q)) o ≡ None
      → lms_valid key (record_bytes r.rec) r.signature ≡ true → leaf_of key r.signature ≡ Some r.rec.version
  by_leaf None is e valid = absurd (has_leaf key (record_bytes r.rec) r.signature valid is)
  by_leaf (Some q) is e valid = is ∙ ap Some (eqb-true q r.rec.version (passed (q == r.rec.version) (WrongLeaf r.rec.version q) e))

  not_older : age_fault least r ≡ None → least ≤ r.rec.version
  not_older e = let below : nat_lt r.rec.version least ≡ false = not_refused (nat_lt r.rec.version least) (Stale least r.rec.version) e in grind (arith, nat_tests)

  module _ (q : Query) where
    pub of_no_fault : check_fault key least q r ≡ None → IsSigned key r.rec r.signature × (least ≤ r.rec.version)
    unfolding check_fault
    of_no_fault e =
        let after_key = (none_first (key_fault key r) _ e).1 in
        let at_leaf = none_first (leaf_fault key r) _ after_key in
        let at_signature = none_first (signature_fault key r) _ at_leaf.1 in
        let at_age = none_first (age_fault least r) _ at_signature.1 in
        let valid = passed (lms_valid key (record_bytes r.rec) r.signature) _ at_signature.0 in
        (record { leaf = by_leaf (leaf_of key r.signature) refl at_leaf.0 valid; valid = valid }, not_older at_age.0)

    by_fault : (bytes : List ℕ) → IsReply bytes r → (a : Answer) (o : Option CheckFault) → check_fault key least q r ≡ o
        → Ok a ≡ unless o (record { version = r.rec.version; outcome = seen_outcome q r.catalog r.trees }) → IsSignedReply key least bytes a.version
    by_fault bytes read a (Some f) is e = absurd cc
    by_fault bytes read a None is e =
        let known = of_no_fault is in
        let same : a ≡ record { version = r.rec.version; outcome = seen_outcome q r.catalog r.trees } = cc in
        record { reply = r; read = read; signed = known.0; age = known.1; version_is = ap (λ (x : Answer). x.version) same }

pub accepted : (key : List ℕ) (least : ℕ) (q : Query) (bytes : List ℕ) (r : Result Answer CheckFault) → (r ≡ Err Memory) ⊎ CheckOf key least q bytes r
    → IfOk r (λ answer. IsSignedReply key least bytes answer.version)
unfolding CheckOf answer_to
accepted key least q bytes (Err f) h = tt
accepted key least q bytes (Ok a) (inl e) = absurd cc
accepted key least q bytes (Ok a) (inr (inl (_, e))) = absurd cc
accepted key least q bytes (Ok a) (inr (inr (inl (_, _, e)))) = absurd cc
accepted key least q bytes (Ok a) (inr (inr (inr (_, reply, read, e)))) = by_fault key least reply q bytes read a (check_fault key least q reply) refl e

-- the same of a reply that was read
pub judged : (key : List ℕ) (least : ℕ) (q : Query) (bytes : List ℕ) (reply : Reply) (r : Result Answer CheckFault) → (length bytes ≤ max_reply) × IsReply bytes reply
    → (r ≡ Err Memory) ⊎ (r ≡ answer_to key least q reply) → IfOk r (λ answer. IsSignedReply key least bytes answer.version)
unfolding CheckOf
judged key least q bytes reply r read (inl out) = accepted key least q bytes r (inl out)
judged key least q bytes reply r read (inr e) = accepted key least q bytes r (inr (inr (inr (read.0, reply, read.1, e))))
