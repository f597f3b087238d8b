-- Verdicts by whether the journal holds the record.
use Rattle.std.proofs.Common.{◌≡◌, ℕ, ◌-◌, ◌<◌, List, length, Bool, true, false, Option, Some, None, option_map, Result, Ok, Err, refl, sym, ap, subst}
use Rattle.std.specs.Prelude.{◌↔◌, IfOk, IsSome, IsTrue, slice_get}
use Rattle.std.proofs.lemmas.Option.{slice_get_within}
use Rattle.vo_spec.specs.declared.records.Record.{Record}
use Rattle.vo_spec.specs.declared.records.Entry.{Entry}
use Rattle.vo_spec.specs.declared.checks.Answer.{Answer}
use Rattle.vo_spec.specs.declared.checks.Verdict.{Verdict}
use Rattle.vo_spec.specs.declared.checks.Verdict.TheVariants.{Unsigned, Exact, Collides}
use Rattle.vo_spec.specs.Conditions.{Query}
use Rattle.vo_spec.specs.Journals.{Holds, tables_at}
use Rattle.vo_spec.specs.Replies.{Reply}
use Rattle.vo_spec.specs.Results.{result}
use Rattle.vo_spec.specs.Audits.{IsVerdict}
use Rattle.vo_audit.specs.Auditing.{IsHeldVerdict, seen_answer}

pub none_is_some : {A : Type 0} (found : Option A) → found ≡ None → IsSome found → ⊥
none_is_some None e some = absurd (cc)
none_is_some (Some x) e some = absurd (cc)

-- what a test of entries tells of the same entries by another name
pub not_held : (es given : List Entry) (rec : Record) (b : Bool) → (IsTrue b ↔ Holds given rec) → given ≡ es → b ≡ false → Holds es rec → ⊥
not_held es given rec true told same is holds = absurd (cc)
not_held es given rec false told same is holds =
    let true_too : IsTrue false = told.1 (subst (λ (xs : List Entry). Holds xs rec) (sym same) holds) in absurd (cc)

pub is_held : (es given : List Entry) (rec : Record) (b : Bool) → (IsTrue b ↔ Holds given rec) → given ≡ es → b ≡ true → Holds es rec
is_held es given rec true told same is = subst (λ (xs : List Entry). Holds xs rec) same (told.0 refl)
is_held es given rec false told same is = absurd (cc)

pub held_within : (es : List Entry) (rec : Record) → Holds es rec → rec.version < length es
unfolding Holds
held_within es rec holds = step (slice_get es rec.version) refl holds
  where
    step : (o : Option Entry) → slice_get es rec.version ≡ o → option_map (λ (e : Entry). e.rec) o ≡ Some rec → rec.version < length es
    step None e same = absurd (cc)
    step (Some entry) e same = slice_get_within es rec.version entry e

pub unsigned_verdict : {E : Type 0} (es : List Entry) (q : Query) (r : Reply) (answer : Answer) (n : ℕ) (given : Result Verdict E) → (Holds es r.rec → ⊥) → n ≡ length es
    → IfOk given (λ verdict. verdict ≡ Unsigned r.rec r.signature (n - 1)) → IfOk given (λ verdict. IsVerdict es q r answer verdict)
unfolding IsVerdict
unsigned_verdict es q r answer n (Ok verdict) not count is = subst (IsVerdict es q r answer) (sym is) (not, refl, refl, ap (λ (k : ℕ). k - 1) count)
unsigned_verdict es q r answer n (Err fault) not count is = tt

abbrev Same : List Entry → ℕ → Query → Answer → Type 0
Same es version q answer = answer.outcome ≡ result q (tables_at version es)

held_verdict_is : (es : List Entry) (q : Query) (r : Reply) (answer : Answer) (verdict : Verdict) → Holds es r.rec → answer.version ≡ r.rec.version
    → IsHeldVerdict (tables_at r.rec.version es) q answer verdict → IsVerdict es q r answer verdict
unfolding IsVerdict
held_verdict_is es q r answer (Unsigned rec signature last) holds version is = absurd is
held_verdict_is es q r answer (Exact at) holds version is =
    (holds, subst (λ (v : ℕ). Same es v q answer) (sym version) is.0, is.1)
held_verdict_is es q r answer (Collides found) holds version is =
    (holds, (λ same. is.0 (subst (λ (v : ℕ). Same es v q answer) version same)), is.1)

pub held_verdict : {E : Type 0} (es : List Entry) (q : Query) (r : Reply) (answer : Answer) (given : Result Verdict E) → Holds es r.rec → answer ≡ seen_answer q r
    → IfOk given (λ verdict. IsHeldVerdict (tables_at r.rec.version es) q answer verdict) → IfOk given (λ verdict. IsVerdict es q r answer verdict)
held_verdict es q r answer (Ok verdict) holds is held = held_verdict_is es q r answer verdict holds (ap (λ (a : Answer). a.version) is) held
held_verdict es q r answer (Err fault) holds is held = tt
