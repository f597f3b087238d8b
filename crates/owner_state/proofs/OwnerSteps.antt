-- Steps of an owner, and what is left of their answers.
use Rattle.std.proofs.Common.{◌≡◌, ℕ, ◌+◌, ◌-◌, ◌<◌, ◌≤◌, Bool, true, false, leb, List, [], Some, Result, Ok, Err, length, inl, inr, refl, sym, ap, ◌∙◌, subst, arith}
use Rattle.std.specs.Prelude.{◌⊎◌, IsTrue}
use Rattle.std.specs.Result.{result_map_both}
use Rattle.std.proofs.lemmas.Bool.{le-leb}
use Rattle.std.proofs.lemmas.Bool.Decides.{leb_tells}
use Rattle.vo_spec.specs.declared.tables.Command.{Command}
use Rattle.vo_spec.specs.declared.records.Record.{Record}
use Rattle.vo_spec.specs.declared.records.Entry.{Entry}
use Rattle.vo_spec.specs.Bytes.{u16_bytes}
use Rattle.vo_spec.specs.Journals.{max_proofs}
use Rattle.vo_spec.specs.Replies.{proofs_bytes}
use Rattle.vo_spec.specs.Keys.{leaf_of, lms_valid}
use Rattle.vo_spec.specs.Records.{record_bytes}
use Rattle.vo_spec.specs.Secret.{Secret, public_of_secret, lms_signature, secret_leaves}
use Rattle.owner_roots.specs.declared.owner_fault.OwnerFault.{OwnerFault}
use Rattle.owner_roots.specs.declared.owner_fault.OwnerFault.TheVariants as fault
use Rattle.owner_roots.specs.declared.roots.Roots.{Roots}
use Rattle.owner_roots.specs.Next.{NextOf}
use Rattle.owner_roots.specs.Owners.{IsNextEntry, IsSignedFor, record_of_roots}
use Rattle.root_laws.proofs.OneAnswer.{one_answer}
use Rattle.owner_state.specs.declared.steps.Step.{Step}
use Rattle.owner_state.specs.Stepping.{StepOf, signed_entry, step_to}

abbrev pub made_entry : List Command → List ℕ → Record → List ℕ → Entry
made_entry commands proofs rec signature =
    record { batch = record { commands = commands }; proofs = proofs; rec = rec; signature = signature }

-- What a call gives of the next roots.

abbrev pub Gives : Roots → List Command → List ℕ → Result Roots OwnerFault → Type 0
Gives roots batch proofs answer = (answer ≡ Err fault.Memory) ⊎ NextOf roots batch proofs answer

pub given : (roots : Roots) (batch : List Command) (proofs : List ℕ) (answer : Result Roots OwnerFault) (next : Roots) → answer ≡ Ok next → Gives roots batch proofs answer
    → NextOf roots batch proofs (Ok next)
given roots batch proofs answer next is (inl none) = absurd (cc)
given roots batch proofs answer next is (inr found) = subst (NextOf roots batch proofs) is found

pub refused : (roots : Roots) (batch : List Command) (proofs : List ℕ) (answer : Result Roots OwnerFault) (why : OwnerFault) → answer ≡ Err why → Gives roots batch proofs answer
    → (why ≡ fault.Memory) ⊎ NextOf roots batch proofs (Err why)
refused roots batch proofs answer why is (inl none) = inl (cc)
refused roots batch proofs answer why is (inr found) = inr (subst (NextOf roots batch proofs) is found)

-- bytes that lead on are proofs, and fit
pub proofs_fit : (before : Roots) (batch : List Command) (proofs : List ℕ) (after : Roots) → NextOf before batch proofs (Ok after) → length proofs ≤ max_proofs
unfolding NextOf
proofs_fit before batch proofs after (inl none) = absurd (cc)
proofs_fit before batch proofs after (inr found) = subst (λ (bytes : List ℕ). length bytes ≤ max_proofs) (sym found.1.encoded) found.1.fits.size

pub no_proofs_fit : length (proofs_bytes []) ≤ max_proofs
unfolding proofs_bytes u16_bytes
no_proofs_fit = omega arith

-- nothing leads on to two answers
pub never_both : (before : Roots) (batch : List Command) (proofs : List ℕ) (why : OwnerFault) (after : Roots) → NextOf before batch proofs (Err why) → NextOf before batch proofs (Ok after) → ⊥
never_both before batch proofs why after refusal found =
    let same = one_answer before batch proofs (Err why) (Ok after) refusal found in
    absurd (cc)

abbrev given_roots : Roots → Result Roots OwnerFault
given_roots roots = Ok roots

ok_is : (a b : Roots) → given_roots a ≡ given_roots b → a ≡ b
ok_is a b e = cc

pub same_roots : (before : Roots) (batch : List Command) (proofs : List ℕ) (a b : Roots) → NextOf before batch proofs (Ok a) → NextOf before batch proofs (Ok b) → a ≡ b
same_roots before batch proofs a b first second = ok_is a b (one_answer before batch proofs (Ok a) (Ok b) first second)

-- Entries.

pub signed_is : (secret : Secret) (roots : Roots) (batch : List Command) (proofs given_proofs : List ℕ) (rec : Record) (signature : List ℕ)
    → rec ≡ record_of_roots (public_of_secret secret) roots → given_proofs ≡ proofs → signature ≡ lms_signature secret roots.version (record_bytes rec)
    → made_entry batch given_proofs rec signature ≡ signed_entry secret roots batch proofs
unfolding signed_entry
signed_is secret roots batch proofs given_proofs rec signature r p s =
    ap (λ (x : List ℕ). made_entry batch x rec signature) p
    ∙ ap (made_entry batch proofs rec) (s ∙ ap (λ (x : Record). lms_signature secret roots.version (record_bytes x)) r)
    ∙ ap (λ (x : Record). made_entry batch proofs x (lms_signature secret roots.version (record_bytes (record_of_roots (public_of_secret secret) roots)))) r

pub signed_for : (key : List ℕ) (roots : Roots) (e : Entry) → e.rec ≡ record_of_roots key roots → leaf_of key e.signature ≡ Some roots.version
    → IsTrue (lms_valid key (record_bytes e.rec) e.signature) → IsSignedFor key roots e
unfolding record_of_roots
signed_for key roots e is leaf valid = record {
  record_is = is;
  signed = record { leaf = leaf ∙ ap (λ (r : Record). Some r.version) (sym is); valid = valid };
}

-- Steps.

abbrev pub Steps : Secret → Roots → List Command → List ℕ → Result Step OwnerFault → Type 0
Steps secret roots batch proofs answer = (answer ≡ Err fault.Memory) ⊎ StepOf secret roots batch proofs answer

pub step_made : (secret : Secret) (roots : Roots) (batch : List Command) (proofs : List ℕ) (next : Roots) (step : Step) → roots.version + 1 < secret_leaves secret
    → NextOf roots batch proofs (Ok next) → step ≡ step_to secret batch proofs next → StepOf secret roots batch proofs (Ok step)
unfolding StepOf
step_made secret roots batch proofs next step left next_is is = inr (left, Ok next, next_is, ap made is)
  where
    made : Step → Result Step OwnerFault
    made s = Ok s

pub step_refused : (secret : Secret) (roots : Roots) (batch : List Command) (proofs : List ℕ) (why : OwnerFault) → roots.version + 1 < secret_leaves secret
    → (why ≡ fault.Memory) ⊎ NextOf roots batch proofs (Err why) → Steps secret roots batch proofs (Err why)
unfolding StepOf
step_refused secret roots batch proofs why left (inl none) = inl (cc)
step_refused secret roots batch proofs why left (inr found) = inr (inr (left, Err why, found, refl))

pub step_spent : (secret : Secret) (roots : Roots) (batch : List Command) (proofs : List ℕ) → secret_leaves secret ≤ roots.version + 1
    → StepOf secret roots batch proofs (Err fault.KeySpent)
unfolding StepOf
step_spent secret roots batch proofs spent = inl (spent, refl)

-- What a step is made of.
pub record IsMade (secret : Secret) (roots : Roots) (batch : List Command) (proofs : List ℕ) (step : Step) : Type 0 where
  pub left : roots.version + 1 < secret_leaves secret
  pub next : NextOf roots batch proofs (Ok step.roots)
  pub entry : step.entry ≡ signed_entry secret step.roots batch proofs

abbrev pub given_step : Step → Result Step OwnerFault
given_step step = Ok step

pub step_is : (a b : Step) → given_step a ≡ given_step b → a ≡ b
step_is a b e = cc

pub step_parts : (secret : Secret) (roots : Roots) (batch : List Command) (proofs : List ℕ) (step : Step) → StepOf secret roots batch proofs (Ok step) → IsMade secret roots batch proofs step
unfolding StepOf
step_parts secret roots batch proofs step (inl none) = absurd (cc)
step_parts secret roots batch proofs step (inr found) = by_next found.1 found.2 found.3
  where
    by_next : (next : Result Roots OwnerFault) → NextOf roots batch proofs next → Ok step ≡ result_map_both (step_to secret batch proofs) (λ (why : OwnerFault). why) next
        → IsMade secret roots batch proofs step
    by_next (Ok next) is e =
        let same : step ≡ step_to secret batch proofs next = step_is step (step_to secret batch proofs next) e in
        record {
          left = found.0;
          next = subst (λ (r : Roots). NextOf roots batch proofs (Ok r)) (sym (ap (λ (s : Step). s.roots) same)) is;
          entry = ap (λ (s : Step). s.entry) same ∙ ap (λ (r : Roots). signed_entry secret r batch proofs) (sym (ap (λ (s : Step). s.roots) same));
        }
    by_next (Err why) is e = absurd (cc)

-- A step has one answer.
pub one_step : (secret : Secret) (roots : Roots) (batch : List Command) (proofs : List ℕ) (a b : Result Step OwnerFault) → StepOf secret roots batch proofs a → StepOf secret roots batch proofs b → a ≡ b
unfolding StepOf
one_step secret roots batch proofs a b (inl x) (inl y) = x.1 ∙ sym y.1
one_step secret roots batch proofs a b (inl x) (inr y) = absurd (omega (arith, x.0, y.0))
one_step secret roots batch proofs a b (inr x) (inl y) = absurd (omega (arith, x.0, y.0))
one_step secret roots batch proofs a b (inr x) (inr y) =
    x.3 ∙ ap (result_map_both (step_to secret batch proofs) (λ (why : OwnerFault). why)) (one_answer roots batch proofs x.1 y.1 x.2 y.2) ∙ sym y.3

-- the roots of a step that was taken are the only ones
pub step_never_both : (secret : Secret) (roots : Roots) (batch : List Command) (proofs : List ℕ) (why : OwnerFault) (step : Step) → StepOf secret roots batch proofs (Err why)
    → StepOf secret roots batch proofs (Ok step) → ⊥
step_never_both secret roots batch proofs why step refusal found =
    let same = one_step secret roots batch proofs (Err why) (Ok step) refusal found in
    absurd (cc)

pub same_step : (secret : Secret) (roots : Roots) (batch : List Command) (proofs : List ℕ) (a b : Step) → StepOf secret roots batch proofs (Ok a) → StepOf secret roots batch proofs (Ok b) → a ≡ b
same_step secret roots batch proofs a b first second = step_is a b (one_step secret roots batch proofs (Ok a) (Ok b) first second)

-- A key is spent exactly where it has no leaf for another version.
pub spent_exactly : (count own version leaves : ℕ) → 0 < leaves → count ≡ leaves → own ≡ version
    → (IsTrue (leb (count - 1) own) → leaves ≤ version + 1) × (leaves ≤ version + 1 → IsTrue (leb (count - 1) own))
spent_exactly count own version leaves some same number = (
  (λ yes.
      elim (leb_tells (count - 1) own) [
        | inl t ↦ omega (arith, t.1, same, number, some)
        | inr t ↦ let other = t.0 in absurd (cc)
      ]),
  (λ spent. le-leb (count - 1) own (omega (arith, spent, same, number, some))),
)

-- a key that isn't spent has a leaf left
pub left_over : (spent : Bool) (leaves version : ℕ) → (leaves ≤ version + 1 → IsTrue spent) → spent ≡ false → version + 1 < leaves
left_over spent leaves version told is_not =
    elim (leb_tells leaves (version + 1)) [
      | inl t ↦ let yes : spent ≡ true = told t.1 in absurd (cc)
      | inr t ↦ t.1
    ]

-- The entry of a step is the next one.
pub next_of_step : (secret : Secret) (before : Roots) (batch : List Command) (proofs : List ℕ) (after : Roots) (e : Entry) → e ≡ signed_entry secret after batch proofs
    → NextOf before batch proofs (Ok after) → IsSignedFor (public_of_secret secret) after e → IsNextEntry (public_of_secret secret) before e after
unfolding signed_entry
next_of_step secret before batch proofs after e is next signed = record {
  next = subst (λ (x : Entry). NextOf before x.batch.commands x.proofs (Ok after)) (sym is) next;
  signed = signed;
}

-- What a call gives of a step.

pub step_given_by : (secret : Secret) (roots : Roots) (batch : List Command) (proofs : List ℕ) (answer : Result Step OwnerFault) (step : Step) → answer ≡ Ok step
    → Steps secret roots batch proofs answer → StepOf secret roots batch proofs (Ok step)
step_given_by secret roots batch proofs answer step is (inl none) = absurd (cc)
step_given_by secret roots batch proofs answer step is (inr found) = subst (StepOf secret roots batch proofs) is found

pub step_refused_by : (secret : Secret) (roots : Roots) (batch : List Command) (proofs : List ℕ) (answer : Result Step OwnerFault) (why : OwnerFault) → answer ≡ Err why
    → Steps secret roots batch proofs answer → (why ≡ fault.Memory) ⊎ StepOf secret roots batch proofs (Err why)
step_refused_by secret roots batch proofs answer why is (inl none) = inl (cc)
step_refused_by secret roots batch proofs answer why is (inr found) = inr (subst (StepOf secret roots batch proofs) is found)
