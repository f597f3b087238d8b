-- What comparisons find, where they find something and where they find nothing.
use Rattle.std.proofs.Common.{◌≡◌, ℕ, List, Option, Some, None, refl, sym, ap, ◌∙◌, subst}
use Rattle.std.specs.Prelude.{◌≢◌, ◌↔◌, Bool, true, false, not, is_some, IsSome, IfSome, bytes_eq}
use Rattle.std.proofs.lemmas.Slice.Eq.{bytes_eq-Decides}
use Rattle.vo_spec.specs.Collides.{Collides}
use Rattle.vo_spec.specs.Ots.{advance, secret}
use Rattle.vo_spec.specs.SecretTrees.{SecretTree}
use Rattle.lms_forge.specs.Chains.{ChainCompared}
use Rattle.lms_forge.specs.Comparing.{Compared}
use Rattle.lms_forge.specs.Lowering.{MessagesCompared}

-- what a test of two byte strings says of them
pub unequal : (first second : List ℕ) (same : Bool) → same ≡ bytes_eq first second → same ≡ false → first ≢ second
unequal first second same tested not = λ e. let yes = (bytes_eq-Decides first second).1 e in absurd cc

pub equal : (first second : List ℕ) (same : Bool) → same ≡ bytes_eq first second → same ≡ true → first ≡ second
equal first second same tested holds = (bytes_eq-Decides first second).0 (sym tested ∙ holds)

pub told_other : (first second : List ℕ) (other : Bool) → other ≡ not (bytes_eq first second) → other ≡ true → first ≢ second
told_other first second other tested holds = λ e. let same = (bytes_eq-Decides first second).1 e in absurd cc

pub told_same : (first second : List ℕ) (other : Bool) → other ≡ not (bytes_eq first second) → other ≡ false → first ≡ second
told_same first second other tested holds = (bytes_eq-Decides first second).0 (not_false (bytes_eq first second) (sym tested ∙ holds))
  where
    not_false : (b : Bool) → not b ≡ false → b ≡ true
    not_false true e = refl
    not_false false e = absurd cc

pub nothing_found : (first second : List ℕ) (found : Option (List ℕ × List ℕ)) → is_some found ≡ false
    → Compared first second found → first ≡ second
nothing_found first second None none same = same
nothing_found first second (Some found) none compared = absurd cc

pub messages_compared : (first second : List ℕ) (found : Option (List ℕ × List ℕ)) → first ≢ second
    → (IsSome found ↔ Collides first second) → IfSome found (λ (f : List ℕ × List ℕ). f ≡ (first, second))
    → MessagesCompared first second found
messages_compared first second None differ exactly kept =
    λ agree. let some = exactly.1 (record { differ = differ; agree = agree }) in absurd cc
messages_compared first second (Some found) differ exactly kept =
    let collides : Collides first second = exactly.0 refl in (
      ap (λ (f : List ℕ × List ℕ). f.0) kept,
      ap (λ (f : List ℕ × List ℕ). f.1) kept,
      subst (λ (f : List ℕ × List ℕ). Collides f.0 f.1) (sym kept) collides,
    )

-- nothing is found at a chain only where its value is the owner's
pub chain_own : (tree : SecretTree) (q i digit : ℕ) (value : List ℕ) (found : Option (List ℕ × List ℕ)) → is_some found ≡ false
    → ChainCompared tree q i digit value found → value ≡ advance tree.id q i 0 digit (secret tree.id q tree.seed i)
chain_own tree q i digit value None none own = own
chain_own tree q i digit value (Some found) none compared = absurd cc

-- what is not some is none
pub left_none : (found : Option (List ℕ × List ℕ)) → ((x : List ℕ × List ℕ) → found ≡ Some x → ⊥) → is_some found ≡ false
left_none None not = refl
left_none (Some x) not = absurd (not x refl)
