-- Values of one chain that lead to one value.
use Rattle.std.proofs.Common.{◌≡◌, ℕ, ◌+◌, ◌-◌, ◌^◌, ◌≤◌, ◌<◌, ◌⊎◌, inl, inr, List, Option, Some, None, refl, sym, ap, ◌∙◌, subst, arith}
use Rattle.std.specs.Prelude.{◌≢◌}
use Rattle.vo_spec.specs.Sha256.{sha256}
use Rattle.vo_spec.specs.OtsSets.{width_of}
use Rattle.vo_spec.specs.Ots.{step_text, advance, secret, public_end}
use Rattle.vo_spec.specs.SecretTrees.{SecretTree}
use Rattle.lm_ots.proofs.Chaining.{advance_more, advance_on, advance_rest}
use Rattle.lms_forge.specs.Comparing.{Compared}
use Rattle.lms_forge.specs.Places.{own_step_text, step_text_from}
use Rattle.lms_forge.specs.Chains.{MeetAt, ChainCompared}
use Rattle.lms_forge.proofs.Splitting.{value_of_step_text}

-- one step on
pub one_step : (id : List ℕ) (q i from j : ℕ) (value : List ℕ) → from ≤ j
    → advance id q i j (j + 1 - j) (advance id q i from (j - from) value) ≡ advance id q i from (j + 1 - from) value
one_step id q i from j value low =
    let place : from + (j - from) ≡ j = omega arith in
    let one : j + 1 - j ≡ 1 = omega arith in
    let more : j - from + 1 ≡ j + 1 - from = omega arith in
    ap (λ n. advance id q i j n (advance id q i from (j - from) value)) one
    ∙ subst (λ p. advance id q i p 1 (advance id q i from (j - from) value) ≡ advance id q i from (j - from + 1) value) place (advance_on id q i from (j - from) 1 value)
    ∙ ap (λ n. advance id q i from n value) more

pub no_step : (id : List ℕ) (q i from : ℕ) (value : List ℕ) → value ≡ advance id q i from (from - from) value
unfolding advance
no_step id q i from value = let none : from - from ≡ 0 = omega arith in rw none refl

-- what is hashed at a step gives the value behind it
hashed : (tree : SecretTree) (q i j from : ℕ) (value : List ℕ) → from ≤ j
    → sha256 (step_text_from tree q i j from value) ≡ advance tree.id q i from (j + 1 - from) value
hashed tree q i j from value low =
    let place : from + (j - from) ≡ j = omega arith in
    let more : j - from + 1 ≡ j + 1 - from = omega arith in
    subst (λ p. sha256 (step_text tree.id q i p (advance tree.id q i from (j - from) value)) ≡ advance tree.id q i from (j - from + 1) value) place
    (sym (advance_more tree.id q i from (j - from) value))
    ∙ ap (λ n. advance tree.id q i from n value) more

module _ (tree : SecretTree) (q i digit : ℕ) (value : List ℕ) where
  abbrev start : List ℕ
  start = secret tree.id q tree.seed i

  -- the owner's value before step `digit`
  abbrev own : List ℕ
  own = advance tree.id q i 0 digit start

  own_hashed : (j : ℕ) → sha256 (own_step_text tree q i j) ≡ advance tree.id q i 0 (j + 1) start
  own_hashed j =
      let place : 0 + j ≡ j = omega arith in
      subst (λ p. sha256 (step_text tree.id q i p (advance tree.id q i 0 j start)) ≡ advance tree.id q i 0 (j + 1) start) place
      (sym (advance_more tree.id q i 0 j start))

  module _ (id own_value : List ℕ) (to j : ℕ) (id_is : id ≡ tree.id) (own_is : own_value ≡ own)
      (met : MeetAt id q i digit to value own_value j) where
    here : MeetAt tree.id q i digit to value own j
    here = subst (λ (v : List ℕ). MeetAt tree.id q i digit to value v j) own_is
        (subst (λ (n : List ℕ). MeetAt n q i digit to value own_value j) id_is met)

    pub met_hashed : sha256 (step_text_from tree q i j digit value) ≡ sha256 (own_step_text tree q i j)
    met_hashed =
        let behind : digit ≤ j = met.behind in
        hashed tree q i j digit value behind
        ∙ here.meet
        ∙ advance_rest tree.id q i digit (j + 1) start (omega arith)
        ∙ sym (own_hashed j)

    pub chain_compared : (found : Option (List ℕ × List ℕ)) → to ≡ 2 ^ width_of tree.ots - 1
        → Compared (step_text_from tree q i j digit value) (own_step_text tree q i j) found
        → ChainCompared tree q i digit value found
    chain_compared None last same =
        absurd (here.differ
        (value_of_step_text tree.id q i j (advance tree.id q i digit (j - digit) value) (advance tree.id q i 0 j start) same
        ∙ sym (advance_rest tree.id q i digit j start met.behind)))
    chain_compared (Some found) last compared =
        let inside : j < to = met.inside in
        (j, met.behind, subst (λ n. j < n) last inside, compared)

  -- where nothing meets, the value is the owner's
  pub nothing_meets : (id own_value : List ℕ) (to : ℕ) → id ≡ tree.id → own_value ≡ own
      → to ≡ 2 ^ width_of tree.ots - 1 → digit < 2 ^ width_of tree.ots
      → advance tree.id q i digit (2 ^ width_of tree.ots - 1 - digit) value ≡ public_end tree.id q tree.ots tree.seed i
      → (value ≡ own_value) ⊎ (advance id q i digit (to - digit) value ≢ advance id q i digit (to - digit) own_value)
      → value ≡ own
  nothing_meets id own_value to id_is own_is last few end (inl same) = same ∙ own_is
  nothing_meets id own_value to id_is own_is last few end (inr apart) =
      let led : advance tree.id q i digit (to - digit) value ≡ advance tree.id q i digit (to - digit) own =
      ap (λ n. advance tree.id q i digit (n - digit) value) last
      ∙ end
      ∙ sym (advance_rest tree.id q i digit (2 ^ width_of tree.ots - 1) start (omega arith))
      ∙ ap (λ n. advance tree.id q i digit (n - digit) own) (sym last) in
      absurd (apart
      (ap (λ (n : List ℕ). advance n q i digit (to - digit) value) id_is
      ∙ led
      ∙ sym (ap (λ (n : List ℕ). advance n q i digit (to - digit) own) id_is)
      ∙ sym (ap (advance id q i digit (to - digit)) own_is)))
