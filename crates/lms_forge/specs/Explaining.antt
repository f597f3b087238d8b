-- What explains a forgery: a collision, or a value of a chain before the one that is known.
use Rattle.std.specs.Prelude.{◌≡◌, ℕ, ◌-◌, ◌<◌, List}
use Rattle.vo_spec.specs.Collides.{Collides}
use Rattle.vo_spec.specs.OtsSets.{count_of}
use Rattle.vo_spec.specs.Ots.{advance}
use Rattle.lms_forge.specs.declared.explanation.Explanation.{Explanation}
use Rattle.lms_forge.specs.declared.explanation.Explanation.TheVariants.{Collides as Collide, Chain}
use Rattle.lms_forge.specs.Forgeries.{Forgery}
use Rattle.lms_forge.specs.Places.{Place, AreHashedAt}
use Rattle.lms_forge.specs.ChainValues.{forged_value, known_value}

-- The forged signature has a value of chain i from before the known step, which leads to the value
-- known there.
pub record LeadsTo (f : Forgery) (i : ℕ) : Type 0 where
  pub before : (forged_value f i).0 < (known_value f i).0
  pub leads : advance f.tree.id f.leaf i (forged_value f i).0 ((known_value f i).0 - (forged_value f i).0)
      (forged_value f i).1 ≡ (known_value f i).1

-- It has no such value of a chain before chain i.
abbrev pub IsEarliest : Forgery → ℕ → Type 0
IsEarliest f i = (k : ℕ) → k < i → (forged_value f k).0 < (known_value f k).0 → ⊥

-- The two strings collide, and are hashed at one place.
abbrev pub CollideAtPlace : Forgery → List ℕ → List ℕ → Type 0
CollideAtPlace f first second = (place : Place) × AreHashedAt f place first second
    × Collides first second

-- At no place two strings collide.
abbrev pub NoneCollide : Forgery → Type 0
NoneCollide f = (first second : List ℕ) → CollideAtPlace f first second → ⊥

pub record IsFromChain (f : Forgery) (level leaf chain step : ℕ) (bytes : List ℕ) : Type 0 where
  pub level_is : level ≡ f.level
  pub leaf_is : leaf ≡ f.leaf
  pub chain_in : chain < count_of f.tree.ots
  pub step_is : step ≡ (forged_value f chain).0
  pub bytes_are : bytes ≡ (forged_value f chain).1
  pub leads_to : LeadsTo f chain
  pub earliest : IsEarliest f chain
  pub none_collide : NoneCollide f

abbrev pub Explains : Forgery → Explanation → Type 0
Explains f (Collide found) = CollideAtPlace f found.0 found.1
Explains f (Chain level leaf chain step bytes) = IsFromChain f level leaf chain step bytes
