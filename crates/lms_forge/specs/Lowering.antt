-- Chains of which one signature has a value from before another's.
use Rattle.std.specs.Prelude.{◌≡◌, ◌≢◌, ℕ, ◌-◌, ◌^◌, ◌<◌, ◌≤◌, List, Option, Some, None, option_map}
use Rattle.vo_spec.specs.Collides.{Collides}
use Rattle.vo_spec.specs.Sha256.{sha256}
use Rattle.vo_spec.specs.declared.signatures.OtsType.{OtsType}
use Rattle.vo_spec.specs.OtsSets.{width_of, count_of}
use Rattle.vo_spec.specs.Ots.{coef, with_checksum, digits_of, randomizer, message_text}
use Rattle.vo_spec.specs.SecretTrees.{SecretTree}

-- digit i of the owner's digits, or the greatest one where it signed none
abbrev pub own_digit : OtsType → Option (List ℕ) → ℕ → ℕ
own_digit ots None i = 2 ^ width_of ots - 1
own_digit ots (Some digits) i = coef digits i (width_of ots)

-- No digit is below the owner's.
abbrev pub NoneLower : OtsType → List ℕ → Option (List ℕ) → Type 0
NoneLower ots digits own = (i : ℕ) → i < count_of ots
    → own_digit ots own i ≤ coef digits i (width_of ots)

-- Digit i is the first that is below the owner's.
pub record FirstLower (ots : OtsType) (digits : List ℕ) (own : Option (List ℕ)) (i : ℕ) : Type 0 where
  pub inside : i < count_of ots
  pub lower : coef digits i (width_of ots) < own_digit ots own i
  pub earliest : (k : ℕ) → k < i → coef digits k (width_of ots) < own_digit ots own k → ⊥

-- The digits are those of the digest of another string than the owner's, each behind its checksum;
-- or the owner has none.
abbrev pub AreOthers : OtsType → List ℕ → Option (List ℕ) → Type 0
AreOthers ots digits None = (text : List ℕ) × (digits ≡ with_checksum ots (sha256 text))
AreOthers ots digits (Some own) = (text other : List ℕ)
    × (digits ≡ with_checksum ots (sha256 text)) × (own ≡ with_checksum ots (sha256 other))
    × (sha256 text ≢ sha256 other)

-- The two strings are found where they collide, and nothing is only where their digests differ.
abbrev pub MessagesCompared : List ℕ → List ℕ → Option (List ℕ × List ℕ) → Type 0
MessagesCompared first second None = sha256 first ≢ sha256 second
MessagesCompared first second (Some found) = (found.0 ≡ first) × (found.1 ≡ second)
    × Collides found.0 found.1

abbrev pub ReleasedCompared : SecretTree → ℕ → List ℕ → List ℕ → Option (List ℕ)
    → Option (List ℕ × List ℕ) → Type 0
ReleasedCompared tree q random message None None = Unit {0}
ReleasedCompared tree q random message None (Some found) = ⊥
ReleasedCompared tree q random message (Some own) found =
    MessagesCompared (message_text tree.id q random message)
    (message_text tree.id q (randomizer tree.id q tree.seed) own) found

-- the digits that the owner signs by the leaf where it signs this message, if any
abbrev pub own_digits_of : SecretTree → ℕ → Option (List ℕ) → Option (List ℕ)
own_digits_of tree q released =
    option_map (digits_of tree.id q tree.ots (randomizer tree.id q tree.seed)) released
