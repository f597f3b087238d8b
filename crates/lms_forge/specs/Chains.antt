-- What comparisons of a leaf's chains find.
use Rattle.std.specs.Prelude.{◌≡◌, ◌≢◌, ℕ, ◌+◌, ◌-◌, ◌*◌, ◌^◌, ◌<◌, ◌≤◌, List, Option, Some, None}
use Rattle.vo_spec.specs.Bytes.{digest_at}
use Rattle.vo_spec.specs.OtsSets.{width_of, count_of}
use Rattle.vo_spec.specs.Ots.{coef, advance, secret, signed_value}
use Rattle.vo_spec.specs.SecretTrees.{SecretTree}
use Rattle.lms_forge.specs.Comparing.{Compared}
use Rattle.lms_forge.specs.Places.{own_step_text, step_text_from}

-- Two values of chain i before step `from` lead to one value at step j, from different ones.
pub record MeetAt (id : List ℕ) (q i from to : ℕ) (first second : List ℕ) (j : ℕ) : Type 0 where
  pub behind : from ≤ j
  pub inside : j < to
  pub differ : advance id q i from (j - from) first ≢ advance id q i from (j - from) second
  pub meet : advance id q i from (j + 1 - from) first ≡ advance id q i from (j + 1 - from) second

-- The value is the owner's own, or two strings collide that are hashed at a step behind it.
abbrev pub ChainCompared : SecretTree → ℕ → ℕ → ℕ → List ℕ → Option (List ℕ × List ℕ) → Type 0
ChainCompared tree q i digit value None =
    value ≡ advance tree.id q i 0 digit (secret tree.id q tree.seed i)
ChainCompared tree q i digit value (Some found) = (j : ℕ) × (digit ≤ j)
    × (j < 2 ^ width_of tree.ots - 1)
    × Compared (step_text_from tree q i j digit value) (own_step_text tree q i j) (Some found)

-- The same of all chains, where these digits are signed.
abbrev pub ChainsCompared : SecretTree → ℕ → List ℕ → List ℕ → Option (List ℕ × List ℕ) → Type 0
ChainsCompared tree q digits part None = (i : ℕ) → i < count_of tree.ots
    → digest_at part (36 + 32 * i) ≡ signed_value tree.id q tree.ots tree.seed digits i
ChainsCompared tree q digits part (Some found) = (i : ℕ) × (i < count_of tree.ots)
    × ChainCompared tree q i (coef digits i (width_of tree.ots)) (digest_at part (36 + 32 * i))
    (Some found)
