-- What a comparison of a signature's parts, from the root down to the chains, finds.
use Rattle.std.specs.Prelude.{◌≡◌, ℕ, ◌+◌, ◌*◌, ◌<◌, List, Option, Some, None}
use Rattle.vo_spec.specs.Collides.{Collides}
use Rattle.vo_spec.specs.Sha256.{sha256}
use Rattle.vo_spec.specs.Bytes.{digest_at}
use Rattle.vo_spec.specs.OtsSets.{count_of}
use Rattle.vo_spec.specs.LmsSets.{height_of}
use Rattle.vo_spec.specs.Ots.{signed_value}
use Rattle.vo_spec.specs.Lms.{leaf_text, ots_part}
use Rattle.vo_spec.specs.SecretTrees.{SecretTree}
use Rattle.lms_forge.specs.Places.{Place, AreOnWay, leaf_number, forged_key_text, own_key_text, forged_above, own_above}

-- The owner's own strings are hashed everywhere, and the values of the chains are the owner's own.
pub record SameParts (tree : SecretTree) (q : ℕ) (digits signature : List ℕ) : Type 0 where
  pub above_same : (level : ℕ) → level < height_of tree.lms
      → forged_above tree q signature
      (sha256 (forged_key_text tree q digits (ots_part tree.ots signature))) level
      ≡ own_above tree q level
  pub leaf_same : leaf_text tree.id (leaf_number tree q)
      (sha256 (forged_key_text tree q digits (ots_part tree.ots signature)))
      ≡ leaf_text tree.id (leaf_number tree q) (sha256 (own_key_text tree q))
  pub key_same : forged_key_text tree q digits (ots_part tree.ots signature) ≡ own_key_text tree q
  pub values_own : (i : ℕ) → i < count_of tree.ots
      → digest_at (ots_part tree.ots signature) (36 + 32 * i)
      ≡ signed_value tree.id q tree.ots tree.seed digits i

abbrev pub PartsCompared : SecretTree → ℕ → List ℕ → List ℕ → Option (List ℕ × List ℕ) → Type 0
PartsCompared tree q digits signature None = SameParts tree q digits signature
PartsCompared tree q digits signature (Some found) = (place : Place)
    × AreOnWay tree q digits signature place found.0 found.1 × Collides found.0 found.1
