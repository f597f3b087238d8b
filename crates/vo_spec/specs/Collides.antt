-- What breaks SHA-256 (FIPS 180-4).
use Rattle.std.specs.Prelude.{◌≡◌, ◌≢◌, ℕ, List}
use Rattle.sha2.specs.Sha256.{sha256}

-- two different byte strings have one digest
pub record Collides (first second : List ℕ) : Type 0 where
  pub differ : first ≢ second
  pub agree : sha256 first ≡ sha256 second
