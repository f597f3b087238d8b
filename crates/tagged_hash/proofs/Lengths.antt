-- Digests have 32 bytes.
use Rattle.std.proofs.Common.{◌≡◌, ℕ, List, length}
use Rattle.sha2.specs.Sha256.{sha256}
use Rattle.sha2.proofs.Facts256 as facts

pub length-sha256 : (bytes : List ℕ) → length (sha256 bytes) ≡ 32
length-sha256 bytes = facts.length-sha256 bytes
