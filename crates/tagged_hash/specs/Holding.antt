-- What a hasher holds.
use Rattle.std.specs.Prelude.{ℕ, List}
use Rattle.sha2.specs.Hashers.{Holds256}
use Rattle.tagged_hash.specs.declared.hasher.Hasher.{Hasher}

-- the pieces that were added are these bytes, joined
unfoldable pub HoldsBytes : Hasher → List ℕ → Type 0
HoldsBytes hasher bytes = Holds256 hasher.inner bytes
