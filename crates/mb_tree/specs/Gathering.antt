-- What a hasher holds that gathers pieces.
use Rattle.std.specs.Prelude.{◌≡◌, ℕ, List, ◌++◌}
use Rattle.tagged_hash.specs.Holding.{HoldsBytes}
use Rattle.mb_tree.specs.declared.node_hasher.NodeHasher.{NodeHasher}

-- the pieces that were added are these bytes, joined: some of them are hashed, the others gathered
pub record HoldsNode (hasher : NodeHasher) (bytes : List ℕ) : Type 0 where
  pub hashed : List ℕ
  pub holds : HoldsBytes hasher.hasher hashed
  pub joined : bytes ≡ hashed ++ hasher.gathered.items
