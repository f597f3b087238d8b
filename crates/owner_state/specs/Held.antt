-- What an owner holds, as contracts see it.
use Rattle.vo_spec.specs.Secret.{Secret}
use Rattle.owner_roots.specs.declared.roots.Roots.{Roots}

pub record Held : Type 0 where
  pub key : Secret
  pub roots : Roots
