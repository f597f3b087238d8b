use Rattle.std.proofs.Common.{rules}
use Rattle.tree_collide.proofs.comparison.compare.Goals as goal

pub new-requires : goal.new-requires
new-requires c = record { differ = λ same. search rules; agree = c.requires }
