use Rattle.std.proofs.Common.{is_lt, ap, ◌∙◌}
use Rattle.btree.proofs.keyed_item.key_lt.Goals as goal

pub returns : goal.returns
returns c = c.is_lt.ensures ∙ ap is_lt c.cmp.ensures
