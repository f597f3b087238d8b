use Rattle.std.proofs.Common.{◌+◌, ◌++◌, take, drop, ap, ◌∙◌, refl, arith}
use Rattle.std.proofs.lemmas.Grind.{common_steps}
use Rattle.btree.proofs.FirstPlaces.{none_to_remove, removed_from_leaf}
use Rattle.btree.proofs.removal.remove_in_leaf.Goals as goal

pub returns-then-place-entries-clause-value : goal.returns-then-place-entries-clause-value
returns-then-place-entries-clause-value g c =
    none_to_remove g.N.TreeNode.family g.N.Entry.KeyedItem.key g.N.TreeNode.entry g.met.N.TreeNode.entry_key c.args.key.now c.args.entries.now c.position_of-place.result c.position_of-place.ensures.place c.if-place-entries.true

pub returns-clause-value : goal.returns-clause-value
returns-clause-value g c =
    rw (removed_from_leaf g.N.TreeNode.family g.N.Entry.KeyedItem.key g.N.TreeNode.entry g.met.N.TreeNode.entry_key c.args.key.now c.args.entries.now c.position_of-place.result c.position_of-place.ensures.place c.in_ok-others.others.items c.if-place-entries.false
    (c.in_ok-others.ensures ∙ ap (λ l. take c.position_of-place.result c.args.entries.now ++ l ++ drop (c.position_of-place.result + 1) c.args.entries.now) c.new.ensures.items)) refl

pub returns-clause-loose : goal.returns-clause-loose
returns-clause-loose g c = grind (arith, common_steps)
