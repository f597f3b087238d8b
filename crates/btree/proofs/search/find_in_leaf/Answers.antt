use Rattle.btree.proofs.FirstPlaces.{none_to_find, found_in_leaf}
use Rattle.std.proofs.Common.{refl}
use Rattle.btree.proofs.search.find_in_leaf.Goals as goal

pub returns-then-place-entries : goal.returns-then-place-entries
returns-then-place-entries g c =
    none_to_find g.N.TreeNode.family g.N.Entry.KeyedItem.key g.N.TreeNode.entry g.met.N.TreeNode.entry_key c.args.key.now c.args.entries.now c.position_of-place.result c.position_of-place.ensures.place c.if-place-entries.true

pub returns : goal.returns
returns g c =
    rw (found_in_leaf g.N.TreeNode.family g.N.Entry.KeyedItem.key g.N.TreeNode.entry g.met.N.TreeNode.entry_key c.args.key.now c.args.entries.now c.position_of-place.result c.position_of-place.ensures.place c.index-entries-place.result c.if-place-entries.false c.index-entries-place.is) refl
