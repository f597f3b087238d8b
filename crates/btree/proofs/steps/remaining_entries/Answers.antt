use Rattle.std.proofs.Common.{sym, ◌∙◌}
use Rattle.std.proofs.lemmas.List.{length-map}
use Rattle.btree.proofs.RemainingSizes.{leaf_remains, leaf_lacks}
use Rattle.btree.proofs.steps.remaining_entries.Goals as goal

pub returns-then-has_key : goal.returns-then-has_key
returns-then-has_key g c =
    leaf_remains g.N.TreeNode.family g.N.TreeNode.entry g.N.Entry.KeyedItem.key g.met.N.TreeNode.entry_key c.args.key.now c.args.entries.now (length-map c.args.entries.now g.N.TreeNode.entry) (sym c.has_key.ensures ∙ c.if-has_key.true)

pub returns-else-has_key : goal.returns-else-has_key
returns-else-has_key g c =
    leaf_lacks g.N.TreeNode.family g.N.TreeNode.entry g.N.Entry.KeyedItem.key g.met.N.TreeNode.entry_key c.args.key.now c.args.entries.now (length-map c.args.entries.now g.N.TreeNode.entry) (sym c.has_key.ensures ∙ c.if-has_key.false)
