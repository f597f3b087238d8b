use Rattle.std.proofs.Common.{map, sym, ap, bytes_eq, ◌∙◌, arith}
use Rattle.std.specs.List.{list_any}
use Rattle.std.proofs.lemmas.Grind.{common_steps}
use Rattle.vo_spec.specs.Parts.{leaf}
use Rattle.btree.specs.Nodes.{AreSiblings}
use Rattle.btree.specs.Splices.{split}
use Rattle.btree.proofs.OkAnswers.{answers}
use Rattle.btree.proofs.Insertions.{key_twice, put_in_leaf}
use Rattle.btree.proofs.insertion.insert_in_leaf.Goals as goal

pub returns-then-has_key : goal.returns-then-has_key
returns-then-has_key g c =
    key_twice g.N.TreeNode.family g.N.Entry.KeyedItem.key g.N.TreeNode.entry g.met.N.TreeNode.entry_key c.args.entry c.key_bytes.result.now c.key_bytes.ensures c.args.entries.now (sym c.has_key.ensures ∙ c.if-has_key.true)

pub returns : goal.returns
returns g c =
    answers (AreSiblings g.N.TreeNode.family g.N.Key.KeyedItem.key g.N.TreeNode.kid) c.in_ok-split.field-0 (split g.N.TreeNode.family (leaf (map g.N.TreeNode.entry c.in_ok-all.all.items))) _
    (put_in_leaf g.N.TreeNode.family g.N.Entry.KeyedItem.key g.N.TreeNode.entry g.met.N.TreeNode.entry_key c.args.entry c.key_bytes-2.result.now c.key_bytes-2.ensures c.args.entries.now c.in_ok-all.all.items c.position_above-place.result (ap (λ k. list_any (λ f. bytes_eq (g.N.Entry.KeyedItem.key f) k) c.args.entries.now) (c.key_bytes-2.ensures ∙ sym c.key_bytes.ensures) ∙ sym c.has_key.ensures ∙ c.if-has_key.false) c.position_above-place.ensures.place c.in_ok-all.ensures)
    c.in_ok-split.ensures

pub split-requires-clause-most : goal.split-requires-clause-most
split-requires-clause-most g c = grind (arith, common_steps)
