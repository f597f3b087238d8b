use Rattle.std.proofs.Common.{map, Ok, arith}
use Rattle.std.proofs.lemmas.Grind.{common_steps}
use Rattle.vo_spec.specs.Parts.{leaf}
use Rattle.btree.specs.Nodes.{IsNewKid}
use Rattle.btree.proofs.OkAnswers.{answers}
use Rattle.btree.proofs.FirstPlaces.{none_to_edit, set_in_leaf}
use Rattle.btree.proofs.replacement.set_in_leaf.Goals as goal

pub returns-then-place-entries : goal.returns-then-place-entries
returns-then-place-entries g c =
    none_to_edit g.N.TreeNode.family g.N.Entry.KeyedItem.key g.N.TreeNode.entry g.met.N.TreeNode.entry_key c.args.key.now c.args.entries.now c.position_of-place.result c.position_of-place.ensures.place (λ _. Ok (g.N.TreeNode.entry c.args.entry)) c.if-place-entries.true

pub returns : goal.returns
returns g c =
    answers (IsNewKid g.N.TreeNode.family g.N.TreeNode.kid) c.in_ok-close.field-0 (leaf (map g.N.TreeNode.entry c.in_ok-entries.entries.items)) _
    (set_in_leaf g.N.TreeNode.family g.N.Entry.KeyedItem.key g.N.TreeNode.entry g.met.N.TreeNode.entry_key c.args.key.now c.args.entries.now c.position_of-place.result c.position_of-place.ensures.place c.args.entry c.in_ok-entries.entries.items c.if-place-entries.false c.in_ok-entries.ensures)
    c.in_ok-close.ensures

pub close-requires : goal.close-requires
close-requires g c = grind (arith, common_steps)
