use Rattle.std.proofs.lemmas.List.{take_rest}
use Rattle.update_proof.proofs.InsertionPaths.{outside_before, outside_after}
use Rattle.update_proof.proofs.surplus.open_outside.Goals as goal

pub returns-then-any_open : goal.returns-then-any_open
returns-then-any_open c = outside_before c.args.children.now c.args.from c.args.to c.any_open.result c.any_open.ensures c.if-any_open.true

pub returns-else-any_open : goal.returns-else-any_open
returns-else-any_open c =
    let after = rw take_rest at c.any_open-else-any_open.ensures in
    outside_after c.args.children.now c.args.from c.args.to c.any_open.result c.any_open-else-any_open.result c.any_open.ensures c.if-any_open.false after
