use Rattle.std.proofs.Common.{sym, ◌∙◌}
use Rattle.lms_sign.proofs.Keys.{tree_valid-bytes}
use Rattle.lms_sign.proofs.tree_verifying.verify_tree.Goals as goal

pub returns : goal.returns
returns c =
    rw (← c.key.view_is)
    (c.is_valid_under.ensures
    ∙ sym (tree_valid-bytes c.key.inside.lms c.key.inside.ots c.key.inside.id c.key.inside.root
    c.args.message.now c.args.signature.now c.key.invariant))
