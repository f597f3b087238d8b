use Rattle.std.proofs.Common.{sym, ◌∙◌}
use Rattle.lms_sign.proofs.Keys.{leaves_fit, leaves_few, tree_leaves-bytes}
use Rattle.lms_sign.proofs.lms_key.LmsKey.leaves.Goals as goal

pub returns-clause-value : goal.returns-clause-value
returns-clause-value c =
    rw (← c.self.view_is, c.height.ensures)
    (leaves_fit c.self.inside.lms
    ∙ sym (tree_leaves-bytes c.self.inside.lms c.self.inside.ots c.self.inside.id c.self.inside.root))

pub returns-clause-few : goal.returns-clause-few
returns-clause-few c = rw (c.height.ensures, leaves_fit c.self.inside.lms) (leaves_few c.self.inside.lms)
