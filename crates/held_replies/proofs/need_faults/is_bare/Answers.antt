use Rattle.std.proofs.Common.{◌≡◌, true, inr, refl}
use Rattle.vo_spec.specs.Pruning.{is_missing}
use Rattle.mb_tree.specs.View.{part_of}
use Rattle.held_replies.proofs.need_faults.is_bare.Goals as goal

pub returns-in-Ok : goal.returns-in-Ok
returns-in-Ok c = (rw c.in-Ok.ensures.0 refl, c.in-Ok.ensures.1)

pub returns-in-Err-Missing : goal.returns-in-Err-Missing
returns-in-Err-Missing c =
    let missing : is_missing c.args.needs.now (part_of c.args.tree.now) ≡ true = rw (c.in-Err-Missing.is, c.in-Err-Missing.field-0-is) at c.is_canonical.ensures in
    inr (rw missing refl)
