use Rattle.std.proofs.Common.{sym, ◌∙◌}
use Rattle.lms_sign.proofs.Reading.{named_one}
use Rattle.lms_sign.proofs.public_key.read_one.Goals as goal

pub returns-in_err-tree-clause-named : goal.returns-in_err-tree-clause-named
returns-in_err-tree-clause-named c =
    rw c.from_residual.ensures (c.in_err-tree.ensures.named ∙ sym (named_one c.args.bytes.now c.requires))

pub returns-clause-named : goal.returns-clause-named
returns-clause-named c = c.in_ok-tree.ensures.named ∙ sym (named_one c.args.bytes.now c.requires)
