use Rattle.std.proofs.Common.{take, ap, ◌∙◌}
use Rattle.vo_spec.specs.Secret.{lower_tree}
use Rattle.lms_sign.proofs.lower_tree.make_lower.Goals as goal

pub returns : goal.returns
unfolding lower_tree
returns c =
    let id_is = c.copy_from_slice.ensures.after ∙ ap (take 16) (c.as_bytes.ensures.value ∙ c.secret-long.ensures) in
    let seed_is = c.as_bytes-seed.ensures.value ∙ c.secret.ensures in
    rw (← c.upper.view_is) (rw (id_is, seed_is) at c.make.ensures.value)
