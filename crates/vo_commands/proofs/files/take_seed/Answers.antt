use Rattle.cli_args.specs.Shapes.{plain_shape}
use Rattle.vo_commands.proofs.Steps.{seed_goes_on}
use Rattle.vo_commands.proofs.files.take_seed.Goals as goal

pub returns-clause-known : goal.returns-clause-known
returns-clause-known g c =
    seed_goes_on _ _ (plain_shape c.args.shape) _ _ c.in_ok-bytes.ensures.known (rw c.deref.ensures.value at c.secret_key.ensures.known)
