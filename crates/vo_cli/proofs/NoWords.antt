-- No words ask for nothing, and so leave disk and network.
use Rattle.std.proofs.Common.{◌≡◌, refl, ap, [], None, false}
use Rattle.clap.proofs.OnLiterals.{clap_on_literals}
use Rattle.cli_args.specs.PlainRequest.{request_in}
use Rattle.vo_commands.specs.Expected.{uses_disk, uses_net}

pub no_words : request_in [] ≡ None
unfolding clap_on_literals
no_words = refl

pub no_disk : uses_disk (request_in []) ≡ false
no_disk = ap uses_disk no_words

pub no_net : uses_net (request_in []) ≡ false
no_net = ap uses_net no_words
