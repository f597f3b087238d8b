use Rattle.std.proofs.lemmas.Result.{err_from_is_err_and}
use Rattle.outside.specs.Shelf.{Files}
use Rattle.vo_spec.specs.Secret.{Secret}
use Rattle.vo_commands.specs.Expected.{script_expected, script_limit, seal_expected, seed_limit, with_file, with_seed}
use Rattle.cli_args.specs.Shapes.{plain_shape}
use Rattle.vo_commands.proofs.CommandSteps.{seal_known}
use Rattle.vo_commands.proofs.TakingSteps.{lacks_behind, lacks_it, takes_first, takes_more}
use Rattle.vo_commands.proofs.seal.seal.Goals as goal

pub returns-clause-known : goal.returns-clause-known
returns-clause-known g c =
    seal_known c.args.seed.now c.args.script.now (plain_shape c.args.shape) _ _ _ _ _ c.in_ok-key.ensures.files.leaves.kept c.in_ok-key.ensures.known c.in_ok-script.ensures.known
    (rw c.deref.ensures.value at c.seal_script.ensures.known)

pub returns-clause-files : goal.returns-clause-files
returns-clause-files g c =
    let rest = λ (known : Files) (s : Secret). with_file known c.args.script.now script_limit (script_expected s) in
    takes_more c.args.seed.now (seal_expected c.args.seed.now c.args.script.now (plain_shape c.args.shape)) (λ known. rest known c.in_ok-key.key) _ _ _ _ _ (λ e. e)
    (λ known none. lacks_it (known c.args.seed.now) c.args.seed.now seed_limit _ none)
    (lacks_behind (λ known. with_seed known c.args.seed.now (plain_shape c.args.shape)) c.in_ok-key.key rest _ c.in_ok-key.ensures.known)
    c.in_ok-key.ensures.files
    (takes_first c.args.script.now _ _ _ _ _ (λ e. absurd (c.seal_script.ensures.inside e)) (λ e. absurd e) (λ known none. lacks_it (known c.args.script.now) c.args.script.now script_limit _ none)
    c.in_ok-script.ensures.files)

pub returns-in_err-script-clause-files : goal.returns-in_err-script-clause-files
returns-in_err-script-clause-files g c =
    let rest = λ (known : Files) (s : Secret). with_file known c.args.script.now script_limit (script_expected s) in
    let p = err_from_is_err_and c.from_residual-in_err-script.result c.from_residual-in_err-script.ensures.1 in
    rw (p.1, p.2) (takes_more c.args.seed.now (seal_expected c.args.seed.now c.args.script.now (plain_shape c.args.shape)) (λ known. rest known c.in_ok-key.key) _ _ _ _ _ (λ e. e)
    (λ known none. lacks_it (known c.args.seed.now) c.args.seed.now seed_limit _ none)
    (lacks_behind (λ known. with_seed known c.args.seed.now (plain_shape c.args.shape)) c.in_ok-key.key rest _ c.in_ok-key.ensures.known)
    c.in_ok-key.ensures.files
    (takes_first c.args.script.now _ _ _ _ _ (λ e. e) (λ e. e) (λ known none. lacks_it (known c.args.script.now) c.args.script.now script_limit _ none)
    c.in_err-script.ensures.files))
