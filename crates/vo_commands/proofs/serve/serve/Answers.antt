use Rattle.std.proofs.Common.{refl}
use Rattle.vo_commands.specs.Serving.{service_expected}
use Rattle.vo_commands.proofs.ServeSteps.{ends_by_stop, ends_by_store}
use Rattle.vo_commands.proofs.serve.serve.Goals as goal

pub returns-in-Ok-clause-ends : goal.returns-in-Ok-clause-ends
returns-in-Ok-clause-ends g c =
    ends_by_store _ _ _ _ _ _ _ _ _ _ (service_expected c.args.service.now.key.now c.args.service.now.journal.now c.args.service.now.count) _ c.in-Ok.store c.args.service.now.count
    (c.in-Ok.ensures.known c.args.service.now.count) c.serve_store-status.ensures.ends

pub returns-in-Err-clause-ends : goal.returns-in-Err-clause-ends
returns-in-Err-clause-ends g c =
    ends_by_stop _ _ _ _ _ _ _ _ _ _ (service_expected c.args.service.now.key.now c.args.service.now.journal.now c.args.service.now.count) _ c.in-Err.stop c.args.service.now.count
    (c.in-Err.ensures.known c.args.service.now.count) c.in-Err.ensures.files.cause refl c.print_outcome.ensures.wrote
