-- What a request asks for.
use Rattle.cli_args.specs.PlainRequest.{PlainRequest}
use Rattle.cli_args.specs.PlainRequest as is
use Rattle.cli_args.specs.Shapes.{plain_shape}
use Rattle.cli_args.specs.declared.request.Command.{Command}
use Rattle.cli_args.specs.declared.request.Command.TheVariants.{Keygen, Seal, Answer, Check, Ask, Audit, Explain, Meet, Generate}
use Rattle.cli_args.specs.declared.request.Commitment.{Commitment}
use Rattle.cli_args.specs.declared.request.OwnerAudit.{OwnerAudit}
use Rattle.cli_args.specs.declared.request.Service.{Service}
use Rattle.cli_args.specs.declared.request.Request.{Request}
use Rattle.cli_args.specs.declared.request.Request.TheVariants.{Command as OfCommand, Own, Serve}

abbrev pub plain_owner_audit : OwnerAudit → PlainRequest
plain_owner_audit audit = is.Explain audit.key.now audit.journal.now audit.query.now
    audit.reply.now audit.seed.now (plain_shape audit.shape)

abbrev pub plain_command : Command → PlainRequest
plain_command (Keygen seed shape) = is.Keygen seed.now (plain_shape shape)
plain_command (Seal seed script shape) = is.Seal seed.now script.now (plain_shape shape)
plain_command (Answer key journal query at) = is.Answer key.now journal.now query.now at
plain_command (Check key query reply least) = is.Check key.now query.now reply.now least
plain_command (Ask address key query at least) =
    is.Ask address.now key.now query.now at least
plain_command (Audit key journal query reply) = is.Audit key.now journal.now query.now reply.now
plain_command (Explain audit) = plain_owner_audit audit
plain_command (Meet key query first second) = is.Meet key.now query.now first.now second.now
plain_command (Generate steps number) = is.Generate steps number

abbrev pub plain_service : Service → PlainRequest
plain_service service =
    is.Serve service.address.now service.key.now service.journal.now service.count

abbrev pub plain_commitment : Commitment → PlainRequest
plain_commitment commitment = is.Own commitment.seed.now commitment.address.now
    commitment.script.now (plain_shape commitment.shape)

abbrev pub plain_request : Request → PlainRequest
plain_request (OfCommand command) = plain_command command
plain_request (Own commitment) = plain_commitment commitment
plain_request (Serve service) = plain_service service
