use Rattle.std.proofs.Common.{ap}
use Rattle.reply_stream.specs.HeadFields.{field_size}
use Rattle.reply_stream.proofs.HeadPieces.{end_short, end_complete, end_invalid}
use Rattle.reply_stream.proofs.head_stream.HeadStream.head.Goals as goal

pub returns-in-Front-clause-none : goal.returns-in-Front-clause-none
returns-in-Front-clause-none c = λ none. end_short c.args.self.now 64 (ap field_size c.in-Front.is)

pub returns-in-SignatureLength-clause-none : goal.returns-in-SignatureLength-clause-none
returns-in-SignatureLength-clause-none c = λ none. end_short c.args.self.now 4 (ap field_size c.in-SignatureLength.is)

pub returns-in-Signature-clause-none : goal.returns-in-Signature-clause-none
returns-in-Signature-clause-none c = λ none. end_short c.args.self.now _ (ap field_size c.in-Signature.is)

pub returns-in-CatalogLength-clause-none : goal.returns-in-CatalogLength-clause-none
returns-in-CatalogLength-clause-none c = λ none. end_short c.args.self.now 4 (ap field_size c.in-CatalogLength.is)

pub returns-in-Catalog-clause-none : goal.returns-in-Catalog-clause-none
returns-in-Catalog-clause-none c = λ none. end_short c.args.self.now _ (ap field_size c.in-Catalog.is)

pub returns-in-Complete-clause-found : goal.returns-in-Complete-clause-found
returns-in-Complete-clause-found c = end_complete c.args.self.now c.in-Complete.head c.in-Complete.is

pub returns-in-Invalid-clause-none : goal.returns-in-Invalid-clause-none
returns-in-Invalid-clause-none c = λ none. end_invalid c.args.self.now c.in-Invalid.is
