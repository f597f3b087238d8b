use Rattle.std.proofs.Common.{sym, ap, ◌∙◌, subst}
use Rattle.std.specs.Str.{IsUtf8}
use Rattle.sql_text.specs.Commands.{batch}
use Rattle.sql_text.specs.Texts.{IsTextOf}
use Rattle.sql_text.proofs.PrintBatches.{batch_printed, batch_reads}
use Rattle.sql_text.proofs.PrintUtf8.{batch_utf8}
use Rattle.sql_text.proofs.printing_commands.print_batch.Goals as goal

pub from_utf8_unchecked-requires : goal.from_utf8_unchecked-requires
from_utf8_unchecked-requires c =
    subst IsUtf8
    (sym (batch_printed c.args.batch.now.commands c.as_slice.result.now c.new-out.result.items c.print_terminated.new.out.items c.without_last_blank.result.items c.new-out.ensures.items c.as_slice.ensures
    c.in_ok-print_terminated.ensures c.without_last_blank.ensures))
    (batch_utf8 c.args.batch.now.commands c.requires)

pub returns-clause-printed : goal.returns-clause-printed
returns-clause-printed c =
    ap (λ v. v.items) c.from_utf8_unchecked.ensures.value
    ∙ batch_printed c.args.batch.now.commands c.as_slice.result.now c.new-out.result.items c.print_terminated.new.out.items c.without_last_blank.result.items c.new-out.ensures.items c.as_slice.ensures
    c.in_ok-print_terminated.ensures c.without_last_blank.ensures

pub returns-clause-reads : goal.returns-clause-reads
returns-clause-reads c h = subst (λ z. IsTextOf 65536 batch z c.args.batch.now) (sym (returns-clause-printed c)) (batch_reads c.args.batch.now h)
