use Rattle.sql_text.proofs.PrintTexts.{last_blank}
use Rattle.sql_text.proofs.printing.without_last_blank.Goals as goal

pub returns : goal.returns
returns c tokens e = last_blank tokens c.args.out.items c.pop.new.self.items c.args.out.len (c.args.out.ok.0) c.pop.ensures.rest e
