use Rattle.std.proofs.Common.{◌≡◌, ◌++◌, take}
use Rattle.sql_text.specs.Printing.{terminate_by, text_of}
use Rattle.sql_text.proofs.printing.print_terminated.Given as goal

abbrev pub invariant-loop-part : goal.invariant-loop-part
invariant-loop-part g l = l.out.items ≡ l.initial.out.items ++ text_of (terminate_by l.end g.P.Print.tokens (take l.part-index l.parts))
