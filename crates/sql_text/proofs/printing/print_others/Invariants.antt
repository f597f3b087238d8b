use Rattle.std.proofs.Common.{◌≡◌, ◌∷◌, ◌++◌, take}
use Rattle.std.specs.List.{flat_map}
use Rattle.sql_text.specs.Printing.{word, text_of}
use Rattle.sql_text.proofs.printing.print_others.Given as goal

abbrev pub invariant-loop-part : goal.invariant-loop-part
invariant-loop-part g l = l.out.items ≡ l.initial.out.items ++ text_of (flat_map (λ part. word l.separator ∷ g.P.Print.tokens part) (take l.part-index l.others))
