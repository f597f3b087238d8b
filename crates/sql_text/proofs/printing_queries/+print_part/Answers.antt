use Rattle.std.proofs.Common.{ap, arith}
use Rattle.std.proofs.lemmas.Grind.{common_steps}
use Rattle.sql_text.proofs.PrintSizes.{sizes_of, part_falls}
use Rattle.sql_text.proofs.printing_queries.+print_part.Goals as goal

pub print_parts-print_part-requires : goal.print_parts-print_part-requires
print_parts-print_part-requires t c = let e = ap sizes_of c.in-Some.ensures.cases.0 in (omega arith, tt)

pub print_parts-print_other_parts-requires : goal.print_parts-print_other_parts-requires
print_parts-print_other_parts-requires t c = let e = ap sizes_of c.in-Some.ensures.cases.0 in (omega arith, tt)

pub print_other_parts-print_part-requires : goal.print_other_parts-print_part-requires
print_other_parts-print_part-requires t c =
    let falls = part_falls c.args.others.now _ _ c.loop-part-test.true c.part-item.is in (omega (arith, falls), tt)

pub print_part-returns : goal.print_part-returns
print_part-returns t c = grind (arith, common_steps)

pub print_parts-returns-in_ok-print_other_parts : goal.print_parts-returns-in_ok-print_other_parts
print_parts-returns-in_ok-print_other_parts t c = grind (arith, common_steps)

pub print_other_parts-loop-part-preserved : goal.print_other_parts-loop-part-preserved
print_other_parts-loop-part-preserved t c = grind (arith, common_steps)
