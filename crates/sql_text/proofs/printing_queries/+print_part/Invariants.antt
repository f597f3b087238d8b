use Rattle.std.proofs.Common.{◌≡◌, ◌+◌, ◌*◌, ◌++◌, map, drop}
use Rattle.vo_spec.specs.Conditions.{condition_of, conditions}
use Rattle.sql_text.specs.Printing.{parts_tokens, text_of}
use Rattle.sql_text.proofs.PrintSizes.{size, sizes_of}
use Rattle.sql_text.proofs.printing_queries.+print_part.Given as goal

abbrev pub decreases-print_part : goal.decreases-print_part
decreases-print_part l = 3 * size (condition_of l.part.now) + 1

abbrev pub decreases-print_negated : goal.decreases-print_negated
decreases-print_negated l = 3 * size (condition_of l.part.now) + 2

abbrev pub decreases-print_condition : goal.decreases-print_condition
decreases-print_condition l = 3 * size (condition_of l.cond.now)

abbrev pub decreases-print_parts : goal.decreases-print_parts
decreases-print_parts l = 3 * sizes_of l.parts.now + 2

abbrev pub decreases-print_other_parts : goal.decreases-print_other_parts
decreases-print_other_parts l = 3 * sizes_of l.others.now

abbrev pub invariant-print_other_parts-loop-part : goal.invariant-print_other_parts-loop-part
invariant-print_other_parts-loop-part l =
    l.out.items ++ text_of (parts_tokens l.word (conditions (map condition_of (drop l.part-index l.others))))
    ≡ l.initial.out.items ++ text_of (parts_tokens l.word (conditions (map condition_of l.others)))
