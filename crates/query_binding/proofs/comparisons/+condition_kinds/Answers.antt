use Rattle.std.proofs.Common.{map, refl}
use Rattle.vo_spec.specs.Conditions.{condition_of, conditions, of_tests_in, sides, comparisons}
use Rattle.vo_spec.specs.Results.{kind_fault}
use Rattle.query_binding.specs.HeldSources.{bound_sources_seen}
use Rattle.query_binding.proofs.CondLaws.{comparison_seen}
use Rattle.query_binding.proofs.Passing.{passed_part, found_part}
use Rattle.query_binding.proofs.comparisons.+condition_kinds.Goals as goal

pub test_parts-returns-in-Err : goal.test_parts-returns-in-Err
test_parts-returns-in-Err t c =
    found_part (kind_fault (bound_sources_seen c.args.bound_sources.now)) (λ cond. comparisons (condition_of cond)) (λ parts. of_tests_in sides (conditions (map condition_of parts))) (λ x xs. refl)
    c.args.parts.now _ c.part-item.result c.loop-part-test.true c.part-item.is c.loop-part.invariant c.test_condition.result c.in-Err.fault c.in-Err.is c.test_condition.ensures

pub test_parts-loop-part-preserved : goal.test_parts-loop-part-preserved
test_parts-loop-part-preserved t c =
    passed_part (kind_fault (bound_sources_seen c.args.bound_sources.now)) (λ cond. comparisons (condition_of cond)) (λ parts. of_tests_in sides (conditions (map condition_of parts))) (λ x xs. refl)
    c.args.parts.now _ c.part-item.result c.loop-part-test.true c.part-item.is c.loop-part.invariant c.test_condition.result c.in-Ok.field-0 c.in-Ok.is c.test_condition.ensures

pub test_condition-returns-in-Test : goal.test_condition-returns-in-Test
test_condition-returns-in-Test t c = rw (c.in-Test.is, comparison_seen) c.test_kinds.ensures
