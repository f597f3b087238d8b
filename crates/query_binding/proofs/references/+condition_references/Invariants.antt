use Rattle.std.proofs.Common.{◌≡◌, map, drop}
use Rattle.vo_spec.specs.Firsts.{first_some}
use Rattle.vo_spec.specs.Conditions.{condition_of, conditions, of_tests_in, test_refs}
use Rattle.vo_spec.specs.Results.{ref_fault}
use Rattle.query_binding.specs.HeldSources.{bound_sources_seen}
use Rattle.query_binding.proofs.references.+condition_references.Given as goal

abbrev pub invariant-test_parts-loop-part : goal.invariant-test_parts-loop-part
invariant-test_parts-loop-part l = first_some (map (ref_fault (bound_sources_seen l.bound_sources)) (of_tests_in test_refs (conditions (map condition_of (drop l.part-index l.parts))))) ≡ first_some (map (ref_fault (bound_sources_seen l.bound_sources)) (of_tests_in test_refs (conditions (map condition_of l.parts))))
