use Rattle.std.proofs.Common.{◌≡◌, map, drop}
use Rattle.vo_spec.specs.Firsts.{first_some}
use Rattle.vo_spec.specs.Results.{ref_fault}
use Rattle.query_binding.specs.HeldSources.{bound_sources_seen}
use Rattle.query_binding.proofs.references.test_refs.Given as goal

abbrev pub invariant-loop-reference : goal.invariant-loop-reference
invariant-loop-reference l = first_some (map (ref_fault (bound_sources_seen l.bound_sources)) (drop l.reference-index l.references)) ≡ first_some (map (ref_fault (bound_sources_seen l.bound_sources)) l.references)
