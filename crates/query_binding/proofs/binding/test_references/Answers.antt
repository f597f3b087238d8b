use Rattle.std.proofs.Common.{[]}
use Rattle.std.specs.Option.{option_map_or}
use Rattle.vo_spec.specs.Conditions.{query_of, condition_refs}
use Rattle.vo_spec.specs.Results.{ref_fault}
use Rattle.query_binding.specs.HeldSources.{bound_sources_seen}
use Rattle.query_binding.specs.Binding.{shown_refs}
use Rattle.query_binding.proofs.Passing.{passes_mapped, fails_mapped}
use Rattle.query_binding.proofs.binding.test_references.Goals as goal

pub returns-in-Ok : goal.returns-in-Ok
returns-in-Ok c =
    let q = query_of c.args.query.now in
    passes_mapped (ref_fault (bound_sources_seen c.args.bound_sources.now)) c.test_condition_refs.result c.test_shown_refs.result c.in-Ok.field-0 (shown_refs q) (option_map_or condition_refs q.condition []) c.in-Ok.is c.test_shown_refs.ensures c.test_condition_refs.ensures

pub returns-in-Err : goal.returns-in-Err
returns-in-Err c =
    let q = query_of c.args.query.now in
    fails_mapped (ref_fault (bound_sources_seen c.args.bound_sources.now)) (Unit {0}) c.test_shown_refs.result c.in-Err.fault (shown_refs q) (option_map_or condition_refs q.condition []) c.in-Err.is c.test_shown_refs.ensures
