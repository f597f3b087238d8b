use Rattle.std.proofs.Common.{map}
use Rattle.vo_spec.specs.Conditions.{query_of}
use Rattle.vo_spec.specs.Results.{ref_fault, query_refs}
use Rattle.query_binding.specs.HeldSources.{bound_sources_seen}
use Rattle.query_binding.specs.Binding.{kind_tests}
use Rattle.query_binding.proofs.Passing.{passes_more, fails_more}
use Rattle.query_binding.proofs.binding.test_names.Goals as goal

pub returns-in-Ok : goal.returns-in-Ok
returns-in-Ok c =
    let q = query_of c.args.query.now in
    passes_more c.test_kinds.result c.test_references.result c.in-Ok.field-0 (map (ref_fault (bound_sources_seen c.args.bound_sources.now)) (query_refs q)) (kind_tests (bound_sources_seen c.args.bound_sources.now) q) c.in-Ok.is c.test_references.ensures c.test_kinds.ensures

pub returns-in-Err : goal.returns-in-Err
returns-in-Err c =
    let q = query_of c.args.query.now in
    fails_more (Unit {0}) c.test_references.result c.in-Err.fault (map (ref_fault (bound_sources_seen c.args.bound_sources.now)) (query_refs q)) (kind_tests (bound_sources_seen c.args.bound_sources.now) q) c.in-Err.is c.test_references.ensures
