use Rattle.std.proofs.Common.{[], map}
use Rattle.std.specs.Prelude.{option_to_list}
use Rattle.std.specs.Option.{option_map_or}
use Rattle.vo_spec.specs.Conditions.{query_of, comparisons}
use Rattle.vo_spec.specs.Results.{join_fault, kind_fault}
use Rattle.query_binding.specs.HeldSources.{bound_sources_seen}
use Rattle.query_binding.proofs.Passing.{passes_more, fails_more}
use Rattle.query_binding.proofs.binding.test_kinds.Goals as goal

pub returns-in-Ok : goal.returns-in-Ok
returns-in-Ok c =
    let q = query_of c.args.query.now in
    let ss = bound_sources_seen c.args.bound_sources.now in
    passes_more c.test_comparisons.result c.test_join.result c.in-Ok.field-0 (map (join_fault ss) (option_to_list q.join)) (map (kind_fault ss) (option_map_or comparisons q.condition [])) c.in-Ok.is c.test_join.ensures c.test_comparisons.ensures

pub returns-in-Err : goal.returns-in-Err
returns-in-Err c =
    let q = query_of c.args.query.now in
    let ss = bound_sources_seen c.args.bound_sources.now in
    fails_more (Unit {0}) c.test_join.result c.in-Err.fault (map (join_fault ss) (option_to_list q.join)) (map (kind_fault ss) (option_map_or comparisons q.condition [])) c.in-Err.is c.test_join.ensures
