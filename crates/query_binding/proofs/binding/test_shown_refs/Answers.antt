use Rattle.std.proofs.Common.{[]}
use Rattle.std.specs.Option.{option_map_or}
use Rattle.vo_spec.specs.Conditions.{query_of}
use Rattle.vo_spec.specs.Results.{ref_fault, item_refs, join_refs}
use Rattle.query_binding.specs.HeldSources.{bound_sources_seen}
use Rattle.query_binding.proofs.Passing.{passes_mapped, fails_mapped}
use Rattle.query_binding.proofs.binding.test_shown_refs.Goals as goal

pub returns-in-Ok : goal.returns-in-Ok
returns-in-Ok c =
    let q = query_of c.args.query.now in
    passes_mapped (ref_fault (bound_sources_seen c.args.bound_sources.now)) c.test_join_refs.result c.test_items.result c.in-Ok.field-0 (item_refs q.items) (option_map_or join_refs q.join []) c.in-Ok.is c.test_items.ensures c.test_join_refs.ensures

pub returns-in-Err : goal.returns-in-Err
returns-in-Err c =
    let q = query_of c.args.query.now in
    fails_mapped (ref_fault (bound_sources_seen c.args.bound_sources.now)) (Unit {0}) c.test_items.result c.in-Err.fault (item_refs q.items) (option_map_or join_refs q.join []) c.in-Err.is c.test_items.ensures
