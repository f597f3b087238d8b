use Rattle.std.proofs.Common.{map, ap}
use Rattle.std.proofs.lemmas.List.{drop_all}
use Rattle.vo_spec.specs.Walks.{walk_of_entries}
use Rattle.range_proof.proofs.Searches.{step_over, step_on, entry_here, search_done}
use Rattle.range_proof.proofs.entry_search.search_entries.Goals as goal

pub returns-in_default : goal.returns-in_default
returns-in_default g c =
    step_over _ _ _ _ _ _ _ (entry_here g.E.RowEntry.entry c.args.need.now _ _ _ c.loop-entry-test.true c.entry-item.is) c.loop-entry.invariant.1
    c.search_entry.result c.in_default.not-Ended c.search_entry.ensures

pub loop-entry-preserved : goal.loop-entry-preserved
loop-entry-preserved g c =
    step_on _ _ _ _ _ _ _ (entry_here g.E.RowEntry.entry c.args.need.now _ _ _ c.loop-entry-test.true c.entry-item.is) c.loop-entry.invariant.1
    c.search_entry.result c.in-Ended.more c.in-Ended.is c.search_entry.ensures

pub returns : goal.returns
returns g c =
    search_done _ _ _ _ _ (ap (λ es. walk_of_entries c.args.need.now (map g.E.RowEntry.entry es)) (drop_all _ _ c.loop-entry-test.false)) c.loop-entry.invariant.0 c.loop-entry.invariant.1
