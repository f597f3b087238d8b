use Rattle.std.proofs.Common.{map, ◌<◌, drop}
use Rattle.vo_spec.specs.Walks.{walk_of_entries}
use Rattle.range_proof.specs.declared.searching.Search.{Search}
use Rattle.range_proof.specs.Searching.{Searches}
use Rattle.range_proof.proofs.entry_search.search_entries.Given as goal

-- what a search of the entries to come answers, by what is still wanted, one of all answers
abbrev pub invariant-loop-entry : goal.invariant-loop-entry
invariant-loop-entry g l =
    (0 < l.wanted) × ((r : Search)
    → Searches r (g.T.RowTest.meets l.test) l.wanted (walk_of_entries l.need (map g.E.RowEntry.entry (drop l.entry-index l.entries)))
    → Searches r (g.T.RowTest.meets l.test) l.fn.wanted (walk_of_entries l.need (map g.E.RowEntry.entry l.entries)))
