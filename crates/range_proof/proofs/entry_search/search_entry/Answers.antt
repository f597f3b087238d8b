use Rattle.std.proofs.Common.{refl, sym, ◌∙◌}
use Rattle.range_proof.proofs.EntrySearches.{hidden, unmet, met_last, met_more}
use Rattle.range_proof.proofs.entry_search.search_entry.Goals as goal

pub returns-then-hides_any : goal.returns-then-hides_any
returns-then-hides_any g c =
    hidden c.args.need.now (g.E.RowEntry.entry c.args.entry.now) (g.T.RowTest.meets c.args.test.now) c.args.wanted _ _ c.entry_key-key.ensures c.as_slice-columns.ensures
    (sym c.in_interval.ensures ∙ c.if-not-in_interval.false) (sym c.hides_any.ensures ∙ c.if-hides_any.true)

pub returns-then-not-meets : goal.returns-then-not-meets
returns-then-not-meets g c =
    unmet c.args.need.now (g.E.RowEntry.entry c.args.entry.now) (g.T.RowTest.meets c.args.test.now) c.args.wanted _ _ c.entry_key-key.ensures c.as_slice-columns.ensures
    (sym c.in_interval.ensures ∙ c.if-not-in_interval.false) _ c.requires.columns c.meets.result c.meets.ensures (sym c.hides_any.ensures ∙ c.if-hides_any.false)
    c.if-not-meets.true c.requires.wanted

pub returns-then-wanted-eq1 : goal.returns-then-wanted-eq1
returns-then-wanted-eq1 g c =
    met_last c.args.need.now (g.E.RowEntry.entry c.args.entry.now) (g.T.RowTest.meets c.args.test.now) c.args.wanted _ _ c.entry_key-key.ensures c.as_slice-columns.ensures
    (sym c.in_interval.ensures ∙ c.if-not-in_interval.false) _ c.requires.columns c.meets.result c.meets.ensures (sym c.hides_any.ensures ∙ c.if-hides_any.false)
    c.if-not-meets.false c.if-wanted-eq1.true c.entry_key-key.result refl

pub returns-else-wanted-eq1 : goal.returns-else-wanted-eq1
returns-else-wanted-eq1 g c =
    met_more c.args.need.now (g.E.RowEntry.entry c.args.entry.now) (g.T.RowTest.meets c.args.test.now) c.args.wanted _ _ c.entry_key-key.ensures c.as_slice-columns.ensures
    (sym c.in_interval.ensures ∙ c.if-not-in_interval.false) _ c.requires.columns c.meets.result c.meets.ensures (sym c.hides_any.ensures ∙ c.if-hides_any.false)
    c.if-not-meets.false c.requires.wanted c.if-wanted-eq1.false
