use Rattle.std.proofs.Common.{◌≡◌, drop}
use Rattle.plan_run.specs.EntryViews.{named_value}
use Rattle.plan_run.proofs.entry_views.named_value.Given as goal

-- the value is among the cells to come, if it is among all
abbrev pub invariant-loop-found : goal.invariant-loop-found
invariant-loop-found g l = named_value (g.E.RowEntry.entry l.entry).row (drop l.found-index l.cells) l.cell ≡ named_value (g.E.RowEntry.entry l.entry).row l.cells l.cell
