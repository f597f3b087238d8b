use Rattle.stored_tables.specs.View.{stored_in}
use Rattle.stored_tables.proofs.PositionLaws.{found_here, unlike_more}
use Rattle.stored_tables.proofs.positions.table_position.Goals as goal

pub returns-then-has_name : goal.returns-then-has_name
returns-then-has_name c =
    found_here c.args.name.now (stored_in c.args.tables.now) c.loop-at.at _ c.has_name.result c.table_at-table.ensures c.loop-at.invariant c.has_name.ensures c.if-has_name.true

pub loop-at-preserved : goal.loop-at-preserved
loop-at-preserved c =
    unlike_more c.args.name.now (stored_in c.args.tables.now) c.loop-at.at _ c.has_name.result c.table_at-table.ensures c.loop-at.invariant c.has_name.ensures c.if-has_name.false
