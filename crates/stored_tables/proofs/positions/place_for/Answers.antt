use Rattle.stored_tables.specs.View.{stored_in, stored_of}
use Rattle.stored_tables.proofs.PositionLaws.{put_here, put_further}
use Rattle.stored_tables.proofs.positions.place_for.Goals as goal

pub returns-then-is_before-clause-place : goal.returns-then-is_before-clause-place
returns-then-is_before-clause-place c =
    put_here (stored_of c.args.table.now) (stored_in c.args.tables.now) _ c.loop-at.at _ c.is_before.result c.table_at.ensures c.loop-at.invariant c.is_before.ensures c.if-is_before.true

pub loop-at-preserved : goal.loop-at-preserved
loop-at-preserved c =
    put_further (stored_of c.args.table.now) (stored_in c.args.tables.now) _ c.loop-at.at _ c.is_before.result c.table_at.ensures c.loop-at.invariant c.is_before.ensures c.if-is_before.false
