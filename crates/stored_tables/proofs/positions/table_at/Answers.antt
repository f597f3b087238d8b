use Rattle.stored_tables.proofs.ListLaws.{table_there}
use Rattle.stored_tables.proofs.positions.table_at.Goals as goal

pub returns : goal.returns
returns c = table_there c.args.tables.now c.args.at c.index-tables-at.result _ c.requires c.index-tables-at.is c.deref.ensures
