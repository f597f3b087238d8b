use Rattle.std.proofs.Common.{sym}
use Rattle.stored_tables.specs.View.{stored_in, lent_stored}
use Rattle.stored_tables.proofs.LimitLaws.{fits_at}
use Rattle.stored_tables.proofs.PositionLaws.{find_at, find_nowhere}
use Rattle.stored_tables.proofs.positions.table_of.Goals as goal

pub returns-in-Some-clause-found : goal.returns-in-Some-clause-found
returns-in-Some-clause-found c = sym (find_at c.args.name.now (stored_in c.args.tables.now) c.in-Some.place.at _ c.in-Some.ensures)

pub returns-in-None-clause-found : goal.returns-in-None-clause-found
returns-in-None-clause-found c = sym (find_nowhere c.args.name.now (stored_in c.args.tables.now) c.in-None.ensures)

pub returns-in-Some-clause-fits : goal.returns-in-Some-clause-fits
returns-in-Some-clause-fits c =
    fits_at c.args.name.now (stored_in c.args.tables.now) c.in-Some.place.at (lent_stored c.in-Some.place.table) c.requires c.in-Some.ensures
