use Rattle.std.proofs.Common.{sym}
use Rattle.table_list.specs.TableHeaders.{command_name}
use Rattle.stored_tables.specs.View.{stored_in, lent_stored}
use Rattle.stored_tables.proofs.LimitLaws.{fits_at}
use Rattle.stored_tables.proofs.PositionLaws.{proof_nowhere, proof_at, unlike_lent, at_lent}
use Rattle.stored_tables.proofs.ProofLaws.{as_found, found_fits}
use Rattle.stored_tables.proofs.command_proofs.proof_of.Goals as goal

pub returns-in-None-clause-honest : goal.returns-in-None-clause-honest
returns-in-None-clause-honest c =
    let command = c.args.command.now in
    let stored = stored_in c.args.tables.now in
    sym (proof_nowhere command stored (unlike_lent _ (command_name command) stored c.command_name.ensures c.in-None.ensures))

pub returns-in-Some-clause-honest : goal.returns-in-Some-clause-honest
returns-in-Some-clause-honest c =
    let command = c.args.command.now in
    let stored = stored_in c.args.tables.now in
    let s = lent_stored c.in-Some.place.table in
    as_found c.proof_on.result command stored s (proof_at command stored c.in-Some.place.at s (at_lent _ (command_name command) stored c.in-Some.place.at s c.command_name.ensures c.in-Some.ensures))
    c.proof_on.ensures

pub returns-in-Some-clause-fits : goal.returns-in-Some-clause-fits
returns-in-Some-clause-fits c =
    let command = c.args.command.now in
    let stored = stored_in c.args.tables.now in
    let s = lent_stored c.in-Some.place.table in
    found_fits c.proof_on.result command s (fits_at _ stored c.in-Some.place.at s c.requires.standing c.in-Some.ensures) c.proof_on.ensures
