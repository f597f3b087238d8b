use Rattle.std.proofs.Common.{arith, length, sym}
use Rattle.std.proofs.lemmas.Bool.{eqb-true, eqb-false}
use Rattle.std.proofs.lemmas.Result.{IfOk-weaker}
use Rattle.owner_state.proofs.EntrySteps.{taken_at_first, taken_behind}
use Rattle.owner_state.proofs.walks.check_next_of_store.Goals as goal

pub returns-then-is_empty : goal.returns-then-is_empty
returns-then-is_empty c =
    taken_at_first c.args.key.now c.args.earlier.now c.args.tables c.args.entry.now c.check_record.result (eqb-true (length c.args.earlier.now) 0 (sym c.if-is_empty.ensures)) c.requires.tables c.check_record.ensures

pub returns-else-is_empty : goal.returns-else-is_empty
returns-else-is_empty c =
    IfOk-weaker c.check_store_entry.result _ _
    (λ found g. taken_behind c.args.key.now c.args.earlier.now c.args.tables c.args.entry.now found (omega (arith, eqb-false (length c.args.earlier.now) 0 (sym c.if-is_empty.ensures))) c.requires.earlier_fit c.requires.fits c.requires.taken c.requires.tables g)
    c.check_store_entry.ensures
