use Rattle.std.proofs.Common.{List, sym, subst}
use Rattle.vo_spec.specs.declared.records.Entry.{Entry}
use Rattle.vo_spec.specs.Owners.{AreLoadable}
use Rattle.owner_state.proofs.SlotLaws.{AreSlots}
use Rattle.vo_commands.specs.Expected.{IsUnservableAt}
use Rattle.vo_commands.specs.Serving.{StopsLoading}
use Rattle.vo_commands.proofs.ServeSteps.{ends_damaged, stops_loading, unservable_behind}
use Rattle.vo_commands.proofs.serve.store_of.Goals as goal

pub returns-in_ok-bad_entry-in-Damaged-clause-known : goal.returns-in_ok-bad_entry-in-Damaged-clause-known
returns-in_ok-bad_entry-in-Damaged-clause-known c =
    let es : List Entry = c.in_ok-slots.slots.entries in
    let slots : AreSlots c.args.journal.now es = record { begins = c.in_ok-slots.ensures.begins; only = λ fs b. c.in_ok-slots.ensures.only fs b } in
    let are : AreLoadable c.args.key es = subst (AreLoadable c.args.key) c.as_slice.ensures c.in-Ok.ensures.taken in
    let at_end = unservable_behind c.args.key c.args.journal.now es slots are (ends_damaged c.args.journal.now es _ c.in-Damaged.at c.in-Damaged.is c.in_ok-slots.ensures.ending) in
    (c.len-count.result, subst (IsUnservableAt c.args.key c.args.journal.now) (sym c.len-count.ensures) at_end, c.in_ok-bad_entry-in-Damaged.ensures)

pub returns-in-Err-clause-known : goal.returns-in-Err-clause-known
returns-in-Err-clause-known c =
    let es : List Entry = c.in_ok-slots.slots.entries in
    let slots : AreSlots c.args.journal.now es = record { begins = c.in_ok-slots.ensures.begins; only = λ fs b. c.in_ok-slots.ensures.only fs b } in
    stops_loading c.args.key c.args.journal.now es c.in-Err.stop slots
    (subst (λ (xs : List Entry). StopsLoading c.args.key xs c.in-Err.stop) c.as_slice.ensures c.in-Err.ensures.stopped)
