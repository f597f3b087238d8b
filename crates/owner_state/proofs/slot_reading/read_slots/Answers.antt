use Rattle.owner_state.proofs.JournalLaws.{ends_so, only_first}
use Rattle.owner_state.proofs.slot_reading.read_slots.Goals as goal

pub returns-clause-ending : goal.returns-clause-ending
returns-clause-ending c =
    rw c.from_vec.ensures
    (ends_so c.args.bytes.now c.in_ok-front.front.entries.items c.in_ok-front.front.rest.now c.ending_at-ending.result c.in_ok-front.ensures c.ending_at-ending.ensures)

pub returns-clause-only : goal.returns-clause-only
returns-clause-only c = λ es begins.
    rw c.from_vec.ensures
    (only_first c.args.bytes.now c.in_ok-front.front.entries.items c.in_ok-front.front.rest.now es c.in_ok-front.ensures begins)
