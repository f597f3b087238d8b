use Rattle.std.proofs.Common.{◌≡◌, length, subst, ap, ◌∙◌, arith}
use Rattle.owner_state.specs.Endings.{EndsSo, behind}
use Rattle.owner_state.proofs.JournalLaws.{one_journal, one_damage}
use Rattle.owner_state.proofs.journal_reading.read_entries.Goals as goal

pub returns-clause-found : goal.returns-clause-found
returns-clause-found c =
    (subst (EndsSo c.args.bytes.now c.in_ok-slots.slots.entries) c.in_default.is c.in_ok-slots.ensures.ending).0

pub returns-clause-only : goal.returns-clause-only
returns-clause-only c = λ es journal.
    let entries = c.in_ok-slots.slots.entries in
    one_journal c.args.bytes.now entries es (subst (EndsSo c.args.bytes.now entries) c.in_default.is c.in_ok-slots.ensures.ending).0 journal

pub returns-in-Damaged-clause-only_damaged : goal.returns-in-Damaged-clause-only_damaged
returns-in-Damaged-clause-only_damaged c = λ es damage.
    let entries = c.in_ok-slots.slots.entries in
    let ends = subst (EndsSo c.args.bytes.now entries) c.in-Damaged.is c.in_ok-slots.ensures.ending in
    let same : entries ≡ es = one_damage c.args.bytes.now entries es (λ i. omega (arith, c.type_inv.bytes i)) ends.0 damage in
    (c.len-index.ensures ∙ ap length same, ends.1 ∙ ap behind same)
