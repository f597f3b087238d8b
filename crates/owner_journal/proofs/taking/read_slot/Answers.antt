use Rattle.std.proofs.Common.{◌≡◌, ap, sym, ◌∙◌, arith, length}
use Rattle.vo_spec.specs.declared.records.Entry.{Entry}
use Rattle.vo_spec.specs.Journals.{slot}
use Rattle.owner_journal.proofs.Cases.{if_ok}
use Rattle.owner_journal.proofs.TakingLaws.{first_is, removed_is}
use Rattle.owner_journal.proofs.taking.read_slot.Goals as goal

pub remove-requires : goal.remove-requires
remove-requires c =
    let first = first_is c.args.bytes.now c.in_ok-slots.slots.entries c.in_ok-slots.ensures.only c.requires.0 c.requires.1 c.requires.2 in
    omega (arith, c.into_vec-entries.result.ok.0, ap length (c.into_vec-entries.ensures ∙ first.1))

pub returns-clause-slot : goal.returns-clause-slot
returns-clause-slot c =
    let first = first_is c.args.bytes.now c.in_ok-slots.slots.entries c.in_ok-slots.ensures.only c.requires.0 c.requires.1 c.requires.2 in
    let removed : c.remove.result ≡ c.requires.0 =
    removed_is c.into_vec-entries.result.items c.in_ok-slots.slots.entries first.0 c.requires.0 c.remove.result c.into_vec-entries.ensures first.1 c.remove.ensures.value in
    if_ok c.into_entry.result (λ (e : Entry). e ≡ c.remove.result) (λ (e : Entry). c.args.bytes.now ≡ slot e)
    (λ e same. c.requires.2 ∙ ap slot (sym (same ∙ removed))) c.into_entry.ensures
