use Rattle.std.proofs.Common.{◌+◌, ℕ, List, get_or, drop, reverse, sym, ap, subst, ◌∙◌, arith}
use Rattle.vo_spec.specs.declared.records.Entry.{Entry}
use Rattle.owner_journal.specs.Taking.{AreSlotsOf}
use Rattle.owner_journal.proofs.TakingLaws.{IsTaking, all_taken, last_slot, next_count, none_left, nothing_taken, one_taken, within}
use Rattle.owner_journal.proofs.taking.take_entries.Goals as goal

pub loop-count-init : goal.loop-count-init
loop-count-init c =
    subst (λ (es : List Entry). IsTaking c.args.bytes.now.items c.args.bytes.now.items c.deref-count-items.result.now es) (sym c.in_ok-entries.ensures.items)
    (nothing_taken c.args.bytes.now.items c.deref-count-items.result.now c.requires.0 c.requires.1
    (c.deref-count-items.ensures.value ∙ c.reverse.ensures.items ∙ ap reverse c.requires.2))

pub take_last-requires-clause-within : goal.take_last-requires-clause-within
take_last-requires-clause-within c =
    let first : List ℕ = c.args.bytes.now.items in
    let counts : List ℕ = c.deref-count-items.result.now in
    let i = c.loop-count.count-index in
    within first c.loop-count.bytes.items (get_or counts i 0) (drop (i + 1) counts) c.loop-count.entries.items
    (next_count first c.loop-count.bytes.items counts i c.loop-count.entries.items c.loop-count-test.true c.loop-count.invariant)

pub take_last-requires-clause-slot : goal.take_last-requires-clause-slot
take_last-requires-clause-slot c =
    let first : List ℕ = c.args.bytes.now.items in
    let counts : List ℕ = c.deref-count-items.result.now in
    let i = c.loop-count.count-index in
    last_slot first c.loop-count.bytes.items (get_or counts i 0) (drop (i + 1) counts) c.loop-count.entries.items
    (next_count first c.loop-count.bytes.items counts i c.loop-count.entries.items c.loop-count-test.true c.loop-count.invariant)

pub loop-count-preserved : goal.loop-count-preserved
loop-count-preserved c =
    let first : List ℕ = c.args.bytes.now.items in
    let counts : List ℕ = c.deref-count-items.result.now in
    let i = c.loop-count.count-index in
    let more = one_taken first c.loop-count.bytes.items (get_or counts i 0) (drop (i + 1) counts) c.loop-count.entries.items
    (next_count first c.loop-count.bytes.items counts i c.loop-count.entries.items c.loop-count-test.true c.loop-count.invariant)
    c.take_last.new.bytes.items c.in_ok-take_last.field-0 c.in_ok-take_last.ensures.fits c.in_ok-take_last.ensures.slot c.in_ok-take_last.ensures.rest in
    subst (λ (es : List Entry). IsTaking first c.take_last.new.bytes.items (drop (i + 1) counts) es) (sym {A = List Entry} (c.in_ok-push.ensures {u = tt}).items) more

pub returns : goal.returns
returns c =
    let first : List ℕ = c.args.bytes.now.items in
    let counts : List ℕ = c.deref-count-items.result.now in
    let done : List Entry = c.loop-count.entries.items in
    let t = subst (λ (ns : List ℕ). IsTaking first c.loop-count.bytes.items ns done)
    (none_left counts c.loop-count.count-index (omega (arith, c.loop-count-test.false))) c.loop-count.invariant in
    subst (λ (es : List Entry). AreSlotsOf first es) (sym c.reverse-2.ensures.items) (all_taken first c.loop-count.bytes.items done t)
