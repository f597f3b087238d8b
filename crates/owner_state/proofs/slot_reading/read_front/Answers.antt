use Rattle.std.proofs.Common.{◌≡◌, Some, ◌∙◌, sym, ap, arith}
use Rattle.std.specs.List.{flat_map}
use Rattle.vo_spec.specs.Bytes.{IsBytes}
use Rattle.vo_spec.specs.Journals.{slot}
use Rattle.row_bytes.proofs.Readers.{IsBytes-after}
use Rattle.owner_state.specs.Reading.{slot_at}
use Rattle.owner_state.proofs.JournalLaws.{one_more, shorter, slot_taken}
use Rattle.owner_state.proofs.slot_reading.read_front.Goals as goal

pub slots-smaller : goal.slots-smaller
slots-smaller c =
    let old = c.slots.rest.now in
    let new = c.rest-rest.result.now in
    let read : slot_at old ≡ Some (c.in-Some.entry, new) =
    ap slot_at (sym c.new-cursor.ensures) ∙ slot_taken c.in_ok-entry.field-0 c.in-Some.entry c.new-cursor.result new (slot_at c.new-cursor.result) (rw c.rest-rest.ensures c.in_ok-entry.ensures) c.in-Some.is in
    let bytes : IsBytes old = IsBytes-after (flat_map slot c.slots.entries.items) old c.args.bytes.now c.slots.invariant.1 (λ i. omega (arith, c.type_inv.bytes i)) in
    shorter old c.in-Some.entry new bytes read

pub slots-preserved : goal.slots-preserved
slots-preserved c =
    let old = c.slots.rest.now in
    let new = c.rest-rest.result.now in
    let read : slot_at old ≡ Some (c.in-Some.entry, new) =
    ap slot_at (sym c.new-cursor.ensures) ∙ slot_taken c.in_ok-entry.field-0 c.in-Some.entry c.new-cursor.result new (slot_at c.new-cursor.result) (rw c.rest-rest.ensures c.in_ok-entry.ensures) c.in-Some.is in
    let bytes : IsBytes old = IsBytes-after (flat_map slot c.slots.entries.items) old c.args.bytes.now c.slots.invariant.1 (λ i. omega (arith, c.type_inv.bytes i)) in
    rw c.in_ok-push-in-Some.ensures.items
    (one_more c.args.bytes.now c.slots.entries.items old c.in-Some.entry new bytes c.slots.invariant read)
