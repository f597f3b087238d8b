-- A disk at rest with a journal, and what calls make of it.
use Rattle.std.proofs.Common.{◌≡◌, ℕ, ◌+◌, inl, inr, List, [], ◌∷◌, ◌++◌, length, Option, Some, None, sym, ap, subst, ◌∙◌, arith}
use Rattle.vo_spec.specs.declared.records.Entry.{Entry}
use Rattle.vo_spec.specs.Journals.{FitsEntry, IsJournal}
use Rattle.outside.specs.DiskModel.{DiskModel, MayLeave, overwrite_at, sync_now, write_on}
use Rattle.outside.specs.Moments.{IsDown, IsTornImage, LeavesOnly, IfKnown, persist_known}
use Rattle.outside.proofs.MomentLaws.{rests, weaker, joins, only_seen, synced_down}
use Rattle.owner_journal.specs.Slots.{slot_down, WhileSlot}
use Rattle.owner_journal.specs.Resting.{IsAtRest, HoldsWith, behind_gate, end_of}
use Rattle.owner_journal.proofs.SlotImages.{all_with, is_journal, holds_with, slot_parts}

pub rest_holds : (es : List Entry) (drive : DiskModel) → IsAtRest es drive → (image : List ℕ) → MayLeave drive image → IsJournal image es
rest_holds es drive rest image left =
    is_journal image es rest.end.0 rest.fits rest.end.1 (only_seen drive image rest.down left ∙ rest.end.2)

-- Appending.

rest_after : (es : List Entry) (e : Entry) (old : DiskModel) → FitsEntry e → IsAtRest es old
    → IsAtRest (es ++ e ∷ []) (sync_now (write_on (end_of es) (1 ∷ []) (sync_now (write_on (end_of es + 1) (behind_gate e) old))))
rest_after es e old fits rest =
    let parts = slot_parts es e old.seen rest.end.0 rest.fits fits rest.end.1 rest.end.2 in
    record {
      down = synced_down (write_on (end_of es) (1 ∷ []) (sync_now (write_on (end_of es + 1) (behind_gate e) old)));
      fits = all_with es e rest.fits fits;
      end = (0 ∷ parts.0, (λ same. omega (arith, same)), parts.1);
    }

known : (old new : DiskModel) → Some new ≡ Some old → old ≡ new
known old new same = cc

pub appended_rests : (old new : Option DiskModel) (es : List Entry) (e : Entry) → FitsEntry e → new ≡ slot_down (end_of es) (behind_gate e) old
    → IfKnown old new (λ before after. IsAtRest es before → IsAtRest (es ++ e ∷ []) after)
appended_rests None None es e fits same = tt
appended_rests None (Some new) es e fits same = absurd (cc)
appended_rests (Some old) None es e fits same = absurd (cc)
appended_rests (Some old) (Some new) es e fits same = λ rest. subst (IsAtRest (es ++ e ∷ [])) (known _ new same) (rest_after es e old fits rest)

pub appended_holds : (old new : Option DiskModel) (es : List Entry) (e : Entry) → FitsEntry e → new ≡ slot_down (end_of es) (behind_gate e) old
    → IfKnown old new (λ before after. IsAtRest es before → (image : List ℕ) → MayLeave after image → IsJournal image (es ++ e ∷ []))
appended_holds None None es e fits same = tt
appended_holds None (Some new) es e fits same = absurd (cc)
appended_holds (Some old) None es e fits same = absurd (cc)
appended_holds (Some old) (Some new) es e fits same = λ rest image left.
    rest_holds (es ++ e ∷ []) new (appended_rests (Some old) (Some new) es e fits same rest) image left

pub append_leaves : (old new : Option DiskModel) (es : List Entry) (e : Entry) → FitsEntry e
    → IfKnown old new (λ before after. IsDown before → LeavesOnly before after (WhileSlot (end_of es) (behind_gate e) before.seen))
    → IfKnown old new (λ before after. IsAtRest es before → LeavesOnly before after (HoldsWith es e))
append_leaves None None es e fits leaves = tt
append_leaves None (Some new) es e fits leaves = absurd leaves
append_leaves (Some old) None es e fits leaves = absurd leaves
append_leaves (Some old) (Some new) es e fits leaves = λ rest.
    weaker old new (WhileSlot (end_of es) (behind_gate e) old.seen) (HoldsWith es e)
    (λ image while. holds_with es e old.seen rest.end.0 image rest.fits fits rest.end.1 rest.end.2 while) (leaves rest.down)

-- a call that does nothing to the disk
pub same_leaves : (old new : Option DiskModel) (es : List Entry) (e : Entry) → new ≡ old
    → IfKnown old new (λ before after. IsAtRest es before → LeavesOnly before after (HoldsWith es e))
same_leaves None None es e same = tt
same_leaves None (Some new) es e same = absurd (cc)
same_leaves (Some old) None es e same = absurd (cc)
same_leaves (Some old) (Some new) es e same = λ rest.
    subst (λ (d : DiskModel). LeavesOnly old d (HoldsWith es e)) (known old new same)
    (rests old (HoldsWith es e) (λ image left. inl (rest_holds es old rest image left)))

-- Writing a slot: two pieces put down, one after the other.

slot_ends : (old mid new : DiskModel) (gate : ℕ) (behind : List ℕ) → mid ≡ sync_now (write_on (gate + 1) behind old)
    → LeavesOnly old mid (IsTornImage (gate + 1) (length behind) old.seen) → (IsDown mid → LeavesOnly mid new (IsTornImage gate 1 mid.seen))
    → LeavesOnly old new (WhileSlot gate behind old.seen)
slot_ends old mid new gate behind is first then =
    let P = WhileSlot gate behind old.seen in
    let down : IsDown mid = subst IsDown (sym is) (synced_down (write_on (gate + 1) behind old)) in
    let seen : mid.seen ≡ overwrite_at (gate + 1) behind old.seen = ap (λ (d : DiskModel). d.seen) is in
    joins old mid new P (weaker old mid (IsTornImage (gate + 1) (length behind) old.seen) P (λ image torn. inl torn) first)
    (weaker mid new (IsTornImage gate 1 mid.seen) P (λ image torn. inr (subst (λ (t : List ℕ). IsTornImage gate 1 t image) seen torn)) (then down))

pub slot_ended : (old mid new : Option DiskModel) (gate : ℕ) (behind : List ℕ) → mid ≡ persist_known (gate + 1) behind old
    → IfKnown old mid (λ before after. IsDown before → LeavesOnly before after (IsTornImage (gate + 1) (length behind) before.seen))
    → IfKnown mid new (λ before after. IsDown before → LeavesOnly before after (IsTornImage gate 1 before.seen))
    → IfKnown old new (λ before after. IsDown before → LeavesOnly before after (WhileSlot gate behind before.seen))
slot_ended None None None gate behind same first then = tt
slot_ended None None (Some new) gate behind same first then = absurd then
slot_ended None (Some mid) new gate behind same first then = absurd first
slot_ended (Some old) None new gate behind same first then = absurd first
slot_ended (Some old) (Some mid) None gate behind same first then = absurd then
slot_ended (Some old) (Some mid) (Some new) gate behind same first then = λ down.
    slot_ends old mid new gate behind (sym (known _ mid same)) (first down) then

-- The same of what a journal writes.
pub put_leaves : (old mid new : Option DiskModel) (es : List Entry) (e : Entry) (gate : ℕ) (behind : List ℕ) → FitsEntry e → mid ≡ old → gate ≡ end_of es → behind ≡ behind_gate e
    → IfKnown mid new (λ before after. IsDown before → LeavesOnly before after (WhileSlot gate behind before.seen))
    → IfKnown old new (λ before after. IsAtRest es before → LeavesOnly before after (HoldsWith es e))
put_leaves old mid new es e gate behind fits same at is leaves =
    append_leaves old new es e fits
    (subst (λ (o : Option DiskModel). IfKnown o new (λ before after. IsDown before → LeavesOnly before after (WhileSlot (end_of es) (behind_gate e) before.seen))) same
    (subst (λ (n : ℕ). IfKnown mid new (λ before after. IsDown before → LeavesOnly before after (WhileSlot n (behind_gate e) before.seen))) at
    (subst (λ (b : List ℕ). IfKnown mid new (λ before after. IsDown before → LeavesOnly before after (WhileSlot gate b before.seen))) is leaves)))
