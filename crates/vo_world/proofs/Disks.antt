-- What appending and opening make of a disk that never fails.
use Rattle.std.proofs.Common.{◌≡◌, ℕ, ◌+◌, ◌<◌, ◌≤◌, List, [], ◌∷◌, ◌++◌, length, Some, inl, refl, sym, ap, subst, ◌∙◌, arith}
use Rattle.std.specs.List.{flat_map}
use Rattle.std.proofs.lemmas.List.{length-append}
use Rattle.outside.specs.DiskModel.{DiskModel, LeftSince, MayLeave, fresh, now, sync_known, sync_now}
use Rattle.outside.specs.Moments.{LeavesOnly, persist_known}
use Rattle.outside.proofs.MomentLaws.{only_seen, rests, seen_left, tears_down}
use Rattle.vo_spec.specs.declared.records.Entry.{Entry}
use Rattle.vo_spec.specs.Journals.{FitsEntry, IsJournal, slot}
use Rattle.owner_state.proofs.EntryLaws.{slot_long}
use Rattle.owner_state.proofs.JournalLaws.{one_journal}
use Rattle.owner_journal.specs.Resting.{HoldsWith, IsAtRest, behind_gate, end_of}
use Rattle.owner_journal.specs.Slots.{slot_down}
use Rattle.owner_journal.proofs.OpenLaws.{first_gate_rests, read_rests, sync_settles}
use Rattle.owner_journal.proofs.RestLaws.{append_leaves, appended_rests, rest_holds, slot_ended}
use Rattle.vo_world.specs.Steps.{empty_disk, persist, with_entry}

some_is : (a b : DiskModel) → Some a ≡ Some b → a ≡ b
some_is a b same = cc

-- what is left from now on, of a disk to which nothing is done
pub left_now : (drive : DiskModel) (P : List ℕ → Type 0) → ((image : List ℕ) → MayLeave drive image → P image)
    → (image : List ℕ) → LeftSince drive (now drive) image → P image
left_now drive P all image left = (rests drive P all).each image left

pub entry_rests : (es : List Entry) (e : Entry) (old : DiskModel) → FitsEntry e → IsAtRest es old → IsAtRest (es ++ e ∷ []) (with_entry es e old)
unfolding with_entry
entry_rests es e old fits rest = appended_rests (Some old) (Some (with_entry es e old)) es e fits refl rest

pub entry_leaves : (es : List Entry) (e : Entry) (old : DiskModel) → FitsEntry e → IsAtRest es old → LeavesOnly old (with_entry es e old) (HoldsWith es e)
unfolding with_entry
entry_leaves es e old fits rest =
    let mid : DiskModel = persist (end_of es + 1) (behind_gate e) old in
    let new : DiskModel = with_entry es e old in
    append_leaves (Some old) (Some new) es e fits
    (slot_ended (Some old) (Some mid) (Some new) (end_of es) (behind_gate e) refl
    (tears_down (Some old) (Some mid) (end_of es + 1) (behind_gate e) refl)
    (tears_down (Some mid) (Some new) (end_of es) (1 ∷ []) refl)) rest

pub empty_rests : IsAtRest [] empty_disk
unfolding empty_disk
empty_rests = first_gate_rests (Some (fresh [])) (Some empty_disk) refl

pub seen_is : (es : List Entry) (drive : DiskModel) → IsAtRest es drive → IsJournal drive.seen es
seen_is es drive rest = rest_holds es drive rest drive.seen (seen_left drive rest.down)

-- a journal of some entries is no empty disk
pub journal_long : (bytes : List ℕ) (es : List Entry) → 0 < length es → IsJournal bytes es → 2 ≤ length bytes
journal_long bytes [] some is = absurd (omega (arith, some))
journal_long bytes (e ∷ es) some (fits, rest, shut, same) =
    omega (arith, ap length same, length-append (flat_map slot (e ∷ es)) rest, length-append (slot e) (flat_map slot es), slot_long e)

pub found_rests : (image : List ℕ) (es : List Entry) → 0 < length es → IsJournal image es → IsAtRest es (sync_now (fresh image))
found_rests image es some is =
    read_rests (Some (fresh image)) (Some (sync_now (fresh image))) es refl (journal_long image es some is) is

-- what was found is all that a stop may leave, once it was put down and meanwhile
pub found_left : (image later : List ℕ) → LeftSince (sync_now (fresh image)) 0 later → later ≡ image
found_left image later left =
    only_seen (fresh image) later refl
    ((sync_settles (Some (fresh image)) (Some (sync_now (fresh image))) (seen_left (fresh image) refl) refl).each later left)

-- What calls make of a disk that is known, as equations.

pub appended_is : (es : List Entry) (e : Entry) (old new : DiskModel) → Some new ≡ slot_down (end_of es) (behind_gate e) (Some old) → new ≡ with_entry es e old
unfolding with_entry
appended_is es e old new same = cc

pub first_is : (image : List ℕ) (old new : DiskModel) → length image < 2 → old ≡ fresh image → (length old.seen < 2 → Some new ≡ persist_known 0 (0 ∷ []) (sync_known (Some old)))
    → new ≡ persist 0 (0 ∷ []) (sync_now (fresh image))
first_is image old new short same first =
    some_is new _ (first (subst (λ (d : DiskModel). length d.seen < 2) (sym same) short) ∙ ap (λ (d : DiskModel). persist_known 0 (0 ∷ []) (sync_known (Some d))) same)

pub later_is : (image : List ℕ) (old new : DiskModel) → 2 ≤ length image → old ≡ fresh image → (2 ≤ length old.seen → Some new ≡ sync_known (Some old)) → new ≡ sync_now (fresh image)
later_is image old new long same later =
    some_is new _ (later (subst (λ (d : DiskModel). 2 ≤ length d.seen) (sym same) long) ∙ ap (λ (d : DiskModel). sync_known (Some d)) same)

pub empty_is : (new : DiskModel) (image : List ℕ) → image ≡ [] → (length image < 2 → new ≡ persist 0 (0 ∷ []) (sync_now (fresh image))) → new ≡ empty_disk
unfolding empty_disk
empty_is new image none same =
    same (subst (λ (bytes : List ℕ). length bytes < 2) (sym none) (omega arith)) ∙ ap (λ (bytes : List ℕ). persist 0 (0 ∷ []) (sync_now (fresh bytes))) none

pub empty_journal : (es : List Entry) → IsJournal [] es → es ≡ []
empty_journal es is = one_journal [] es [] is (inl (omega arith))
