-- What opening makes of a disk.
use Rattle.std.proofs.Common.{◌≡◌, ℕ, ◌<◌, ◌≤◌, inl, inr, List, [], ◌∷◌, length, drop, Option, Some, None, IfSome, Result, Ok, Err, IfErr, refl, sym, ap, subst, arith}
use Rattle.vo_spec.specs.declared.records.Entry.{Entry}
use Rattle.vo_spec.specs.Journals.{IsJournal}
use Rattle.outside.specs.DiskModel.{DiskModel, MayLeave, Synced, sync_now, write_on, sync_known}
use Rattle.outside.specs.Moments.{IsDown, IsTornImage, LeavesOnly, IfKnown, persist_known}
use Rattle.outside.proofs.MomentLaws.{rests, weaker, joins, one_more, only_seen, synced_down}
use Rattle.owner_journal.specs.declared.fault.JournalFault.{JournalFault}
use Rattle.owner_journal.specs.declared.fault.JournalFault.TheVariants.{Disk, Damaged, Memory}
use Rattle.owner_journal.specs.Resting.{IsAtRest, HoldsAsBefore, IsFaultOf, IsNoDamage}
use Rattle.owner_journal.proofs.ByteRuns.{written_over}
use Rattle.owner_journal.proofs.RestLaws.{rest_holds}

known : (old new : DiskModel) → Some new ≡ Some old → old ≡ new
known old new same = cc

-- Settling: a sync, or nothing.

pub same_settles : (old new : Option DiskModel) → new ≡ old → IfKnown old new (λ before after. LeavesOnly before after (MayLeave before))
same_settles None None same = tt
same_settles None (Some new) same = absurd (cc)
same_settles (Some old) None same = absurd (cc)
same_settles (Some old) (Some new) same =
    subst (λ (d : DiskModel). LeavesOnly old d (MayLeave old)) (known old new same) (rests old (MayLeave old) (λ image left. left))

synced : (drive : DiskModel) → MayLeave drive drive.seen → LeavesOnly drive (sync_now drive) (MayLeave drive)
synced drive sees =
    one_more drive (sync_now drive) (Synced drive.seen) (MayLeave drive) refl refl (λ image left. left)
    (λ image left. subst (MayLeave drive) (sym (only_seen (sync_now drive) image (synced_down drive) left)) sees)

pub sync_settles : (old new : Option DiskModel) → IfSome old (λ drive. MayLeave drive drive.seen) → new ≡ sync_known old
    → IfKnown old new (λ before after. LeavesOnly before after (MayLeave before))
sync_settles None None sees same = tt
sync_settles None (Some new) sees same = absurd (cc)
sync_settles (Some old) None sees same = absurd (cc)
sync_settles (Some old) (Some new) sees same =
    subst (λ (d : DiskModel). LeavesOnly old d (MayLeave old)) (known (sync_now old) new same) (synced old sees)

-- What was settled may be what a crash leaves, all that opening does being less than that.

pub settled_leaves : (old new : Option DiskModel) → IfKnown old new (λ before after. LeavesOnly before after (MayLeave before))
    → IfKnown old new (λ before after. LeavesOnly before after (HoldsAsBefore before))
settled_leaves None None leaves = tt
settled_leaves None (Some new) leaves = absurd leaves
settled_leaves (Some old) None leaves = absurd leaves
settled_leaves (Some old) (Some new) leaves = weaker old new (MayLeave old) (HoldsAsBefore old) (λ image left. inl left) leaves

-- The first gate of an empty disk.

-- while it is written, the disk holds no entries
torn_empty : (contents image : List ℕ) → length contents < 2 → IsTornImage 0 1 contents image → IsJournal image []
torn_empty contents image short torn = inl (omega (arith, torn.no_longer, short))

first_leaves : (old new : DiskModel) → MayLeave old old.seen → length old.seen < 2
    → LeavesOnly old (sync_now old) (MayLeave old) → (IsDown (sync_now old) → LeavesOnly (sync_now old) new (IsTornImage 0 1 old.seen)) → LeavesOnly old new (HoldsAsBefore old)
first_leaves old new sees short first then =
    let P = HoldsAsBefore old in
    joins old (sync_now old) new P (weaker old (sync_now old) (MayLeave old) P (λ image left. inl left) first)
    (weaker (sync_now old) new (IsTornImage 0 1 old.seen) P
    (λ image torn. inr (old.seen, sees, [], inl short, torn_empty old.seen image short torn)) (then (synced_down old)))

pub first_gate_leaves : (old mid new : Option DiskModel) → IfSome old (λ drive. MayLeave drive drive.seen) → mid ≡ sync_known old → IfSome old (λ drive. length drive.seen < 2)
    → IfKnown old mid (λ before after. LeavesOnly before after (MayLeave before))
    → IfKnown mid new (λ before after. IsDown before → LeavesOnly before after (IsTornImage 0 1 before.seen))
    → IfKnown old new (λ before after. LeavesOnly before after (HoldsAsBefore before))
first_gate_leaves None None None sees same short first then = tt
first_gate_leaves None None (Some new) sees same short first then = absurd then
first_gate_leaves None (Some mid) new sees same short first then = absurd first
first_gate_leaves (Some old) None new sees same short first then = absurd first
first_gate_leaves (Some old) (Some mid) None sees same short first then = absurd then
first_gate_leaves (Some old) (Some mid) (Some new) sees same short first then =
    let is : mid ≡ sync_now old = sym (known (sync_now old) mid same) in
    first_leaves old new sees short (subst (λ (d : DiskModel). LeavesOnly old d (MayLeave old)) is first)
    (subst (λ (d : DiskModel). IsDown d → LeavesOnly d new (IsTornImage 0 1 d.seen)) is then)

-- At the end.

first_rests : (old : DiskModel) → IsAtRest [] (sync_now (write_on 0 (0 ∷ []) (sync_now old)))
first_rests old = record {
  down = synced_down (write_on 0 (0 ∷ []) (sync_now old));
  fits = tt;
  end = (0 ∷ drop 1 old.seen, (λ same. omega (arith, same)), written_over [] (0 ∷ []) old.seen);
}

pub first_gate_rests : (old new : Option DiskModel) → new ≡ persist_known 0 (0 ∷ []) (sync_known old) → IfSome new (IsAtRest [])
first_gate_rests None None same = tt
first_gate_rests None (Some new) same = absurd (cc)
first_gate_rests (Some old) None same = absurd (cc)
first_gate_rests (Some old) (Some new) same = subst (IsAtRest []) (known _ new same) (first_rests old)

journal_rests : (old : DiskModel) (es : List Entry) → 2 ≤ length old.seen → IsJournal old.seen es → IsAtRest es (sync_now old)
journal_rests old [] long (inl short) = absurd (omega (arith, long, short))
journal_rests old [] long (inr shut) = record { down = synced_down old; fits = tt; end = (old.seen, shut, refl) }
journal_rests old (e ∷ es) long j = record { down = synced_down old; fits = j.0; end = (j.1, j.2, j.3) }

pub read_rests : (old new : Option DiskModel) (es : List Entry) → new ≡ sync_known old → IfSome old (λ drive. 2 ≤ length drive.seen) → IfSome old (λ drive. IsJournal drive.seen es)
    → IfSome new (IsAtRest es)
read_rests None None es same long j = tt
read_rests None (Some new) es same long j = absurd (cc)
read_rests (Some old) None es same long j = absurd (cc)
read_rests (Some old) (Some new) es same long j = subst (IsAtRest es) (known _ new same) (journal_rests old es long j)

pub some_holds : (drive : Option DiskModel) (es : List Entry) → IfSome drive (IsAtRest es) → IfSome drive (λ after. (image : List ℕ) → MayLeave after image → IsJournal image es)
some_holds None es rest = tt
some_holds (Some drive) es rest = rest_holds es drive rest

-- what is said of the contents stays true of them once they are put down
pub seen_down : (old new : Option DiskModel) (P : List ℕ → Type 0) → new ≡ sync_known old → IfSome new (λ drive. P drive.seen) → IfSome old (λ drive. P drive.seen)
seen_down None new P same holds = tt
seen_down (Some old) None P same holds = absurd (cc)
seen_down (Some old) (Some new) P same holds =
    subst P (sym (ap (λ (d : DiskModel). d.seen) (known (sync_now old) new same))) holds

pub down_seen : (old new : Option DiskModel) (P : List ℕ → Type 0) → new ≡ sync_known old → IfSome old (λ drive. P drive.seen) → IfSome new (λ drive. P drive.seen)
down_seen old None P same holds = tt
down_seen None (Some new) P same holds = absurd (cc)
down_seen (Some old) (Some new) P same holds =
    subst P (ap (λ (d : DiskModel). d.seen) (known (sync_now old) new same)) holds

-- What a journal that was opened tells, by how it was.

pub no_damage : (fault : JournalFault) (drive : Option DiskModel) → IsNoDamage fault → IfSome drive (λ before. IsFaultOf before.seen fault)
no_damage fault None none = tt
no_damage Disk (Some drive) none = tt
no_damage (Damaged index at) (Some drive) none = absurd none
no_damage Memory (Some drive) none = tt

pub no_damage_after : {A : Type 0} (r : Result A JournalFault) (drive : Option DiskModel) → IfErr r IsNoDamage → IfErr r (λ fault. IfSome drive (λ before. IsFaultOf before.seen fault))
no_damage_after (Ok value) drive none = tt
no_damage_after (Err fault) drive none = no_damage fault drive none

pub empty_found : (old : Option DiskModel) (es : List Entry) (end : ℕ) → end < 2 → IfSome old (λ before. end ≡ length before.seen) → es ≡ [] → IfSome old (λ before. IsJournal before.seen es)
empty_found None es end short long none = tt
empty_found (Some old) es end short long none = subst (IsJournal old.seen) (sym none) (inl (omega (arith, short, long)))

pub not_later : (old new : Option DiskModel) (end : ℕ) (P : Type 0) → end < 2 → IfSome old (λ before. end ≡ length before.seen) → IfSome old (λ before. 2 ≤ length before.seen → P)
not_later None new end P short long = tt
not_later (Some old) new end P short long = λ later. absurd (omega (arith, short, long, later))

pub not_first : (old new : Option DiskModel) (end : ℕ) (P : Type 0) → 2 ≤ end → IfSome old (λ before. end ≡ length before.seen) → IfSome old (λ before. length before.seen < 2 → P)
not_first None new end P whole long = tt
not_first (Some old) new end P whole long = λ first. absurd (omega (arith, whole, long, first))

pub is_so : (old : Option DiskModel) (Q : DiskModel → Type 0) (P : Type 0) → P → IfSome old (λ before. Q before → P)
is_so None Q P holds = tt
is_so (Some old) Q P holds = λ _. holds

pub is_short : (old : Option DiskModel) (end : ℕ) → end < 2 → IfSome old (λ before. end ≡ length before.seen) → IfSome old (λ before. length before.seen < 2)
is_short None end short long = tt
is_short (Some old) end short long = omega (arith, short, long)

pub is_long : (old : Option DiskModel) (end : ℕ) → 2 ≤ end → IfSome old (λ before. end ≡ length before.seen) → IfSome old (λ before. 2 ≤ length before.seen)
is_long None end whole long = tt
is_long (Some old) end whole long = omega (arith, whole, long)
