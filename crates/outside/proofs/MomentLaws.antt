-- What crashes during calls may leave, a call at a time.
use Rattle.std.proofs.Common.{◌≡◌, ℕ, ◌+◌, ◌≤◌, ◌⊎◌, inl, inr, List, [], ◌∷◌, ◌++◌, length, take, Option, Some, None, refl, sym, ap, subst, ◌∙◌, append_assoc, append-nil, arith}
use Rattle.std.proofs.lemmas.List.{take_all, take-append-le, length-append, ext_get_or}
use Rattle.std.proofs.lemmas.List.Sums.{fold-append}
use Rattle.outside.specs.DiskModel.{Call, Wrote, Synced, DiskModel, Down, IsImage, MayLeave, LeftSince, crashed_at, now, down_after, overwrite_at, write_leaving, write_on, sync_now, fail_write_known, write_known}
use Rattle.outside.specs.Moments.{IsDown, IsTornImage, LeavesOnly, IfKnown, persist_known}
use Rattle.outside.specs.ImageLaws.{after_write}

-- Moments of a disk and of what it becomes.

-- calls that come later change nothing of a moment before them
earlier : (old new : DiskModel) (calls : List Call) → new.first ≡ old.first → new.calls ≡ old.calls ++ calls → (m : ℕ) → m ≤ now old → crashed_at new m ≡ crashed_at old m
earlier old new calls first more m le = rw (first, more, take-append-le m old.calls calls le) refl

all_calls : (drive : DiskModel) → take (now drive) drive.calls ≡ drive.calls
all_calls drive = take_all (now drive) drive.calls (omega arith)

pub one_call : (old new : DiskModel) (call : Call) → new.first ≡ old.first → new.calls ≡ old.calls ++ call ∷ [] → crashed_at new (now new) ≡ down_after (crashed_at old (now old)) call
one_call old new call first more =
    rw (all_calls new, all_calls old, first, more) (fold-append down_after _ old.calls (call ∷ []))

-- Runs.

pub rests : (drive : DiskModel) (P : List ℕ → Type 0) → ((image : List ℕ) → MayLeave drive image → P image) → LeavesOnly drive drive P
rests drive P all = record {
  first = refl;
  more = ([], sym (append-nil drive.calls));
  each = λ image left.
      let at : left.0 ≡ now drive = omega (arith, left.1, left.2) in
      all image (subst (λ (m : ℕ). IsImage (crashed_at drive m) image) at left.3);
}

pub weaker : (before after : DiskModel) (P Q : List ℕ → Type 0) → ((image : List ℕ) → P image → Q image) → LeavesOnly before after P → LeavesOnly before after Q
weaker before after P Q all leaves =
    record { first = leaves.first; more = leaves.more; each = λ image left. all image (leaves.each image left) }

longer : (old new : DiskModel) (calls : List Call) → new.calls ≡ old.calls ++ calls → now old ≤ now new
longer old new calls more = omega (arith, ap length more, length-append old.calls calls)

pub joins : (a b c : DiskModel) (P : List ℕ → Type 0) → LeavesOnly a b P → LeavesOnly b c P → LeavesOnly a c P
joins a b c P first then = record {
  first = then.first ∙ first.first;
  more = (
    first.more.0 ++ then.more.0,
    then.more.1 ∙ ap (λ (t : List Call). t ++ then.more.0) first.more.1 ∙ append_assoc a.calls first.more.0 then.more.0,
  );
  each = λ image left. by_moment image left (le_or_ge left.0 (now b));
}
  where
    le_or_ge : (m n : ℕ) → (m ≤ n) ⊎ (n ≤ m)
    le_or_ge m n = grind arith

    by_moment : (image : List ℕ) (left : LeftSince c (now a) image) → (left.0 ≤ now b) ⊎ (now b ≤ left.0) → P image
    by_moment image left (inl le) =
        first.each image (left.0, left.1, le, subst (λ (d : Down). IsImage d image) (earlier b c then.more.0 then.first then.more.1 left.0 le) left.3)
    by_moment image left (inr ge) = then.each image (left.0, ge, left.2, left.3)

-- the moment at which a run began is one of it
pub at_start : (a b : DiskModel) (P : List ℕ → Type 0) → LeavesOnly a b P → (image : List ℕ) → MayLeave a image → P image
at_start a b P leaves image left =
    leaves.each image (now a, omega arith, longer a b leaves.more.0 leaves.more.1, subst (λ (d : Down). IsImage d image) (sym (earlier a b leaves.more.0 leaves.first leaves.more.1 (now a) (omega arith))) left)

pub at_end : (a b : DiskModel) (P : List ℕ → Type 0) → LeavesOnly a b P → (image : List ℕ) → MayLeave b image → P image
at_end a b P leaves image left = leaves.each image (now b, longer a b leaves.more.0 leaves.more.1, omega arith, left)

pub one_more : (old new : DiskModel) (call : Call) (P : List ℕ → Type 0) → new.first ≡ old.first → new.calls ≡ old.calls ++ call ∷ []
    → ((image : List ℕ) → MayLeave old image → P image) → ((image : List ℕ) → MayLeave new image → P image) → LeavesOnly old new P
one_more old new call P first more before after = record {
  first = first;
  more = (call ∷ [], more);
  each = λ image left. by_moment image left (last_or_not left.0 (omega (arith, left.1)) (omega (arith, left.2, ap length more, length-append old.calls (call ∷ []))));
}
  where
    last_or_not : (m : ℕ) → now old ≤ m → m ≤ now old + 1 → (m ≡ now old) ⊎ (m ≡ now old + 1)
    last_or_not m low high = grind arith

    by_moment : (image : List ℕ) (left : LeftSince new (now old) image) → (left.0 ≡ now old) ⊎ (left.0 ≡ now old + 1) → P image
    by_moment image left (inl at) =
        before image (subst (λ (d : Down). IsImage d image) (ap (crashed_at new) at ∙ earlier old new (call ∷ []) first more (now old) (omega arith)) left.3)
    by_moment image left (inr at) =
        let last : left.0 ≡ now new = at ∙ sym (ap length more ∙ length-append old.calls (call ∷ [])) in
        after image (subst (λ (d : Down). IsImage d image) (ap (crashed_at new) last) left.3)

-- A disk that is down.

pub synced_down : (drive : DiskModel) → IsDown (sync_now drive)
synced_down drive = one_call drive (sync_now drive) (Synced drive.seen) refl refl

-- an image of contents that nothing was written over is these contents
only_contents : (contents image : List ℕ) → IsImage (record { contents = contents; ranges = [] }) image → image ≡ contents
only_contents contents image is =
    ext_get_or 0 image contents (omega (arith, is.no_shorter, is.no_longer)) (λ k within. is.stays k (omega (arith, is.no_longer)) refl)

pub only_seen : (drive : DiskModel) (image : List ℕ) → IsDown drive → MayLeave drive image → image ≡ drive.seen
only_seen drive image down left = only_contents drive.seen image (subst (λ (d : Down). IsImage d image) down left)

pub seen_left : (drive : DiskModel) → IsDown drive → MayLeave drive drive.seen
seen_left drive down = subst (λ (d : Down). IsImage d drive.seen) (sym down) (record { no_shorter = omega arith; no_longer = omega arith; stays = λ k within free. refl })

-- Writes over what was down.

pub torn_whole : (place count : ℕ) (contents : List ℕ) → IsTornImage place count contents contents
torn_whole place count contents = record { no_shorter = omega arith; no_longer = omega arith; stays = λ k within free. refl }

-- a write whose front was kept, and then nothing else
pub torn_written : (place : ℕ) (piece contents : List ℕ) → IsTornImage place (length piece) contents (overwrite_at place piece contents)
torn_written place piece contents =
    after_write (record { contents = contents; ranges = [] }) contents piece place (length piece) (omega arith)
    (record { no_shorter = omega arith; no_longer = omega arith; stays = λ k within free. refl })

torn_after : (drive : DiskModel) (place count : ℕ) (seen : List ℕ) → IsDown drive → (image : List ℕ) → MayLeave (write_leaving place count seen drive) image → IsTornImage place count drive.seen image
torn_after drive place count seen down image left =
    let is = one_call drive (write_leaving place count seen drive) (Wrote place count) refl refl in
    subst (λ (d : Down). IsImage d image) (is ∙ ap (λ (d : Down). down_after d (Wrote place count)) down) left

torn_before : (drive : DiskModel) (place count : ℕ) → IsDown drive → (image : List ℕ) → MayLeave drive image → IsTornImage place count drive.seen image
torn_before drive place count down image left =
    subst (IsTornImage place count drive.seen) (sym (only_seen drive image down left)) (torn_whole place count drive.seen)

write_leaves : (drive : DiskModel) (place count : ℕ) (seen : List ℕ) → IsDown drive → LeavesOnly drive (write_leaving place count seen drive) (IsTornImage place count drive.seen)
write_leaves drive place count seen down =
    one_more drive (write_leaving place count seen drive) (Wrote place count) (IsTornImage place count drive.seen) refl refl
    (torn_before drive place count down) (torn_after drive place count seen down)

down_leaves : (drive : DiskModel) (place : ℕ) (piece : List ℕ) → IsDown drive → LeavesOnly drive (sync_now (write_on place piece drive)) (IsTornImage place (length piece) drive.seen)
down_leaves drive place piece down =
    let mid : DiskModel = write_on place piece drive in
    let P = IsTornImage place (length piece) drive.seen in
    joins drive mid (sync_now mid) P (write_leaves drive place (length piece) mid.seen down)
    (one_more mid (sync_now mid) (Synced mid.seen) P refl refl (torn_after drive place (length piece) mid.seen down)
    (λ image left. subst P (sym (only_seen (sync_now mid) image (synced_down mid) left)) (torn_written place piece drive.seen)))

-- The same of a disk that may be unknown, by how a write that is to be put down ends.

abbrev pub TearsOnly : ℕ → ℕ → Option DiskModel → Option DiskModel → Type 0
TearsOnly place count old new = IfKnown old new (λ before after. IsDown before → LeavesOnly before after (IsTornImage place count before.seen))

known : (old new : DiskModel) → Some new ≡ Some old → old ≡ new
known old new same = cc

pub tears_failed : (old new : Option DiskModel) (place count : ℕ) (seen : List ℕ) → new ≡ fail_write_known place count seen old → TearsOnly place count old new
tears_failed None None place count seen same = tt
tears_failed None (Some new) place count seen same = absurd (cc)
tears_failed (Some old) None place count seen same = absurd (cc)
tears_failed (Some old) (Some new) place count seen same = λ down.
    subst (λ (d : DiskModel). LeavesOnly old d (IsTornImage place count old.seen)) (known (write_leaving place count seen old) new same)
    (write_leaves old place count seen down)

pub tears_down : (old new : Option DiskModel) (place : ℕ) (piece : List ℕ) → new ≡ persist_known place piece old → TearsOnly place (length piece) old new
tears_down None None place piece same = tt
tears_down None (Some new) place piece same = absurd (cc)
tears_down (Some old) None place piece same = absurd (cc)
tears_down (Some old) (Some new) place piece same = λ down.
    subst (λ (d : DiskModel). LeavesOnly old d (IsTornImage place (length piece) old.seen)) (known (sync_now (write_on place piece old)) new same)
    (down_leaves old place piece down)

-- a write that went well, and wasn't put down
pub tears_written : (old new : Option DiskModel) (place : ℕ) (piece : List ℕ) → new ≡ write_known place piece old → TearsOnly place (length piece) old new
tears_written None None place piece same = tt
tears_written None (Some new) place piece same = absurd (cc)
tears_written (Some old) None place piece same = absurd (cc)
tears_written (Some old) (Some new) place piece same = λ down.
    subst (λ (d : DiskModel). LeavesOnly old d (IsTornImage place (length piece) old.seen)) (known (write_on place piece old) new same)
    (write_leaves old place (length piece) (overwrite_at place piece old.seen) down)
