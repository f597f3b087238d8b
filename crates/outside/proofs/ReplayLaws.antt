-- A replay of what a disk in memory did, a call at a time.
use Rattle.std.proofs.Common.{◌≡◌, ℕ, zero, suc, ◌+◌, ◌<◌, ◌≤◌, ◌⊎◌, inl, inr, List, [], ◌∷◌, ◌++◌, length, take, fold, get_or, refl, sym, ap, subst, ◌∙◌, arith}
use Rattle.std.proofs.lemmas.List.{take_more, take_all}
use Rattle.std.proofs.lemmas.List.Sums.{fold-append}
use Rattle.outside.specs.DiskModel.{Down, IsImage, LeftSince, crashed_at, down_after}
use Rattle.outside.specs.Done.{seen_next, call_of, seen_after, calls_after}
use Rattle.outside.specs.declared.mem_disk.done.Done.{Done}
use Rattle.outside.proofs.LogLaws.{calls_push, calls_length}

-- what was down, and is written over, after these calls
abbrev pub crash_state : List ℕ → List ℕ → List Done → Down
crash_state log first done = fold down_after (record { contents = first; ranges = [] }) (calls_after log first done)

take-calls : (log seen : List ℕ) (done : List Done) (m : ℕ) → take m (calls_after log seen done) ≡ calls_after log seen (take m done)
take-calls log seen [] zero = refl
take-calls log seen [] (suc m) = refl
take-calls log seen (one ∷ done) zero = refl
take-calls log seen (one ∷ done) (suc m) = ap (λ calls. call_of seen one ∷ calls) (take-calls log (seen_next log seen one) done m)

crash_state-is : (first log : List ℕ) (done : List Done) (m : ℕ) → fold down_after (record { contents = first; ranges = [] }) (take m (calls_after log first done)) ≡ crash_state log first (take m done)
crash_state-is first log done m = ap (fold down_after (record { contents = first; ranges = [] })) (take-calls log first done m)

pub next_crashed : (log first : List ℕ) (done : List Done) (one : Done) → crash_state log first (done ++ one ∷ []) ≡ down_after (crash_state log first done) (call_of (seen_after log first done) one)
next_crashed log first done one =
    ap (fold down_after (record { contents = first; ranges = [] })) (calls_push log first done one)
    ∙ fold-append down_after _ (calls_after log first done) (call_of (seen_after log first done) one ∷ [])

pub next_seen : (log first : List ℕ) (done : List Done) (one : Done) → seen_after log first (done ++ one ∷ []) ≡ seen_next log (seen_after log first done) one
next_seen log first done one = fold-append (seen_next log) first done (one ∷ [])

-- a moment at which a crash may have left the bytes
pub left_at : (seen first log image : List ℕ) (done : List Done) (since m : ℕ) → since ≤ m → m ≤ length done → IsImage (crash_state log first (take m done)) image
    → LeftSince (record { seen = seen; first = first; calls = calls_after log first done }) since image
left_at seen first log image done since m low high is =
    (m, low, omega (arith, high, calls_length log first done), subst (λ (d : Down). IsImage d image) (sym (crash_state-is first log done m)) is)

-- none of them
pub never_left : (seen first log image : List ℕ) (done : List Done) (since : ℕ)
    → ((m : ℕ) → since ≤ m → m < length done + 1 → IsImage (crash_state log first (take m done)) image → ⊥)
    → LeftSince (record { seen = seen; first = first; calls = calls_after log first done }) since image → ⊥
never_left seen first log image done since none left =
    none left.0 left.1 (omega (arith, left.2, calls_length log first done)) (subst (λ (d : Down). IsImage d image) (crash_state-is first log done left.0) left.3)

-- what a replay has, once so many of these calls were done again
pub record IsReplayed (log first : List ℕ) (done : List Done) (i : ℕ) (contents : List ℕ) (state : Down) : Type 0 where
  pub seen : contents ≡ seen_after log first (take i done)
  pub down : state ≡ crash_state log first (take i done)

-- one call more
pub replay_on : (log first : List ℕ) (done : List Done) (i : ℕ) (d : Done) (was is : List ℕ) (before after : Down) → i < length done
    → IsReplayed log first done i was before → is ≡ seen_next log was (get_or done i d) → after ≡ down_after before (call_of was (get_or done i d))
    → IsReplayed log first done (i + 1) is after
replay_on log first done i d was is before after lt at seen down =
    let more = sym (take_more done i d lt) in
    let one = get_or done i d in
    record {
      seen = seen ∙ ap (λ (s : List ℕ). seen_next log s one) at.seen ∙ sym (next_seen log first (take i done) one) ∙ ap (seen_after log first) more;
      down = down ∙ ap (λ (d : Down). down_after d (call_of was one)) at.down ∙ ap (λ (s : List ℕ). down_after (crash_state log first (take i done)) (call_of s one)) at.seen
          ∙ sym (next_crashed log first (take i done) one) ∙ ap (crash_state log first) more;
    }

-- none up to a moment, and not that one
pub none_on : (log first image : List ℕ) (done : List Done) (since i : ℕ) (down : Down) → down ≡ crash_state log first (take i done)
    → ((since ≤ i) × IsImage down image → ⊥)
    → ((m : ℕ) → since ≤ m → m < i → IsImage (crash_state log first (take m done)) image → ⊥)
    → (m : ℕ) → since ≤ m → m < i + 1 → IsImage (crash_state log first (take m done)) image → ⊥
none_on log first image done since i down at not none m low high is = by_place (below_or_at m i (omega arith))
  where
    below_or_at : (m i : ℕ) → m ≤ i → (m < i) ⊎ (m ≡ i)
    below_or_at m i le = grind arith

    by_place : (m < i) ⊎ (m ≡ i) → ⊥
    by_place (inl below) = none m low below is
    by_place (inr here) =
        not (omega (arith, low, here), subst (λ (d : Down). IsImage d image) (sym at) (subst (λ (n : ℕ). IsImage (crash_state log first (take n done)) image) here is))

-- what a crash may leave at a moment, or at the last one
pub crashed_by : (seen first log : List ℕ) (done : List Done) (i m : ℕ) → (i ≡ m) ⊎ ((length done ≤ i) × (i ≤ m))
    → crash_state log first (take i done) ≡ crashed_at (record { seen = seen; first = first; calls = calls_after log first done }) m
crashed_by seen first log done i m (inl here) = ap (λ (n : ℕ). crash_state log first (take n done)) here ∙ sym (crash_state-is first log done m)
crashed_by seen first log done i m (inr past) =
    ap (crash_state log first) (take_all i done past.0 ∙ sym (take_all m done (omega (arith, past.0, past.1)))) ∙ sym (crash_state-is first log done m)
