-- One more call of a disk in memory.
use Rattle.std.proofs.Common.{suc, ap, ◌∙◌, ◌≡◌, ℕ, ◌+◌, ◌≤◌, ◌&&◌, Bool, true, false, List, [], ◌∷◌, ◌++◌, length, take, drop, arith, refl, IsTrue, nat_le}
use Rattle.std.specs.List.{list_all}
use Rattle.std.proofs.lemmas.Bool.Decides.{nat_tests}
use Rattle.std.proofs.lemmas.List.{length-drop, take-append-le, drop-append-le, drop_at, take_all, length-append}
use Rattle.std.proofs.lemmas.List.Folds.{list_all-append}
use Rattle.std.proofs.lemmas.List.Sums.{fold-append}
use Rattle.outside.specs.declared.mem_disk.done.Done.{Done}
use Rattle.outside.specs.declared.mem_disk.done.Done.TheVariants.{Write, Sync}
use Rattle.outside.specs.Done.{seen_next, call_of, seen_after, calls_after, is_within}
use Rattle.outside.specs.DiskModel.{Wrote, overwrite_at}

below : (a b : ℕ) → IsTrue (nat_le a b) → a ≤ b
below a b test = grind (arith, nat_tests)

both : (a b : Bool) → IsTrue (a && b) → IsTrue a × IsTrue b
both true b test = (refl, test)
both false b test = absurd (cc test)

-- a log that grows keeps the bytes of a write
same-piece : (log more : List ℕ) (from kept : ℕ) → from + kept ≤ length log → take kept (drop from (log ++ more)) ≡ take kept (drop from log)
same-piece log more from kept within =
    let here : from ≤ length log = omega arith in
    let room : kept ≤ length (drop from log) = simp length-drop (omega arith) in
    rw (drop-append-le from log more here) (take-append-le kept (drop from log) more room)

same-next : (log more seen : List ℕ) (one : Done) → IsTrue (is_within (length log) one) → seen_next (log ++ more) seen one ≡ seen_next log seen one
same-next log more seen (Write at from kept lost) within =
    ap (λ piece. overwrite_at at piece seen) (same-piece log more from kept (below _ _ within))
same-next log more seen Sync within = refl

pub same_seen : (log more seen : List ℕ) (done : List Done) → IsTrue (list_all (is_within (length log)) done)
    → seen_after (log ++ more) seen done ≡ seen_after log seen done
same_seen log more seen [] within = refl
same_seen log more seen (one ∷ done) within =
    let parts = both _ _ within in
    rw (same-next log more seen one parts.0) (same_seen log more (seen_next log seen one) done parts.1)

pub same_calls : (log more seen : List ℕ) (done : List Done) → IsTrue (list_all (is_within (length log)) done)
    → calls_after (log ++ more) seen done ≡ calls_after log seen done
same_calls log more seen [] within = refl
same_calls log more seen (one ∷ done) within =
    let parts = both _ _ within in
    rw (same-next log more seen one parts.0)
    (ap (λ calls. call_of seen one ∷ calls) (same_calls log more (seen_next log seen one) done parts.1))

pub calls_push : (log seen : List ℕ) (done : List Done) (one : Done)
    → calls_after log seen (done ++ one ∷ []) ≡ calls_after log seen done ++ call_of (seen_after log seen done) one ∷ []
calls_push log seen [] one = refl
calls_push log seen (first ∷ done) one = ap (λ calls. call_of seen first ∷ calls) (calls_push log (seen_next log seen first) done one)

within-more : (n m : ℕ) (one : Done) → n ≤ m → IsTrue (is_within n one) → IsTrue (is_within m one)
within-more n m (Write at from kept lost) le within = grind (arith, nat_tests)
within-more n m Sync le within = refl

within-longer : (n m : ℕ) (done : List Done) → n ≤ m → IsTrue (list_all (is_within n) done) → IsTrue (list_all (is_within m) done)
within-longer n m [] le within = refl
within-longer n m (one ∷ done) le within =
    let parts = both _ _ within in
    rw (within-more n m one le parts.0) (within-longer n m done le parts.1)

within-push : (n : ℕ) (done : List Done) (one : Done) → IsTrue (list_all (is_within n) done) → IsTrue (is_within n one)
    → IsTrue (list_all (is_within n) (done ++ one ∷ []))
within-push n done one within last =
    rw (list_all-append (is_within n) done (one ∷ []), within, last) refl

whole-piece : (log front : List ℕ) → take (length front) (drop (length log) (log ++ front)) ≡ front
whole-piece log front = rw (drop_at log front (length log) refl) (take_all (length front) front (omega arith))

-- a write: its bytes are put at the end of the log
pub calls_write : (first log front : List ℕ) (done : List Done) (at lost : ℕ) → IsTrue (list_all (is_within (length log)) done)
    → calls_after (log ++ front) first (done ++ Write at (length log) (length front) lost ∷ [])
    ≡ calls_after log first done ++ Wrote at (length front + lost) ∷ []
calls_write first log front done at lost within =
    rw (calls_push (log ++ front) first done (Write at (length log) (length front) lost), same_calls log front first done within) refl

pub seen_write : (first log front : List ℕ) (done : List Done) (at lost : ℕ) → IsTrue (list_all (is_within (length log)) done)
    → seen_after (log ++ front) first (done ++ Write at (length log) (length front) lost ∷ [])
    ≡ overwrite_at at front (seen_after log first done)
seen_write first log front done at lost within =
    fold-append (seen_next (log ++ front)) first done (Write at (length log) (length front) lost ∷ [])
    ∙ ap (λ piece. overwrite_at at piece (seen_after (log ++ front) first done)) (whole-piece log front)
    ∙ ap (overwrite_at at front) (same_seen log front first done within)

pub within_write : (log front : List ℕ) (done : List Done) (at lost : ℕ) → IsTrue (list_all (is_within (length log)) done)
    → IsTrue (list_all (is_within (length (log ++ front))) (done ++ Write at (length log) (length front) lost ∷ []))
within_write log front done at lost within =
    let longer : length (log ++ front) ≡ length log + length front = length-append log front in
    rw longer
    (within-push (length log + length front) done (Write at (length log) (length front) lost)
    (within-longer (length log) (length log + length front) done (omega arith) within) (grind (arith, nat_tests)))

pub within_put : (log front longer : List ℕ) (done more : List Done) (at from kept lost : ℕ) → IsTrue (list_all (is_within (length log)) done)
    → from ≡ length log → kept ≡ length front → longer ≡ log ++ front → more ≡ done ++ Write at from kept lost ∷ []
    → IsTrue (list_all (is_within (length longer)) more)
within_put log front longer done more at from kept lost within place count grown pushed =
    rw (grown, pushed, place, count) (within_write log front done at lost within)

pub calls_length : (log seen : List ℕ) (done : List Done) → length (calls_after log seen done) ≡ length done
calls_length log seen [] = refl
calls_length log seen (one ∷ done) = ap suc (calls_length log (seen_next log seen one) done)
