-- What reads give, a crash may leave.
use Rattle.std.proofs.Common.{◌∙◌, ◌≡◌, ℕ, ◌+◌, ◌<◌, ◌≤◌, ◌==◌, ◌&&◌, ◌||◌, not, ◌⊎◌, inl, inr, cond, Bool, true, false, List, [], ◌∷◌, length, take, drop, arith, refl, IsTrue, fold, nat_lt, nat_le}
use Rattle.std.proofs.lemmas.List.{length-take, take_all}
use Rattle.std.proofs.lemmas.Bool.Decides.{nat_tests}
use Rattle.outside.specs.declared.mem_disk.done.Done.{Done}
use Rattle.outside.specs.declared.mem_disk.done.Done.TheVariants.{Write, Sync}
use Rattle.outside.specs.Done.{seen_next, call_of, seen_after, calls_after}
use Rattle.outside.specs.DiskModel.{Call, Wrote, Down, down_after, IsImage, MayLeave, overwrite_at, has, is_written}
use Rattle.outside.specs.OverwrittenLaws.{length-overwrite_at, get_or-overwrite_at}

neither : (a b : Bool) → IsTrue (not (a || b)) → IsTrue (not a) × IsTrue (not b)
neither true b free = absurd (cc free)
neither false b free = (refl, free)

-- a place that no range has is in neither the newest nor an older one
newest-misses : (k : ℕ) (range : ℕ × ℕ) (ranges : List (ℕ × ℕ))
    → IsTrue (not (is_written k (range ∷ ranges)))
    → IsTrue (not (has k range)) × IsTrue (not (is_written k ranges))
newest-misses k range ranges free = neither (has k range) (is_written k ranges) free

outside-range : (k place count : ℕ) → IsTrue (not (nat_le place k && nat_lt k (place + count)))
    → (k < place) ⊎ (place + count ≤ k)
outside-range k place count free = grind (arith, nat_tests)

nearer : (k place few count : ℕ) → few ≤ count → (k < place) ⊎ (place + count ≤ k) → (k < place)
    ⊎ (place + few ≤ k)
nearer k place few count le (inl before) = inl before
nearer k place few count le (inr after) = inr (omega arith)

-- a range that is no longer ends no further
end-of-front : (place few count : ℕ) → few ≤ count
    → cond (few == 0) 0 (place + few) ≤ cond (count == 0) 0 (place + count)
end-of-front place few count le = grind (arith, nat_tests)

-- a write whose front was kept leaves an image
pub after_write : (down : Down) (seen piece : List ℕ) (place count : ℕ) → length piece ≤ count
    → IsImage down seen
    → IsImage (down_after down (Wrote place count)) (overwrite_at place piece seen)
after_write down seen piece place count front image = record {
  no_shorter = let e = length-overwrite_at place piece seen in omega arith;
  no_longer =
      let e = length-overwrite_at place piece seen in
      let l = end-of-front place (length piece) count front in
      omega arith;
  stays = λ k within free.
      let parts = newest-misses k (place, count) down.ranges free in
      let apart = nearer k place (length piece) count front (outside-range k place count parts.0) in
      let inside : k < length seen = omega arith in
      get_or-overwrite_at place piece seen k apart inside ∙ image.stays k within parts.1;
}

-- each thing that was done keeps what reads give an image
image-next : (log seen : List ℕ) (down : Down) (one : Done) → IsImage down seen
    → IsImage (down_after down (call_of seen one)) (seen_next log seen one)
image-next log seen down (Write at from kept lost) image =
    let piece : List ℕ = take kept (drop from log) in
    let front : length piece ≤ kept + lost = simp length-take (omega arith) in
    after_write down seen piece at (kept + lost) front image
image-next log seen down Sync image =
    record { no_shorter = omega arith; no_longer = omega arith; stays = λ k within free. refl }

pub image-after : (log seen : List ℕ) (down : Down) (done : List Done) → IsImage down seen
    → IsImage (fold down_after down (calls_after log seen done)) (seen_after log seen done)
image-after log seen down [] image = image
image-after log seen down (one ∷ done) image =
    image-after log (seen_next log seen one) (down_after down (call_of seen one)) done
    (image-next log seen down one image)

-- what was put down is an image of itself
whole : (first : List ℕ) → IsImage (record { contents = first; ranges = [] }) first
whole first = record {
  no_shorter = omega arith;
  no_longer = omega arith;
  stays = λ k within free. refl;
}

-- what reads give after the calls that a disk in memory has kept, a crash may leave
pub may_leave-seen : (first seen log : List ℕ) (done : List Done)
    → seen ≡ seen_after log first done
    → MayLeave (record {
      seen = seen;
      first = first;
      calls = calls_after log first done;
    }) seen
may_leave-seen first seen log done same =
    let calls : List Call = calls_after log first done in
    let all : take (length calls) calls ≡ calls = take_all (length calls) calls (omega arith) in
    rw all (rw same (image-after log first (record { contents = first; ranges = [] }) done
    (whole first)))
