-- The ranges of writes, and what a replay comes to.
use Rattle.std.proofs.Common.{◌≡◌, ℕ, ◌<◌, ◌≤◌, ◌||◌, not, Bool, true, false, max, nat_le, List, [], ◌∷◌, ◌++◌, length, slice_index, IsTrue, refl, ap, ◌∙◌, arith}
use Rattle.std.specs.List.{list_any}
use Rattle.std.proofs.lemmas.Bool.Decides.{nat_tests}
use Rattle.outside.specs.DiskModel.{Down, IsImage, has, is_written, range_end, furthest}
use Rattle.outside.specs.declared.mem_disk.replay.Write.{Write}
use Rattle.outside.specs.Replay.{range_of, onto}

pub onto_push : (ranges : List (ℕ × ℕ)) (writes : List Write) (write : Write) → onto ranges (writes ++ write ∷ []) ≡ range_of write ∷ onto ranges writes
onto_push ranges [] write = refl
onto_push ranges (first ∷ writes) write = onto_push (range_of first ∷ ranges) writes write

or-swap : (a b c : Bool) → (a || (b || c)) ≡ ((b || a) || c)
or-swap true true c = refl
or-swap true false c = refl
or-swap false b c = or-false b c
  where
    or-false : (b c : Bool) → (b || c) ≡ ((b || false) || c)
    or-false true c = refl
    or-false false c = refl

-- a place is written where one of the writes has it
written-onto : (k : ℕ) (ranges : List (ℕ × ℕ)) (writes : List Write) → is_written k (onto ranges writes) ≡ (list_any (λ write. has k (range_of write)) writes || is_written k ranges)
written-onto k ranges [] = refl
written-onto k ranges (write ∷ writes) =
    written-onto k (range_of write ∷ ranges) writes ∙ or-swap (list_any (λ write. has k (range_of write)) writes) (has k (range_of write)) (is_written k ranges)

or-nothing : (b : Bool) → (b || false) ≡ b
or-nothing true = refl
or-nothing false = refl

pub written_any : (k : ℕ) (writes : List Write) → is_written k (onto [] writes) ≡ list_any (λ write. has k (range_of write)) writes
written_any k writes = written-onto k [] writes ∙ or-nothing (list_any (λ write. has k (range_of write)) writes)

reach-max : (end a b : ℕ) → nat_le end (max a b) ≡ (nat_le end a || nat_le end b)
reach-max end a b = grind (arith, nat_tests)

furthest-onto : (end from : ℕ) (ranges : List (ℕ × ℕ)) (writes : List Write)
    → nat_le end (furthest from (onto ranges writes)) ≡ (list_any (λ write. nat_le end (range_end (range_of write))) writes || nat_le end (furthest from ranges))
furthest-onto end from ranges [] = refl
furthest-onto end from ranges (write ∷ writes) =
    furthest-onto end from (range_of write ∷ ranges) writes
    ∙ ap (λ (b : Bool). list_any (λ write. nat_le end (range_end (range_of write))) writes || b) (reach-max end (range_end (range_of write)) (furthest from ranges))
    ∙ or-swap (list_any (λ write. nat_le end (range_end (range_of write))) writes) (nat_le end (range_end (range_of write))) (nat_le end (furthest from ranges))

or-flip : (a b : Bool) → (a || b) ≡ (b || a)
or-flip true true = refl
or-flip true false = refl
or-flip false true = refl
or-flip false false = refl

pub furthest_any : (end from : ℕ) (writes : List Write) → nat_le end (furthest from (onto [] writes)) ≡ (nat_le end from || list_any (λ write. nat_le end (range_end (range_of write))) writes)
furthest_any end from writes =
    furthest-onto end from [] writes ∙ or-flip (list_any (λ write. nat_le end (range_end (range_of write))) writes) (nat_le end from)

-- an image, by its length and its bytes
pub image_parts : (down : Down) (image : List ℕ) → length down.contents ≤ length image → length image ≤ furthest (length down.contents) down.ranges
    → ((k : ℕ) → k < length down.contents → IsTrue (not (is_written k down.ranges)) → slice_index image k ≡ slice_index down.contents k) → IsImage down image
image_parts down image low high stays = record { no_shorter = low; no_longer = high; stays = stays }

pub furthest_from : (from : ℕ) (ranges : List (ℕ × ℕ)) → from ≤ furthest from ranges
furthest_from from [] = omega arith
furthest_from from (range ∷ ranges) = omega (arith, furthest_from from ranges)
