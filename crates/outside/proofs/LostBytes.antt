-- The image that lost bytes make.
use Rattle.std.proofs.Common.{rules, ◌≡◌, ℕ, ◌-◌, ◌<◌, ◌≤◌, ◌&&◌, ◌||◌, ◌⊎◌, inl, inr, not, Bool, true, false, cond, max, min, nat_le, nat_lt, List, ◌++◌, length, take, drop, get_or, IsTrue, ap, ◌∙◌, arith}
use Rattle.std.proofs.lemmas.Bool.Decides.{nat_tests}
use Rattle.std.proofs.lemmas.List.{places, take_all, length-append, length-take, length-drop}
use Rattle.outside.specs.DiskModel.{Down, IsImage, IsImageWith, byte_after, furthest, is_written}
use Rattle.outside.proofs.Replays.{furthest_from}

-- a place that nothing was written to has what was down
byte-unwritten : (inside written past : Bool) (lost down : ℕ) → IsTrue (not written) → past ≡ false
    → cond (inside && (written || past)) lost down ≡ down
byte-unwritten inside written past lost down free within = grind (arith, nat_tests)

pub image_with : (down : Down) (lost image : List ℕ) → IsImageWith down lost image → IsImage down image
image_with down lost image is = record {
  no_shorter = omega (arith, is.long);
  no_longer = omega (arith, is.long, furthest_from (length down.contents) down.ranges);
  stays = λ k within free.
      let inside : k < length image = omega (arith, is.long) in
      let before : nat_le (length down.contents) k ≡ false = grind (arith, nat_tests) in
      is.bytes k inside
      ∙ byte-unwritten (nat_lt k (length lost)) (is_written k down.ranges) (nat_le (length down.contents) k) (get_or lost k 0) (get_or down.contents k 0) free before;
}

-- what was down with some bytes changed, and behind it the lost ones as far as the writes reach
abbrev front_with_lost : ℕ → ℕ → List ℕ → List ℕ → List ℕ
front_with_lost old end lost front = front ++ take (end - length front) (drop (min old (length lost)) lost)

length-front_with_lost : (old end : ℕ) (lost front : List ℕ) → length front ≡ old → old ≤ end
    → length (front_with_lost old end lost front) ≡ max old (min (length lost) end)
length-front_with_lost old end lost front long reach = simp (length-append, length-take, length-drop) (omega arith)

front-front_with_lost : (old end : ℕ) (lost front : List ℕ) (k : ℕ) → k < length front → get_or (front_with_lost old end lost front) k 0 ≡ get_or front k 0
front-front_with_lost old end lost front k before = search (rules, places)

-- past what was down a byte is the lost one of its place
past-front_with_lost : (old end : ℕ) (lost front : List ℕ) (k : ℕ) → length front ≡ old → old ≤ k → k < max old (min (length lost) end)
    → get_or (front_with_lost old end lost front) k 0 ≡ get_or lost k 0
past-front_with_lost old end lost front k long past within = search (rules, places)

byte-past : (inside written past : Bool) (lost down : ℕ) → inside ≡ true → past ≡ true
    → lost ≡ cond (inside && (written || past)) lost down
byte-past inside written past lost down is end = grind (arith, nat_tests)

before_or_past : (k old : ℕ) → (k < old) ⊎ (old ≤ k)
before_or_past k old = grind arith

pub joined_image : (down : Down) (lost front image : List ℕ) (n : ℕ) → n ≡ min (length down.contents) (length lost) → length front ≡ length down.contents
    → ((k : ℕ) → k < length down.contents → get_or front k 0 ≡ byte_after down lost k)
    → image ≡ front ++ take (furthest (length down.contents) down.ranges - length front) (take (length lost - n) (drop n lost))
    → IsImageWith down lost image
joined_image down lost front image n from long bytes same =
    record { long = length_is; bytes = λ k within. by_side k (omega (arith, length_is)) (before_or_past k old) }
  where
    old : ℕ
    old = length down.contents

    end : ℕ
    end = furthest old down.ranges

    image_is : image ≡ front_with_lost old end lost front
    image_is =
        same ∙ ap (λ (t : List ℕ). front ++ take (end - length front) t)
        (take_all (length lost - n) (drop n lost) (simp length-drop (omega arith)) ∙ ap (λ (m : ℕ). drop m lost) from)

    length_is : length image ≡ max old (min (length lost) end)
    length_is = ap length image_is ∙ length-front_with_lost old end lost front long (furthest_from old down.ranges)

    by_side : (k : ℕ) → k < max old (min (length lost) end) → (k < old) ⊎ (old ≤ k) → get_or image k 0 ≡ byte_after down lost k
    by_side k within (inl before) =
        ap (λ (t : List ℕ). get_or t k 0) image_is ∙ front-front_with_lost old end lost front k (omega arith) ∙ bytes k before
    by_side k within (inr past) =
        let inside : nat_lt k (length lost) ≡ true = grind (arith, nat_tests) in
        let behind : nat_le old k ≡ true = grind (arith, nat_tests) in
        ap (λ (t : List ℕ). get_or t k 0) image_is ∙ past-front_with_lost old end lost front k long past within
        ∙ byte-past (nat_lt k (length lost)) (is_written k down.ranges) (nat_le old k) (get_or lost k 0) (get_or down.contents k 0) inside behind
