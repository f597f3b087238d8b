-- Nodes made two, and how many entries and children come of it.
use Rattle.std.proofs.Common.{◌≡◌, ℕ, ◌+◌, ◌-◌, ◌<◌, ◌≤◌, true, false, cond, nat_le, List, ◌++◌, length, take, drop, refl, ap, arith, length-append, length-drop}
use Rattle.std.proofs.lemmas.List.{length-take-le}
use Rattle.std.proofs.lemmas.Bool.Decides.{nat_tests}
use Rattle.vo_spec.specs.Parts.{Part, stub, leaf, inner, count, Family}
use Rattle.vo_spec.specs.Inserts.{Insertion, one, two, Children}
use Rattle.btree.specs.Nodes.{Kid, kids_of, keys_of}
use Rattle.btree.specs.Splices.{splice, split, divide_at, CanDivide}
use Rattle.btree.specs.Shapes.{size_of, IsLinked, IsWithin}
use Rattle.btree.proofs.ChildLists.{count_parts}

above : (n : ℕ) → 16 < n → nat_le n 16 ≡ false
above n h = grind (arith, nat_tests)

within : (n : ℕ) → n ≤ 16 → nat_le n 16 ≡ true
within n h = grind (arith, nat_tests)

module _ {E M : Type 0} (family : Family E M) where
  pub split_underfull : (t : Part E M) → size_of t ≤ 16 → split family t ≡ one t
  split_underfull (stub d) h = refl
  split_underfull (leaf es) h = ap (λ b. cond b (one (leaf es)) (divide_at family 8 (leaf es))) (within (length es) h)
  split_underfull (inner ss ps) h = ap (λ b. cond b (one (inner ss ps)) (divide_at family 8 (inner ss ps))) (within (count ps) h)

  pub split_large : (t : Part E M) → 16 < size_of t → split family t ≡ divide_at family 8 t
  split_large (stub d) h = absurd (omega arith)
  split_large (leaf es) h = ap (λ b. cond b (one (leaf es)) (divide_at family 8 (leaf es))) (above (length es) h)
  split_large (inner ss ps) h = ap (λ b. cond b (one (inner ss ps)) (divide_at family 8 (inner ss ps))) (above (count ps) h)

  pub large_divides : (t : Part E M) → 16 < size_of t → CanDivide 8 t
  large_divides (stub d) h = absurd (omega arith)
  large_divides (leaf es) h = let many : 16 < length es = h in omega arith
  large_divides (inner ss ps) h = let many : 16 < count ps = h in (omega arith, omega arith)

pub underfull_within : {E M : Type 0} (least : ℕ) (t : Part E M) → IsLinked least t → size_of t ≤ 16 → IsWithin least t
underfull_within least t linked h = record { linked = linked; most = h }

-- How many nodes there are of what comes in a node's place.

module _ {E M : Type 0} (family : Family E M) where
  pub record Numbered (g : Insertion E M) : Type 0 where
    pub some : 1 ≤ length (kids_of family g)
    pub most : length (kids_of family g) ≤ 2
    pub between : length (keys_of g) + 1 ≡ length (kids_of family g)

  pub numbered : (g : Insertion E M) → Numbered g
  numbered (one t) = record { some = omega arith; most = omega arith; between = refl }
  numbered (two left key right) = record { some = omega arith; most = omega arith; between = refl }

  -- of the children and separators of an inner node in which they have come
  pub spliced_children : (i j : ℕ) (ss : List (List ℕ)) (ks : List (Kid E M)) (g : Insertion E M) → i ≤ j → j < length ks
      → count (splice family i j ss ks g).parts + (j + 1) ≡ length ks + i + length (kids_of family g)
  spliced_children i j ss ks g order at =
      omega (
        arith,
        count_parts (take i ks ++ kids_of family g ++ drop (j + 1) ks),
        length-append (take i ks ++ kids_of family g) (drop (j + 1) ks),
        length-append (take i ks) (kids_of family g),
        length-take-le i ks (omega arith),
        length-drop (j + 1) ks,
      )

  pub spliced_separators : (i j : ℕ) (ss : List (List ℕ)) (ks : List (Kid E M)) (g : Insertion E M) → i ≤ j → j ≤ length ss
      → length (splice family i j ss ks g).separators + j ≡ length ss + i + length (keys_of g)
  spliced_separators i j ss ks g order at =
      omega (
        arith,
        length-append (take i ss ++ keys_of g) (drop j ss),
        length-append (take i ss) (keys_of g),
        length-take-le i ss (omega arith),
        length-drop j ss,
      )

  -- a node with what has come in the place of some of its children
  pub record Placed (i j n : ℕ) (g : Insertion E M) (c : Children E M) : Type 0 where
    pub number : count c.parts + (j + 1) ≡ n + i + length (kids_of family g)
    pub between : length c.separators + 1 ≡ count c.parts
    pub least : n + i - j ≤ count c.parts
    pub most : count c.parts ≤ n + i - j + 1

  pub placed : (i j : ℕ) (ss : List (List ℕ)) (ks : List (Kid E M)) (g : Insertion E M) → i ≤ j → j < length ks → length ss + 1 ≡ length ks → Placed i j (length ks) g (splice family i j ss ks g)
  placed i j ss ks g order at between =
      let n = numbered g in
      let children : count (splice family i j ss ks g).parts + (j + 1) ≡ length ks + i + length (kids_of family g) = spliced_children i j ss ks g order at in
      let separators : length (splice family i j ss ks g).separators + j ≡ length ss + i + length (keys_of g) = spliced_separators i j ss ks g order (omega arith) in
      record { number = children; between = omega (arith, n.between); least = omega (arith, n.some); most = omega (arith, n.most) }
