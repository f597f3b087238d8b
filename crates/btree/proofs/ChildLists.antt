-- Lists of children, and children as parts, one for the other.
use Rattle.std.proofs.Common.{◌≡◌, ℕ, zero, suc, ◌+◌, ◌<◌, ◌≤◌, List, [], ◌∷◌, ◌++◌, length, map, take, drop, get_or, refl, sym, ap, ◌∙◌, subst, arith}
use Rattle.std.proofs.lemmas.List.{length-map, take-map, drop-map, map-append, get_or-map}
use Rattle.vo_spec.specs.Parts.{Part, inner, more, count, levels, levels_in}
use Rattle.vo_spec.specs.Fits.{max_fill}
use Rattle.vo_spec.specs.Inserts.{take_parts, drop_parts}
use Rattle.btree.specs.Nodes.{Kid, parts_from}
use Rattle.btree.specs.Shapes.{IsShaped, AreShaped}

pub map_spliced : {X Y : Type 0} (f : X → Y) (xs new : List X) (i j : ℕ) → map f (take i xs ++ new ++ drop j xs) ≡ take i (map f xs) ++ map f new ++ drop j (map f xs)
map_spliced f xs new i j =
    map-append f (take i xs ++ new) (drop j xs)
    ∙ ap (λ l. l ++ map f (drop j xs)) (map-append f (take i xs) new)
    ∙ rw (take-map f i xs, drop-map f j xs) refl

pub map_put : {X Y : Type 0} (f : X → Y) (xs : List X) (x : X) (i j : ℕ) → map f (take i xs ++ x ∷ drop j xs) ≡ take i (map f xs) ++ f x ∷ drop j (map f xs)
map_put f xs x i j = map-append f (take i xs) (x ∷ drop j xs) ∙ rw (take-map f i xs, drop-map f j xs) refl

module _ {E M : Type 0} where
  pub count_parts : (ks : List (Kid E M)) → count (parts_from ks) ≡ length ks
  count_parts [] = refl
  count_parts (k ∷ ks) = let h : count (parts_from ks) ≡ length ks = count_parts ks in omega arith

  pub take_parts_from : (n : ℕ) (ks : List (Kid E M)) → take_parts n (parts_from ks) ≡ parts_from (take n ks)
  take_parts_from zero [] = refl
  take_parts_from (suc n) [] = refl
  take_parts_from zero (k ∷ ks) = refl
  take_parts_from (suc n) (k ∷ ks) = ap (λ ps. more k.0 k.1 ps) (take_parts_from n ks)

  pub drop_parts_from : (n : ℕ) (ks : List (Kid E M)) → drop_parts n (parts_from ks) ≡ parts_from (drop n ks)
  drop_parts_from zero [] = refl
  drop_parts_from (suc n) [] = refl
  drop_parts_from zero (k ∷ ks) = refl
  drop_parts_from (suc n) (k ∷ ks) = drop_parts_from n ks

  -- a child has fewer levels than its parent
  pub child_falls : (ks : List (Kid E M)) (i : ℕ) (k : Kid E M) → i < length ks → k ≡ get_or ks i k → levels k.1 ≤ levels_in (parts_from ks)
  child_falls [] i k lt is = absurd (omega arith)
  child_falls (j ∷ js) zero k lt is = let e : levels k.1 ≡ levels j.1 = ap (λ (r : Kid E M). levels r.1) is in omega arith
  child_falls (j ∷ js) (suc i) k lt is =
      let h : levels k.1 ≤ levels_in (parts_from js) = child_falls js i k (omega arith) is in omega arith

  pub child_shaped : (ks : List (Kid E M)) → AreShaped (parts_from ks) → (i : ℕ) (k : Kid E M) → i < length ks → k ≡ get_or ks i k → IsShaped k.1
  child_shaped [] f i k lt is = absurd (omega arith)
  child_shaped (j ∷ js) f zero k lt is = let P : Kid E M → Type 0 = λ r. IsShaped r.1 in subst P (sym is) f.0
  child_shaped (j ∷ js) f (suc i) k lt is = child_shaped js f.1 i k (omega arith) is

-- a child among those that its node has, as contracts see it
pub kid_at : {N X : Type 0} (kid : N → X) (ns : List N) (place : ℕ) (n : N) → place < length ns → n ≡ get_or ns place n → kid n ≡ get_or (map kid ns) place (kid n)
kid_at kid ns place n lt is = ap kid is ∙ sym (get_or-map kid ns place n (kid n) lt)

-- An inner node that was opened.
pub record Opened {K N E M : Type 0} (t : Part E M) (ss : List K) (ns : List N) (kid : N → Kid E M) : Type 0 where
  pub least : 2 ≤ length ns
  pub most : length ns ≤ max_fill
  pub between : length ss + 1 ≡ length ns
  pub shaped : AreShaped (parts_from (map kid ns))
  pub falls : levels t ≡ levels_in (parts_from (map kid ns)) + 1

pub opened : {K N E M : Type 0} (key : K → List ℕ) (kid : N → Kid E M) (ss : List K) (ns : List N) (t : Part E M)
    → inner (map key ss) (parts_from (map kid ns)) ≡ t → IsShaped t → Opened t ss ns kid
opened key kid ss ns t is shaped =
    let P : Part _ _ → Type 0 = λ x. IsShaped x in
    let s : IsShaped (inner (map key ss) (parts_from (map kid ns))) = subst P (sym is) shaped in
    let counted = count_parts (map kid ns) in
    let children = length-map ns kid in
    let keys = length-map ss key in
    let least : 2 ≤ count (parts_from (map kid ns)) = s.0 in
    let most : count (parts_from (map kid ns)) ≤ max_fill = s.1 in
    let between : length (map key ss) + 1 ≡ count (parts_from (map kid ns)) = s.2 in
    record { least = omega arith; most = omega arith; between = omega arith; shaped = s.3; falls = ap levels (sym is) }
