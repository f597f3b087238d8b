-- So it is with the proof of a removal.
use Rattle.std.proofs.Common.{◌≡◌, ℕ, Bool, true, false, cond, ◌||◌, List, [], drop, get_or, Result, Ok, Err, refl, sym, ap, ◌∙◌, slice_get}
use Rattle.vo_spec.specs.declared.cells.PartEntry.{PartEntry}
use Rattle.vo_spec.specs.declared.trees.UpdateFault.{UpdateFault}
use Rattle.vo_spec.specs.declared.trees.UpdateFault.TheVariants.{DuplicateKey, NoRow, Missing, Memory}
use Rattle.vo_spec.specs.Firsts.{and_then}
use Rattle.vo_spec.specs.Parts.{stub, leaf, inner, none, more}
use Rattle.vo_spec.specs.Trees.{RowTree, RowTrees, digest, row_family, Prunes}
use Rattle.vo_spec.specs.Inserts.{one, Children, result_map, goes_here, after_child, put_insertion}
use Rattle.vo_spec.specs.Removes.{is_underfull, with_left, with_right, settle_first, settle_next, shrink, shrink_in, shrink_after, closed_parts, becomes_underfull, opened_sibling_if, sibling_first, remove_proof, remove_proof_in, remove_proof_after}
use Rattle.vo_spec.specs.Cells.{EntryPrunes}
use Rattle.btree.specs.Agreement.{AgreesWithTree}
use Rattle.btree.specs.Splices.{node_of}
use Rattle.btree.specs.Pruning.{OpenPrunes, KeepsKeys, KeepsAnnotations}
use Rattle.btree.proofs.RemovePrunes.{as_underfull, shrink_agrees}
use Rattle.update_proof.specs.OpenParts.{is_open, any_open}
use Rattle.update_proof.specs.Proving.{lacks, remove_is_missing, sibling_surplus, first_surplus, remove_has_surplus, remove_has_surplus_in, remove_has_surplus_after}
use Rattle.update_proof.proofs.ReplacementPaths.{lacks_map}
use Rattle.update_proof.proofs.ClosedParts.{Each, neither, entries_closed, part_closed, all_closed}

same_key : KeepsKeys row_family EntryPrunes
same_key e f z = z.key

same_annotation : KeepsAnnotations row_family EntryPrunes
same_annotation p t z = refl

underfull_when : (key : List ℕ) (c q : RowTree) → shrink row_family key c ≡ Ok q → becomes_underfull key c ≡ is_underfull q
underfull_when key c q h = rw h refl

quiet_when : (key : List ℕ) (c : RowTree) (fault : UpdateFault) → shrink row_family key c ≡ Err fault → becomes_underfull key c ≡ false
quiet_when key c fault h = rw h refl

-- the first step isn't missing where both aren't
first_there : {A B : Type 0} (f : A → Result B UpdateFault) (r : Result A UpdateFault) → lacks (and_then f r) ≡ false → lacks r ≡ false
first_there f (Ok x) h = refl
first_there f (Err DuplicateKey) h = refl
first_there f (Err NoRow) h = refl
first_there f (Err Missing) h = h
first_there f (Err Memory) h = refl

-- The sibling of a small child is open.

right_open : (p r : RowTree) (s : List ℕ) → lacks (with_right row_family p s r) ≡ false → is_open r ≡ true
right_open p (leaf es) s h = refl
right_open p (inner ss ps) s h = refl
right_open (stub d) (stub e) s h = absurd (cc)
right_open (leaf es) (stub e) s h = absurd (cc)
right_open (inner ss ps) (stub e) s h = absurd (cc)

left_open : (l p : RowTree) (s : List ℕ) → lacks (with_left row_family l s p) ≡ false → is_open l ≡ true
left_open (leaf es) p s h = refl
left_open (inner ss ps) p s h = refl
left_open (stub e) (stub d) s h = absurd (cc)
left_open (stub e) (leaf es) s h = absurd (cc)
left_open (stub e) (inner ss ps) s h = absurd (cc)

first_open : (key : List ℕ) (ss : List (List ℕ)) (m : Unit {0}) (p q : RowTree) (qs : RowTrees) → lacks (and_then (settle_first row_family ss (more m q qs)) (shrink row_family key p)) ≡ false
    → becomes_underfull key p ≡ true → is_open q ≡ true
first_open key ss m p q qs h small = go (shrink row_family key p) refl h
  where
    looks : (u : RowTree) (b : Bool) → b ≡ true → lacks (cond b (result_map (put_insertion row_family (drop 1 ss) qs) (with_right row_family u (get_or ss 0 []) q)) (Ok (put_insertion row_family ss (more m q qs) (one u)))) ≡ false → is_open q ≡ true
    looks u true e g = right_open u q (get_or ss 0 []) (sym (lacks_map (put_insertion row_family (drop 1 ss) qs) (with_right row_family u (get_or ss 0 []) q)) ∙ g)
    looks u false e g = absurd (cc)

    go : (r : Result RowTree UpdateFault) → shrink row_family key p ≡ r → lacks (and_then (settle_first row_family ss (more m q qs)) r) ≡ false → is_open q ≡ true
    go (Ok u) e g = looks u (is_underfull u) (sym (underfull_when key p u e) ∙ small) g
    go (Err fault) e g = let quiet = quiet_when key p fault e in absurd (cc)

next_open : (key : List ℕ) (m : Unit {0}) (l : RowTree) (ss : List (List ℕ)) (ps : RowTrees) (p : RowTree) → lacks (and_then (settle_next row_family m l ss ps) (shrink row_family key p)) ≡ false
    → becomes_underfull key p ≡ true → is_open l ≡ true
next_open key m l ss ps p h small = go (shrink row_family key p) refl h
  where
    looks : (u : RowTree) (b : Bool) → b ≡ true → lacks (cond b (result_map (put_insertion row_family (drop 1 ss) ps) (with_left row_family l (get_or ss 0 []) u)) (Ok (after_child m l ss (put_insertion row_family (drop 1 ss) ps (one u))))) ≡ false → is_open l ≡ true
    looks u true e g = left_open l u (get_or ss 0 []) (sym (lacks_map (put_insertion row_family (drop 1 ss) ps) (with_left row_family l (get_or ss 0 []) u)) ∙ g)
    looks u false e g = absurd (cc)

    go : (r : Result RowTree UpdateFault) → shrink row_family key p ≡ r → lacks (and_then (settle_next row_family m l ss ps) r) ≡ false → is_open l ≡ true
    go (Ok u) e g = looks u (is_underfull u) (sym (underfull_when key p u e) ∙ small) g
    go (Err fault) e g = let quiet = quiet_when key p fault e in absurd (cc)

-- A sibling as it is looked at, and one that isn't.

sibling_is : (b : Bool) (r u : RowTree) → Prunes r u → sibling_surplus b r ≡ false → (b ≡ true → is_open r ≡ true) → r ≡ opened_sibling_if b u
sibling_is false r u z h open_if = part_closed r u z h
sibling_is true (stub d) u z h open_if = let there : false ≡ true = open_if refl in absurd (cc)
sibling_is true (leaf es) (stub d) z h open_if = absurd z
sibling_is true (leaf es) (leaf fs) z h open_if = ap leaf (entries_closed es fs z h)
sibling_is true (leaf es) (inner ss ps) z h open_if = absurd z
sibling_is true (inner ss ps) (stub d) z h open_if = absurd z
sibling_is true (inner ss ps) (leaf es) z h open_if = absurd z
sibling_is true (inner ss ps) (inner ts qs) z h open_if = ap (inner ss) (all_closed ps qs z.1 h) ∙ ap (λ us. inner us (closed_parts qs)) z.0

module _ (key : List ℕ) where
  -- whether a child becomes small is the same in the part and in the tree
  as_underfull_after : (p t : RowTree) → Prunes p t → lacks (shrink row_family key p) ≡ false → becomes_underfull key p ≡ becomes_underfull key t
  as_underfull_after p t z there = go (shrink row_family key p) (shrink row_family key t) refl refl (shrink_agrees row_family EntryPrunes same_key same_annotation key p t z) there
    where
      go : (r s : Result RowTree UpdateFault) → shrink row_family key p ≡ r → shrink row_family key t ≡ s → AgreesWithTree (OpenPrunes row_family EntryPrunes) r s → lacks r ≡ false → becomes_underfull key p ≡ becomes_underfull key t
      go (Ok x) (Ok y) e f a l = underfull_when key p x e ∙ as_underfull row_family EntryPrunes x y a ∙ sym (underfull_when key t y f)
      go (Ok x) (Err fault) e f a l = absurd a
      go (Err DuplicateKey) (Ok y) e f a l = absurd a
      go (Err DuplicateKey) (Err fault) e f a l = quiet_when key p DuplicateKey e ∙ sym (quiet_when key t fault f)
      go (Err NoRow) (Ok y) e f a l = absurd a
      go (Err NoRow) (Err fault) e f a l = quiet_when key p NoRow e ∙ sym (quiet_when key t fault f)
      go (Err Missing) s e f a l = absurd (cc)
      go (Err Memory) (Ok y) e f a l = absurd a
      go (Err Memory) (Err fault) e f a l = quiet_when key p Memory e ∙ sym (quiet_when key t fault f)

  first_is : (ss : List (List ℕ)) (p q : RowTree) (ps qs : RowTrees) → Prunes p q → Each ps qs → lacks (and_then (settle_first row_family ss ps) (shrink row_family key p)) ≡ false
      → first_surplus (becomes_underfull key p) ps ≡ false → ps ≡ sibling_first (becomes_underfull key q) qs
  first_is ss p q none none y z l b = refl
  first_is ss p q none (more n u us) y z l b = absurd z
  first_is ss p q (more m r rs) none y z l b = absurd z
  first_is ss p q (more m r rs) (more n u us) y z l b =
      let o = neither (sibling_surplus (becomes_underfull key p) r) (any_open rs) b in
      let same = as_underfull_after p q y (first_there (settle_first row_family ss (more m r rs)) (shrink row_family key p) l) in
      let beside = sibling_is (becomes_underfull key p) r u z.1 o.first (first_open key ss m p r rs l) in
      ap (λ k. more k r rs) z.0 ∙ ap (λ x. more n x rs) (beside ∙ ap (λ c. opened_sibling_if c u) same) ∙ ap (more n (opened_sibling_if (becomes_underfull key q) u)) (all_closed rs us z.2 o.second)

  in_step : (c : Bool) (ss : List (List ℕ)) (m n : Unit {0}) (p q : RowTree) (ps qs : RowTrees) → m ≡ n → Prunes p q → Each ps qs
      → lacks (cond c (and_then (settle_first row_family ss ps) (shrink row_family key p)) (shrink_after row_family key m p ss ps)) ≡ false
      → cond c (remove_has_surplus key p || first_surplus (becomes_underfull key p) ps) (remove_has_surplus_after key p ss ps) ≡ false
      → (lacks (shrink row_family key p) ≡ false → remove_has_surplus key p ≡ false → p ≡ remove_proof key q)
      → (lacks (shrink_after row_family key m p ss ps) ≡ false → remove_has_surplus_after key p ss ps ≡ false → more m p ps ≡ remove_proof_after key n q ss qs)
      → more m p ps ≡ cond c (more n (remove_proof key q) (sibling_first (becomes_underfull key q) qs)) (remove_proof_after key n q ss qs)
  in_step true ss m n p q ps qs same y z l b here on =
      let o = neither (remove_has_surplus key p) (first_surplus (becomes_underfull key p) ps) b in
      let first = here (first_there (settle_first row_family ss ps) (shrink row_family key p) l) o.first in
      ap (λ k. more k p ps) same ∙ ap (λ u. more n u ps) first ∙ ap (more n (remove_proof key q)) (first_is ss p q ps qs y z l o.second)
  in_step false ss m n p q ps qs same y z l b here on = on l b

  after_step : (c : Bool) (ss : List (List ℕ)) (m n j i : Unit {0}) (left other p q : RowTree) (ps qs : RowTrees) → m ≡ n → j ≡ i → Prunes left other → Prunes p q → Each ps qs
      → lacks (cond c (and_then (settle_next row_family m left ss ps) (shrink row_family key p)) (result_map (after_child m left ss) (shrink_after row_family key j p (drop 1 ss) ps))) ≡ false
      → cond c (sibling_surplus (becomes_underfull key p) left || (remove_has_surplus key p || any_open ps)) (is_open left || remove_has_surplus_after key p (drop 1 ss) ps) ≡ false
      → (lacks (shrink row_family key p) ≡ false → remove_has_surplus key p ≡ false → p ≡ remove_proof key q)
      → (lacks (shrink_after row_family key j p (drop 1 ss) ps) ≡ false → remove_has_surplus_after key p (drop 1 ss) ps ≡ false → more j p ps ≡ remove_proof_after key i q (drop 1 ss) qs)
      → more m left (more j p ps) ≡ cond c (more n (opened_sibling_if (becomes_underfull key q) other) (more i (remove_proof key q) (closed_parts qs))) (more n (stub (digest other)) (remove_proof_after key i q (drop 1 ss) qs))
  after_step true ss m n j i left other p q ps qs same second x y z l b here on =
      let o = neither (sibling_surplus (becomes_underfull key p) left) (remove_has_surplus key p || any_open ps) b in
      let r = neither (remove_has_surplus key p) (any_open ps) o.second in
      let there = first_there (settle_next row_family m left ss ps) (shrink row_family key p) l in
      let beside = sibling_is (becomes_underfull key p) left other x o.first (next_open key m left ss ps p l) ∙ ap (λ k. opened_sibling_if k other) (as_underfull_after p q y there) in
      ap (λ k. more k left (more j p ps)) same
      ∙ ap (λ u. more n u (more j p ps)) beside
      ∙ ap (λ k. more n (opened_sibling_if (becomes_underfull key q) other) (more k p ps)) second
      ∙ ap (λ u. more n (opened_sibling_if (becomes_underfull key q) other) (more i u ps)) (here there r.first)
      ∙ ap (λ us. more n (opened_sibling_if (becomes_underfull key q) other) (more i (remove_proof key q) us)) (all_closed ps qs z r.second)
  after_step false ss m n j i left other p q ps qs same second x y z l b here on =
      let o = neither (is_open left) (remove_has_surplus_after key p (drop 1 ss) ps) b in
      let rest = on (sym (lacks_map (after_child m left ss) (shrink_after row_family key j p (drop 1 ss) ps)) ∙ l) o.second in
      ap (λ k. more k left (more j p ps)) same ∙ ap (λ u. more n u (more j p ps)) (part_closed left other x o.first) ∙ ap (more n (stub (digest other))) rest

  mutual
    part_is : (p t : RowTree) → lacks (shrink row_family key p) ≡ false → remove_has_surplus key p ≡ false → Prunes p t → p ≡ remove_proof key t
    part_is (stub d) t l b z = absurd (cc)
    part_is (leaf es) (stub d) l b z = absurd z
    part_is (leaf es) (leaf fs) l b z = ap leaf (entries_closed es fs z b)
    part_is (leaf es) (inner ss ps) l b z = absurd z
    part_is (inner ss ps) (stub d) l b z = absurd z
    part_is (inner ss ps) (leaf es) l b z = absurd z
    part_is (inner ss ps) (inner ts qs) l b z =
        ap (inner ss) (parts_are ss ps qs (sym (lacks_map node_of (shrink_in row_family key ss ps)) ∙ l) b z.1)
        ∙ ap (λ us. inner us (remove_proof_in key us qs)) z.0

    parts_are : (ss : List (List ℕ)) (ps qs : RowTrees) → lacks (shrink_in row_family key ss ps) ≡ false → remove_has_surplus_in key ss ps ≡ false → Each ps qs → ps ≡ remove_proof_in key ss qs
    parts_are ss none none l b z = refl
    parts_are ss none (more n q qs) l b z = absurd z
    parts_are ss (more m p ps) none l b z = absurd z
    parts_are ss (more m p ps) (more n q qs) l b z =
        in_step (goes_here key (slice_get ss 0)) ss m n p q ps qs z.0 z.1 z.2 l b (λ k c. part_is p q k c z.1) (λ k c. after_are m n p q ss ps qs k c z.0 z.1 z.2)

    after_are : (m n : Unit {0}) (left other : RowTree) (ss : List (List ℕ)) (ps qs : RowTrees) → lacks (shrink_after row_family key m left ss ps) ≡ false → remove_has_surplus_after key left ss ps ≡ false
        → m ≡ n → Prunes left other → Each ps qs → more m left ps ≡ remove_proof_after key n other ss qs
    after_are m n left other ss none none l b same y z = absurd (cc)
    after_are m n left other ss none (more i q qs) l b same y z = absurd z
    after_are m n left other ss (more j p ps) none l b same y z = absurd z
    after_are m n left other ss (more j p ps) (more i q qs) l b same y z =
        after_step (goes_here key (slice_get ss 1)) ss m n j i left other p q ps qs same z.0 y z.1 z.2 l b (λ k c. part_is p q k c z.1) (λ k c. after_are j i p q (drop 1 ss) ps qs k c z.0 z.1 z.2)

pub only_remove_proof : (key : List ℕ) (p t : RowTree) → remove_is_missing key p ≡ false → remove_has_surplus key p ≡ false → Prunes p t → p ≡ remove_proof key t
only_remove_proof key p t m b z = part_is key p t m b z
