-- The proof of a removal: the work on it lacks nothing that it doesn't lack on the tree, and
-- nothing is open beyond.
use Rattle.std.proofs.Common.{◌≡◌, ℕ, suc, ◌+◌, Bool, true, false, cond, List, [], ◌∷◌, length, drop, Result, Ok, Err, map, refl, sym, ap, ◌∙◌, subst}
use Rattle.std.specs.Prelude.{◌||◌, nat_lt, slice_get, slice_index_or, bytes_eq}
use Rattle.std.proofs.lemmas.Bool.{or_from}
use Rattle.std.proofs.lemmas.List.{length-map}
use Rattle.vo_spec.specs.declared.cells.PartEntry.{PartEntry}
use Rattle.vo_spec.specs.declared.trees.UpdateFault.{UpdateFault}
use Rattle.vo_spec.specs.declared.trees.UpdateFault.TheVariants.{DuplicateKey, NoRow, Missing, Memory}
use Rattle.vo_spec.specs.Firsts.{and_then}
use Rattle.vo_spec.specs.Cells.{EntryPrunes}
use Rattle.vo_spec.specs.Parts.{stub, leaf, inner, none, more, count, PrunesEach}
use Rattle.vo_spec.specs.Trees.{RowTree, RowTrees, row_family, digest, Prunes}
use Rattle.vo_spec.specs.Inserts.{Insertion, one, two, Children, result_map, goes_here, has_key, after_child, put_insertion, closed_entry}
use Rattle.vo_spec.specs.Removes.{is_underfull, settled_root, without_entry, with_left, with_right, settle_first, settle_next, shrink, shrink_in, shrink_after, tree_without_key, closed_parts, opened_sibling, becomes_underfull, opened_sibling_if, sibling_first, remove_proof, remove_proof_in, remove_proof_after}
use Rattle.vo_laws.specs.UpdateProofs.{lacks, any_open, opened_sibling_surplus, sibling_surplus, first_surplus, remove_has_surplus, remove_has_surplus_in, remove_has_surplus_after}
use Rattle.vo_laws.proofs.PathProofs.{lacks_same, closed_zip, closed_cells, closed_prune, closed_shut}

-- It prunes the tree.

opened_sibling_prunes : (p : RowTree) → Prunes (opened_sibling p) p
opened_sibling_prunes (stub d) = refl
opened_sibling_prunes (leaf es) = closed_zip es
opened_sibling_prunes (inner ss ps) = (refl, closed_prune ps)

sibling_prunes : (b : Bool) (p : RowTree) → Prunes (opened_sibling_if b p) p
sibling_prunes true p = opened_sibling_prunes p
sibling_prunes false p = refl

first_prunes : (b : Bool) (ps : RowTrees) → PrunesEach row_family EntryPrunes (sibling_first b ps) ps
first_prunes b none = tt
first_prunes b (more m p ps) = (refl, sibling_prunes b p, closed_prune ps)

either_prunes : (b : Bool) (xs ys ps : RowTrees) → PrunesEach row_family EntryPrunes xs ps → PrunesEach row_family EntryPrunes ys ps → PrunesEach row_family EntryPrunes (cond b xs ys) ps
either_prunes true xs ys ps y z = y
either_prunes false xs ys ps y z = z

module _ (key : List ℕ) where
  mutual
    pub remove_prunes : (t : RowTree) → Prunes (remove_proof key t) t
    remove_prunes (stub d) = refl
    remove_prunes (leaf es) = closed_zip es
    remove_prunes (inner ss ps) = (refl, remove_prunes_in ss ps)

    remove_prunes_in : (ss : List (List ℕ)) (ps : RowTrees) → PrunesEach row_family EntryPrunes (remove_proof_in key ss ps) ps
    remove_prunes_in ss none = tt
    remove_prunes_in ss (more m p ps) =
        either_prunes (goes_here key (slice_get ss 0)) (more m (remove_proof key p) (sibling_first (becomes_underfull key p) ps)) (remove_proof_after key m p ss ps) (more m p ps)
        (refl, remove_prunes p, first_prunes (becomes_underfull key p) ps) (remove_prunes_after m p ss ps)

    remove_prunes_after : (m : Unit {0}) (left : RowTree) (ss : List (List ℕ)) (ps : RowTrees) → PrunesEach row_family EntryPrunes (remove_proof_after key m left ss ps) (more m left ps)
    remove_prunes_after m left ss none = (refl, refl, tt)
    remove_prunes_after m left ss (more n p ps) =
        either_prunes (goes_here key (slice_get ss 1))
        (more m (opened_sibling_if (becomes_underfull key p) left) (more n (remove_proof key p) (closed_parts ps))) (more m (stub (digest left)) (remove_proof_after key n p (drop 1 ss) ps)) (more m left (more n p ps))
        (refl, sibling_prunes (becomes_underfull key p) left, (refl, remove_prunes p, closed_prune ps)) (refl, refl, remove_prunes_after n p (drop 1 ss) ps)

-- Results that are the same fault, or stand in this relation.

abbrev Follows : {A B : Type 0} → (A → B → Type 0) → Result A UpdateFault → Result B UpdateFault → Type 0
Follows R (Ok x) (Ok y) = R x y
Follows R (Err fault) (Err other) = fault ≡ other
Follows R (Ok x) (Err other) = ⊥
Follows R (Err fault) (Ok y) = ⊥

follows_map : {A B C D : Type 0} (R : A → B → Type 0) (S : C → D → Type 0) (f : A → C) (g : B → D) (r : Result A UpdateFault) (s : Result B UpdateFault) → ((x : A) (y : B) → R x y → S (f x) (g y))
    → Follows R r s → Follows S (result_map f r) (result_map g s)
follows_map R S f g (Ok x) (Ok y) on z = on x y z
follows_map R S f g (Ok x) (Err other) on z = absurd z
follows_map R S f g (Err fault) (Ok y) on z = absurd z
follows_map R S f g (Err fault) (Err other) on z = z

follows_then : {A B C D : Type 0} (R : A → B → Type 0) (S : C → D → Type 0) (f : A → Result C UpdateFault) (g : B → Result D UpdateFault) (r : Result A UpdateFault) (s : Result B UpdateFault)
    → ((x : A) (y : B) → s ≡ Ok y → R x y → Follows S (f x) (g y)) → Follows R r s → Follows S (and_then f r) (and_then g s)
follows_then R S f g (Ok x) (Ok y) on z = on x y refl z
follows_then R S f g (Ok x) (Err other) on z = absurd z
follows_then R S f g (Err fault) (Ok y) on z = absurd z
follows_then R S f g (Err fault) (Err other) on z = z

follows_lacks : {A B : Type 0} (R : A → B → Type 0) (r : Result A UpdateFault) (s : Result B UpdateFault) → Follows R r s → lacks r ≡ lacks s
follows_lacks R (Ok x) (Ok y) z = refl
follows_lacks R (Ok x) (Err other) z = absurd z
follows_lacks R (Err fault) (Ok y) z = absurd z
follows_lacks {A} {B} R (Err fault) (Err other) z = ap (λ f. lacks {A = A} (Err f)) z ∙ same other
  where
    same : (f : UpdateFault) → lacks {A = A} (Err f) ≡ lacks {A = B} (Err f)
    same DuplicateKey = refl
    same NoRow = refl
    same Missing = refl
    same Memory = refl

-- Nodes of one kind and with as many entries or children.

abbrev Alike : RowTree → RowTree → Type 0
Alike (leaf es) (leaf fs) = length es ≡ length fs
Alike (inner ss ps) (inner ts qs) = count ps ≡ count qs
Alike _ _ = ⊥

underfull_alike : (u v : RowTree) → Alike u v → is_underfull u ≡ is_underfull v
underfull_alike (stub d) v z = absurd z
underfull_alike (leaf es) (stub d) z = absurd z
underfull_alike (leaf es) (leaf fs) z = ap (λ n. nat_lt n 8) z
underfull_alike (leaf es) (inner ss ps) z = absurd z
underfull_alike (inner ss ps) (stub d) z = absurd z
underfull_alike (inner ss ps) (leaf fs) z = absurd z
underfull_alike (inner ss ps) (inner ts qs) z = ap (λ n. nat_lt n 8) z

-- one node, or two
abbrev AsMany : Insertion PartEntry (Unit {0}) → Insertion PartEntry (Unit {0}) → Type 0
AsMany (one p) (one q) = Unit {0}
AsMany (two left key right) (two first other last) = Unit {0}
AsMany _ _ = ⊥

abbrev Kids : Type 0
Kids = Children PartEntry (Unit {0})

abbrev Counted : Kids → Kids → Type 0
Counted c d = count c.parts ≡ count d.parts

put_counted : (ss ts : List (List ℕ)) (ps qs : RowTrees) → count ps ≡ count qs → (g h : Insertion PartEntry (Unit {0})) → AsMany g h → Counted (put_insertion row_family ss ps g) (put_insertion row_family ts qs h)
put_counted ss ts ps qs same (one p) (one q) z = ap (λ n. n + 1) same
put_counted ss ts ps qs same (one p) (two first other last) z = absurd z
put_counted ss ts ps qs same (two left key right) (one q) z = absurd z
put_counted ss ts ps qs same (two left key right) (two first other last) z = ap (λ n. n + 1 + 1) same

chosen_many : (b : Bool) (p q : RowTree) (left right first last : RowTree) (k j : List ℕ) → AsMany (cond b (two left k right) (one p)) (cond b (two first j last) (one q))
chosen_many true p q left right first last k j = tt
chosen_many false p q left right first last k j = tt

closed_length : (es : List PartEntry) → length (map closed_entry es) ≡ length es
closed_length es = length-map es closed_entry

closed_count : (ps : RowTrees) → count (closed_parts ps) ≡ count ps
closed_count none = refl
closed_count (more m p ps) = ap (λ n. n + 1) (closed_count ps)

-- An underfull node and the sibling that is opened.

right_many : (s : List ℕ) (u v q : RowTree) → Alike u v → Follows AsMany (with_right row_family u s (opened_sibling q)) (with_right row_family v s q)
right_many s (stub d) v q z = absurd z
right_many s (leaf es) (stub d) q z = absurd z
right_many s (leaf es) (inner ss ps) q z = absurd z
right_many s (inner ss ps) (stub d) q z = absurd z
right_many s (inner ss ps) (leaf es) q z = absurd z
right_many s (leaf es) (leaf fs) (stub d) z = refl
right_many s (leaf es) (leaf fs) (inner ss ps) z = refl
right_many s (leaf es) (leaf fs) (leaf rs) z = rw (closed_length rs) (chosen_many (nat_lt 8 (length rs)) _ _ _ _ _ _ _ _)
right_many s (inner ss ps) (inner ts qs) (stub d) z = refl
right_many s (inner ss ps) (inner ts qs) (leaf rs) z = refl
right_many s (inner ss ps) (inner ts qs) (inner us rs) z = rw (closed_count rs) (chosen_many (nat_lt 8 (count rs)) _ _ _ _ _ _ _ _)

left_many : (s : List ℕ) (l u v : RowTree) → Alike u v → Follows AsMany (with_left row_family (opened_sibling l) s u) (with_left row_family l s v)
left_many s l (stub d) v z = absurd z
left_many s l (leaf es) (stub d) z = absurd z
left_many s l (leaf es) (inner ss ps) z = absurd z
left_many s l (inner ss ps) (stub d) z = absurd z
left_many s l (inner ss ps) (leaf es) z = absurd z
left_many s (stub d) (leaf es) (leaf fs) z = refl
left_many s (inner ss ps) (leaf es) (leaf fs) z = refl
left_many s (leaf ls) (leaf es) (leaf fs) z = rw (closed_length ls) (chosen_many (nat_lt 8 (length ls)) _ _ _ _ _ _ _ _)
left_many s (stub d) (inner ss ps) (inner ts qs) z = refl
left_many s (leaf ls) (inner ss ps) (inner ts qs) z = refl
left_many s (inner us ls) (inner ss ps) (inner ts qs) z = rw (closed_count ls) (chosen_many (nat_lt 8 (count ls)) _ _ _ _ _ _ _ _)

-- A child that may be small, with its sibling looked at where it is.

first_counted : (ss : List (List ℕ)) (ps : RowTrees) (u v : RowTree) → Alike u v → Follows Counted (settle_first row_family ss (sibling_first (is_underfull v) ps) u) (settle_first row_family ss ps v)
first_counted ss none u v z = refl
first_counted ss (more m q qs) u v z = rw (underfull_alike u v z) (step (is_underfull v))
  where
    step : (b : Bool)
        → Follows Counted (cond b (result_map (put_insertion row_family (drop 1 ss) (closed_parts qs)) (with_right row_family u (slice_index_or ss 0 []) (opened_sibling_if b q))) (Ok (put_insertion row_family ss (more m (opened_sibling_if b q) (closed_parts qs)) (one u))))
        (cond b (result_map (put_insertion row_family (drop 1 ss) qs) (with_right row_family v (slice_index_or ss 0 []) q)) (Ok (put_insertion row_family ss (more m q qs) (one v))))
    step true =
        follows_map AsMany Counted (put_insertion row_family (drop 1 ss) (closed_parts qs)) (put_insertion row_family (drop 1 ss) qs)
        (with_right row_family u (slice_index_or ss 0 []) (opened_sibling q)) (with_right row_family v (slice_index_or ss 0 []) q)
        (put_counted (drop 1 ss) (drop 1 ss) (closed_parts qs) qs (closed_count qs)) (right_many (slice_index_or ss 0 []) u v q z)
    step false = ap (λ n. n + 1 + 1) (closed_count qs)

next_counted : (m : Unit {0}) (l : RowTree) (ss : List (List ℕ)) (ps : RowTrees) (u v : RowTree) → Alike u v
    → Follows Counted (settle_next row_family m (opened_sibling_if (is_underfull v) l) ss (closed_parts ps) u) (settle_next row_family m l ss ps v)
next_counted m l ss ps u v z = rw (underfull_alike u v z) (step (is_underfull v))
  where
    step : (b : Bool)
        → Follows Counted (cond b (result_map (put_insertion row_family (drop 1 ss) (closed_parts ps)) (with_left row_family (opened_sibling_if b l) (slice_index_or ss 0 []) u)) (Ok (after_child m (opened_sibling_if b l) ss (put_insertion row_family (drop 1 ss) (closed_parts ps) (one u)))))
        (cond b (result_map (put_insertion row_family (drop 1 ss) ps) (with_left row_family l (slice_index_or ss 0 []) v)) (Ok (after_child m l ss (put_insertion row_family (drop 1 ss) ps (one v)))))
    step true =
        follows_map AsMany Counted (put_insertion row_family (drop 1 ss) (closed_parts ps)) (put_insertion row_family (drop 1 ss) ps)
        (with_left row_family (opened_sibling l) (slice_index_or ss 0 []) u) (with_left row_family l (slice_index_or ss 0 []) v)
        (put_counted (drop 1 ss) (drop 1 ss) (closed_parts ps) ps (closed_count ps)) (left_many (slice_index_or ss 0 []) l u v z)
    step false = ap (λ n. n + 1 + 1) (closed_count ps)

-- Rows that are digests.

closed_has : (key : List ℕ) (es : List PartEntry) → has_key row_family key (map closed_entry es) ≡ has_key row_family key es
closed_has key [] = refl
closed_has key (e ∷ es) = ap (λ b. bytes_eq e.key key || b) (closed_has key es)

closed_without : (key : List ℕ) (es : List PartEntry) → length (without_entry row_family key (map closed_entry es)) ≡ length (without_entry row_family key es)
closed_without key [] = refl
closed_without key (e ∷ es) = step (bytes_eq e.key key) (closed_without key es)
  where
    step : (b : Bool) → length (without_entry row_family key (map closed_entry es)) ≡ length (without_entry row_family key es)
        → length (cond b (map closed_entry es) (closed_entry e ∷ without_entry row_family key (map closed_entry es))) ≡ length (cond b es (e ∷ without_entry row_family key es))
    step true rest = closed_length es
    step false rest = ap suc rest

module _ (key : List ℕ) where
  underfull_when : (p v : RowTree) → shrink row_family key p ≡ Ok v → becomes_underfull key p ≡ is_underfull v
  underfull_when p v is = rw is refl

  leaf_follows : (es : List PartEntry) → Follows Alike (shrink row_family key (leaf (map closed_entry es))) (shrink row_family key (leaf es))
  leaf_follows es = rw (closed_has key es) (step (has_key row_family key es))
    where
      step : (b : Bool) → Follows Alike (cond b (Ok (leaf (without_entry row_family key (map closed_entry es)))) (Err NoRow)) (cond b (Ok (leaf (without_entry row_family key es))) (Err NoRow))
      step true = closed_without key es
      step false = refl

  -- the work on these children, where the search passes by the first of them
  abbrev shrink_behind : List (List ℕ) → RowTrees → Result Kids UpdateFault
  shrink_behind ss none = Err Missing
  shrink_behind ss (more m p ps) = shrink_after row_family key m p ss ps

  not_first : (ss : List (List ℕ)) (ps : RowTrees) → goes_here key (slice_get ss 0) ≡ false → shrink_in row_family key ss ps ≡ shrink_behind ss ps
  not_first ss none passes = refl
  not_first ss (more m p ps) passes = rw passes refl

  not_next : (m : Unit {0}) (left : RowTree) (ss : List (List ℕ)) (ps : RowTrees) → goes_here key (slice_get ss 1) ≡ false
      → shrink_after row_family key m left ss ps ≡ result_map (after_child m left ss) (shrink_behind (drop 1 ss) ps)
  not_next m left ss none passes = refl
  not_next m left ss (more n p ps) passes = rw passes refl

  abbrev ShrinksAlike : RowTree → Type 0
  ShrinksAlike t = Follows Alike (shrink row_family key (remove_proof key t)) (shrink row_family key t)

  abbrev ShrinksBehind : Unit {0} → RowTree → List (List ℕ) → RowTrees → Type 0
  ShrinksBehind m left ss ps = Follows Counted (shrink_behind ss (remove_proof_after key m left ss ps)) (shrink_after row_family key m left ss ps)

  in_step : (ss : List (List ℕ)) (m : Unit {0}) (p : RowTree) (ps : RowTrees) (b : Bool) → goes_here key (slice_get ss 0) ≡ b → ShrinksAlike p → ShrinksBehind m p ss ps
      → Follows Counted (shrink_in row_family key ss (cond b (more m (remove_proof key p) (sibling_first (becomes_underfull key p) ps)) (remove_proof_after key m p ss ps)))
      (cond b (and_then (settle_first row_family ss ps) (shrink row_family key p)) (shrink_after row_family key m p ss ps))
  in_step ss m p ps true goes here behind =
      rw goes (follows_then Alike Counted (settle_first row_family ss (sibling_first (becomes_underfull key p) ps)) (settle_first row_family ss ps)
      (shrink row_family key (remove_proof key p)) (shrink row_family key p) settles here)
    where
      settles : (u v : RowTree) → shrink row_family key p ≡ Ok v → Alike u v → Follows Counted (settle_first row_family ss (sibling_first (becomes_underfull key p) ps) u) (settle_first row_family ss ps v)
      settles u v is z =
          subst (λ c. Follows Counted (settle_first row_family ss (sibling_first c ps) u) (settle_first row_family ss ps v)) (sym (underfull_when p v is)) (first_counted ss ps u v z)
  in_step ss m p ps false passes here behind = rw (not_first ss (remove_proof_after key m p ss ps) passes) behind

  after_step : (ss : List (List ℕ)) (m : Unit {0}) (left : RowTree) (n : Unit {0}) (p : RowTree) (ps : RowTrees) (b : Bool) → goes_here key (slice_get ss 1) ≡ b
      → ShrinksAlike p → ShrinksBehind n p (drop 1 ss) ps
      → Follows Counted (shrink_behind ss (cond b (more m (opened_sibling_if (becomes_underfull key p) left) (more n (remove_proof key p) (closed_parts ps))) (more m (stub (digest left)) (remove_proof_after key n p (drop 1 ss) ps))))
      (cond b (and_then (settle_next row_family m left ss ps) (shrink row_family key p)) (result_map (after_child m left ss) (shrink_after row_family key n p (drop 1 ss) ps)))
  after_step ss m left n p ps true goes here behind =
      rw goes (follows_then Alike Counted (settle_next row_family m (opened_sibling_if (becomes_underfull key p) left) ss (closed_parts ps)) (settle_next row_family m left ss ps)
      (shrink row_family key (remove_proof key p)) (shrink row_family key p) settles here)
    where
      settles : (u v : RowTree) → shrink row_family key p ≡ Ok v → Alike u v
          → Follows Counted (settle_next row_family m (opened_sibling_if (becomes_underfull key p) left) ss (closed_parts ps) u) (settle_next row_family m left ss ps v)
      settles u v is z =
          subst (λ c. Follows Counted (settle_next row_family m (opened_sibling_if c left) ss (closed_parts ps) u) (settle_next row_family m left ss ps v)) (sym (underfull_when p v is)) (next_counted m left ss ps u v z)
  after_step ss m left n p ps false passes here behind =
      rw (not_next m (stub (digest left)) ss (remove_proof_after key n p (drop 1 ss) ps) passes)
      (follows_map Counted Counted (after_child m (stub (digest left)) ss) (after_child m left ss) (shrink_behind (drop 1 ss) (remove_proof_after key n p (drop 1 ss) ps)) (shrink_after row_family key n p (drop 1 ss) ps)
      (λ c d z. ap (λ k. k + 1) z) behind)

  mutual
    shrink_follows : (t : RowTree) → ShrinksAlike t
    shrink_follows (stub d) = refl
    shrink_follows (leaf es) = leaf_follows es
    shrink_follows (inner ss ps) =
        follows_map Counted Alike (λ (c : Kids). inner c.separators c.parts) (λ (c : Kids). inner c.separators c.parts)
        (shrink_in row_family key ss (remove_proof_in key ss ps)) (shrink_in row_family key ss ps) (λ c d z. z) (in_follows ss ps)

    in_follows : (ss : List (List ℕ)) (ps : RowTrees) → Follows Counted (shrink_in row_family key ss (remove_proof_in key ss ps)) (shrink_in row_family key ss ps)
    in_follows ss none = refl
    in_follows ss (more m p ps) = in_step ss m p ps (goes_here key (slice_get ss 0)) refl (shrink_follows p) (after_follows m p ss ps)

    after_follows : (m : Unit {0}) (left : RowTree) (ss : List (List ℕ)) (ps : RowTrees) → ShrinksBehind m left ss ps
    after_follows m left ss none = refl
    after_follows m left ss (more n p ps) = after_step ss m left n p ps (goes_here key (slice_get ss 1)) refl (shrink_follows p) (after_follows n p (drop 1 ss) ps)

  pub shrink_lacks : (t : RowTree) → lacks (shrink row_family key (remove_proof key t)) ≡ lacks (shrink row_family key t)
  shrink_lacks t = follows_lacks Alike (shrink row_family key (remove_proof key t)) (shrink row_family key t) (shrink_follows t)

  pub removal_lacks : (t : RowTree) → lacks (tree_without_key key (remove_proof key t)) ≡ lacks (tree_without_key key t)
  removal_lacks t = lacks_same settled_root settled_root (shrink row_family key (remove_proof key t)) (shrink row_family key t) (shrink_lacks t)

  -- Nothing is open beyond. Whether a child becomes underfull is the same in the proof and in the tree.

  quiet_when : (p : RowTree) (fault : UpdateFault) → shrink row_family key p ≡ Err fault → becomes_underfull key p ≡ false
  quiet_when p fault is = rw is refl

  underfull_same : (t : RowTree) → becomes_underfull key (remove_proof key t) ≡ becomes_underfull key t
  underfull_same t = step (shrink row_family key (remove_proof key t)) (shrink row_family key t) refl refl (shrink_follows t)
    where
      step : (r s : Result RowTree UpdateFault) → shrink row_family key (remove_proof key t) ≡ r → shrink row_family key t ≡ s → Follows Alike r s
          → becomes_underfull key (remove_proof key t) ≡ becomes_underfull key t
      step (Ok u) (Ok v) e f z = underfull_when (remove_proof key t) u e ∙ underfull_alike u v z ∙ sym (underfull_when t v f)
      step (Ok u) (Err other) e f z = absurd z
      step (Err fault) (Ok v) e f z = absurd z
      step (Err fault) (Err other) e f z = quiet_when (remove_proof key t) fault e ∙ sym (quiet_when t other f)

  opened_sibling_minimal : (p : RowTree) → opened_sibling_surplus (opened_sibling p) ≡ false
  opened_sibling_minimal (stub d) = refl
  opened_sibling_minimal (leaf es) = closed_cells es
  opened_sibling_minimal (inner ss ps) = closed_shut ps

  sibling_bare : (b : Bool) (p : RowTree) → sibling_surplus b (opened_sibling_if b p) ≡ false
  sibling_bare true p = opened_sibling_minimal p
  sibling_bare false p = refl

  first_bare : (b : Bool) (ps : RowTrees) → first_surplus b (sibling_first b ps) ≡ false
  first_bare b none = refl
  first_bare b (more m p ps) = or_from (sibling_surplus b (opened_sibling_if b p)) (any_open (closed_parts ps)) (sibling_bare b p) (closed_shut ps)

  -- of these children, where the search passes by the first of them
  abbrev surplus_behind : List (List ℕ) → RowTrees → Bool
  surplus_behind ss none = false
  surplus_behind ss (more m p ps) = remove_has_surplus_after key p ss ps

  not_first_surplus : (ss : List (List ℕ)) (ps : RowTrees) → goes_here key (slice_get ss 0) ≡ false → remove_has_surplus_in key ss ps ≡ surplus_behind ss ps
  not_first_surplus ss none passes = refl
  not_first_surplus ss (more m p ps) passes = rw passes refl

  not_next_surplus : (d : List ℕ) (ss : List (List ℕ)) (ps : RowTrees) → goes_here key (slice_get ss 1) ≡ false → remove_has_surplus_after key (stub d) ss ps ≡ surplus_behind (drop 1 ss) ps
  not_next_surplus d ss none passes = refl
  not_next_surplus d ss (more n p ps) passes = rw passes refl

  in_step_bare : (ss : List (List ℕ)) (m : Unit {0}) (p : RowTree) (ps : RowTrees) (b : Bool) → goes_here key (slice_get ss 0) ≡ b
      → remove_has_surplus key (remove_proof key p) ≡ false → surplus_behind ss (remove_proof_after key m p ss ps) ≡ false
      → remove_has_surplus_in key ss (cond b (more m (remove_proof key p) (sibling_first (becomes_underfull key p) ps)) (remove_proof_after key m p ss ps)) ≡ false
  in_step_bare ss m p ps true goes here behind =
      rw goes (or_from (remove_has_surplus key (remove_proof key p)) (first_surplus (becomes_underfull key (remove_proof key p)) (sibling_first (becomes_underfull key p) ps)) here
      (ap (λ c. first_surplus c (sibling_first (becomes_underfull key p) ps)) (underfull_same p) ∙ first_bare (becomes_underfull key p) ps))
  in_step_bare ss m p ps false passes here behind = not_first_surplus ss (remove_proof_after key m p ss ps) passes ∙ behind

  after_step_bare : (ss : List (List ℕ)) (m : Unit {0}) (left : RowTree) (n : Unit {0}) (p : RowTree) (ps : RowTrees) (b : Bool) → goes_here key (slice_get ss 1) ≡ b
      → remove_has_surplus key (remove_proof key p) ≡ false → surplus_behind (drop 1 ss) (remove_proof_after key n p (drop 1 ss) ps) ≡ false
      → surplus_behind ss (cond b (more m (opened_sibling_if (becomes_underfull key p) left) (more n (remove_proof key p) (closed_parts ps))) (more m (stub (digest left)) (remove_proof_after key n p (drop 1 ss) ps))) ≡ false
  after_step_bare ss m left n p ps true goes here behind =
      rw goes (or_from (sibling_surplus (becomes_underfull key (remove_proof key p)) (opened_sibling_if (becomes_underfull key p) left)) (remove_has_surplus key (remove_proof key p) || any_open (closed_parts ps))
      (ap (λ c. sibling_surplus c (opened_sibling_if (becomes_underfull key p) left)) (underfull_same p) ∙ sibling_bare (becomes_underfull key p) left)
      (or_from (remove_has_surplus key (remove_proof key p)) (any_open (closed_parts ps)) here (closed_shut ps)))
  after_step_bare ss m left n p ps false passes here behind = not_next_surplus (digest left) ss (remove_proof_after key n p (drop 1 ss) ps) passes ∙ behind

  mutual
    pub remove_bare : (t : RowTree) → remove_has_surplus key (remove_proof key t) ≡ false
    remove_bare (stub d) = refl
    remove_bare (leaf es) = closed_cells es
    remove_bare (inner ss ps) = remove_bare_in ss ps

    remove_bare_in : (ss : List (List ℕ)) (ps : RowTrees) → remove_has_surplus_in key ss (remove_proof_in key ss ps) ≡ false
    remove_bare_in ss none = refl
    remove_bare_in ss (more m p ps) = in_step_bare ss m p ps (goes_here key (slice_get ss 0)) refl (remove_bare p) (remove_bare_after m p ss ps)

    remove_bare_after : (m : Unit {0}) (left : RowTree) (ss : List (List ℕ)) (ps : RowTrees) → surplus_behind ss (remove_proof_after key m left ss ps) ≡ false
    remove_bare_after m left ss none = refl
    remove_bare_after m left ss (more n p ps) = after_step_bare ss m left n p ps (goes_here key (slice_get ss 1)) refl (remove_bare p) (remove_bare_after n p (drop 1 ss) ps)
