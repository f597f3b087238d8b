-- What an insertion looks at, and what is open beside its path, by lists of children.
use Rattle.std.proofs.Common.{◌≡◌, ℕ, suc, ◌+◌, ◌<◌, ◌≤◌, Bool, true, false, cond, not, ◌||◌, List, [], ◌∷◌, length, map, take, drop, get_or, Option, Some, None, Result, Ok, Err, refl, sym, ap, ◌∙◌, arith, add-one, slice_get}
use Rattle.std.proofs.lemmas.List.{take-map, drop-map, length-map, get_or-map}
use Rattle.std.specs.List.{list_any, position_or_len}
use Rattle.vo_spec.specs.declared.cells.PartEntry.{PartEntry}
use Rattle.vo_spec.specs.Values.{key_lt}
use Rattle.vo_spec.specs.Parts.{stub, leaf, inner, none, more}
use Rattle.vo_spec.specs.Trees.{RowTree, RowTrees, open_parts}
use Rattle.vo_spec.specs.Pruning.{is_missing_by, is_missing_in, has_surplus_by, has_surplus_in}
use Rattle.vo_spec.specs.Inserts.{walk_to, insert_is_missing, insert_has_surplus}
use Rattle.update_proof.specs.OpenParts.{is_open, is_open_outside, opens_other, shows_cells}
use Rattle.mb_tree.specs.declared.parts.PartTree.{PartTree}
use Rattle.mb_tree.specs.View.{part_of, parts_of}

pub or_false : (b : Bool) → b || false ≡ b
or_false true = refl
or_false false = refl

-- beside the path

pub none_lacks : (es : List PartEntry) → list_any (λ e. false) es ≡ false
none_lacks [] = refl
none_lacks (e ∷ es) = none_lacks es

mutual
  missing_none : (key : List ℕ) (t : RowTree) → is_missing_by (walk_to key) false t ≡ false
  missing_none key (stub d) = refl
  missing_none key (leaf es) = none_lacks es
  missing_none key (inner ss ps) = each_missing_none key None ss ps

  each_missing_none : (key : List ℕ) (lower : Option (List ℕ)) (ss : List (List ℕ)) (ps : RowTrees) → is_missing_in (walk_to key) false lower ss ps ≡ false
  each_missing_none key lower ss none = refl
  each_missing_none key lower ss (more m p ps) = rw (missing_none key p, each_missing_none key (slice_get ss 0) (drop 1 ss) ps) refl

surplus_here : (key : List ℕ) (t : RowTree) → has_surplus_by (walk_to key) false t ≡ is_open t
surplus_here key (stub d) = refl
surplus_here key (leaf es) = refl
surplus_here key (inner ss ps) = refl

each_surplus : (key : List ℕ) (lower : Option (List ℕ)) (ss : List (List ℕ)) (ts : List RowTree) → has_surplus_in (walk_to key) false lower ss (open_parts ts) ≡ list_any is_open ts
each_surplus key lower ss [] = refl
each_surplus key lower ss (t ∷ ts) = rw (surplus_here key t, each_surplus key (slice_get ss 0) (drop 1 ss) ts) refl

-- The child on the path, and those beside it.

pub swapped : (a b x y : Bool) → a || (b || (x || y)) ≡ b || ((a || x) || y)
swapped true true x y = refl
swapped true false x y = refl
swapped false true x y = refl
swapped false false x y = refl

module _ (key : List ℕ) where
  -- the first separator is above the key, or not
  missing_step : (b : Bool) (i j : ℕ) (s : List ℕ) (ss : List (List ℕ)) (t : RowTree) (ts : List RowTree) (c : RowTree)
      → j ≡ suc i → cond (not b) j 0 < length (t ∷ ts) → c ≡ get_or (t ∷ ts) (cond (not b) j 0) c
      → (i < length ts → c ≡ get_or ts i c → is_missing_in (walk_to key) true (Some s) ss (open_parts ts) ≡ is_missing_by (walk_to key) true c)
      → is_missing_by (walk_to key) b t || is_missing_in (walk_to key) (not b) (Some s) ss (open_parts ts) ≡ is_missing_by (walk_to key) true c
  missing_step true i j s ss t ts c next lt is on =
      ap (λ x. is_missing_by (walk_to key) true t || x) (each_missing_none key (Some s) ss (open_parts ts)) ∙ or_false (is_missing_by (walk_to key) true t) ∙ ap (is_missing_by (walk_to key) true) (sym is)
  missing_step false i j s ss t ts c next lt is on =
      ap (λ x. x || is_missing_in (walk_to key) true (Some s) ss (open_parts ts)) (missing_none key t) ∙ on (omega arith) (is ∙ ap (λ n. get_or (t ∷ ts) n c) next)

  pub path_is_missing : (lower : Option (List ℕ)) (ss : List (List ℕ)) (ts : List RowTree) (c : RowTree)
      → position_or_len (key_lt key) ss < length ts → c ≡ get_or ts (position_or_len (key_lt key) ss) c
      → is_missing_in (walk_to key) true lower ss (open_parts ts) ≡ is_missing_by (walk_to key) true c
  path_is_missing lower ss [] c lt is = absurd (omega arith)
  path_is_missing lower [] (t ∷ ts) c lt is =
      ap (λ x. is_missing_by (walk_to key) true t || x) (each_missing_none key None [] (open_parts ts)) ∙ or_false (is_missing_by (walk_to key) true t) ∙ ap (is_missing_by (walk_to key) true) (sym is)
  path_is_missing lower (s ∷ ss) (t ∷ ts) c lt is =
      let i = position_or_len (key_lt key) ss in
      missing_step (key_lt key s) i (1 + i) s ss t ts c (omega arith) lt is (λ within here. path_is_missing (Some s) ss ts c within here)

  surplus_step : (b : Bool) (i j : ℕ) (s : List ℕ) (ss : List (List ℕ)) (t : RowTree) (ts : List RowTree) (c : RowTree)
      → j ≡ suc i → cond (not b) j 0 < length (t ∷ ts) → c ≡ get_or (t ∷ ts) (cond (not b) j 0) c
      → (i < length ts → c ≡ get_or ts i c → has_surplus_in (walk_to key) true (Some s) ss (open_parts ts) ≡ has_surplus_by (walk_to key) true c || opens_other i ts)
      → has_surplus_by (walk_to key) b t || has_surplus_in (walk_to key) (not b) (Some s) ss (open_parts ts)
      ≡ has_surplus_by (walk_to key) true c || opens_other (cond (not b) j 0) (t ∷ ts)
  surplus_step true i j s ss t ts c next lt is on =
      ap (λ x. has_surplus_by (walk_to key) true t || x) (each_surplus key (Some s) ss ts) ∙ ap (λ u. has_surplus_by (walk_to key) true u || list_any is_open ts) (sym is)
  surplus_step false i j s ss t ts c next lt is on =
      ap (λ x. x || has_surplus_in (walk_to key) true (Some s) ss (open_parts ts)) (surplus_here key t)
      ∙ ap (λ x. is_open t || x) (on (omega arith) (is ∙ ap (λ n. get_or (t ∷ ts) n c) next))
      ∙ swapped (is_open t) (has_surplus_by (walk_to key) true c) (list_any is_open (take i ts)) (list_any is_open (drop (i + 1) ts))
      ∙ rw (next, add-one i, add-one (suc i)) refl

  pub path_surplus : (lower : Option (List ℕ)) (ss : List (List ℕ)) (ts : List RowTree) (c : RowTree)
      → position_or_len (key_lt key) ss < length ts → c ≡ get_or ts (position_or_len (key_lt key) ss) c
      → has_surplus_in (walk_to key) true lower ss (open_parts ts) ≡ has_surplus_by (walk_to key) true c || opens_other (position_or_len (key_lt key) ss) ts
  path_surplus lower ss [] c lt is = absurd (omega arith)
  path_surplus lower [] (t ∷ ts) c lt is =
      ap (λ x. has_surplus_by (walk_to key) true t || x) (each_surplus key None [] ts) ∙ ap (λ u. has_surplus_by (walk_to key) true u || list_any is_open ts) (sym is)
  path_surplus lower (s ∷ ss) (t ∷ ts) c lt is =
      let i = position_or_len (key_lt key) ss in
      surplus_step (key_lt key s) i (1 + i) s ss t ts c (omega arith) lt is (λ within here. path_surplus (Some s) ss ts c within here)

  -- where the separators lead past the children, nothing is on the path

  passed_missing : (b : Bool) (i j : ℕ) (s : List ℕ) (ss : List (List ℕ)) (t : RowTree) (ts : List RowTree)
      → j ≡ suc i → length (t ∷ ts) ≤ cond (not b) j 0
      → (length ts ≤ i → is_missing_in (walk_to key) true (Some s) ss (open_parts ts) ≡ false)
      → is_missing_by (walk_to key) b t || is_missing_in (walk_to key) (not b) (Some s) ss (open_parts ts) ≡ false
  passed_missing true i j s ss t ts next past on = absurd (omega arith)
  passed_missing false i j s ss t ts next past on = rw (missing_none key t) (on (omega arith))

  pub pathless_missing : (lower : Option (List ℕ)) (ss : List (List ℕ)) (ts : List RowTree) → length ts ≤ position_or_len (key_lt key) ss
      → is_missing_in (walk_to key) true lower ss (open_parts ts) ≡ false
  pathless_missing lower ss [] past = refl
  pathless_missing lower [] (t ∷ ts) past = absurd (omega arith)
  pathless_missing lower (s ∷ ss) (t ∷ ts) past =
      let i = position_or_len (key_lt key) ss in
      passed_missing (key_lt key s) i (1 + i) s ss t ts (omega arith) past (λ rest. pathless_missing (Some s) ss ts rest)

  passed_surplus : (b : Bool) (i j : ℕ) (s : List ℕ) (ss : List (List ℕ)) (t : RowTree) (ts : List RowTree)
      → j ≡ suc i → length (t ∷ ts) ≤ cond (not b) j 0
      → (length ts ≤ i → has_surplus_in (walk_to key) true (Some s) ss (open_parts ts) ≡ list_any is_open ts)
      → has_surplus_by (walk_to key) b t || has_surplus_in (walk_to key) (not b) (Some s) ss (open_parts ts) ≡ list_any is_open (t ∷ ts)
  passed_surplus true i j s ss t ts next past on = absurd (omega arith)
  passed_surplus false i j s ss t ts next past on = rw (surplus_here key t, on (omega arith)) refl

  pub pathless_surplus : (lower : Option (List ℕ)) (ss : List (List ℕ)) (ts : List RowTree) → length ts ≤ position_or_len (key_lt key) ss
      → has_surplus_in (walk_to key) true lower ss (open_parts ts) ≡ list_any is_open ts
  pathless_surplus lower ss [] past = refl
  pathless_surplus lower [] (t ∷ ts) past = absurd (omega arith)
  pathless_surplus lower (s ∷ ss) (t ∷ ts) past =
      let i = position_or_len (key_lt key) ss in
      passed_surplus (key_lt key s) i (1 + i) s ss t ts (omega arith) past (λ rest. pathless_surplus (Some s) ss ts rest)

pub or_then : (b c : Bool) → b ≡ true → b ≡ b || c
or_then true c h = refl
or_then false c h = absurd (cc)

pub or_else : (b c : Bool) → b ≡ false → c ≡ b || c
or_else true c h = absurd (cc)
or_else false c h = refl

-- what is open before these children and after them
module _ (ps : List PartTree) (i j : ℕ) where
  pub outside_before : (b : Bool) → b ≡ list_any is_open (map part_of (take i ps)) → b ≡ true → b ≡ is_open_outside i j (map part_of ps)
  outside_before b before h =
      or_then b (list_any is_open (drop j (map part_of ps))) h
      ∙ ap (λ x. x || list_any is_open (drop j (map part_of ps))) (before ∙ ap (list_any is_open) (sym (take-map part_of i ps)))

  pub outside_after : (b c : Bool) → b ≡ list_any is_open (map part_of (take i ps)) → b ≡ false → c ≡ list_any is_open (map part_of (drop j ps)) → c ≡ is_open_outside i j (map part_of ps)
  outside_after b c before h after =
      or_else b c h
      ∙ ap (λ x. x || c) (before ∙ ap (list_any is_open) (sym (take-map part_of i ps)))
      ∙ ap (λ x. list_any is_open (take i (map part_of ps)) || x) (after ∙ ap (list_any is_open) (sym (drop-map part_of j ps)))
