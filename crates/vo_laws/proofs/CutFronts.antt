-- Of a part of a whole tree the walk for the need that is cut at a row is a front of the walk for
-- the need.
use Rattle.std.proofs.Common.{◌≡◌, ℕ, ◌-◌, Bool, true, false, cond, List, [], ◌∷◌, ◌++◌, Option, Some, None, map, inl, inr, refl, sym, ap, ◌∙◌, subst, append_assoc, append-nil}
use Rattle.std.specs.Prelude.{◌⊎◌, ◌&&◌, not, IsTrue}
use Rattle.std.specs.List.{AllByRecursion, AllZip}
use Rattle.std.proofs.lemmas.Bool.{and_parts, and_from, both_ways, not-true, not-false, not_from_false, not_from_true}
use Rattle.vo_spec.specs.declared.keys.Bound.TheVariants.{Inclusive}
use Rattle.vo_spec.specs.declared.needs.Need.{Need}
use Rattle.vo_spec.specs.declared.needs.SeenRow.{SeenRow}
use Rattle.vo_spec.specs.declared.cells.PartEntry.{PartEntry}
use Rattle.vo_spec.specs.Values.{key_lt}
use Rattle.vo_spec.specs.Cells.{EntryPrunes}
use Rattle.vo_spec.specs.Parts.{stub, leaf, inner, none, more, entries, entries_in, PrunesEach}
use Rattle.vo_spec.specs.Trees.{RowTree, RowTrees, row_family, Prunes}
use Rattle.vo_spec.specs.Scans.{is_above, in_interval, is_empty_interval, ends_above, begins_below, visits, values_in, with_key}
use Rattle.vo_spec.specs.Inserts.{min_fill}
use Rattle.vo_spec.specs.Representation.{is_from, is_before, is_up_to, is_between, IsNode, AreNodes, IsTree, AreRising, fewest_in_root}
use Rattle.vo_laws.proofs.KeyOrder.{key_lt_le, key_lt_lt}
use Rattle.vo_laws.proofs.SeenLaws.{empty_has_none}
use Rattle.vo_spec.specs.Walks.{ScanWalk, walk_end, from_row, onward, walk_of_entries, walk_in, walk_in_each, walk}
use Rattle.vo_spec.specs.Cuts.{cut_at}
use Rattle.vo_laws.proofs.CutIntervals.{is_upto, inside, cut_is, row_below, begins_last}

-- The walk for the cut need is the one for the need; or its rows are the first of that one's, and
-- what comes behind the node is above the row.
abbrev pub IsFrontOf : List ℕ → Option (List ℕ) → ScanWalk → ScanWalk → Type 0
IsFrontOf last upper w v = (w ≡ v) ⊎ (is_before upper last ≡ true) × ((later : List SeenRow) × (v.rows ≡ w.rows ++ later))

front_row : (last : List ℕ) (upper : Option (List ℕ)) (row : Option SeenRow) (w v : ScanWalk) → IsFrontOf last upper w v → IsFrontOf last upper (from_row row w) (from_row row v)
front_row last upper row w v (inl e) = inl (ap (from_row row) e)
front_row last upper None w v (inr f) = inl refl
front_row last upper (Some row) w v (inr f) = inr (f.0, (f.1.0, ap (λ xs. row ∷ xs) f.1.1))

-- a child, and what comes behind it
front_onward : (last : List ℕ) (upper : Option (List ℕ)) (w v w' v' : ScanWalk) → w ≡ v → IsFrontOf last upper w' v' → IsFrontOf last upper (onward w w') (onward v v')
front_onward last upper w v w' v' e (inl f) = inl (rw (e, f) refl)
front_onward last upper w v w' v' e (inr f) = inr (f.0, step v.has_end)
  where
    step : (b : Bool) → (later : List SeenRow) × ((onward v v').rows ≡ (onward w w').rows ++ later)
    step b = rw e (choose v.has_end)
      where
        choose : (b : Bool) → (later : List SeenRow) × ((cond b (record { rows = v.rows ++ v'.rows; has_end = v'.has_end }) v).rows ≡ (cond b (record { rows = v.rows ++ w'.rows; has_end = w'.has_end }) v).rows ++ later)
        choose true = (f.1.0, ap (λ xs. v.rows ++ xs) f.1.1 ∙ sym (append_assoc v.rows w'.rows f.1.0))
        choose false = ([], sym (append-nil v.rows))

-- a child that has all that is up to the row, where the scan visits none behind it
front_last : (w v v' : ScanWalk) → ((later : List SeenRow) × (v.rows ≡ w.rows ++ later)) → (later : List SeenRow) × ((onward v v').rows ≡ (onward w walk_end).rows ++ later)
front_last w v v' f = step v.has_end w.has_end
  where
    step : (b c : Bool) → (later : List SeenRow) × ((cond b (record { rows = v.rows ++ v'.rows; has_end = v'.has_end }) v).rows ≡ (cond c (record { rows = w.rows ++ []; has_end = true }) w).rows ++ later)
    step true true = (f.0 ++ v'.rows, ap (λ xs. xs ++ v'.rows) f.1 ∙ append_assoc w.rows f.0 v'.rows ∙ ap (λ xs. xs ++ (f.0 ++ v'.rows)) (sym (append-nil w.rows)))
    step true false = (f.0 ++ v'.rows, ap (λ xs. xs ++ v'.rows) f.1 ∙ append_assoc w.rows f.0 v'.rows)
    step false true = (f.0, f.1 ∙ ap (λ xs. xs ++ f.0) (sym (append-nil w.rows)))
    step false false = (f.0, f.1)

-- Rising keys.

all_left : (P : List ℕ → Type 0) (es fs : List PartEntry) → AllByRecursion P (map row_family.key (es ++ fs)) → AllByRecursion P (map row_family.key es)
all_left P [] fs all = tt
all_left P (e ∷ es) fs all = (all.0, all_left P es fs all.1)

rise_left : (es fs : List PartEntry) → AreRising (map row_family.key (es ++ fs)) → AreRising (map row_family.key es)
rise_left [] fs r = tt
rise_left (e ∷ es) fs r = (all_left (λ k. IsTrue (key_lt e.key k)) es fs r.0, rise_left es fs r.1)

rise_right : (es fs : List PartEntry) → AreRising (map row_family.key (es ++ fs)) → AreRising (map row_family.key fs)
rise_right [] fs r = r
rise_right (e ∷ es) fs r = rise_right es fs r.1

module _ (need : Need) (row : SeenRow) (within : in_interval need.interval row.key ≡ true) where
  abbrev cut : Need
  cut = cut_at (Some row) need

  -- Entries.

  -- where the keys are above the row's, the scan for the cut need gives none of them
  no_entries : (es : List PartEntry) → AllByRecursion (λ (e : PartEntry). key_lt row.key e.key ≡ true) es → walk_of_entries cut es ≡ walk_end
  no_entries [] all = refl
  no_entries (e ∷ es) all = rw (outside e.key all.0) (no_entries es all.1)
    where
      outside : (key : List ℕ) → key_lt row.key key ≡ true → in_interval cut.interval key ≡ false
      outside key above = step (is_above need.interval.low key) (not_from_true (key_lt row.key key) above)
        where
          step : (b : Bool) → is_upto row.key key ≡ false → (b && is_upto row.key key) ≡ false
          step true f = f
          step false f = refl

  keys_above : (low : List ℕ) (es fs : List PartEntry) → AllZip EntryPrunes es fs → key_lt row.key low ≡ true → AllByRecursion (λ k. IsTrue (key_lt low k)) (map row_family.key fs)
      → AllByRecursion (λ (e : PartEntry). key_lt row.key e.key ≡ true) es
  keys_above low [] [] z above all = tt
  keys_above low [] (f ∷ fs) z above all = absurd z
  keys_above low (e ∷ es) [] z above all = absurd z
  keys_above low (e ∷ es) (f ∷ fs) z above all = (
    subst (λ k. key_lt row.key k ≡ true) (sym z.0.key) (key_lt_lt row.key low f.key above all.0),
    keys_above low es fs z.1 above all.1,
  )

  -- a key of the need that the cut need hasn't is above the row's
  left_out : (key : List ℕ) → in_interval need.interval key ≡ true → in_interval cut.interval key ≡ false → key_lt row.key key ≡ true
  left_out key e f = step (is_upto row.key key) refl (sym (cut_is need row within key) ∙ f)
    where
      step : (b : Bool) → is_upto row.key key ≡ b → (in_interval need.interval key && b) ≡ false → key_lt row.key key ≡ true
      step true g h = absurd (both_ways (in_interval need.interval key && true) h (and_from (in_interval need.interval key) true e refl))
      step false g h = not-false (key_lt row.key key) g

  front_entries : (lower upper : Option (List ℕ)) (es fs : List PartEntry) → AllZip EntryPrunes es fs → AllByRecursion (λ (e : PartEntry). IsTrue (is_between lower upper e.key)) fs
      → AreRising (map row_family.key fs) → IsFrontOf row.key upper (walk_of_entries cut es) (walk_of_entries need es)
  front_entries lower upper [] [] z all rise = inl refl
  front_entries lower upper [] (f ∷ fs) z all rise = absurd z
  front_entries lower upper (e ∷ es) [] z all rise = absurd z
  front_entries lower upper (e ∷ es) (f ∷ fs) z all rise =
      step (in_interval need.interval e.key) refl (in_interval cut.interval e.key) refl (front_entries lower upper es fs z.1 all.1 rise.1)
    where
      given : Option SeenRow
      given = with_key e.key (values_in e.row need.columns)

      before : key_lt row.key e.key ≡ true → is_before upper row.key ≡ true
      before above = up upper (and_parts (is_from lower f.key) (is_before upper f.key) all.0).1 (subst (λ k. key_lt row.key k ≡ true) z.0.key above)
        where
          up : (u : Option (List ℕ)) → is_before u f.key ≡ true → key_lt row.key f.key ≡ true → is_before u row.key ≡ true
          up None b a = refl
          up (Some u) b a = key_lt_lt row.key f.key u a b

      step : (b : Bool) → in_interval need.interval e.key ≡ b → (c : Bool) → in_interval cut.interval e.key ≡ c
          → IsFrontOf row.key upper (walk_of_entries cut es) (walk_of_entries need es)
          → IsFrontOf row.key upper (cond c (from_row given (walk_of_entries cut es)) (walk_of_entries cut es)) (cond b (from_row given (walk_of_entries need es)) (walk_of_entries need es))
      step true p true q rest = front_row row.key upper given _ _ rest
      step true p false q rest =
          let above : key_lt row.key e.key ≡ true = left_out e.key p q in
          let nothing : walk_of_entries cut es ≡ walk_end = no_entries es (keys_above f.key es fs z.1 (subst (λ k. key_lt row.key k ≡ true) z.0.key above) rise.0) in
          inr (before above, rw nothing ((from_row given (walk_of_entries need es)).rows, refl))
      step false p true q rest = absurd (both_ways (in_interval need.interval e.key) p (inside need row within e.key q))
      step false p false q rest = rest

  -- Nodes.

  unvisited : (s : List ℕ) (upper : Option (List ℕ)) → key_lt row.key s ≡ true → visits cut.interval (Some s) upper ≡ false
  unvisited s upper above = step (ends_above need.interval.low upper) (not_from_true (key_lt row.key s) above)
    where
      step : (b : Bool) → not (key_lt row.key s) ≡ false → (b && not (key_lt row.key s)) ≡ false
      step true f = f
      step false f = refl

  -- children that begin above the row are not visited
  no_children : (height : ℕ) (s : List ℕ) (upper : Option (List ℕ)) (ss : List (List ℕ)) (ps qs : RowTrees) → PrunesEach row_family EntryPrunes ps qs → AreNodes row_family height (Some s) upper ss qs
      → key_lt row.key s ≡ true → walk_in_each cut (Some s) ss ps ≡ walk_end
  no_children height s upper ss none none z n above = refl
  no_children height s upper ss none (more m q qs) z n above = absurd z
  no_children height s upper ss (more m p ps) none z n above = absurd z
  no_children height s upper [] (more m p none) (more k q none) z n above = rw (unvisited s None above) refl
  no_children height s upper [] (more m p (more o p' ps)) (more k q none) z n above = absurd z.2
  no_children height s upper [] (more m p ps) (more k q (more o q' qs)) z n above = absurd n
  no_children height s upper (t ∷ ss) (more m p ps) (more k q qs) z n above =
      let later : key_lt row.key t ≡ true = key_lt_le row.key s t above (not-true (key_lt t s) (and_parts (is_from (Some s) t) (is_up_to upper t) n.1).0) in
      rw (unvisited s (Some t) above) (no_children height t upper ss ps qs z.2 n.3 later)

  -- a child that doesn't begin above the row is visited for the cut need where it is for the need
  same_visits : (near upper : Option (List ℕ)) → begins_below (Inclusive row.key) near ≡ true → visits need.interval near upper ≡ visits cut.interval near upper
  same_visits near upper e =
      rw (e, begins_last need.interval.high row.key near (row_below need row within) e) refl

  -- the last child
  join_last : (upper : Option (List ℕ)) (b : Bool) (w v : ScanWalk) → IsFrontOf row.key upper w v
      → IsFrontOf row.key upper (cond b (onward w walk_end) walk_end) (cond b (onward v walk_end) walk_end)
  join_last upper false w v f = inl refl
  join_last upper true w v (inl e) = inl (ap (λ u. onward u walk_end) e)
  join_last upper true w v (inr f) = inr (f.0, front_last w v walk_end f.1)

  -- a child before others, of which none is visited where it ends above the row
  join : (upper : Option (List ℕ)) (s : List ℕ) (b : Bool) (w v w' v' : ScanWalk) → (key_lt row.key s ≡ true → is_before upper row.key ≡ true) → (key_lt row.key s ≡ true → w' ≡ walk_end)
      → IsFrontOf row.key (Some s) w v → IsFrontOf row.key upper w' v' → IsFrontOf row.key upper (cond b (onward w w') w') (cond b (onward v v') v')
  join upper s false w v w' v' up ends f rest = rest
  join upper s true w v w' v' up ends (inl e) rest = front_onward row.key upper w v w' v' e rest
  join upper s true w v w' v' up ends (inr f) rest =
      inr (up f.0, subst (λ (u : ScanWalk). (later : List SeenRow) × ((onward v v').rows ≡ (onward w u).rows ++ later)) (sym (ends f.0)) (front_last w v v' f.1))

  -- children of which all begin above the row
  all_past : (upper : Option (List ℕ)) (w v : ScanWalk) → w ≡ walk_end → is_before upper row.key ≡ true → IsFrontOf row.key upper w v
  all_past upper w v e before = inr (before, (v.rows, ap (λ (u : ScanWalk). u.rows ++ v.rows) (sym e)))

  -- the separator before the first of some children, where there is one, is their lower bound
  abbrev IsNear : Option (List ℕ) → Option (List ℕ) → Option (List ℕ) → Type 0
  IsNear None lower upper = Unit {0}
  IsNear (Some s) lower upper = (lower ≡ Some s) × (is_up_to upper s ≡ true)

  up_from : (upper : Option (List ℕ)) (s : List ℕ) → is_up_to upper s ≡ true → key_lt row.key s ≡ true → is_before upper row.key ≡ true
  up_from None s e above = refl
  up_from (Some u) s e above = key_lt_le row.key s u above (not-true (key_lt u s) e)

  -- the children begin above the row, or the first of them may be visited
  by_near : (height : ℕ) (near lower upper : Option (List ℕ)) (ss : List (List ℕ)) (ps qs : RowTrees) → IsNear near lower upper → PrunesEach row_family EntryPrunes ps qs → AreNodes row_family height lower upper ss qs
      → (begins_below (Inclusive row.key) near ≡ true → IsFrontOf row.key upper (walk_in_each cut near ss ps) (walk_in_each need near ss ps))
      → IsFrontOf row.key upper (walk_in_each cut near ss ps) (walk_in_each need near ss ps)
  by_near height None lower upper ss ps qs i z n going = going refl
  by_near height (Some s) lower upper ss ps qs i z n going = step (key_lt row.key s) refl
    where
      step : (b : Bool) → key_lt row.key s ≡ b → IsFrontOf row.key upper (walk_in_each cut (Some s) ss ps) (walk_in_each need (Some s) ss ps)
      step true e =
          all_past upper _ _ (no_children height s upper ss ps qs z (subst (λ l. AreNodes row_family height l upper ss qs) i.0 n) e) (up_from upper s i.1 e)
      step false e = going (not_from_false (key_lt row.key s) e)

  mutual
    front_node : (fewest height : ℕ) (lower upper : Option (List ℕ)) (p t : RowTree) → Prunes p t → IsNode row_family fewest height lower upper t → AreRising (map row_family.key (entries t))
        → IsFrontOf row.key upper (walk_in cut p) (walk_in need p)
    front_node fewest height lower upper (stub d) t z n r = inl refl
    front_node fewest height lower upper (leaf es) (leaf fs) z n r = front_entries lower upper es fs z n.3 r
    front_node fewest height lower upper (leaf es) (stub d) z n r = absurd z
    front_node fewest height lower upper (leaf es) (inner ss ps) z n r = absurd z
    front_node fewest height lower upper (inner ss ps) (stub d) z n r = absurd z
    front_node fewest height lower upper (inner ss ps) (leaf es) z n r = absurd z
    front_node fewest height lower upper (inner ss ps) (inner ts qs) z n r =
        front_nodes (height - 1) None lower upper ss ps qs tt z.1 (subst (λ us. AreNodes row_family (height - 1) lower upper us qs) (sym z.0) n.3) r

    front_nodes : (height : ℕ) (near lower upper : Option (List ℕ)) (ss : List (List ℕ)) (ps qs : RowTrees) → IsNear near lower upper → PrunesEach row_family EntryPrunes ps qs
        → AreNodes row_family height lower upper ss qs → AreRising (map row_family.key (entries_in qs))
        → IsFrontOf row.key upper (walk_in_each cut near ss ps) (walk_in_each need near ss ps)
    front_nodes height near lower upper ss none none i z n r = inl refl
    front_nodes height near lower upper ss none (more k q qs) i z n r = absurd z
    front_nodes height near lower upper ss (more m p ps) none i z n r = absurd z
    front_nodes height near lower upper [] (more m p none) (more k q none) i z n r =
        by_near height near lower upper [] (more m p none) (more k q none) i z n (λ e.
        rw (same_visits near None e) (join_last upper (visits cut.interval near None) (walk_in cut p) (walk_in need p)
        (front_node min_fill height lower upper p q z.1 n.1 (rise_left (entries q) [] r))))
    front_nodes height near lower upper [] (more m p (more o p' ps)) (more k q none) i z n r = absurd z.2
    front_nodes height near lower upper [] (more m p ps) (more k q (more o q' qs)) i z n r = absurd n
    front_nodes height near lower upper (s ∷ ss) (more m p ps) (more k q qs) i z n r =
        let up : is_up_to upper s ≡ true = (and_parts (is_from lower s) (is_up_to upper s) n.1).1 in
        by_near height near lower upper (s ∷ ss) (more m p ps) (more k q qs) i z n (λ e.
        rw (same_visits near (Some s) e) (join upper s (visits cut.interval near (Some s)) (walk_in cut p) (walk_in need p) (walk_in_each cut (Some s) ss ps) (walk_in_each need (Some s) ss ps)
        (up_from upper s up) (no_children height s upper ss ps qs z.2 n.3)
        (front_node min_fill height lower (Some s) p q z.1 n.2 (rise_left (entries q) (entries_in qs) r))
        (front_nodes height (Some s) (Some s) upper ss ps qs (refl, up) z.2 n.3 (rise_right (entries q) (entries_in qs) r))))

  front_rows : (w v : ScanWalk) → IsFrontOf row.key None w v → (later : List SeenRow) × (v.rows ≡ w.rows ++ later)
  front_rows w v (inl e) = ([], ap (λ (u : ScanWalk). u.rows) (sym e) ∙ sym (append-nil w.rows))
  front_rows w v (inr f) = f.1

  pub cut_front : (p t : RowTree) → Prunes p t → IsTree row_family t → (later : List SeenRow) × ((walk need p).rows ≡ (walk cut p).rows ++ later)
  cut_front p t z tree = step (is_empty_interval need.interval) refl (is_empty_interval cut.interval)
    where
      front : (later : List SeenRow) × ((walk_in need p).rows ≡ (walk_in cut p).rows ++ later)
      front = front_rows (walk_in cut p) (walk_in need p) (front_node (fewest_in_root row_family t) tree.height None None p t z tree.shape tree.rising)

      step : (b : Bool) → is_empty_interval need.interval ≡ b → (c : Bool)
          → (later : List SeenRow) × ((cond b walk_end (walk_in need p)).rows ≡ (cond c walk_end (walk_in cut p)).rows ++ later)
      step true e c = absurd (both_ways (in_interval need.interval row.key) (empty_has_none need.interval row.key e) within)
      step false e true = ((walk_in need p).rows, refl)
      step false e false = front
