-- Scans: a part tree that misses nothing shows all that a need asks for, what it shows is what the
-- whole tree shows, and of a whole tree a scan is a filter of its entries.
use Rattle.std.proofs.Common.{◌≡◌, ℕ, zero, suc, ◌+◌, ◌-◌, Bool, true, false, cond, List, [], ◌∷◌, ◌++◌, Option, Some, None, inl, inr, refl, sym, ap, ◌∙◌, subst}
use Rattle.std.specs.Prelude.{◌&&◌, not, slice_get, drop, is_none}
use Rattle.std.specs.List.{list_any, AllByRecursion, AllZip}
use Rattle.std.proofs.lemmas.Bool.{or_parts, and_parts, and_from, and_cases, both_ways, not-true, not-false, not_from_false, not_from_true}
use Rattle.vo_spec.specs.declared.values.Value.{Value}
use Rattle.vo_spec.specs.declared.keys.Bound.{Bound}
use Rattle.vo_spec.specs.declared.keys.Bound.TheVariants.{Absent, Inclusive, Exclusive}
use Rattle.vo_spec.specs.declared.keys.Interval.{Interval}
use Rattle.vo_spec.specs.declared.needs.Need.{Need}
use Rattle.vo_spec.specs.declared.needs.SeenRow.{SeenRow}
use Rattle.vo_spec.specs.declared.cells.Cell.{Cell}
use Rattle.vo_spec.specs.declared.cells.Cell.TheVariants.{Shown, Hidden}
use Rattle.vo_spec.specs.declared.cells.RowPart.{RowPart}
use Rattle.vo_spec.specs.declared.cells.RowPart.TheVariants.{Digest as Closed, Cells}
use Rattle.vo_spec.specs.declared.cells.PartEntry.{PartEntry}
use Rattle.vo_spec.specs.Values.{key_lt}
use Rattle.vo_spec.specs.Cells.{value_in, shown_value, CellsPrune, RowPrunes, EntryPrunes}
use Rattle.vo_spec.specs.Parts.{stub, leaf, inner, none, more, entries, entries_in, PrunesEach}
use Rattle.vo_spec.specs.Trees.{RowTree, RowTrees, row_family, Prunes}
use Rattle.vo_spec.specs.Scans.{is_above, is_below, in_interval, is_empty_interval, ends_above, begins_below, visits, put_before, append_both, values_in, with_key, seen_entries, seen_in, seen_in_each, seen}
use Rattle.vo_spec.specs.Pruning.{walk_for, is_missing_by, is_missing_in, at_root, descend, is_any, needed_columns, hides_any, is_missing}
use Rattle.vo_spec.specs.Representation.{is_from, is_before, IsNode, AreNodes, IsTree, fewest_in_root}
use Rattle.vo_spec.specs.Inserts.{min_fill}
use Rattle.vo_laws.proofs.KeyOrder.{key_lt_back, key_le_le, key_lt_le}
use Rattle.vo_laws.proofs.NodeBounds.{Between, node_between}
use Rattle.vo_laws.proofs.ListLaws.{IsIn, each_of, each_weaker, none_any, in_filter, in_flat_map}

-- What the one gives, so does the other.

abbrev pub IsNoneOrSame : {A : Type 0} → Option A → Option A → Type 0
IsNoneOrSame None y = Unit {0}
IsNoneOrSame (Some x) y = y ≡ Some x

gives_itself : {A : Type 0} (x : Option A) → IsNoneOrSame x x
gives_itself None = tt
gives_itself (Some x) = refl

gives_put : {A : Type 0} (x y : Option A) (xs ys : Option (List A)) → IsNoneOrSame x y → IsNoneOrSame xs ys → IsNoneOrSame (put_before x xs) (put_before y ys)
gives_put None y xs ys g h = tt
gives_put (Some x) y None ys g h = tt
gives_put (Some x) y (Some xs) ys g h = rw (g, h) refl

gives_joined : {A : Type 0} (xs ys zs ws : Option (List A)) → IsNoneOrSame xs ys → IsNoneOrSame zs ws → IsNoneOrSame (append_both xs zs) (append_both ys ws)
gives_joined None ys zs ws g h = tt
gives_joined (Some xs) ys None ws g h = tt
gives_joined (Some xs) ys (Some zs) ws g h = rw (g, h) refl

gives_key : (key : List ℕ) (xs ys : Option (List Value)) → IsNoneOrSame xs ys → IsNoneOrSame (with_key key xs) (with_key key ys)
gives_key key None ys g = tt
gives_key key (Some xs) ys g = rw g refl

gives_cond : {A : Type 0} (b : Bool) (x y z w : Option A) → IsNoneOrSame x z → IsNoneOrSame y w → IsNoneOrSame (cond b x y) (cond b z w)
gives_cond true x y z w g h = g
gives_cond false x y z w g h = h

cell_given : (column : ℕ) (cs ds : List Cell) (i : ℕ) → CellsPrune column cs ds → IsNoneOrSame (shown_value (slice_get cs i)) (shown_value (slice_get ds i))
cell_given column [] ds i p = tt
cell_given column (c ∷ cs) [] i p = absurd p
cell_given column (Hidden d ∷ cs) (e ∷ ds) zero p = tt
cell_given column (Shown v ∷ cs) (Shown w ∷ ds) zero p = ap Some (sym p.0)
cell_given column (Shown v ∷ cs) (Hidden d ∷ ds) zero p = absurd p.0
cell_given column (c ∷ cs) (d ∷ ds) (suc i) p = cell_given (column + 1) cs ds i p.1

value_given : (r s : RowPart) (i : ℕ) → RowPrunes r s → IsNoneOrSame (value_in r i) (value_in s i)
value_given (Closed d) s i p = tt
value_given (Cells cs) (Closed d) i p = absurd p
value_given (Cells cs) (Cells ds) i p = cell_given 0 cs ds i p

values_given : (r s : RowPart) (columns : List ℕ) → RowPrunes r s → IsNoneOrSame (values_in r columns) (values_in s columns)
values_given r s [] p = refl
values_given r s (c ∷ columns) p =
    gives_put (value_in r c) (value_in s c) (values_in r columns) (values_in s columns) (value_given r s c p) (values_given r s columns p)

entries_given : (need : Need) (es fs : List PartEntry) → AllZip EntryPrunes es fs → IsNoneOrSame (seen_entries need es) (seen_entries need fs)
entries_given need [] [] z = refl
entries_given need [] (f ∷ fs) z = absurd z
entries_given need (e ∷ es) [] z = absurd z
entries_given need (e ∷ es) (f ∷ fs) z =
    rw (← z.0.key) (gives_cond (in_interval need.interval e.key)
    (put_before (with_key e.key (values_in e.row need.columns)) (seen_entries need es)) (seen_entries need es)
    (put_before (with_key e.key (values_in f.row need.columns)) (seen_entries need fs)) (seen_entries need fs)
    (gives_put (with_key e.key (values_in e.row need.columns)) (with_key e.key (values_in f.row need.columns)) (seen_entries need es) (seen_entries need fs)
    (gives_key e.key (values_in e.row need.columns) (values_in f.row need.columns) (values_given e.row f.row need.columns z.0.row))
    (entries_given need es fs z.1))
    (entries_given need es fs z.1))

mutual
  node_given : (need : Need) (p t : RowTree) → Prunes p t → IsNoneOrSame (seen_in need p) (seen_in need t)
  node_given need (stub d) t g = tt
  node_given need (leaf es) (leaf fs) g = entries_given need es fs g
  node_given need (leaf es) (stub d) g = absurd g
  node_given need (leaf es) (inner ss ps) g = absurd g
  node_given need (inner ss ps) (stub d) g = absurd g
  node_given need (inner ss ps) (leaf es) g = absurd g
  node_given need (inner ss ps) (inner ts qs) g =
      subst (λ z. IsNoneOrSame (seen_in_each need None ss ps) (seen_in_each need None z qs)) g.0 (nodes_given need None ss ps qs g.1)

  nodes_given : (need : Need) (lower : Option (List ℕ)) (ss : List (List ℕ)) (ps qs : RowTrees) → PrunesEach row_family EntryPrunes ps qs
      → IsNoneOrSame (seen_in_each need lower ss ps) (seen_in_each need lower ss qs)
  nodes_given need lower ss none none g = refl
  nodes_given need lower ss none (more m p ps) g = absurd g
  nodes_given need lower ss (more m p ps) none g = absurd g
  nodes_given need lower ss (more m p ps) (more n q qs) g =
      gives_cond (visits need.interval lower (slice_get ss 0))
      (append_both (seen_in need p) (seen_in_each need (slice_get ss 0) (drop 1 ss) ps)) (seen_in_each need (slice_get ss 0) (drop 1 ss) ps)
      (append_both (seen_in need q) (seen_in_each need (slice_get ss 0) (drop 1 ss) qs)) (seen_in_each need (slice_get ss 0) (drop 1 ss) qs)
      (gives_joined (seen_in need p) (seen_in need q) (seen_in_each need (slice_get ss 0) (drop 1 ss) ps) (seen_in_each need (slice_get ss 0) (drop 1 ss) qs)
      (node_given need p q g.1) (nodes_given need (slice_get ss 0) (drop 1 ss) ps qs g.2))
      (nodes_given need (slice_get ss 0) (drop 1 ss) ps qs g.2)

-- What a part tree shows for a need, the tree that it prunes shows too.
pub sound : (need : Need) (p t : RowTree) → Prunes p t → IsNoneOrSame (seen need p) (seen need t)
sound need p t g = gives_cond (is_empty_interval need.interval) (Some []) (seen_in need p) (Some []) (seen_in need t) refl (node_given need p t g)

-- There is a value.

abbrev pub Shows : {A : Type 0} → Option A → Type 0
Shows None = ⊥
Shows (Some x) = Unit {0}

shows_put : {A : Type 0} (x : Option A) (xs : Option (List A)) → Shows x → Shows xs → Shows (put_before x xs)
shows_put None xs s t = absurd s
shows_put (Some x) None s t = absurd t
shows_put (Some x) (Some xs) s t = tt

shows_joined : {A : Type 0} (xs ys : Option (List A)) → Shows xs → Shows ys → Shows (append_both xs ys)
shows_joined None ys s t = absurd s
shows_joined (Some xs) None s t = absurd t
shows_joined (Some xs) (Some ys) s t = tt

shows_key : (key : List ℕ) (xs : Option (List Value)) → Shows xs → Shows (with_key key xs)
shows_key key None s = absurd s
shows_key key (Some xs) s = tt

shows_some : {A : Type 0} (x : Option A) → is_none x ≡ false → Shows x
shows_some None e = absurd (cc)
shows_some (Some x) e = tt

any_of : {A : Type 0} (xs : List A) (x : A) → IsIn x xs → is_any xs ≡ true
any_of [] x i = absurd i
any_of (y ∷ ys) x i = refl

values_shown : (row : RowPart) (columns : List ℕ) → ((c : ℕ) → IsIn c columns → is_none (value_in row c) ≡ false) → Shows (values_in row columns)
values_shown row [] f = tt
values_shown row (c ∷ columns) f =
    shows_put (value_in row c) (values_in row columns) (shows_some (value_in row c) (f c (inl refl))) (values_shown row columns (λ x i. f x (inr i)))

row_shown : (needs : List Need) (need : Need) (e : PartEntry) → IsIn need needs → in_interval need.interval e.key ≡ true
    → hides_any (needed_columns needs e.key) e.row ≡ false → Shows (values_in e.row need.columns)
row_shown needs need e i inside h = values_shown e.row need.columns (λ c j.
    each_of (λ x. is_none (value_in e.row x) ≡ false) (needed_columns needs e.key) (none_any (λ x. is_none (value_in e.row x)) (needed_columns needs e.key) h) c (here c j))
  where
    here : (c : ℕ) → IsIn c need.columns → IsIn c (needed_columns needs e.key)
    here c j = in_flat_map (λ n. n.columns) _ need c (in_filter (λ n. in_interval n.interval e.key) needs need i inside) j

entries_shown : (needs : List Need) (need : Need) (es : List PartEntry) → IsIn need needs
    → list_any (λ (e : PartEntry). hides_any (needed_columns needs e.key) e.row) es ≡ false → Shows (seen_entries need es)
entries_shown needs need [] i h = tt
entries_shown needs need (e ∷ es) i h = step (in_interval need.interval e.key) refl (entries_shown needs need es i both.1)
  where
    both : (hides_any (needed_columns needs e.key) e.row ≡ false) × (list_any (λ (e : PartEntry). hides_any (needed_columns needs e.key) e.row) es ≡ false)
    both = or_parts (hides_any (needed_columns needs e.key) e.row) _ h

    step : (b : Bool) → in_interval need.interval e.key ≡ b → Shows (seen_entries need es)
        → Shows (cond b (put_before (with_key e.key (values_in e.row need.columns)) (seen_entries need es)) (seen_entries need es))
    step true inside rest =
        shows_put (with_key e.key (values_in e.row need.columns)) (seen_entries need es)
        (shows_key e.key (values_in e.row need.columns) (row_shown needs need e i inside both.0)) rest
    step false inside rest = rest

child_shown : (need : Need) (lower upper : Option (List ℕ)) (x y : Option (List SeenRow)) → (visits need.interval lower upper ≡ true → Shows x) → Shows y
    → Shows (cond (visits need.interval lower upper) (append_both x y) y)
child_shown need lower upper x y f s = step (visits need.interval lower upper) refl
  where
    step : (b : Bool) → visits need.interval lower upper ≡ b → Shows (cond b (append_both x y) y)
    step true v = shows_joined x y (f v) s
    step false v = s

mutual
  node_shown : (needs : List Need) (need : Need) (going : List Need) (p : RowTree) → IsIn need needs → IsIn need going
      → is_missing_by (walk_for needs) going p ≡ false → Shows (seen_in need p)
  node_shown needs need going (stub d) i j h = absurd (both_ways (is_any going) h (any_of going need j))
  node_shown needs need going (leaf es) i j h = entries_shown needs need es i h
  node_shown needs need going (inner ss ps) i j h = nodes_shown needs need going None ss ps i j h

  nodes_shown : (needs : List Need) (need : Need) (going : List Need) (lower : Option (List ℕ)) (ss : List (List ℕ)) (ps : RowTrees)
      → IsIn need needs → IsIn need going → is_missing_in (walk_for needs) going lower ss ps ≡ false → Shows (seen_in_each need lower ss ps)
  nodes_shown needs need going lower ss none i j h = tt
  nodes_shown needs need going lower ss (more m p ps) i j h =
      let both = or_parts (is_missing_by (walk_for needs) (descend going lower (slice_get ss 0)) p) (is_missing_in (walk_for needs) going (slice_get ss 0) (drop 1 ss) ps) h in
      child_shown need lower (slice_get ss 0) (seen_in need p) (seen_in_each need (slice_get ss 0) (drop 1 ss) ps)
      (λ v. node_shown needs need (descend going lower (slice_get ss 0)) p i (in_filter (λ n. visits n.interval lower (slice_get ss 0)) going need j v) both.0)
      (nodes_shown needs need going (slice_get ss 0) (drop 1 ss) ps i j both.1)

-- A part tree that misses nothing for some needs shows something for each of them.
pub complete : (needs : List Need) (need : Need) (p : RowTree) → IsIn need needs → is_missing needs p ≡ false → Shows (seen need p)
complete needs need p i h = step (is_empty_interval need.interval) refl
  where
    step : (b : Bool) → is_empty_interval need.interval ≡ b → Shows (cond b (Some []) (seen_in need p))
    step true e = tt
    step false e =
        node_shown needs need (at_root needs) p i
        (in_filter (λ n. not (is_empty_interval n.interval)) needs need i (not_from_false (is_empty_interval need.interval) e)) h

-- so a part tree that misses nothing shows for each of them what the tree that it prunes shows
pub part_seen : (needs : List Need) (need : Need) (p t : RowTree) → Prunes p t → IsIn need needs → is_missing needs p ≡ false → seen need p ≡ seen need t
part_seen needs need p t z i full = step (seen need p) (complete needs need p i full) (sound need p t z)
  where
    step : (o : Option (List SeenRow)) → Shows o → IsNoneOrSame o (seen need t) → o ≡ seen need t
    step None s g = absurd s
    step (Some xs) s g = sym g

-- Of a whole tree a scan is a filter of its entries.

joined_nothing : (xs : Option (List SeenRow)) → append_both (Some []) xs ≡ xs
joined_nothing None = refl
joined_nothing (Some xs) = refl

put_joined : (x : Option SeenRow) (xs ys : Option (List SeenRow)) → append_both (put_before x xs) ys ≡ put_before x (append_both xs ys)
put_joined None xs ys = refl
put_joined (Some x) None ys = refl
put_joined (Some x) (Some xs) None = refl
put_joined (Some x) (Some xs) (Some ys) = refl

cond_joined : (b : Bool) (x y z : Option (List SeenRow)) → append_both (cond b x y) z ≡ cond b (append_both x z) (append_both y z)
cond_joined true x y z = refl
cond_joined false x y z = refl

entries_joined : (need : Need) (es fs : List PartEntry) → seen_entries need (es ++ fs) ≡ append_both (seen_entries need es) (seen_entries need fs)
entries_joined need [] fs = sym (joined_nothing (seen_entries need fs))
entries_joined need (e ∷ es) fs =
    rw (
      entries_joined need es fs,
      cond_joined (in_interval need.interval e.key) (put_before (with_key e.key (values_in e.row need.columns)) (seen_entries need es)) (seen_entries need es) (seen_entries need fs),
      put_joined (with_key e.key (values_in e.row need.columns)) (seen_entries need es) (seen_entries need fs),
    ) refl

none_inside : (need : Need) (es : List PartEntry) → AllByRecursion (λ (e : PartEntry). in_interval need.interval e.key ≡ false) es → seen_entries need es ≡ Some []
none_inside need [] all = refl
none_inside need (e ∷ es) all = rw (all.0) (none_inside need es all.1)

-- What stands between two separators that a scan passes by is outside the interval.

above_upper : (low : Bound) (upper : Option (List ℕ)) (key : List ℕ) → ends_above low upper ≡ false → is_before upper key ≡ true → is_above low key ≡ false
above_upper Absent None key e b = absurd (cc)
above_upper Absent (Some s) key e b = absurd (cc)
above_upper (Inclusive low) None key e b = absurd (cc)
above_upper (Inclusive low) (Some s) key e b = not_from_true (key_lt key low) (key_lt_le key s low b e)
above_upper (Exclusive low) None key e b = absurd (cc)
above_upper (Exclusive low) (Some s) key e b = key_lt_back key low (key_lt_le key s low b e)

below_lower : (high : Bound) (lower : Option (List ℕ)) (key : List ℕ) → begins_below high lower ≡ false → is_from lower key ≡ true → is_below high key ≡ false
below_lower Absent None key e b = absurd (cc)
below_lower Absent (Some s) key e b = absurd (cc)
below_lower (Inclusive high) None key e b = absurd (cc)
below_lower (Inclusive high) (Some s) key e b =
    not_from_true (key_lt high key) (key_lt_le high s key (not-false (key_lt high s) e) (not-true (key_lt key s) b))
below_lower (Exclusive high) None key e b = absurd (cc)
below_lower (Exclusive high) (Some s) key e b = key_le_le high s key e (not-true (key_lt key s) b)

pub passed_by : (interval : Interval) (lower upper : Option (List ℕ)) (key : List ℕ) → visits interval lower upper ≡ false
    → is_from lower key ≡ true → is_before upper key ≡ true → in_interval interval key ≡ false
passed_by interval lower upper key e from before = elim (and_cases (ends_above interval.low upper) (begins_below interval.high lower) e) [
  | inl f ↦ outside_low (above_upper interval.low upper key f before)
  | inr f ↦ outside_high (is_above interval.low key) (below_lower interval.high lower key f from)
]
  where
    outside_low : is_above interval.low key ≡ false → in_interval interval key ≡ false
    outside_low f = rw f refl

    outside_high : (b : Bool) → is_below interval.high key ≡ false → (b && is_below interval.high key) ≡ false
    outside_high true f = f
    outside_high false f = refl

-- of a child: it is visited and gives what it has, or it has nothing to give
child_scanned : (need : Need) (near lower upper : Option (List ℕ)) (p : RowTree) (x : Option (List SeenRow))
    → ((key : List ℕ) → is_from lower key ≡ true → is_from near key ≡ true)
    → AllByRecursion (Between row_family lower upper) (entries p) → seen_in need p ≡ seen_entries need (entries p)
    → cond (visits need.interval near upper) (append_both (seen_in need p) x) x ≡ append_both (seen_entries need (entries p)) x
child_scanned need near lower upper p x near_is all e = step (visits need.interval near upper) refl
  where
    outside : visits need.interval near upper ≡ false → (f : PartEntry) → Between row_family lower upper f → in_interval need.interval f.key ≡ false
    outside v f b = let parts = and_parts (is_from lower f.key) (is_before upper f.key) b in
        passed_by need.interval near upper f.key v (near_is f.key parts.0) parts.1

    step : (b : Bool) → visits need.interval near upper ≡ b → cond b (append_both (seen_in need p) x) x ≡ append_both (seen_entries need (entries p)) x
    step true v = ap (λ z. append_both z x) e
    step false v =
        let none_here : seen_entries need (entries p) ≡ Some [] = none_inside need (entries p) (each_weaker (Between row_family lower upper) (λ (f : PartEntry). in_interval need.interval f.key ≡ false) (outside v) (entries p) all) in
        sym (ap (λ z. append_both z x) none_here ∙ joined_nothing x)

weaker_upper : (lower upper : Option (List ℕ)) (e : PartEntry) → Between row_family lower upper e → Between row_family lower None e
weaker_upper lower upper e b = and_from (is_from lower e.key) true (and_parts (is_from lower e.key) (is_before upper e.key) b).0 refl

last_scanned : (need : Need) (near lower upper : Option (List ℕ)) (p : RowTree)
    → ((key : List ℕ) → is_from lower key ≡ true → is_from near key ≡ true)
    → AllByRecursion (Between row_family lower upper) (entries p) → seen_in need p ≡ seen_entries need (entries p)
    → cond (visits need.interval near None) (append_both (seen_in need p) (Some [])) (Some []) ≡ seen_entries need (entries p ++ [])
last_scanned need near lower upper p near_is all e =
    rw (entries_joined need (entries p) [])
    (child_scanned need near lower None p (Some []) near_is (each_weaker (Between row_family lower upper) (Between row_family lower None) (weaker_upper lower upper) (entries p) all) e)

mutual
  node_scanned : (need : Need) (fewest height : ℕ) (lower upper : Option (List ℕ)) (t : RowTree) → IsNode row_family fewest height lower upper t
      → seen_in need t ≡ seen_entries need (entries t)
  node_scanned need fewest height lower upper (stub d) n = absurd n
  node_scanned need fewest height lower upper (leaf es) n = refl
  node_scanned need fewest height lower upper (inner ss ps) n = nodes_scanned need (height - 1) None lower upper ss ps (λ key f. refl) n.3

  nodes_scanned : (need : Need) (height : ℕ) (near lower upper : Option (List ℕ)) (ss : List (List ℕ)) (ps : RowTrees)
      → ((key : List ℕ) → is_from lower key ≡ true → is_from near key ≡ true) → AreNodes row_family height lower upper ss ps
      → seen_in_each need near ss ps ≡ seen_entries need (entries_in ps)
  nodes_scanned need height near lower upper ss none near_is n = absurd n
  nodes_scanned need height near lower upper [] (more m p none) near_is n =
      last_scanned need near lower upper p near_is (node_between row_family min_fill height lower upper p n.1) (node_scanned need min_fill height lower upper p n.1)
  nodes_scanned need height near lower upper [] (more m p (more k q ps)) near_is n = absurd n
  nodes_scanned need height near lower upper (s ∷ ss) (more m p ps) near_is n =
      rw (nodes_scanned need height (Some s) (Some s) upper ss ps (λ key f. f) n.3, entries_joined need (entries p) (entries_in ps))
      (child_scanned need near lower (Some s) p (seen_entries need (entries_in ps)) near_is
      (node_between row_family min_fill height lower (Some s) p n.2) (node_scanned need min_fill height lower (Some s) p n.2))

-- A scan of a whole tree is a filter of its entries.
pub scan_is_filter : (need : Need) (t : RowTree) → IsTree row_family t → seen_in need t ≡ seen_entries need (entries t)
scan_is_filter need t tree = node_scanned need (fewest_in_root row_family t) tree.height None None t tree.shape
