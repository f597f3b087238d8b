-- Walks of trees and parts of trees: what scans are of them, and that the walk of a part is that of
-- its tree, or stops before it.
use Rattle.std.proofs.Common.{◌≡◌, ℕ, Bool, true, false, cond, List, [], ◌∷◌, ◌++◌, Option, Some, None, inl, inr, refl, sym, ap, ◌∙◌, subst, append_assoc}
use Rattle.std.specs.Prelude.{◌⊎◌, slice_get, drop}
use Rattle.std.specs.List.{AllZip}
use Rattle.vo_spec.specs.declared.needs.Need.{Need}
use Rattle.vo_spec.specs.declared.needs.SeenRow.{SeenRow}
use Rattle.vo_spec.specs.declared.cells.PartEntry.{PartEntry}
use Rattle.vo_spec.specs.Cells.{EntryPrunes}
use Rattle.vo_spec.specs.Parts.{stub, leaf, inner, none, more, PrunesEach}
use Rattle.vo_spec.specs.Trees.{RowTree, RowTrees, row_family, Prunes}
use Rattle.vo_spec.specs.Scans.{in_interval, is_empty_interval, visits, put_before, append_both, values_in, with_key, seen_entries, seen_in, seen_in_each, seen}
use Rattle.vo_spec.specs.Pruning.{is_missing}
use Rattle.vo_spec.specs.Needs.{all_keys}
use Rattle.vo_laws.proofs.ListLaws.{in_right}
use Rattle.vo_laws.proofs.ScanLaws.{IsNoneOrSame, Shows, sound, complete}
use Rattle.vo_spec.specs.Walks.{ScanWalk, StopsBefore, walk_end, walk_stop, from_row, onward, walk_of_entries, walk_in, walk_in_each, walk, if_ended}

-- What a scan gives is the walk's rows where the walk has an end.

row_seen : (x : Option SeenRow) (w : ScanWalk) → put_before x (if_ended w) ≡ if_ended (from_row x w)
row_seen None w = refl
row_seen (Some row) w = step w.has_end w.rows
  where
    step : (b : Bool) (rows : List SeenRow) → put_before (Some row) (cond b (Some rows) None) ≡ cond b (Some (row ∷ rows)) None
    step true rows = refl
    step false rows = refl

parts_seen : (w v : ScanWalk) → append_both (if_ended w) (if_ended v) ≡ if_ended (onward w v)
parts_seen w v = step w.has_end refl v.has_end
  where
    step : (b : Bool) → w.has_end ≡ b → (c : Bool) → append_both (cond b (Some w.rows) None) (cond c (Some v.rows) None)
        ≡ if_ended (cond b (record { rows = w.rows ++ v.rows; has_end = c }) w)
    step true e true = refl
    step true e false = refl
    step false e c = rw e refl

choice_seen : (b : Bool) (x y : Option (List SeenRow)) (w v : ScanWalk) → x ≡ if_ended w → y ≡ if_ended v → cond b x y ≡ if_ended (cond b w v)
choice_seen true x y w v e f = e
choice_seen false x y w v e f = f

entries_seen : (need : Need) (es : List PartEntry) → seen_entries need es ≡ if_ended (walk_of_entries need es)
entries_seen need [] = refl
entries_seen need (e ∷ es) =
    let row = with_key e.key (values_in e.row need.columns) in
    choice_seen (in_interval need.interval e.key) _ _ _ _
    (ap (put_before row) (entries_seen need es) ∙ row_seen row (walk_of_entries need es)) (entries_seen need es)

mutual
  node_seen : (need : Need) (p : RowTree) → seen_in need p ≡ if_ended (walk_in need p)
  node_seen need (stub d) = refl
  node_seen need (leaf es) = entries_seen need es
  node_seen need (inner ss ps) = nodes_seen need None ss ps

  nodes_seen : (need : Need) (lower : Option (List ℕ)) (ss : List (List ℕ)) (ps : RowTrees) → seen_in_each need lower ss ps ≡ if_ended (walk_in_each need lower ss ps)
  nodes_seen need lower ss none = refl
  nodes_seen need lower ss (more m p ps) =
      let rest = nodes_seen need (slice_get ss 0) (drop 1 ss) ps in
      choice_seen (visits need.interval lower (slice_get ss 0)) _ _ _ _
      (ap (λ x. append_both x (seen_in_each need (slice_get ss 0) (drop 1 ss) ps)) (node_seen need p)
      ∙ ap (append_both (if_ended (walk_in need p))) rest
      ∙ parts_seen (walk_in need p) (walk_in_each need (slice_get ss 0) (drop 1 ss) ps))
      rest

pub walk_seen : (need : Need) (p : RowTree) → seen need p ≡ if_ended (walk need p)
walk_seen need p = choice_seen (is_empty_interval need.interval) (Some []) (seen_in need p) walk_end (walk_in need p) refl (node_seen need p)

has_end_of : (w : ScanWalk) → Shows (if_ended w) → w.has_end ≡ true
has_end_of w s = step w.has_end s
  where
    step : (b : Bool) → Shows (cond b (Some w.rows) None) → b ≡ true
    step true s = refl
    step false s = absurd s

pub walk_complete : (before : List Need) (need : Need) (after : List Need) (p : RowTree) → is_missing (before ++ need ∷ after) p ≡ false → (walk need p).has_end ≡ true
walk_complete before need after p h =
    has_end_of (walk need p) (subst Shows (walk_seen need p) (complete (before ++ need ∷ after) need p (in_right before (need ∷ after) need (inl refl)) h))

-- The walk of a part of a tree is the tree's, or stops before it.

-- the walk with this end and these rows is a front of the other
abbrev pub IsFront : Bool → List SeenRow → ScanWalk → Type 0
IsFront true rows v = v ≡ record { rows = rows; has_end = true }
IsFront false rows v = (later : List SeenRow) × (v.rows ≡ rows ++ later)

abbrev pub IsPart : ScanWalk → ScanWalk → Type 0
IsPart w v = IsFront w.has_end w.rows v

stopped_part : (v : ScanWalk) → IsPart walk_stop v
stopped_part v = (v.rows, refl)

row_part : (x y : Option SeenRow) (w v : ScanWalk) → IsNoneOrSame x y → IsPart w v → IsPart (from_row x w) (from_row y v)
row_part None y w v g h = stopped_part (from_row y v)
row_part (Some row) None w v g h = absurd (cc)
row_part (Some row) (Some other) w v g h = step w.has_end w.rows h
  where
    same : row ≡ other
    same = cc

    step : (b : Bool) (rows : List SeenRow) → IsFront b rows v → IsFront b (row ∷ rows) (from_row (Some other) v)
    step true rows k = rw (k, same) refl
    step false rows k = (k.0, rw (k.1, same) refl)

onward_part : (w v w' v' : ScanWalk) → IsPart w v → IsPart w' v' → IsPart (onward w w') (onward v v')
onward_part w v w' v' g h = step w.has_end refl g w'.has_end h
  where
    after : (b : Bool) (later : List SeenRow) → v.rows ≡ w.rows ++ later → v.has_end ≡ b → (more : List SeenRow) × ((cond b (record { rows = v.rows ++ v'.rows; has_end = v'.has_end }) v).rows ≡ w.rows ++ more)
    after true later e f = (later ++ v'.rows, ap (λ rows. rows ++ v'.rows) e ∙ append_assoc w.rows later v'.rows)
    after false later e f = (later, e)

    step : (b : Bool) → w.has_end ≡ b → IsFront b w.rows v → (c : Bool) → IsFront c w'.rows v' → IsPart (cond b (record { rows = w.rows ++ w'.rows; has_end = c }) w) (onward v v')
    step true e g true h = rw (g, h) refl
    step true e g false h = (h.0, rw (g, h.1) (sym (append_assoc w.rows w'.rows h.0)))
    step false e g c h = rw e (after v.has_end g.0 g.1 refl)

choice_part : (b : Bool) (w v w' v' : ScanWalk) → IsPart w v → IsPart w' v' → IsPart (cond b w w') (cond b v v')
choice_part true w v w' v' g h = g
choice_part false w v w' v' g h = h

-- a scan of one row for all keys
row_given : (columns : List ℕ) (e f : PartEntry) → EntryPrunes e f → IsNoneOrSame (with_key e.key (values_in e.row columns)) (with_key f.key (values_in f.row columns))
row_given columns e f z = first (with_key e.key (values_in e.row columns)) (with_key f.key (values_in f.row columns))
    (sound (record { interval = all_keys; columns = columns }) (leaf (e ∷ [])) (leaf (f ∷ [])) (z, tt))
  where
    first : (x y : Option SeenRow) → IsNoneOrSame (put_before x (Some [])) (put_before y (Some [])) → IsNoneOrSame x y
    first None y g = tt
    first (Some row) None g = absurd (cc)
    first (Some row) (Some other) g = cc

entries_part : (need : Need) (es fs : List PartEntry) → AllZip EntryPrunes es fs → IsPart (walk_of_entries need es) (walk_of_entries need fs)
entries_part need [] [] z = refl
entries_part need [] (f ∷ fs) z = absurd z
entries_part need (e ∷ es) [] z = absurd z
entries_part need (e ∷ es) (f ∷ fs) z =
    let rest = entries_part need es fs z.1 in
    let first : IsPart (from_row (with_key e.key (values_in e.row need.columns)) (walk_of_entries need es)) (from_row (with_key f.key (values_in f.row need.columns)) (walk_of_entries need fs))
    = row_part (with_key e.key (values_in e.row need.columns)) (with_key f.key (values_in f.row need.columns)) _ _ (row_given need.columns e f z.0) rest in
    subst (λ k. IsPart (walk_of_entries need (e ∷ es)) (cond (in_interval need.interval k) (from_row (with_key f.key (values_in f.row need.columns)) (walk_of_entries need fs)) (walk_of_entries need fs)))
    z.0.key (choice_part (in_interval need.interval e.key) _ _ _ _ first rest)

mutual
  node_part : (need : Need) (p t : RowTree) → Prunes p t → IsPart (walk_in need p) (walk_in need t)
  node_part need (stub d) t g = stopped_part (walk_in need t)
  node_part need (leaf es) (leaf fs) g = entries_part need es fs g
  node_part need (leaf es) (stub d) g = absurd g
  node_part need (leaf es) (inner ss ps) g = absurd g
  node_part need (inner ss ps) (stub d) g = absurd g
  node_part need (inner ss ps) (leaf es) g = absurd g
  node_part need (inner ss ps) (inner ts qs) g =
      subst (λ z. IsPart (walk_in_each need None ss ps) (walk_in_each need None z qs)) g.0 (nodes_part need None ss ps qs g.1)

  nodes_part : (need : Need) (lower : Option (List ℕ)) (ss : List (List ℕ)) (ps qs : RowTrees) → PrunesEach row_family EntryPrunes ps qs
      → IsPart (walk_in_each need lower ss ps) (walk_in_each need lower ss qs)
  nodes_part need lower ss none none g = refl
  nodes_part need lower ss none (more m p ps) g = absurd g
  nodes_part need lower ss (more m p ps) none g = absurd g
  nodes_part need lower ss (more m p ps) (more n q qs) g =
      let rest = nodes_part need (slice_get ss 0) (drop 1 ss) ps qs g.2 in
      choice_part (visits need.interval lower (slice_get ss 0)) _ _ _ _ (onward_part _ _ _ _ (node_part need p q g.1) rest) rest

pub walk_part : (need : Need) (p t : RowTree) → Prunes p t → IsPart (walk need p) (walk need t)
walk_part need p t g = choice_part (is_empty_interval need.interval) walk_end walk_end (walk_in need p) (walk_in need t) refl (node_part need p t g)

pub is_part : (w v : ScanWalk) → IsPart w v → (w ≡ v) ⊎ StopsBefore w v
is_part w v g = step w.has_end refl g
  where
    step : (b : Bool) → w.has_end ≡ b → IsFront b w.rows v → (w ≡ v) ⊎ StopsBefore w v
    step true e g = inl (ap (λ (b : Bool). let u : ScanWalk = record { rows = w.rows; has_end = b } in u) e ∙ sym g)
    step false e g = inr (record { stops = e; later = g.0; first = g.1 })
