-- Trees of any family: what prunes a tree has its digest; and what a walk has open of a tree prunes
-- it, lacks nothing and shows no more, and is the only part of the tree of which this is so.
use Rattle.std.proofs.Common.{◌≡◌, ℕ, suc, ◌+◌, ◌-◌, Bool, true, false, cond, List, [], ◌∷◌, Option, Some, None, length, map, refl, ap, ◌∙◌}
use Rattle.std.specs.Prelude.{not, slice_get, drop, flat_map}
use Rattle.std.specs.List.{list_any, AllByRecursion, AllZip}
use Rattle.std.proofs.lemmas.Bool.{or_from, or_parts, not-false, not_from_true}
use Rattle.vo_spec.specs.Parts.{Part, Parts, stub, leaf, inner, none, more, Family, count, entries, entries_in, digest_by, child_bytes, PrunesBy, PrunesEach}
use Rattle.vo_spec.specs.Pruning.{Walk, is_missing_by, is_missing_in, has_surplus_by, has_surplus_in, pruned_by, pruned_in}
use Rattle.vo_spec.specs.Inserts.{min_fill}
use Rattle.vo_spec.specs.Representation.{IsNode, AreNodes}
use Rattle.vo_laws.proofs.ListLaws.{each_left, each_right, each_both}

-- What prunes a tree has its digest.

module _ {E M : Type 0} (family : Family E M) (Narrows : E → E → Type 0) where
  -- an entry's bytes are the same whatever of it is shown
  abbrev pub KeepsBytes : Type 0
  KeepsBytes = (e f : E) → Narrows e f → family.entry_bytes e ≡ family.entry_bytes f

  bytes_kept : KeepsBytes → (es fs : List E) → AllZip Narrows es fs → flat_map family.entry_bytes es ≡ flat_map family.entry_bytes fs
  bytes_kept keeps [] [] z = refl
  bytes_kept keeps [] (f ∷ fs) z = absurd z
  bytes_kept keeps (e ∷ es) [] z = absurd z
  bytes_kept keeps (e ∷ es) (f ∷ fs) z = rw (keeps e f z.0, bytes_kept keeps es fs z.1) refl

  length_kept : (es fs : List E) → AllZip Narrows es fs → length es ≡ length fs
  length_kept [] [] z = refl
  length_kept [] (f ∷ fs) z = absurd z
  length_kept (e ∷ es) [] z = absurd z
  length_kept (e ∷ es) (f ∷ fs) z = ap suc (length_kept es fs z.1)

  count_kept : (ps qs : Parts E M) → PrunesEach family Narrows ps qs → count ps ≡ count qs
  count_kept none none z = refl
  count_kept none (more m p ps) z = absurd z
  count_kept (more m p ps) none z = absurd z
  count_kept (more m p ps) (more n q qs) z = ap (λ k. k + 1) (count_kept ps qs z.2)

  mutual
    pub digest_kept : KeepsBytes → (p t : Part E M) → PrunesBy family Narrows p t → digest_by family p ≡ digest_by family t
    digest_kept keeps (stub d) t z = z
    digest_kept keeps (leaf es) (leaf fs) z = rw (length_kept es fs z, bytes_kept keeps es fs z) refl
    digest_kept keeps (leaf es) (stub d) z = absurd z
    digest_kept keeps (leaf es) (inner ss ps) z = absurd z
    digest_kept keeps (inner ss ps) (stub d) z = absurd z
    digest_kept keeps (inner ss ps) (leaf es) z = absurd z
    digest_kept keeps (inner ss ps) (inner ts qs) z = rw (z.0, count_kept ps qs z.1, child_bytes_kept keeps ps qs z.1) refl

    child_bytes_kept : KeepsBytes → (ps qs : Parts E M) → PrunesEach family Narrows ps qs → child_bytes family ps ≡ child_bytes family qs
    child_bytes_kept keeps none none z = refl
    child_bytes_kept keeps none (more m p ps) z = absurd z
    child_bytes_kept keeps (more m p ps) none z = absurd z
    child_bytes_kept keeps (more m p ps) (more n q qs) z = rw (z.0, digest_kept keeps p q z.1, child_bytes_kept keeps ps qs z.2) refl

-- What a walk has open of a tree prunes it, where its entries as they are to be prune the entries
-- as they are.
module _ {E M S : Type 0} (walk : Walk E S) (family : Family E M) (Narrows : E → E → Type 0) where
  shown_prune : ((e : E) → Narrows (walk.shown e) e) → (es : List E) → AllZip Narrows (map walk.shown es) es
  shown_prune f [] = tt
  shown_prune f (e ∷ es) = (f e, shown_prune f es)

  leaf_prunes : (b : Bool) (es : List E) → AllZip Narrows (map walk.shown es) es → PrunesBy family Narrows (cond {A = Part E M} b (leaf (map walk.shown es)) (stub (digest_by family (leaf es)))) (leaf es)
  leaf_prunes true es z = z
  leaf_prunes false es z = refl

  inner_prunes : (b : Bool) (ss : List (List ℕ)) (qs ps : Parts E M) → PrunesEach family Narrows qs ps
      → PrunesBy family Narrows (cond b (inner ss qs) (stub (digest_by family (inner ss ps)))) (inner ss ps)
  inner_prunes true ss qs ps z = (refl, z)
  inner_prunes false ss qs ps z = refl

  mutual
    pub walk_prunes : ((e : E) → Narrows (walk.shown e) e) → (s : S) (t : Part E M) → PrunesBy family Narrows (pruned_by walk family s t) t
    walk_prunes f s (stub d) = refl
    walk_prunes f s (leaf es) = leaf_prunes (walk.opens s) es (shown_prune f es)
    walk_prunes f s (inner ss ps) = inner_prunes (walk.opens s) ss (pruned_in walk family s None ss ps) ps (each_prunes f s None ss ps)

    each_prunes : ((e : E) → Narrows (walk.shown e) e) → (s : S) (lower : Option (List ℕ)) (ss : List (List ℕ)) (ps : Parts E M)
        → PrunesEach family Narrows (pruned_in walk family s lower ss ps) ps
    each_prunes f s lower ss none = tt
    each_prunes f s lower ss (more m p ps) =
        (refl, walk_prunes f (walk.onward s lower (slice_get ss 0)) p, each_prunes f (walk.past s lower (slice_get ss 0)) (slice_get ss 0) (drop 1 ss) ps)

  -- It is the only part that does so, hides nothing that is to be shown and shows nothing more.

  -- of an entry, the only one that hides and shows what is to be
  abbrev pub ShowsJustThat : Type 0
  ShowsJustThat = (e f : E) → Narrows e f → walk.lacks e ≡ false → walk.exceeds e ≡ false → e ≡ walk.shown f

  entries_are : ShowsJustThat → (es fs : List E) → AllZip Narrows es fs → list_any walk.lacks es ≡ false → list_any walk.exceeds es ≡ false → es ≡ map walk.shown fs
  entries_are just [] [] z l x = refl
  entries_are just [] (f ∷ fs) z l x = absurd z
  entries_are just (e ∷ es) [] z l x = absurd z
  entries_are just (e ∷ es) (f ∷ fs) z l x =
      let lacks = or_parts (walk.lacks e) (list_any walk.lacks es) l in
      let exceeds = or_parts (walk.exceeds e) (list_any walk.exceeds es) x in
      rw (just e f z.0 lacks.0 exceeds.0, entries_are just es fs z.1 lacks.1 exceeds.1) refl

  stub_is : (s : S) (d : List ℕ) (t : Part E M) → walk.opens s ≡ false → d ≡ digest_by family t → stub d ≡ pruned_by walk family s t
  stub_is s d (stub g) shut same = ap stub same
  stub_is s d (leaf es) shut same = rw shut (ap stub same)
  stub_is s d (inner ss ps) shut same = rw shut (ap stub same)

  mutual
    pub only_part : ShowsJustThat → (s : S) (p t : Part E M) → is_missing_by walk s p ≡ false → has_surplus_by walk s p ≡ false → PrunesBy family Narrows p t
        → p ≡ pruned_by walk family s t
    only_part just s (stub d) t m b z = stub_is s d t m z
    only_part just s (leaf es) (stub d) m b z = absurd z
    only_part just s (leaf es) (leaf fs) m b z =
        let o = or_parts (not (walk.opens s)) (list_any walk.exceeds es) b in
        let open_here : walk.opens s ≡ true = not-false (walk.opens s) o.0 in
        rw open_here (ap leaf (entries_are just es fs z m o.1))
    only_part just s (leaf es) (inner ss ps) m b z = absurd z
    only_part just s (inner ss ps) (stub d) m b z = absurd z
    only_part just s (inner ss ps) (leaf es) m b z = absurd z
    only_part just s (inner ss ps) (inner ts qs) m b z =
        let o = or_parts (not (walk.opens s)) (has_surplus_in walk s None ss ps) b in
        let open_here : walk.opens s ≡ true = not-false (walk.opens s) o.0 in
        rw open_here (ap (inner ss) (only_parts just s None ss ps qs m o.1 z.1) ∙ ap (λ us. inner us (pruned_in walk family s None us qs)) z.0)

    only_parts : ShowsJustThat → (s : S) (lower : Option (List ℕ)) (ss : List (List ℕ)) (ps qs : Parts E M)
        → is_missing_in walk s lower ss ps ≡ false → has_surplus_in walk s lower ss ps ≡ false → PrunesEach family Narrows ps qs
        → ps ≡ pruned_in walk family s lower ss qs
    only_parts just s lower ss none none m b z = refl
    only_parts just s lower ss none (more n q qs) m b z = absurd z
    only_parts just s lower ss (more k p ps) none m b z = absurd z
    only_parts just s lower ss (more k p ps) (more n q qs) m b z =
        let onward = walk.onward s lower (slice_get ss 0) in
        let past = walk.past s lower (slice_get ss 0) in
        let l = or_parts (is_missing_by walk onward p) (is_missing_in walk past (slice_get ss 0) (drop 1 ss) ps) m in
        let o = or_parts (has_surplus_by walk onward p) (has_surplus_in walk past (slice_get ss 0) (drop 1 ss) ps) b in
        rw (z.0, only_part just onward p q l.0 o.0 z.1, only_parts just past (slice_get ss 0) (drop 1 ss) ps qs l.1 o.1 z.2) refl

-- What holds of the entries that a walk shows, and that what it has open lacks nothing and shows no
-- more.
module _ {E M S : Type 0} (walk : Walk E S) (family : Family E M) where
  -- what holds of each entry as it is to be

  each_shown : (P : E → Type 0) (es : List E) → AllByRecursion (λ (e : E). P (walk.shown e)) es → AllByRecursion P (map walk.shown es)
  each_shown P [] all = tt
  each_shown P (e ∷ es) all = (all.0, each_shown P es all.1)

  leaf_each : (P : E → Type 0) (b : Bool) (es : List E) → AllByRecursion (λ (e : E). P (walk.shown e)) es
      → AllByRecursion P (entries (cond {A = Part E M} b (leaf (map walk.shown es)) (stub (digest_by family (leaf es)))))
  leaf_each P true es all = each_shown P es all
  leaf_each P false es all = tt

  inner_each : (P : E → Type 0) (b : Bool) (ss : List (List ℕ)) (qs ps : Parts E M) → AllByRecursion P (entries_in qs)
      → AllByRecursion P (entries (cond b (inner ss qs) (stub (digest_by family (inner ss ps)))))
  inner_each P true ss qs ps all = all
  inner_each P false ss qs ps all = tt

  mutual
    pub walk_each : (P : E → Type 0) (s : S) (t : Part E M) → AllByRecursion (λ (e : E). P (walk.shown e)) (entries t) → AllByRecursion P (entries (pruned_by walk family s t))
    walk_each P s (stub d) all = tt
    walk_each P s (leaf es) all = leaf_each P (walk.opens s) es all
    walk_each P s (inner ss ps) all = inner_each P (walk.opens s) ss (pruned_in walk family s None ss ps) ps (each_each P s None ss ps all)

    each_each : (P : E → Type 0) (s : S) (lower : Option (List ℕ)) (ss : List (List ℕ)) (ps : Parts E M) → AllByRecursion (λ (e : E). P (walk.shown e)) (entries_in ps)
        → AllByRecursion P (entries_in (pruned_in walk family s lower ss ps))
    each_each P s lower ss none all = tt
    each_each P s lower ss (more m p ps) all =
        each_both P (entries (pruned_by walk family (walk.onward s lower (slice_get ss 0)) p)) (entries_in (pruned_in walk family (walk.past s lower (slice_get ss 0)) (slice_get ss 0) (drop 1 ss) ps))
        (walk_each P (walk.onward s lower (slice_get ss 0)) p (each_left (λ (e : E). P (walk.shown e)) (entries p) (entries_in ps) all))
        (each_each P (walk.past s lower (slice_get ss 0)) (slice_get ss 0) (drop 1 ss) ps (each_right (λ (e : E). P (walk.shown e)) (entries p) (entries_in ps) all))

  -- the pruned tree misses nothing, where the tree has no stub

  none_lacks : (es : List E) → AllByRecursion (λ (e : E). walk.lacks (walk.shown e) ≡ false) es → list_any walk.lacks (map walk.shown es) ≡ false
  none_lacks [] all = refl
  none_lacks (e ∷ es) all = or_from (walk.lacks (walk.shown e)) (list_any walk.lacks (map walk.shown es)) all.0 (none_lacks es all.1)

  leaf_complete : (s : S) (es : List E) → AllByRecursion (λ (e : E). walk.lacks (walk.shown e) ≡ false) es
      → is_missing_by walk s (cond {A = Part E M} (walk.opens s) (leaf (map walk.shown es)) (stub (digest_by family (leaf es)))) ≡ false
  leaf_complete s es all = step (walk.opens s) refl
    where
      step : (b : Bool) → walk.opens s ≡ b → is_missing_by walk s (cond {A = Part E M} b (leaf (map walk.shown es)) (stub (digest_by family (leaf es)))) ≡ false
      step true e = none_lacks es all
      step false e = e

  inner_complete : (s : S) (ss : List (List ℕ)) (ps : Parts E M) → is_missing_in walk s None ss (pruned_in walk family s None ss ps) ≡ false
      → is_missing_by walk s (cond (walk.opens s) (inner ss (pruned_in walk family s None ss ps)) (stub (digest_by family (inner ss ps)))) ≡ false
  inner_complete s ss ps f = step (walk.opens s) refl
    where
      step : (b : Bool) → walk.opens s ≡ b → is_missing_by walk s (cond b (inner ss (pruned_in walk family s None ss ps)) (stub (digest_by family (inner ss ps)))) ≡ false
      step true e = f
      step false e = e

  mutual
    pub walk_complete : (s : S) (fewest height : ℕ) (lower upper : Option (List ℕ)) (t : Part E M) → IsNode family fewest height lower upper t
        → AllByRecursion (λ (e : E). walk.lacks (walk.shown e) ≡ false) (entries t) → is_missing_by walk s (pruned_by walk family s t) ≡ false
    walk_complete s fewest height lower upper (stub d) n all = absurd n
    walk_complete s fewest height lower upper (leaf es) n all = leaf_complete s es all
    walk_complete s fewest height lower upper (inner ss ps) n all = inner_complete s ss ps (each_complete s None (height - 1) lower upper ss ps n.3 all)

    each_complete : (s : S) (near : Option (List ℕ)) (height : ℕ) (lower upper : Option (List ℕ)) (ss : List (List ℕ)) (ps : Parts E M) → AreNodes family height lower upper ss ps
        → AllByRecursion (λ (e : E). walk.lacks (walk.shown e) ≡ false) (entries_in ps)
        → is_missing_in walk s near ss (pruned_in walk family s near ss ps) ≡ false
    each_complete s near height lower upper ss none n all = absurd n
    each_complete s near height lower upper [] (more m p none) n all =
        or_from (is_missing_by walk (walk.onward s near None) (pruned_by walk family (walk.onward s near None) p)) false
        (walk_complete (walk.onward s near None) min_fill height lower upper p n.1 (each_left (λ (e : E). walk.lacks (walk.shown e) ≡ false) (entries p) [] all)) refl
    each_complete s near height lower upper [] (more m p (more k q ps)) n all = absurd n
    each_complete s near height lower upper (x ∷ ss) (more m p ps) n all =
        or_from (is_missing_by walk (walk.onward s near (Some x)) (pruned_by walk family (walk.onward s near (Some x)) p))
        (is_missing_in walk (walk.past s near (Some x)) (Some x) ss (pruned_in walk family (walk.past s near (Some x)) (Some x) ss ps))
        (walk_complete (walk.onward s near (Some x)) min_fill height lower (Some x) p n.2 (each_left (λ (e : E). walk.lacks (walk.shown e) ≡ false) (entries p) (entries_in ps) all))
        (each_complete (walk.past s near (Some x)) (Some x) height (Some x) upper ss ps n.3 (each_right (λ (e : E). walk.lacks (walk.shown e) ≡ false) (entries p) (entries_in ps) all))

  -- nor does it show more than is to be shown

  none_exceeds : ((e : E) → walk.exceeds (walk.shown e) ≡ false) → (es : List E) → list_any walk.exceeds (map walk.shown es) ≡ false
  none_exceeds f [] = refl
  none_exceeds f (e ∷ es) = or_from (walk.exceeds (walk.shown e)) (list_any walk.exceeds (map walk.shown es)) (f e) (none_exceeds f es)

  leaf_bare : ((e : E) → walk.exceeds (walk.shown e) ≡ false) → (s : S) (es : List E)
      → has_surplus_by walk s (cond {A = Part E M} (walk.opens s) (leaf (map walk.shown es)) (stub (digest_by family (leaf es)))) ≡ false
  leaf_bare f s es = step (walk.opens s) refl
    where
      step : (b : Bool) → walk.opens s ≡ b → has_surplus_by walk s (cond {A = Part E M} b (leaf (map walk.shown es)) (stub (digest_by family (leaf es)))) ≡ false
      step true e = or_from (not (walk.opens s)) (list_any walk.exceeds (map walk.shown es)) (not_from_true (walk.opens s) e) (none_exceeds f es)
      step false e = refl

  inner_bare : (s : S) (ss : List (List ℕ)) (ps : Parts E M) → has_surplus_in walk s None ss (pruned_in walk family s None ss ps) ≡ false
      → has_surplus_by walk s (cond (walk.opens s) (inner ss (pruned_in walk family s None ss ps)) (stub (digest_by family (inner ss ps)))) ≡ false
  inner_bare s ss ps f = step (walk.opens s) refl
    where
      step : (b : Bool) → walk.opens s ≡ b → has_surplus_by walk s (cond b (inner ss (pruned_in walk family s None ss ps)) (stub (digest_by family (inner ss ps)))) ≡ false
      step true e = or_from (not (walk.opens s)) (has_surplus_in walk s None ss (pruned_in walk family s None ss ps)) (not_from_true (walk.opens s) e) f
      step false e = refl

  mutual
    pub walk_bare : ((e : E) → walk.exceeds (walk.shown e) ≡ false) → (s : S) (t : Part E M) → has_surplus_by walk s (pruned_by walk family s t) ≡ false
    walk_bare f s (stub d) = refl
    walk_bare f s (leaf es) = leaf_bare f s es
    walk_bare f s (inner ss ps) = inner_bare s ss ps (each_bare f s None ss ps)

    each_bare : ((e : E) → walk.exceeds (walk.shown e) ≡ false) → (s : S) (lower : Option (List ℕ)) (ss : List (List ℕ)) (ps : Parts E M)
        → has_surplus_in walk s lower ss (pruned_in walk family s lower ss ps) ≡ false
    each_bare f s lower ss none = refl
    each_bare f s lower ss (more m p ps) =
        or_from (has_surplus_by walk (walk.onward s lower (slice_get ss 0)) (pruned_by walk family (walk.onward s lower (slice_get ss 0)) p))
        (has_surplus_in walk (walk.past s lower (slice_get ss 0)) (slice_get ss 0) (drop 1 ss) (pruned_in walk family (walk.past s lower (slice_get ss 0)) (slice_get ss 0) (drop 1 ss) ps))
        (walk_bare f (walk.onward s lower (slice_get ss 0)) p) (each_bare f (walk.past s lower (slice_get ss 0)) (slice_get ss 0) (drop 1 ss) ps)
