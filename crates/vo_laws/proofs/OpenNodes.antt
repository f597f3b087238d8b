-- What is open of a part without surplus for needs that have no key above one doesn't begin above
-- that key.
use Rattle.std.proofs.Common.{◌≡◌, ℕ, Bool, true, false, cond, List, [], ◌∷◌, Option, Some, None, refl, subst}
use Rattle.std.specs.Prelude.{not, slice_get, drop}
use Rattle.std.specs.List.{list_any, AllByRecursion}
use Rattle.std.proofs.lemmas.Bool.{or_parts, or_from, and_parts, not-true, not-false}
use Rattle.vo_spec.specs.declared.keys.Bound.TheVariants.{Inclusive}
use Rattle.vo_spec.specs.declared.needs.Need.{Need}
use Rattle.vo_spec.specs.declared.needs.SeenRow.{SeenRow}
use Rattle.vo_spec.specs.Values.{key_lt}
use Rattle.vo_spec.specs.Parts.{stub, leaf, inner, none, more}
use Rattle.vo_spec.specs.Trees.{RowTree, RowTrees}
use Rattle.vo_spec.specs.Scans.{is_empty_interval, ends_above, begins_below, visits}
use Rattle.vo_spec.specs.Pruning.{has_surplus_by, has_surplus_in, walk_for, at_root, descend, is_any, has_surplus}
use Rattle.vo_spec.specs.Walks.{walk}
use Rattle.vo_spec.specs.Cuts.{RowCondition, nth_met, cut_at, cut_need}
use Rattle.vo_laws.proofs.ListLaws.{each_filter}
use Rattle.vo_laws.specs.Cutting.{begins_above, opens_above, opens_above_in}

module _ (last : List ℕ) where
  abbrev EndsThere : Need → Type 0
  EndsThere need = need.interval.high ≡ Inclusive last

  not_above : (lower : Option (List ℕ)) → begins_below (Inclusive last) lower ≡ true → begins_above last lower ≡ false
  not_above None e = refl
  not_above (Some s) e = not-true (key_lt last s) e

  -- a child that some scan goes on to doesn't begin above the key
  some_visit : (lower upper : Option (List ℕ)) (needs : List Need) → AllByRecursion EndsThere needs → is_any (descend needs lower upper) ≡ true → begins_above last lower ≡ false
  some_visit lower upper [] all e = absurd (cc)
  some_visit lower upper (need ∷ needs) all e = step (visits need.interval lower upper) refl (some_visit lower upper needs all.1) e
    where
      step : (b : Bool) → visits need.interval lower upper ≡ b → (is_any (descend needs lower upper) ≡ true → begins_above last lower ≡ false)
          → is_any (cond b (need ∷ descend needs lower upper) (descend needs lower upper)) ≡ true → begins_above last lower ≡ false
      step true v rest e =
          let both = and_parts (ends_above need.interval.low upper) (begins_below need.interval.high lower) v in
          not_above lower (subst (λ high. begins_below high lower ≡ true) all.0 both.1)
      step false v rest e = rest e

  mutual
    node_opens : (needs going : List Need) (lower : Option (List ℕ)) (p : RowTree) → AllByRecursion EndsThere going → (is_any going ≡ true → begins_above last lower ≡ false)
        → has_surplus_by (walk_for needs) going p ≡ false → opens_above last lower p ≡ false
    node_opens needs going lower (stub d) all here s = refl
    node_opens needs going lower (leaf es) all here s = here (not-false (is_any going) (or_parts (not (is_any going)) (list_any (walk_for needs).exceeds es) s).0)
    node_opens needs going lower (inner ss ps) all here s =
        let both = or_parts (not (is_any going)) (has_surplus_in (walk_for needs) going None ss ps) s in
        let begins = here (not-false (is_any going) both.0) in
        or_from (begins_above last lower) (opens_above_in last lower ss ps) begins (nodes_open needs going None lower ss ps all (λ f. begins) both.1)

    nodes_open : (needs going : List Need) (near lower : Option (List ℕ)) (ss : List (List ℕ)) (ps : RowTrees) → AllByRecursion EndsThere going
        → (begins_above last near ≡ false → begins_above last lower ≡ false) → has_surplus_in (walk_for needs) going near ss ps ≡ false → opens_above_in last lower ss ps ≡ false
    nodes_open needs going near lower ss none all here s = refl
    nodes_open needs going near lower ss (more m p ps) all here s =
        let both = or_parts (has_surplus_by (walk_for needs) (descend going near (slice_get ss 0)) p) (has_surplus_in (walk_for needs) going (slice_get ss 0) (drop 1 ss) ps) s in
        or_from (opens_above last lower p) (opens_above_in last (slice_get ss 0) (drop 1 ss) ps)
        (node_opens needs (descend going near (slice_get ss 0)) lower p (each_filter EndsThere (λ need. visits need.interval near (slice_get ss 0)) going all) (λ e. here (some_visit near (slice_get ss 0) going all e)) both.0)
        (nodes_open needs going (slice_get ss 0) (slice_get ss 0) (drop 1 ss) ps all (λ f. f) both.1)

  pub none_above : (needs : List Need) (p : RowTree) → AllByRecursion EndsThere needs → has_surplus needs p ≡ false → opens_above last None p ≡ false
  none_above needs p all s = node_opens needs (at_root needs) None p (each_filter EndsThere (λ need. not (is_empty_interval need.interval)) needs all) (λ e. refl) s

pub opens_nothing : (need : Need) (meets : RowCondition) (n : ℕ) (p : RowTree) (row : SeenRow) → has_surplus (cut_need need meets n p ∷ []) p ≡ false
    → nth_met meets n (walk need p).rows ≡ Some row → opens_above row.key None p ≡ false
opens_nothing need meets n p row s e =
    none_above row.key (cut_at (Some row) need ∷ []) p (refl, tt) (subst (λ o. has_surplus (cut_at o need ∷ []) p ≡ false) e s)
