-- A tree that doesn't show what a need asks for misses something.
use Rattle.std.proofs.Common.{◌≡◌, ℕ, Bool, true, false, cond, List, [], ◌∷◌, Option, Some, None, length, inl, inr, refl, sym, ap, ◌∙◌, subst, arith}
use Rattle.std.specs.Prelude.{◌==◌, ◌||◌, ◌⊎◌, zip, flat_map, is_none, option_to_list}
use Rattle.std.specs.List.{list_any}
use Rattle.std.proofs.lemmas.Bool.{both_ways, or_left, or_right}
use Rattle.vo_spec.specs.declared.needs.Need.{Need}
use Rattle.vo_spec.specs.Results.{ColumnPlace, bound_source_at}
use Rattle.vo_spec.specs.Trees.{RowTree}
use Rattle.vo_spec.specs.Scans.{seen}
use Rattle.vo_spec.specs.Pruning.{is_missing}
use Rattle.vo_spec.specs.Needs.{same_table, tables_used, tree_at, right_tree}
use Rattle.vo_laws.proofs.ListLaws.{IsIn}
use Rattle.vo_laws.proofs.ScanLaws.{Shows, complete}
use Rattle.query_plan.specs.Plans.{QueryPlan, plan_need}
use Rattle.plan_run.specs.Running.{is_unseen, lefts_seen, needs_by as needs_at, needs_of, stops, is_any_missing}

shown_seen : {A : Type 0} (o : Option A) → Shows o → is_none o ≡ false
shown_seen None s = absurd s
shown_seen (Some x) s = refl

any_from : {A : Type 0} (test : A → Bool) (xs : List A) → ((x : A) → IsIn x xs → test x ≡ false) → list_any test xs ≡ false
any_from test [] f = refl
any_from test (x ∷ xs) f = rw (f x (inl refl)) (any_from test xs (λ y i. f y (inr i)))

pub unseen_missing : (ns : List Need) (p : RowTree) → list_any (is_unseen p) ns ≡ true → is_missing ns p ≡ true
unseen_missing ns p u = step (is_missing ns p) refl
  where
    step : (b : Bool) → is_missing ns p ≡ b → b ≡ true
    step true e = refl
    step false e =
        let all_seen : list_any (is_unseen p) ns ≡ false = any_from (is_unseen p) ns (λ n i. shown_seen (seen n p) (complete ns n p i e)) in
        absurd (both_ways (list_any (is_unseen p) ns) all_seen u)

module _ (first second : List ℕ) (left : Need) (rights : List Need) where
  abbrev names_by : Bool → List (List ℕ)
  names_by b = cond b (first ∷ []) (first ∷ second ∷ [])

  abbrev needs_by : Bool → List (List Need)
  needs_by b = cond (length (names_by b) == 1) ((left ∷ rights) ∷ []) ((left ∷ []) ∷ rights ∷ [])

  abbrev any_missing : Bool → List RowTree → Bool
  any_missing b ts = list_any (λ (t : List Need × RowTree). is_missing t.0 t.1) (zip (needs_by b) ts)

  left_by : (b : Bool) (ts : List RowTree) → length ts ≡ length (names_by b) → is_unseen (tree_at ts 0) left ≡ true → any_missing b ts ≡ true
  left_by true [] e u = absurd (omega arith)
  left_by false [] e u = absurd (omega arith)
  left_by true (t ∷ ts) e u = or_left _ _ (unseen_missing (left ∷ rights) t (or_left (is_unseen t left) (list_any (is_unseen t) rights) u))
  left_by false (t ∷ ts) e u = or_left _ _ (unseen_missing (left ∷ []) t (or_left (is_unseen t left) false u))

  right_by : (b : Bool) (ts : List RowTree) → length ts ≡ length (names_by b) → list_any (is_unseen (cond b (tree_at ts 0) (tree_at ts 1))) rights ≡ true → any_missing b ts ≡ true
  right_by true [] e u = absurd (omega arith)
  right_by false [] e u = absurd (omega arith)
  right_by false (t ∷ []) e u = absurd (omega arith)
  right_by true (t ∷ ts) e u = or_left _ _ (unseen_missing (left ∷ rights) t (or_right (is_unseen t left) (list_any (is_unseen t) rights) u))
  right_by false (t ∷ r ∷ ts) e u = or_right _ _ (or_left _ _ (unseen_missing rights r u))

either : (a b : Bool) → (a || b) ≡ true → (a ≡ true) ⊎ (b ≡ true)
either true b e = inl refl
either false b e = inr e

-- where a scan stops, some tree misses something
pub stopped_missing : (p : QueryPlan) (ts : List RowTree) → length ts ≡ length (tables_used p.query.bound_sources)
    → ((on : ColumnPlace × ColumnPlace) → p.query.join ≡ Some on → (length p.query.bound_sources == 1) ≡ false) → stops p ts ≡ true → is_any_missing p ts ≡ true
stopped_missing p ts e paired u =
    elim (either (is_unseen (tree_at ts 0) (plan_need p (tree_at ts 0))) (list_any (is_unseen (right_tree p.query.bound_sources ts)) (needs_of p (lefts_seen p (tree_at ts 0)))) u) [
      | inl l ↦ left_by (bound_source_at p.query.bound_sources 0).table (bound_source_at p.query.bound_sources 1).table (plan_need p (tree_at ts 0)) (needs_of p (lefts_seen p (tree_at ts 0))) (length p.query.bound_sources == 1 || same_table p.query.bound_sources) ts e l
      | inr r ↦ step p.query.join refl r
    ]
  where
    joined : (on : ColumnPlace × ColumnPlace) → p.query.join ≡ Some on → list_any (is_unseen (right_tree p.query.bound_sources ts)) (needs_of p (lefts_seen p (tree_at ts 0))) ≡ true → is_any_missing p ts ≡ true
    joined on is r =
        right_by (bound_source_at p.query.bound_sources 0).table (bound_source_at p.query.bound_sources 1).table (plan_need p (tree_at ts 0)) (needs_of p (lefts_seen p (tree_at ts 0))) (length p.query.bound_sources == 1 || same_table p.query.bound_sources) ts e
        (subst (λ b. list_any (is_unseen (cond (b || same_table p.query.bound_sources) (tree_at ts 0) (tree_at ts 1))) (needs_of p (lefts_seen p (tree_at ts 0))) ≡ true) (sym (paired on is)) r)

    step : (o : Option (ColumnPlace × ColumnPlace)) → p.query.join ≡ o → list_any (is_unseen (right_tree p.query.bound_sources ts)) (flat_map (λ on. flat_map (needs_at p on) (lefts_seen p (tree_at ts 0))) (option_to_list o)) ≡ true → is_any_missing p ts ≡ true
    step None is r = absurd (cc)
    step (Some on) is r = joined on is (ap (λ o. list_any (is_unseen (right_tree p.query.bound_sources ts)) (flat_map (λ on. flat_map (needs_at p on) (lefts_seen p (tree_at ts 0))) (option_to_list o))) is ∙ r)
