-- The trees of two accepted replies of one catalog can be compared; and where the left ones give
-- one walk, the plan needs the same of all.
use Rattle.std.proofs.Common.{◌≡◌, ◌==◌, ℕ, suc, ◌<◌, Bool, true, false, if◌then◌else◌, List, [], ◌∷◌, length, map, zip, get_or, Option, Some, None, is_some, refl, sym, ap, ◌∙◌, subst, arith}
use Rattle.std.specs.Prelude.{filter, flat_map, option_to_list, unwrap_or}
use Rattle.std.specs.List.{list_any, AllZip}
use Rattle.std.proofs.lemmas.Bool.{or_from}
use Rattle.vo_spec.specs.declared.checks.CheckFault.{CheckFault}
use Rattle.vo_spec.specs.declared.checks.CheckFault.TheVariants.{Missing, Surplus}
use Rattle.vo_spec.specs.declared.needs.Need.{Need}
use Rattle.vo_spec.specs.declared.needs.SeenRow.{SeenRow}
use Rattle.vo_spec.specs.declared.records.Catalog.{Catalog}
use Rattle.vo_spec.specs.declared.queries.QueryFault.{QueryFault}
use Rattle.vo_spec.specs.Firsts.{first_some}
use Rattle.vo_spec.specs.Conditions.{Query}
use Rattle.vo_spec.specs.Cuts.{cut_need, limited_need}
use Rattle.vo_spec.specs.Results.{BoundSource, ColumnPlace, bound_sources, binding_fault, schema_at}
use Rattle.vo_spec.specs.Records.{table_headers}
use Rattle.vo_spec.specs.Trees.{RowTree}
use Rattle.vo_spec.specs.Pruning.{IsCanonical, is_missing, has_surplus}
use Rattle.vo_spec.specs.Needs.{tables_used, tree_at, needs, left_need, left_limit, right_needs, seen_row_view, seen_row_views}
use Rattle.vo_spec.specs.Replies.{Reply, FitsReply}
use Rattle.vo_spec.specs.Checks.{tables_wanted, root_fault, needs_with_trees}
use Rattle.mb_tree.specs.declared.parts.PartTree.{PartTree}
use Rattle.mb_tree.specs.View.{part_of}
use Rattle.query_plan.specs.BoundQueries.{bound_query}
use Rattle.query_plan.specs.Plans.{QueryPlan, plan_of, plan_meets, meets_left}
use Rattle.plan_run.specs.Running.{group_needs, needs_by, run_needs}
use Rattle.plan_run.proofs.ByNames.{needs_same}
use Rattle.vo_spec.specs.Walks.{walk, AreOneWalk}
use Rattle.vo_laws.proofs.OneCut.{one_cut}
use Rattle.vo_laws.proofs.ScanWalks.{walk_complete}
use Rattle.tree_collide.proofs.OneWalk.{walks_seen}
use Rattle.reply_meeting.specs.Accepting.{HasPassed}
use Rattle.reply_meeting.specs.Comparing.{AreTwins, AreComparable}
use Rattle.reply_meeting.proofs.TwinTrees.{zip_with_tables, tables_there, are_twins, are_canonical}

abbrev missing_of : List (List Need × RowTree) → Option CheckFault
missing_of ts = if list_any (λ (t : List Need × RowTree). is_missing t.0 t.1) ts then Some Missing else None

abbrev surplus_of : List (List Need × RowTree) → Option CheckFault
surplus_of ts = if list_any (λ (t : List Need × RowTree). has_surplus t.0 t.1) ts then Some Surplus else None

-- a list of needs for each table that is used
groups_count : (b : Bool) (one other : List ℕ) (left : Need) (rights : List Need) → let names : List (List ℕ) = if b then one ∷ [] else one ∷ other ∷ [] in
    length (if length names == 1 then (left ∷ rights) ∷ [] else (left ∷ []) ∷ rights ∷ []) ≡ length names
groups_count true one other left rights = refl
groups_count false one other left rights = refl

module _ (q : Query) (r : Reply) where
  abbrev ss : List BoundSource
  ss = bound_sources (table_headers r.catalog) q

  wanted_by : (b : Bool) → is_some (binding_fault (table_headers r.catalog) q) ≡ b → tables_wanted q r.catalog ≡ (if b then [] else tables_used ss)
  wanted_by b e = ap (λ (x : Bool). if x then [] else tables_used ss) e

  needed_by : (b : Bool) → is_some (binding_fault (table_headers r.catalog) q) ≡ b → needs_with_trees q r ≡ (if b then [] else zip (needs ss q r.trees) r.trees)
  needed_by b e = ap (λ (x : Bool). if x then [] else zip (needs ss q r.trees) r.trees) e

  pub bound_count : binding_fault (table_headers r.catalog) q ≡ None → HasPassed q r → length r.trees ≡ length (tables_used ss)
  bound_count e passed = passed.count ∙ ap length (wanted_by false (ap is_some e))

  empty_by : (trees : List RowTree) → length trees ≡ 0 → trees ≡ []
  empty_by [] e = refl
  empty_by (t ∷ trees) e = absurd (cc)

  -- a wrong query has no trees
  pub no_trees : (fault : QueryFault) → binding_fault (table_headers r.catalog) q ≡ Some fault → HasPassed q r → r.trees ≡ []
  no_trees fault e passed = empty_by r.trees (passed.count ∙ ap length (wanted_by true (ap is_some e)))

  bound_roots : binding_fault (table_headers r.catalog) q ≡ None → HasPassed q r → first_some (map root_fault (zip_with_tables r.catalog (tables_used ss) r.trees)) ≡ None
  bound_roots e passed = ap (λ (names : List (List ℕ)). first_some (map root_fault (zip_with_tables r.catalog names r.trees))) (sym (wanted_by false (ap is_some e))) ∙ passed.roots

  needs_canonical : binding_fault (table_headers r.catalog) q ≡ None → HasPassed q r → AllZip IsCanonical (needs ss q r.trees) r.trees
  needs_canonical e passed =
      let given = needed_by false (ap is_some e) in
      are_canonical (needs ss q r.trees) r.trees (groups_count _ _ _ (left_need ss q (tree_at r.trees 0)) (right_needs ss q r.trees) ∙ sym (bound_count e passed))
      (subst (λ (ts : List (List Need × RowTree)). missing_of ts ≡ None) given passed.complete)
      (subst (λ (ts : List (List Need × RowTree)). surplus_of ts ≡ None) given passed.minimal)

-- what an accepted reply shows to a query that binds
record IsShown (c : Catalog) (q : Query) (trees : List RowTree) : Type 0 where
  count : length trees ≡ length (tables_used (bound_sources (table_headers c) q))
  roots : first_some (map root_fault (zip_with_tables c (tables_used (bound_sources (table_headers c) q)) trees)) ≡ None
  canonical : AllZip IsCanonical (run_needs (plan_of (bound_query (bound_sources (table_headers c) q) q)) trees) trees

shown : (q : Query) (r : Reply) → binding_fault (table_headers r.catalog) q ≡ None → HasPassed q r → IsShown r.catalog q r.trees
shown q r e passed = record {
  count = bound_count q r e passed;
  roots = bound_roots q r e passed;
  canonical = subst (λ (ns : List (List Need)). AllZip IsCanonical ns r.trees) (sym (needs_same (bound_sources (table_headers r.catalog) q) q r.trees)) (needs_canonical q r e passed);
}

pub comparable : (q : Query) (r s : Reply) → FitsReply r → FitsReply s → HasPassed q r → HasPassed q s → r.catalog ≡ s.catalog → binding_fault (table_headers r.catalog) q ≡ None
    → AreComparable (plan_of (bound_query (bound_sources (table_headers r.catalog) q) q)) r.trees s.trees
comparable q r s f g passed second_passed same e =
    let one = shown q r e passed in
    let binds : binding_fault (table_headers s.catalog) q ≡ None = subst (λ (c : Catalog). binding_fault (table_headers c) q ≡ None) same e in
    let other = subst (λ (c : Catalog). IsShown c q s.trees) (sym same) (shown q s binds second_passed) in
    record {
      count = one.count;
      twins = are_twins r.catalog (tables_used (bound_sources (table_headers r.catalog) q)) r.trees s.trees one.count other.count (tables_there r.catalog q e) f.trees g.trees one.roots other.roots;
      canonical = one.canonical;
      second_canonical = other.canonical;
    }

-- Trees of two lists.

pub zip_length : {A B : Type 0} (R : A → B → Type 0) (xs : List A) (ys : List B) → AllZip R xs ys → length xs ≡ length ys
zip_length R [] [] z = refl
zip_length R [] (y ∷ ys) z = absurd z
zip_length R (x ∷ xs) [] z = absurd z
zip_length R (x ∷ xs) (y ∷ ys) z = ap suc (zip_length R xs ys z.1)

pub some_used : (plan : QueryPlan) → 0 < length (tables_used plan.query.bound_sources)
some_used plan = some _ _ _
  where
    some : (b : Bool) (one other : List ℕ) → 0 < length (if b then one ∷ [] else one ∷ other ∷ [])
    some true one other = omega arith
    some false one other = omega arith

pub first_twins : (ps qs : List PartTree) (p q : PartTree) → 0 < length ps → p ≡ get_or ps 0 p → 0 < length qs → q ≡ get_or qs 0 q → AllZip AreTwins (map part_of ps) (map part_of qs) → AreTwins (part_of p) (part_of q)
first_twins [] qs p q m p_is n q_is z = absurd (omega arith)
first_twins (x ∷ ps) [] p q m p_is n q_is z = absurd (omega arith)
first_twins (x ∷ ps) (y ∷ qs) p q m p_is n q_is z =
    subst (λ (b : PartTree). AreTwins (part_of p) (part_of b)) (sym q_is) (subst (λ (a : PartTree). AreTwins (part_of a) (part_of y)) (sym p_is) z.0)

pub first_same : (ps qs : List PartTree) (p q : PartTree) → 0 < length ps → p ≡ get_or ps 0 p → 0 < length qs → q ≡ get_or qs 0 q → map part_of ps ≡ map part_of qs → part_of p ≡ part_of q
first_same [] qs p q m p_is n q_is e = absurd (omega arith)
first_same (x ∷ ps) [] p q m p_is n q_is e = absurd (omega arith)
first_same (x ∷ ps) (y ∷ qs) p q m p_is n q_is e = ap part_of p_is ∙ heads (part_of x) (part_of y) (map part_of ps) (map part_of qs) e ∙ sym (ap part_of q_is)
  where
    heads : (a b : RowTree) (xs ys : List RowTree) → (a ∷ xs) ≡ (b ∷ ys) → a ≡ b
    heads a b xs ys e = cc

pub none_missed : (needs : List (List Need)) (ps : List RowTree) → AllZip IsCanonical needs ps → list_any (λ (t : List Need × RowTree). is_missing t.0 t.1) (zip needs ps) ≡ false
none_missed [] [] z = refl
none_missed [] (p ∷ ps) z = absurd z
none_missed (ns ∷ needs) [] z = absurd z
none_missed (ns ∷ needs) (p ∷ ps) z = or_from (is_missing ns p) _ z.0.complete (none_missed needs ps z.1)

-- Where the walks for the uncut need are one, all needs are the same: in a join by what the walks
-- show, which have ends; else the left need alone is wanted, and the walks cut it alike.

-- the needs of each tree, by the left one
abbrev needs_from : QueryPlan → Option (ColumnPlace × ColumnPlace) → Option ℕ → RowTree → List (List Need)
needs_from plan join limit p =
    let left = limited_need plan.uncut_need (plan_meets plan) (left_limit join limit) p in
    group_needs plan.query.bound_sources left
    (flat_map (λ on. flat_map (needs_by plan on) (filter (meets_left plan) (seen_row_views (schema_at plan.query.bound_sources 0) left p))) (option_to_list join))

left_ends : (b : Bool) (left : Need) (rights : List Need) (p : RowTree) (ps : List RowTree) → AllZip IsCanonical (if b then (left ∷ rights) ∷ [] else (left ∷ []) ∷ rights ∷ []) (p ∷ ps) → (walk left p).has_end ≡ true
left_ends true left rights p ps z = walk_complete [] left rights p z.0.complete
left_ends false left rights p ps z = walk_complete [] left [] p z.0.complete

-- a left need without others, for which nothing is missing
alone_complete : (b : Bool) (left : Need) (p : RowTree) (ps : List RowTree) → AllZip IsCanonical (if b then (left ∷ []) ∷ [] else (left ∷ []) ∷ [] ∷ []) (p ∷ ps) → is_missing (left ∷ []) p ≡ false
alone_complete true left p ps z = z.0.complete
alone_complete false left p ps z = z.0.complete

needs_by_walks : (plan : QueryPlan) (join : Option (ColumnPlace × ColumnPlace)) (limit : Option ℕ) (p q : RowTree) (ps qs : List RowTree) → AreOneWalk (walk plan.uncut_need p) (walk plan.uncut_need q)
    → AllZip IsCanonical (needs_from plan join limit p) (p ∷ ps) → AllZip IsCanonical (needs_from plan join limit q) (q ∷ qs) → needs_from plan join limit p ≡ needs_from plan join limit q
needs_by_walks plan None None p q ps qs one y z = refl
needs_by_walks plan None (Some n) p q ps qs one y z =
    ap (λ (left : Need). group_needs plan.query.bound_sources left [])
    (one_cut plan.uncut_need (plan_meets plan) n p q one
    (alone_complete _ (cut_need plan.uncut_need (plan_meets plan) n p) p ps y) (alone_complete _ (cut_need plan.uncut_need (plan_meets plan) n q) q qs z))
needs_by_walks plan (Some on) limit p q ps qs one y z =
    ap (λ (rows : Option (List SeenRow)). group_needs plan.query.bound_sources plan.uncut_need (flat_map (λ on. flat_map (needs_by plan on)
    (filter (meets_left plan) (map (seen_row_view (schema_at plan.query.bound_sources 0) plan.uncut_need.columns) (unwrap_or rows [])))) (on ∷ [])))
    (walks_seen plan.uncut_need p q one (left_ends _ plan.uncut_need _ p ps y) (left_ends _ plan.uncut_need _ q qs z))

one_needs : (plan : QueryPlan) (p q : RowTree) (ps qs : List RowTree) → AreComparable plan (p ∷ ps) (q ∷ qs) → AreOneWalk (walk plan.uncut_need p) (walk plan.uncut_need q) → run_needs plan (p ∷ ps) ≡ run_needs plan (q ∷ qs)
one_needs plan p q ps qs both one = needs_by_walks plan plan.query.join plan.query.limit p q ps qs one both.canonical both.second_canonical

pub same_needs : (plan : QueryPlan) (ps qs : List PartTree) (p q : PartTree) → 0 < length ps → p ≡ get_or ps 0 p → 0 < length qs → q ≡ get_or qs 0 q → AreComparable plan (map part_of ps) (map part_of qs)
    → AreOneWalk (walk plan.uncut_need (part_of p)) (walk plan.uncut_need (part_of q)) → run_needs plan (map part_of ps) ≡ run_needs plan (map part_of qs)
same_needs plan [] qs p q m p_is n q_is both one = absurd (omega arith)
same_needs plan (x ∷ ps) [] p q m p_is n q_is both one = absurd (omega arith)
same_needs plan (x ∷ ps) (y ∷ qs) p q m p_is n q_is both one =
    one_needs plan (part_of x) (part_of y) (map part_of ps) (map part_of qs) both
    (subst (λ (b : PartTree). AreOneWalk (walk plan.uncut_need (part_of x)) (walk plan.uncut_need (part_of b))) q_is
    (subst (λ (a : PartTree). AreOneWalk (walk plan.uncut_need (part_of a)) (walk plan.uncut_need (part_of q))) p_is one))
