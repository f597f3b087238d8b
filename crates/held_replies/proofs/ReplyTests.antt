-- The tests of a reply, one after another.
use Rattle.std.specs.Prelude.{not, zip}
use Rattle.std.specs.List.{list_all}
use Rattle.std.proofs.Common.{◌≡◌, ℕ, Bool, true, false, if◌then◌else◌, List, [], ◌∷◌, length, map, Option, Some, None, is_some, Result, Ok, Err, refl, sym, ap, subst, ◌∙◌, ◌⊎◌, inl, inr}
use Rattle.vo_spec.specs.declared.checks.CheckFault.{CheckFault}
use Rattle.vo_spec.specs.declared.checks.CheckFault.TheVariants.{Missing, Memory}
use Rattle.vo_spec.specs.declared.queries.QueryFault.{QueryFault}
use Rattle.vo_spec.specs.declared.queries.Outcome.{Outcome}
use Rattle.vo_spec.specs.declared.queries.Outcome.TheVariants.{Rows, Wrong}
use Rattle.vo_spec.specs.declared.values.Value.{Value}
use Rattle.vo_spec.specs.declared.needs.Need.{Need}
use Rattle.vo_spec.specs.Trees.{RowTree}
use Rattle.vo_spec.specs.Firsts.{first_some, unless}
use Rattle.vo_spec.specs.Conditions.{Query}
use Rattle.vo_spec.specs.Records.{table_headers}
use Rattle.vo_spec.specs.Replies.{Reply}
use Rattle.vo_spec.specs.Results.{BoundSource, bound_sources, binding_fault, header, outcome, answer_rows}
use Rattle.vo_spec.specs.Needs.{tables_used, needs, seen_lefts, seen_rights}
use Rattle.vo_spec.specs.Checks.{key_fault, leaf_fault, signature_fault, age_fault, catalog_fault, count_fault, trees_of, shape_fault, root_fault, missing_fault, surplus_fault, check_fault, seen_outcome, has_table_shape}
use Rattle.query_plan.specs.BoundQueries.{BoundQuery, bound_query}
use Rattle.query_plan.specs.Plans.{QueryPlan, plan_of}
use Rattle.plan_run.proofs.ByNames.{rows_same, needs_same}
use Rattle.held_replies.specs.Ordering.{JudgesFound, TreeFindings, count_fault_of, fault_if, found_fault}
use Rattle.held_replies.specs.Testing.{GivesIfPassed, PassesTests, any_missing, any_surplus, with_tables}
use Rattle.held_replies.specs.Judging.{ShowsRun, bound_fault, findings_by, findings_for, head_fault, proof_fault, record_fault, shown_for}

-- Lists of faults in groups.

alone : {F : Type 0} (o : Option F) → first_some (o ∷ []) ≡ o
alone None = refl
alone (Some f) = refl

then_none : {F : Type 0} (o : Option F) → first_some (o ∷ None ∷ None ∷ None ∷ None ∷ []) ≡ o
then_none None = refl
then_none (Some f) = refl

four_one : {F : Type 0} (a b c d e : Option F) (rest : List (Option F))
    → first_some (a ∷ b ∷ c ∷ d ∷ e ∷ rest) ≡ first_some (first_some (a ∷ b ∷ c ∷ d ∷ []) ∷ e ∷ first_some rest ∷ [])
four_one (Some f) b c d e rest = refl
four_one None (Some f) c d e rest = refl
four_one None None (Some f) d e rest = refl
four_one None None None (Some f) e rest = refl
four_one None None None None (Some f) rest = refl
four_one None None None None None rest = sym (alone (first_some rest))

two_one : {F : Type 0} (a b c : Option F) → first_some (a ∷ b ∷ c ∷ []) ≡ first_some (first_some (a ∷ b ∷ []) ∷ c ∷ [])
two_one (Some f) b c = refl
two_one None (Some f) c = refl
two_one None None c = refl

-- The tests of a bound query.

-- what is shown where the tests of what was found are passed
pub shown_found : (r : Reply) (p : QueryPlan) (names : List (List ℕ)) → names ≡ tables_used p.query.bound_sources → (result : Result Outcome CheckFault)
    → JudgesFound result (found_fault (findings_by names p r)) (header p.query.bound_sources p.query.items) (ShowsRun p r)
    → GivesIfPassed result (found_fault (findings_for p r)) (shown_for p r)
shown_found r p names are (Ok outcome) (none, rows, is, shows) =
    (ap (λ ns. found_fault (findings_by ns p r)) (sym are) ∙ none, is ∙ ap (λ (rows : List (List Value)). Rows (header p.query.bound_sources p.query.items) rows) shows)
shown_found r p names are (Err fault) (inl memory) = inl memory
shown_found r p names are (Err fault) (inr found) = inr (ap (λ ns. found_fault (findings_by ns p r)) (sym are) ∙ found)

-- what is missed, and what the trees have more than is needed

pub missed : (m : Bool) (fault : CheckFault) → fault_if m Missing ≡ Some fault → (fault ≡ Missing) × (m ≡ true)
missed true fault e = let same : fault ≡ Missing = cc in (same, refl)
missed false fault e = absurd cc

pub not_missed : (m : Bool) → fault_if m Missing ≡ None → m ≡ false
not_missed true e = absurd cc
not_missed false e = refl

pub not_bare : (bare x : Bool) → bare ≡ not x → not bare ≡ x
not_bare true true e = absurd cc
not_bare true false e = refl
not_bare false true e = refl
not_bare false false e = absurd cc

-- a bound query is judged by its plan
pub by_plan : (b : BoundQuery) (r : Reply) (p : QueryPlan) → p ≡ plan_of b → (result : Result Outcome CheckFault)
    → GivesIfPassed result (found_fault (findings_for p r)) (shown_for p r) → GivesIfPassed result (bound_fault b r) (shown_for (plan_of b) r)
by_plan b r p is result given = subst (λ (x : QueryPlan). GivesIfPassed result (found_fault (findings_for x r)) (shown_for x r)) is given

-- The tests of trees.

-- the trees, each with its needs, and what they show, by names
abbrev needed_by : List BoundSource → Query → Reply → List (List Need × RowTree)
needed_by ss q r = zip (needs ss q r.trees) r.trees

abbrev shown_rows : List BoundSource → Query → Reply → Outcome
shown_rows ss q r = Rows (header ss q.items) (answer_rows ss q (seen_lefts ss q r.trees) (seen_rights ss q r.trees))

-- by whether the query is wrong
abbrev proof_by : Bool → List BoundSource → Query → Reply → Option CheckFault
proof_by b ss q r =
    let wanted = if b then [] else tables_used ss in
    let needed = if b then [] else needed_by ss q r in
    found_fault (record {
      wanted = length wanted;
      count = length r.trees;
      have_shapes = list_all has_table_shape (with_tables wanted r.catalog.tables r.trees);
      root_fault = first_some (map root_fault (with_tables wanted r.catalog.tables r.trees));
      is_missing = any_missing needed;
      has_surplus = any_surplus needed;
    })

proof_is : (q : Query) (r : Reply) (b : Bool) → is_some (binding_fault (table_headers r.catalog) q) ≡ b → proof_fault q r ≡ proof_by b (bound_sources (table_headers r.catalog) q) q r
unfolding proof_fault
proof_is q r b e = ap (λ (b : Bool). proof_by b (bound_sources (table_headers r.catalog) q) q r) e

module _ (q : Query) (r : Reply) where
  abbrev faults : Option QueryFault
  faults = binding_fault (table_headers r.catalog) q

  abbrev ss : List BoundSource
  ss = bound_sources (table_headers r.catalog) q

  found_for : List (List Need) → TreeFindings
  found_for ns = record {
    wanted = length (tables_used ss);
    count = length r.trees;
    have_shapes = list_all has_table_shape (with_tables (tables_used ss) r.catalog.tables r.trees);
    root_fault = first_some (map root_fault (with_tables (tables_used ss) r.catalog.tables r.trees));
    is_missing = any_missing (zip ns r.trees);
    has_surplus = any_surplus (zip ns r.trees);
  }

  bound_parts : faults ≡ None → proof_fault q r ≡ bound_fault (bound_query ss q) r
  unfolding found_for
  bound_parts e = proof_is q r false (ap is_some e) ∙ ap (λ (ns : List (List Need)). found_fault (found_for ns)) (sym (needs_same ss q r.trees))

  bound_outcome : faults ≡ None → seen_outcome q r.catalog r.trees ≡ shown_rows ss q r
  unfolding seen_outcome
  bound_outcome e = ap (λ f. outcome f (header ss q.items) (answer_rows ss q (seen_lefts ss q r.trees) (seen_rights ss q r.trees))) e

  wrong_parts : (f : QueryFault) → faults ≡ Some f → proof_fault q r ≡ count_fault_of 0 (length r.trees)
  wrong_parts f e = proof_is q r true (ap is_some e) ∙ then_none (count_fault_of 0 (length r.trees))

  wrong_outcome : (f : QueryFault) → faults ≡ Some f → seen_outcome q r.catalog r.trees ≡ Wrong f
  unfolding seen_outcome
  wrong_outcome f e = ap (λ f. outcome f (header ss q.items) (answer_rows ss q (seen_lefts ss q r.trees) (seen_rights ss q r.trees))) e

  -- a reply to a bound query is judged as one to its query
  pub bound_same : faults ≡ None → (result : Result Outcome CheckFault) → GivesIfPassed result (bound_fault (bound_query ss q) r) (shown_for (plan_of (bound_query ss q)) r)
      → GivesIfPassed result (proof_fault q r) (seen_outcome q r.catalog r.trees)
  bound_same e result given =
      let shown : seen_outcome q r.catalog r.trees ≡ shown_for (plan_of (bound_query ss q)) r =
      bound_outcome e ∙ ap (λ (rows : List (List Value)). Rows (header ss q.items) rows) (sym (rows_same ss q r.trees)) in
      rw (bound_parts e, shown) given

  -- and one to a query that doesn't bind by the number of its trees
  pub wrong_same : (f : QueryFault) → faults ≡ Some f → (count : ℕ) → count ≡ length r.trees → (result : Result Outcome CheckFault) → GivesIfPassed result (count_fault_of 0 count) (Wrong f)
      → GivesIfPassed result (proof_fault q r) (seen_outcome q r.catalog r.trees)
  wrong_same f e count same result given =
      subst (λ (o : Outcome). GivesIfPassed result (proof_fault q r) o) (sym (wrong_outcome f e))
      (subst (λ (o : Option CheckFault). GivesIfPassed result o (Wrong f)) (ap (count_fault_of 0) same ∙ sym (wrong_parts f e)) given)

-- All tests.

module _ (key : List ℕ) (least : ℕ) (q : Query) (r : Reply) where
  reply_parts : check_fault key least q r ≡ first_some (record_fault key least r ∷ catalog_fault r ∷ proof_fault q r ∷ [])
  unfolding check_fault proof_fault
  reply_parts = four_one (key_fault key r) (leaf_fault key r) (signature_fault key r) (age_fault least r) (catalog_fault r)
      (count_fault q r ∷ shape_fault q r ∷ first_some (map root_fault (trees_of q r)) ∷ missing_fault q r ∷ surplus_fault q r ∷ [])

  head_first : check_fault key least q r ≡ first_some (head_fault key least r ∷ proof_fault q r ∷ [])
  head_first = reply_parts ∙ two_one (record_fault key least r) (catalog_fault r) (proof_fault q r)

  pub refused_head : (fault : CheckFault) → PassesTests (Err fault) (head_fault key least r) → PassesTests (Err fault) (check_fault key least q r)
  refused_head fault (inl memory) = inl memory
  refused_head fault (inr found) = inr (head_first ∙ rw found refl)

  pub left_to_trees : head_fault key least r ≡ None → check_fault key least q r ≡ proof_fault q r
  left_to_trees passed = head_first ∙ rw passed (alone (proof_fault q r))

pub answered : {A : Type 0} (result : Result A CheckFault) (found : Option CheckFault) (value : A) → GivesIfPassed result found value
    → (result ≡ Err Memory) ⊎ (result ≡ unless found value)
answered (Ok x) found value given = inr (rw (given.0, given.1) refl)
answered (Err fault) found value (inl memory) = inl (ap Err memory)
answered (Err fault) found value (inr e) = inr (rw e refl)
