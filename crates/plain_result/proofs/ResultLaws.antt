-- From what a bound query shows of plain tables to the result of the query.
use Rattle.std.proofs.Common.{◌≡◌, ℕ, ◌+◌, ◌<◌, Bool, true, false, cond, List, ◌∷◌, ◌++◌, length, get_or, drop, map, Option, Some, None, refl, sym, ap, ◌∙◌, append_assoc}
use Rattle.std.specs.Prelude.{filter, flat_map, option_map}
use Rattle.vo_spec.specs.declared.tables.Table.{Table}
use Rattle.vo_spec.specs.declared.queries.Outcome.TheVariants.{Rows}
use Rattle.vo_spec.specs.Conditions.{Query}
use Rattle.vo_spec.specs.Tables.{TableHeader, table_header_of, table_header_named, table_named}
use Rattle.vo_spec.specs.Results.{BoundSource, ColumnPlace, RowView, bound_sources, row_views_at, first_rows, answer_rows, header, outcome, binding_fault, result}
use Rattle.table_list.proofs.PlainLaws.{table_header_by_name}
use Rattle.query_plan.specs.BoundConditions.{BoundCondition}
use Rattle.query_plan.specs.BoundQueries.{BoundQuery, bound_query}
use Rattle.query_plan.specs.Plans.{plan_of}
use Rattle.query_plan.specs.Answers.{left_answers, plain_rows}
use Rattle.query_plan.proofs.AnswerLaws.{filter_at, plain_same}
use Rattle.plain_result.specs.RowViews.{meets, row_views_for, right_row_views}

pub schema_by_name : (name : List ℕ) (tables : List Table) (o : Option Table) → table_named name tables ≡ o
    → option_map (λ (h : TableHeader). h.schema) (table_header_named name (map table_header_of tables)) ≡ option_map (λ (t : Table). t.schema) o
schema_by_name name tables None e = rw (table_header_by_name name tables) (rw e refl)
schema_by_name name tables (Some t) e = rw (table_header_by_name name tables) (rw e refl)

-- one left row further: it shows its answers, or nothing where it doesn't meet the left condition
module _ {A B : Type 0} (test : RowView → Bool) (f : RowView → List B) (g : A → RowView) (xs : List A) (i : ℕ) (x : A) (front all : List B) where
  abbrev after : List RowView
  after = filter test (map g (drop (i + 1) xs))

  pub row_shown : i < length xs → x ≡ get_or xs i x → test (g x) ≡ true → front ++ flat_map f (filter test (map g (drop i xs))) ≡ all
      → (front ++ f (g x)) ++ flat_map f after ≡ all
  row_shown lt is kept e =
      let here : filter test (map g (drop i xs)) ≡ g x ∷ after = filter_at test g xs i x lt is ∙ ap (λ b. cond b (g x ∷ after) after) kept in
      rw append_assoc (ap (λ ls. front ++ flat_map f ls) (sym here) ∙ e)

  pub row_passed : i < length xs → x ≡ get_or xs i x → test (g x) ≡ false → front ++ flat_map f (filter test (map g (drop i xs))) ≡ all
      → front ++ flat_map f after ≡ all
  row_passed lt is passed e =
      let here : filter test (map g (drop i xs)) ≡ after = filter_at test g xs i x lt is ∙ ap (λ b. cond b (g x ∷ after) after) passed in
      ap (λ ls. front ++ flat_map f ls) (sym here) ∙ e

-- a left row alone needs no right ones
rights_same : (b : BoundQuery) (late : List BoundCondition) (o : Option (ColumnPlace × ColumnPlace)) (tables : List Table) (lefts : List RowView)
    → flat_map (left_answers b late o (row_views_for o tables b.bound_sources)) lefts ≡ flat_map (λ left. left_answers b late o (row_views_at tables b.bound_sources 1) left) lefts
rights_same b late None tables lefts = refl
rights_same b late (Some on) tables lefts = refl

pub plain_are : (b : BoundQuery) (tables : List Table) (left late : List BoundCondition) (lefts rights : List RowView)
    → left ≡ (plan_of b).left → late ≡ (plan_of b).late → lefts ≡ row_views_at tables b.bound_sources 0 → rights ≡ right_row_views b tables
    → first_rows b.limit (flat_map (left_answers b late b.join rights) (filter (meets left) lefts)) ≡ plain_rows (plan_of b) tables
plain_are b tables left late lefts rights l a ls rs =
    rw (l, a, ls, rs) (ap (first_rows b.limit) (rights_same b (plan_of b).late b.join tables (filter (meets (plan_of b).left) (row_views_at tables b.bound_sources 0))))

-- the answer of a query that passes all tests
pub answered : (q : Query) (tables : List Table) (b : BoundQuery) → binding_fault (map table_header_of tables) q ≡ None → b ≡ bound_query (bound_sources (map table_header_of tables) q) q
    → Rows (header b.bound_sources b.items) (plain_rows (plan_of b) tables) ≡ result q tables
unfolding result
answered q tables b passed is =
    let ss : List BoundSource = bound_sources (map table_header_of tables) q in
    ap (λ (c : BoundQuery). Rows (header c.bound_sources c.items) (plain_rows (plan_of c) tables)) is
    ∙ ap (Rows (header ss q.items)) (plain_same ss q tables)
    ∙ ap (λ fault. outcome fault (header ss q.items) (answer_rows ss q (row_views_at tables ss 0) (λ _. row_views_at tables ss 1))) (sym passed)
