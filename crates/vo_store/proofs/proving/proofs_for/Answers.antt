use Rattle.std.proofs.Common.{◌≡◌, ℕ, ◌≤◌, List, Some, None, length, sym, ap, subst, ◌∙◌, IfOk}
use Rattle.vo_spec.specs.Batches.{max_columns}
use Rattle.vo_spec.specs.Conditions.{Query, query_of}
use Rattle.vo_spec.specs.Records.{table_headers}
use Rattle.vo_spec.specs.Tables.{TableHeader}
use Rattle.vo_spec.specs.Results.{schema_at, bound_sources, binding_fault}
use Rattle.vo_spec.specs.Scans.{seen}
use Rattle.vo_spec.specs.Honest.{Stored, catalog_of}
use Rattle.stored_tables.specs.Representation.{IsStanding}
use Rattle.vo_format.specs.View.{row_trees_of}
use Rattle.query_plan.specs.BoundQueries.{BoundQuery, bound_query}
use Rattle.query_plan.specs.BoundViews.{query_seen}
use Rattle.query_plan.specs.Plans.{plan_of}
use Rattle.vo_store.specs.Proving.{HasTables, tree_by, left_need_by, plan_proofs, proofs_of}
use Rattle.vo_store.proofs.ProofLaws.{narrow, bound_source_there, plan_same, plan_shown, no_proofs}
use Rattle.vo_store.proofs.proving.proofs_for.Goals as goal

module _ (stored : List Stored) (standing : IsStanding stored) (q : Query) (hs : List TableHeader) (hs_are : hs ≡ table_headers (catalog_of stored)) (b : BoundQuery) (is : b ≡ bound_query (bound_sources hs q) q)
    (none : binding_fault hs q ≡ None) where
  bound : b ≡ bound_query (bound_sources (table_headers (catalog_of stored)) q) q
  bound = is ∙ ap (λ (k : List TableHeader). bound_query (bound_sources k q) q) hs_are

  right : binding_fault (table_headers (catalog_of stored)) q ≡ None
  right = ap (λ (k : List TableHeader). binding_fault k q) (sym hs_are) ∙ none

  tables_there : HasTables stored b.bound_sources
  tables_there = subst (λ (x : BoundQuery). HasTables stored x.bound_sources) (sym bound) (bound_source_there stored q right)

  few_by : (i : ℕ) → length (schema_at b.bound_sources i).columns ≤ max_columns
  few_by i = subst (λ (x : BoundQuery). length (schema_at x.bound_sources i).columns ≤ max_columns) (sym bound) (narrow stored standing q i)

  shown_by : seen (left_need_by (plan_of b) stored) (tree_by (plan_of b) stored 0) ≡ None → ⊥
  shown_by = subst (λ (x : BoundQuery). seen (left_need_by (plan_of x) stored) (tree_by (plan_of x) stored 0) ≡ None → ⊥) (sym bound) (plan_shown stored standing q)

  proofs_by : plan_proofs (plan_of b) stored ≡ proofs_of q stored
  proofs_by = ap (λ (x : BoundQuery). plan_proofs (plan_of x) stored) bound ∙ plan_same stored standing q right

pub bound_proofs-requires-clause-tables : goal.bound_proofs-requires-clause-tables
bound_proofs-requires-clause-tables c =
    tables_there c.args.tables.now c.requires.standing (query_of c.args.query.now) (table_headers c.args.catalog.now) (ap table_headers c.requires.catalog) (query_seen c.in-Ok.query) c.in-Ok.ensures.value c.in-Ok.ensures.fault

pub bound_proofs-requires-clause-left : goal.bound_proofs-requires-clause-left
bound_proofs-requires-clause-left c =
    few_by c.args.tables.now c.requires.standing (query_of c.args.query.now) (table_headers c.args.catalog.now) (ap table_headers c.requires.catalog) (query_seen c.in-Ok.query) c.in-Ok.ensures.value c.in-Ok.ensures.fault 0

pub bound_proofs-requires-clause-right : goal.bound_proofs-requires-clause-right
bound_proofs-requires-clause-right c =
    few_by c.args.tables.now c.requires.standing (query_of c.args.query.now) (table_headers c.args.catalog.now) (ap table_headers c.requires.catalog) (query_seen c.in-Ok.query) c.in-Ok.ensures.value c.in-Ok.ensures.fault 1

pub bound_proofs-requires-clause-shown : goal.bound_proofs-requires-clause-shown
bound_proofs-requires-clause-shown c =
    shown_by c.args.tables.now c.requires.standing (query_of c.args.query.now) (table_headers c.args.catalog.now) (ap table_headers c.requires.catalog) (query_seen c.in-Ok.query) c.in-Ok.ensures.value c.in-Ok.ensures.fault

pub returns-in-Ok : goal.returns-in-Ok
returns-in-Ok c =
    subst (λ trees. IfOk c.bound_proofs.result (λ proofs. row_trees_of proofs ≡ trees))
    (proofs_by c.args.tables.now c.requires.standing (query_of c.args.query.now) (table_headers c.args.catalog.now) (ap table_headers c.requires.catalog) (query_seen c.in-Ok.query) c.in-Ok.ensures.value c.in-Ok.ensures.fault)
    c.bound_proofs.ensures

pub returns-in-Err-Wrong : goal.returns-in-Err-Wrong
returns-in-Err-Wrong c =
    let stored = c.args.tables.now in
    let q = query_of c.args.query.now in
    let wrong : binding_fault (table_headers (catalog_of c.args.tables.now)) (query_of c.args.query.now) ≡ Some c.in-Err-Wrong.field-0-0 =
    ap (λ k. binding_fault (table_headers k) (query_of c.args.query.now)) (sym c.requires.catalog) ∙ rw (c.in-Err-Wrong.is, c.in-Err-Wrong.field-0-is) at c.bind.ensures.fault in
    rw c.new.ensures.items (sym (no_proofs stored c.requires.standing q c.in-Err-Wrong.field-0-0 wrong))
