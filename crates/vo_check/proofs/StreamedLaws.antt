-- A reply to a query without a join or a limit is judged by its head and by what was found in its
-- trees.
use Rattle.std.proofs.Common.{◌≡◌, ℕ, ◌≤◌, arith, ◌==◌, Bool, true, false, ◌&&◌, ◌||◌, if◌then◌else◌, List, [], ◌∷◌, length, map, Option, Some, None, is_some, Result, Ok, Err, refl, sym, ap, subst, ◌∙◌, inl, inr}
use Rattle.std.specs.List.{AllByRecursion, list_all}
use Rattle.std.specs.Prelude.{zip, bytes_eq, find, option_and_then, option_map, option_to_list, flat_map}
use Rattle.std.specs.Option.{option_map_or}
use Rattle.std.specs.Prelude.{IfOk}
use Rattle.std.specs.declared.alloc.AllocError.{AllocError}
use Rattle.std.proofs.lemmas.Bool.{eqb-true}
use Rattle.vo_spec.specs.declared.checks.CheckFault.{CheckFault}
use Rattle.vo_spec.specs.declared.checks.CheckFault.TheVariants.{WrongTrees, WrongShape, Missing, Surplus}
use Rattle.vo_spec.specs.declared.needs.Need.{Need}
use Rattle.vo_spec.specs.declared.needs.SeenRow.{SeenRow}
use Rattle.vo_spec.specs.declared.queries.Outcome.{Outcome}
use Rattle.vo_spec.specs.declared.queries.Outcome.TheVariants.{Rows, Wrong}
use Rattle.vo_spec.specs.declared.queries.QueryFault.{QueryFault}
use Rattle.vo_spec.specs.declared.values.Value.{Value}
use Rattle.vo_spec.specs.declared.records.Record.{Record}
use Rattle.vo_spec.specs.declared.tables.Schema.{Schema}
use Rattle.vo_spec.specs.Batches.{max_columns}
use Rattle.vo_spec.specs.Conditions.{Query}
use Rattle.vo_spec.specs.Records.{table_headers}
use Rattle.vo_spec.specs.Tables.{TableHeader}
use Rattle.vo_spec.specs.declared.records.Catalog.{Catalog}
use Rattle.vo_spec.specs.declared.records.CatalogTable.{CatalogTable}
use Rattle.vo_spec.specs.Checks.{has_shape, has_table_shape, root_fault, seen_outcome}
use Rattle.vo_spec.specs.Firsts.{first_some}
use Rattle.vo_spec.specs.Fits.{FitsTree}
use Rattle.vo_spec.specs.Cuts.{limited_need}
use Rattle.vo_spec.specs.Needs.{left_limit, uncut_need, tables_used, tree_at}
use Rattle.vo_spec.specs.Pruning.{is_missing, has_surplus}
use Rattle.vo_spec.specs.Replies.{Reply, FitsReply}
use Rattle.vo_spec.specs.Results.{BoundSource, ColumnPlace, RowView, binding_fault, bound_sources, header, no_schema, schema_at}
use Rattle.vo_spec.specs.Scans.{seen}
use Rattle.vo_spec.specs.Trees.{RowTree, digest}
use Rattle.query_binding.specs.HeldSources.{bound_source_seen, bound_sources_seen}
use Rattle.query_binding.specs.declared.bound_sources.BoundSource.{BoundSource as HeldBoundSource}
use Rattle.query_plan.specs.declared.bound_query.BoundJoin.{BoundJoin}
use Rattle.query_plan.specs.declared.bound_query.Query.{Query as HeldQuery}
use Rattle.query_plan.specs.BoundQueries.{BoundQuery, bound_query}
use Rattle.query_plan.proofs.MeaningLaws.{uncut_need_same}
use Rattle.query_plan.specs.BoundViews.{join_seen, query_seen}
use Rattle.query_plan.specs.Plans.{QueryPlan, bound_uncut_need, plan_meets, plan_need, plan_of}
use Rattle.plan_run.specs.Running.{group_needs, lefts_seen, needs_by, needs_of, run_needs, run_rows}
use Rattle.tree_stream.specs.declared.findings.Summary.{Summary}
use Rattle.tree_stream.specs.declared.findings.Findings.{Findings}
use Rattle.tree_stream.specs.declared.target.Target.{Target}
use Rattle.tree_stream.specs.Findings.{findings_in, no_target, target_of}
use Rattle.tree_stream.proofs.ShapeLaws.{shape_is}
use Rattle.tree_stream.proofs.FindingLaws.{missing_is, surplus_is}
use Rattle.tree_stream.proofs.RowLaws.{seen_is}
use Rattle.reply_stream.specs.declared.trees_summary.TreesSummary.{TreesSummary}
use Rattle.reply_stream.specs.ReplyHeads.{ReplyHead}
use Rattle.reply_stream.specs.ReplyParts.{Parts, head_in, parts_of}
use Rattle.reply_stream.specs.ReplyTrees.{first_summary, trees_summary}
use Rattle.held_replies.specs.Testing.{GivesIfPassed, any_missing, any_surplus, bare_reply, digest_fault, with_tables}
use Rattle.held_replies.specs.Ordering.{JudgesFound, count_fault_of, fault_if, fault_unless, found_fault}
use Rattle.held_replies.specs.Judging.{bound_fault, findings_by, head_fault, needed_for, proof_fault, shown_for}
use Rattle.held_replies.proofs.ReplyTests.{bound_same, wrong_same}
use Rattle.vo_check.specs.Streamed.{HasFound, HasSchema, IsSummedUp, ShowsSeen, bound_target, findings_of, plan_for, table_of, target_for}
use Rattle.vo_check.proofs.RisingColumns.{columns_rise}

-- A query without a join has one source, and reads one tree.

no_right : (j : Option BoundJoin) (right : Option HeldBoundSource) → is_some j ≡ is_some right → j ≡ None → right ≡ None
no_right j None e none = refl
no_right j (Some s) e none = absurd cc

one_source : (h : HeldQuery) → h.join ≡ None → bound_sources_seen h.bound_sources ≡ bound_source_seen h.bound_sources.left ∷ []
one_source h none =
    ap (λ (right : Option HeldBoundSource). bound_source_seen h.bound_sources.left ∷ option_to_list (option_map bound_source_seen right))
    (no_right h.join h.bound_sources.right h.joined none)

one_used : (ss : List BoundSource) (s : BoundSource) → ss ≡ s ∷ [] → tables_used ss ≡ s.table ∷ []
one_used ss s one = ap tables_used one

-- The tests of one tree.

and_true : (b : Bool) → (b && true) ≡ b
and_true true = refl
and_true false = refl

or_false : (b : Bool) → (b || false) ≡ b
or_false true = refl
or_false false = refl

alone : (o : Option CheckFault) → first_some (o ∷ []) ≡ o
alone None = refl
alone (Some f) = refl

-- its shape
shaped_one : (table : Option CatalogTable) (tree : RowTree) (s : Summary) → ((t : CatalogTable) → table ≡ Some t → has_shape t.schema tree ≡ s.findings.has_shape)
    → list_all has_table_shape ((table, tree) ∷ []) ≡ option_map_or (λ (t : CatalogTable). s.findings.has_shape) table true
shaped_one None tree s shape = refl
shaped_one (Some t) tree s shape = and_true (has_shape t.schema tree) ∙ shape t refl

-- its root
rooted_one : (table : Option CatalogTable) (tree : RowTree) (s : Summary) → digest tree ≡ s.digest
    → first_some (map root_fault ((table, tree) ∷ [])) ≡ option_and_then (λ (t : CatalogTable). digest_fault t s.digest) table
rooted_one None tree s same = refl
rooted_one (Some t) tree s same = alone (digest_fault t (digest tree)) ∙ ap (digest_fault t) same

-- A bound query without a join, and without a limit.

abbrev fault_by : ℕ → ℕ → Bool → Option CheckFault → Bool → Bool → Option CheckFault
fault_by wanted count shaped rooted missing surplus =
    found_fault (record { wanted = wanted; count = count; have_shapes = shaped; root_fault = rooted; is_missing = missing; has_surplus = surplus })

no_right_needs : (p : QueryPlan) (lefts : List RowView) → p.query.join ≡ None → needs_of p lefts ≡ []
no_right_needs p lefts none = ap (λ (j : Option (ColumnPlace × ColumnPlace)). flat_map (λ on. flat_map (needs_by p on) lefts) (option_to_list j)) none

-- what it needs of its tree no row changes
uncut : (p : QueryPlan) (tree : RowTree) → p.query.join ≡ None → p.query.limit ≡ None → plan_need p tree ≡ p.uncut_need
uncut p tree none unlimited =
    ap (λ (limit : Option ℕ). limited_need p.uncut_need (plan_meets p) limit tree) (ap (λ (j : Option (ColumnPlace × ColumnPlace)). left_limit j p.query.limit) none ∙ unlimited)

needs_alone : (p : QueryPlan) (s : BoundSource) (trees : List RowTree) → p.query.bound_sources ≡ s ∷ [] → p.query.join ≡ None → p.query.limit ≡ None
    → run_needs p trees ≡ (p.uncut_need ∷ []) ∷ []
needs_alone p s trees one none unlimited =
    let left : RowTree = tree_at trees 0 in
    ap (λ (ss : List BoundSource). group_needs ss (plan_need p left) (needs_of p (lefts_seen p left))) one
    ∙ ap (λ (ns : List Need). (plan_need p left ∷ ns) ∷ []) (no_right_needs p (lefts_seen p left) none)
    ∙ ap (λ (n : Need). (n ∷ []) ∷ []) (uncut p left none unlimited)

module _ (h : HeldQuery) (none : h.join ≡ None) (unlimited : h.limit ≡ None) where
  abbrev b : BoundQuery
  b = query_seen h

  abbrev source : BoundSource
  source = bound_source_seen h.bound_sources.left

  unjoined : b.join ≡ None
  unjoined = ap (option_map join_seen) none

  names : tables_used b.bound_sources ≡ source.table ∷ []
  names = one_used b.bound_sources source (one_source h none)

  -- with another number of trees than one
  pub other_count : (r : Reply) (f : CheckFault) → count_fault_of 1 (length r.trees) ≡ Some f → bound_fault b r ≡ Some f
  other_count r f e = ap (λ (ns : List (List ℕ)). found_fault (findings_by ns (plan_of b) r)) names ∙ rw e refl

  module _ (r : Reply) (tree : RowTree) (s : Summary) (one : r.trees ≡ tree ∷ []) (schema : HasSchema b r.catalog) (sum : IsSummedUp (bound_target b) tree s) where
    abbrev target : Target
    target = bound_target b

    abbrev table : Option CatalogTable
    table = table_of b r.catalog

    of_findings : {A : Type 0} (f : Findings → A) → f (findings_in target tree) ≡ f s.findings
    of_findings f = sym (ap (λ (t : Summary). f t.findings) sum.1)

    shape : (t : CatalogTable) → table ≡ Some t → has_shape t.schema tree ≡ s.findings.has_shape
    shape t e =
        ap (λ sc. has_shape sc tree) (schema t e)
        ∙ shape_is (bound_uncut_need b) (schema_at b.bound_sources 0) tree sum.0.nodes
        ∙ of_findings (λ f. f.has_shape)

    paired : with_tables (tables_used b.bound_sources) r.catalog.tables r.trees ≡ (table, tree) ∷ []
    paired = ap (λ (ns : List (List ℕ)). with_tables ns r.catalog.tables r.trees) names ∙ ap (with_tables (source.table ∷ []) r.catalog.tables) one

    shapes : list_all has_table_shape (with_tables (tables_used b.bound_sources) r.catalog.tables r.trees) ≡ option_map_or (λ (t : CatalogTable). s.findings.has_shape) table true
    shapes = ap (list_all has_table_shape) paired ∙ shaped_one table tree s shape

    roots : first_some (map root_fault (with_tables (tables_used b.bound_sources) r.catalog.tables r.trees)) ≡ option_and_then (λ (t : CatalogTable). digest_fault t s.digest) table
    roots = ap (λ (ts : List (Option CatalogTable × RowTree)). first_some (map root_fault ts)) paired ∙ rooted_one table tree s (sym (ap (λ (t : Summary). t.digest) sum.1))

    needed : needed_for (plan_of b) r ≡ (bound_uncut_need b ∷ [], tree) ∷ []
    needed =
        ap (λ (ns : List (List Need)). zip ns r.trees) (needs_alone (plan_of b) source r.trees (one_source h none) unjoined unlimited)
        ∙ ap (λ (ts : List RowTree). zip (((plan_of b).uncut_need ∷ []) ∷ []) ts) one

    missing : any_missing (needed_for (plan_of b) r) ≡ s.findings.is_missing
    missing = ap any_missing needed ∙ or_false (is_missing (bound_uncut_need b ∷ []) tree) ∙ missing_is target tree sum.0.nodes ∙ of_findings (λ f. f.is_missing)

    surplus : any_surplus (needed_for (plan_of b) r) ≡ s.findings.has_surplus
    surplus = ap any_surplus needed ∙ or_false (has_surplus (bound_uncut_need b ∷ []) tree) ∙ surplus_is target tree sum.0.nodes ∙ of_findings (λ f. f.has_surplus)

    pub one_tree : bound_fault b r ≡ found_fault (findings_of table (length r.trees) s)
    one_tree =
        let p : QueryPlan = plan_of b in
        let pairs : List (Option CatalogTable × RowTree) = with_tables (tables_used b.bound_sources) r.catalog.tables r.trees in
        let shaped : Bool = option_map_or (λ (t : CatalogTable). s.findings.has_shape) table true in
        let rooted : Option CheckFault = option_and_then (λ (t : CatalogTable). digest_fault t s.digest) table in
        ap (λ (n : ℕ). fault_by n (length r.trees) (list_all has_table_shape pairs) (first_some (map root_fault pairs)) (any_missing (needed_for p r)) (any_surplus (needed_for p r))) (ap (λ (ns : List (List ℕ)). length ns) names)
        ∙ ap (λ (v : Bool). fault_by 1 (length r.trees) v (first_some (map root_fault pairs)) (any_missing (needed_for p r)) (any_surplus (needed_for p r))) shapes
        ∙ ap (λ (o : Option CheckFault). fault_by 1 (length r.trees) shaped o (any_missing (needed_for p r)) (any_surplus (needed_for p r))) roots
        ∙ ap (λ (m : Bool). fault_by 1 (length r.trees) shaped rooted m (any_surplus (needed_for p r))) missing
        ∙ ap (λ (x : Bool). fault_by 1 (length r.trees) shaped rooted s.findings.is_missing x) surplus

-- Where a summary passes its tests, the rows are those that the scan gives.

none_found : (c h o : Option CheckFault) (m x : Bool) → first_some (c ∷ h ∷ o ∷ fault_if m Missing ∷ fault_if x Surplus ∷ []) ≡ None → (m ≡ false) × (x ≡ false)
none_found (Some f) h o m x e = absurd cc
none_found None (Some f) o m x e = absurd cc
none_found None None (Some f) m x e = absurd cc
none_found None None None true x e = absurd cc
none_found None None None false true e = absurd cc
none_found None None None false false e = (refl, refl)

passed_rows : (b : BoundQuery) (table : Option CatalogTable) (count : ℕ) (tree : RowTree) (s : Summary) → IsSummedUp (bound_target b) tree s → found_fault (findings_of table count s) ≡ None
    → seen (bound_uncut_need b) tree ≡ Some s.findings.rows
passed_rows b table count tree s (fits, same) e =
    let f = findings_of table count s in
    let none = none_found (count_fault_of f.wanted f.count) (fault_unless f.have_shapes WrongShape) f.root_fault s.findings.is_missing s.findings.has_surplus e in
    let findings : s.findings ≡ findings_in (bound_target b) tree = ap (λ (t : Summary). t.findings) same in
    seen_is (bound_target b) (columns_rise b 0) tree fits.nodes (sym (ap (λ (f : Findings). f.is_missing) findings) ∙ none.0) (sym (ap (λ (f : Findings). f.has_surplus) findings) ∙ none.1)
    ∙ ap (λ (f : Findings). Some f.rows) (sym findings)

-- The trees of a reply, by what was found in them.

-- one tree, which has the summary of the first
one_by : (target : Target) (trees : List RowTree) (s : Summary) → length trees ≡ 1 → Some s ≡ first_summary target trees → AllByRecursion FitsTree trees
    → (tree : RowTree) × (trees ≡ tree ∷ []) × IsSummedUp target tree s
one_by target [] s e found fits = absurd cc
one_by target (tree ∷ t ∷ trees) s e found fits = absurd (omega (arith, e))
one_by target (tree ∷ []) s e found fits = (tree, refl, (fits.0, cc))

no_tree_by : (target : Target) (trees : List RowTree) → None ≡ first_summary target trees → length trees ≡ 0
no_tree_by target [] e = refl
no_tree_by target (tree ∷ trees) e = absurd cc

-- where the tests find one fault either way
same_found : (result : Result Outcome CheckFault) (found other : Option CheckFault) (f : CheckFault) (titles : List (List ℕ)) (Shows : List (List Value) → Type 0) (value : Outcome)
    → found ≡ Some f → other ≡ Some f → JudgesFound result found titles Shows → GivesIfPassed result other value
same_found (Ok outcome) found other f titles Shows value is also given = let none : Some f ≡ None = sym is ∙ given.0 in absurd cc
same_found (Err fault) found other f titles Shows value is also (inl memory) = inl memory
same_found (Err fault) found other f titles Shows value is also (inr e) = inr (also ∙ sym is ∙ e)

-- where a plan shows the rows of the one tree
shown_one : (result : Result Outcome CheckFault) (found other : Option CheckFault) (titles : List (List ℕ)) (Shows : List (List Value) → Type 0) (rows : List (List Value))
    → other ≡ found → (found ≡ None → (shown : List (List Value)) → Shows shown → shown ≡ rows) → JudgesFound result found titles Shows → GivesIfPassed result other (Rows titles rows)
shown_one (Ok outcome) found other titles Shows rows also same (none, shown, is, shows) =
    (also ∙ none, is ∙ ap (λ (rs : List (List Value)). Rows titles rs) (same none shown shows))
shown_one (Err fault) found other titles Shows rows also same (inl memory) = inl memory
shown_one (Err fault) found other titles Shows rows also same (inr e) = inr (also ∙ e)

module _ (h : HeldQuery) (none : h.join ≡ None) (unlimited : h.limit ≡ None) (c : Catalog) (trees : TreesSummary) (r : Reply) (found : HasFound (bound_target (query_seen h)) c trees r) where
  abbrev bound : BoundQuery
  bound = query_seen h

  abbrev titles : List (List ℕ)
  titles = header bound.bound_sources bound.items

  counted : trees.count ≡ length r.trees
  counted = ap (λ (t : TreesSummary). t.count) found.2

  pub no_tree : trees.first ≡ None → bound_fault bound r ≡ Some (WrongTrees 1 0)
  no_tree first =
      let empty : length r.trees ≡ 0 = no_tree_by (bound_target bound) r.trees (sym first ∙ ap (λ (t : TreesSummary). t.first) found.2) in
      other_count h none unlimited r (WrongTrees 1 0) (ap (count_fault_of 1) empty)

  module _ (schema : HasSchema bound c) (s : Summary) (first : trees.first ≡ Some s) (result : Result Outcome CheckFault)
      (given : JudgesFound result (found_fault (findings_of (table_of bound c) trees.count s)) titles (ShowsSeen (plan_of bound) s.findings.rows)) where
    by_count : (is_one : Bool) → (length r.trees == 1) ≡ is_one → GivesIfPassed result (bound_fault bound r) (shown_for (plan_of bound) r)
    by_count false e =
        let other : count_fault_of 1 (length r.trees) ≡ Some (WrongTrees 1 (length r.trees)) = ap (λ (b : Bool). if b then None else Some (WrongTrees 1 (length r.trees))) e in
        let counts : count_fault_of 1 trees.count ≡ Some (WrongTrees 1 (length r.trees)) = ap (count_fault_of 1) counted ∙ other in
        same_found result (found_fault (findings_of (table_of bound c) trees.count s)) (bound_fault bound r) (WrongTrees 1 (length r.trees)) titles (ShowsSeen (plan_of bound) s.findings.rows) (shown_for (plan_of bound) r)
        (rw counts refl) (other_count h none unlimited r (WrongTrees 1 (length r.trees)) other) given
    by_count true e =
        let one = one_by (bound_target bound) r.trees s (eqb-true (length r.trees) 1 e) (sym first ∙ ap (λ (t : TreesSummary). t.first) found.2) found.0.trees in
        let here : HasSchema bound r.catalog = subst (HasSchema bound) (sym found.1) schema in
        let tests : bound_fault bound r ≡ found_fault (findings_of (table_of bound c) trees.count s) =
        one_tree h none unlimited r one.0 s one.1 here one.2
        ∙ ap (λ (k : Catalog). found_fault (findings_of (table_of bound k) (length r.trees) s)) found.1
        ∙ ap (λ (n : ℕ). found_fault (findings_of (table_of bound c) n s)) (sym counted) in
        shown_one result (found_fault (findings_of (table_of bound c) trees.count s)) (bound_fault bound r) titles (ShowsSeen (plan_of bound) s.findings.rows) (run_rows (plan_of bound) r.trees) tests
        (λ passed shown shows. shows one.0 (passed_rows bound (table_of bound c) trees.count one.0 s one.2 passed) ∙ ap (run_rows (plan_of bound)) (sym one.1))
        given

    pub judged_by_summary : GivesIfPassed result (bound_fault bound r) (shown_for (plan_of bound) r)
    judged_by_summary = by_count (length r.trees == 1) refl

-- what a plan of the query shows
pub judged_by_plan : (b : BoundQuery) (p : QueryPlan) → p ≡ plan_of b → (result : Result Outcome CheckFault) (found : Option CheckFault) (rows : List SeenRow)
    → JudgesFound result found (header p.query.bound_sources p.query.items) (ShowsSeen p rows) → JudgesFound result found (header b.bound_sources b.items) (ShowsSeen (plan_of b) rows)
judged_by_plan b p is result found rows given =
    subst (λ (x : QueryPlan). JudgesFound result found (header x.query.bound_sources x.query.items) (ShowsSeen x rows)) is given

-- a target that is the same
pub target_same : (result : Result Target AllocError) (x y : Target) → x ≡ y → IfOk result (λ target. target ≡ x) → IfOk result (λ target. target ≡ y)
target_same result x y same found = subst (λ (t : Target). IfOk result (λ target. target ≡ t)) same found

-- Binding.

abbrev pub few_left : BoundQuery → Type 0
few_left b = length (schema_at b.bound_sources 0).columns ≤ max_columns

abbrev pub few_right : BoundQuery → Type 0
few_right b = length (schema_at b.bound_sources 1).columns ≤ max_columns

abbrev schema_or : Option TableHeader → Schema
schema_or h = option_map_or (λ (h : TableHeader). h.schema) h no_schema

abbrev header_in : CatalogTable → TableHeader
header_in t = record { name = t.name; schema = t.schema; count = t.rows }

found_or : (b : Bool) (t table : CatalogTable) (o : Option CatalogTable) (h : Option TableHeader) → (o ≡ Some table → table.schema ≡ schema_or h) → (if b then Some t else o) ≡ Some table
    → table.schema ≡ schema_or (if b then Some (header_in t) else h)
found_or true t table o h next e = let same : table ≡ t = cc in ap (λ (x : CatalogTable). x.schema) same
found_or false t table o h next e = next e

schema_found : (name : List ℕ) (tables : List CatalogTable) (table : CatalogTable) → find (λ (t : CatalogTable). bytes_eq t.name name) tables ≡ Some table
    → table.schema ≡ schema_or (find (λ (h : TableHeader). bytes_eq h.name name) (map header_in tables))
schema_found name [] table e = absurd cc
schema_found name (t ∷ tables) table e =
    found_or (bytes_eq t.name name) t table (find (λ (t : CatalogTable). bytes_eq t.name name) tables) (find (λ (h : TableHeader). bytes_eq h.name name) (map header_in tables))
    (schema_found name tables table) e

module _ (c : Catalog) (q : Query) where
  abbrev ss : List BoundSource
  ss = bound_sources (table_headers c) q

  bound_schema : HasSchema (bound_query ss q) c
  bound_schema table e = schema_found q.left.table c.tables table e

  module _ (b : BoundQuery) (is : b ≡ bound_query ss q) where
    pub has_schema : HasSchema b c
    has_schema = subst (λ (x : BoundQuery). HasSchema x c) (sym is) bound_schema

    module _ (none : binding_fault (table_headers c) q ≡ None) where
      pub same_target : bound_target b ≡ target_for q c
      same_target =
          ap bound_target is
          ∙ ap (λ (n : Need). target_of n (schema_at ss 0)) (uncut_need_same ss q)
          ∙ sym (ap (λ (f : Option QueryFault). if is_some f then no_target else target_of (uncut_need ss q) (schema_at ss 0)) none)

      pub judged_bound : (trees : TreesSummary) (r : Reply) (result : Result Outcome CheckFault)
          → (HasFound (bound_target b) c trees r → GivesIfPassed result (bound_fault b r) (shown_for (plan_of b) r)) → HasFound (target_for q c) c trees r
          → GivesIfPassed result (proof_fault q r) (seen_outcome q r.catalog r.trees)
      judged_bound trees r result given found =
          let here : HasFound (bound_target b) c trees r = subst (λ (t : Target). HasFound t c trees r) (sym same_target) found in
          let bound : b ≡ bound_query (bound_sources (table_headers r.catalog) q) q = is ∙ ap (λ (k : Catalog). bound_query (bound_sources (table_headers k) q) q) (sym found.1) in
          bound_same q r (ap (λ (k : Catalog). binding_fault (table_headers k) q) found.1 ∙ none) result
          (subst (λ (x : BoundQuery). GivesIfPassed result (bound_fault x r) (shown_for (plan_of x) r)) bound (given here))

-- A query that doesn't bind wants no trees.

pub judged_wrong : (q : Query) (c : Catalog) (trees : TreesSummary) (r : Reply) (fault : QueryFault) → binding_fault (table_headers c) q ≡ Some fault → HasFound (target_for q c) c trees r
    → (result : Result Outcome CheckFault) → GivesIfPassed result (count_fault_of 0 trees.count) (Wrong fault) → GivesIfPassed result (proof_fault q r) (seen_outcome q r.catalog r.trees)
judged_wrong q c trees r fault wrong found result given =
    wrong_same q r fault (ap (λ (k : Catalog). binding_fault (table_headers k) q) found.1 ∙ wrong) trees.count (ap (λ (t : TreesSummary). t.count) found.2) result given

-- What comes before the trees.

module _ (q : Query) (head : ReplyHead) (trees : TreesSummary) (r : Reply) (parts : parts_of (plan_for q) r ≡ (head, trees)) where
  head_is : head_in r ≡ head
  head_is = ap (λ (p : Parts). p.0) parts

  pub same_record : r.rec ≡ head.rec
  same_record = ap (λ (h : ReplyHead). h.rec) head_is

  pub head_tests : (key : List ℕ) (least : ℕ) (rec : Record) (signature : List ℕ) (c : Catalog) → rec ≡ head.rec → signature ≡ head.signature → c ≡ head.catalog
      → head_fault key least (bare_reply rec signature c) ≡ head_fault key least r
  head_tests key least rec signature c same_rec same_signature same_catalog =
      ap (λ (x : Record). head_fault key least (bare_reply x signature c)) same_rec
      ∙ ap (λ (x : List ℕ). head_fault key least (bare_reply head.rec x c)) same_signature
      ∙ ap (λ (x : Catalog). head_fault key least (bare_reply head.rec head.signature x)) same_catalog
      ∙ ap (λ (h : ReplyHead). head_fault key least (bare_reply h.rec h.signature h.catalog)) (sym head_is)

  pub has_found : FitsReply r → (c : Catalog) → c ≡ head.catalog → HasFound (target_for q c) c trees r
  has_found fits c same =
      let catalogs : r.catalog ≡ c = ap (λ (h : ReplyHead). h.catalog) head_is ∙ sym same in
      (fits, catalogs, sym (ap (λ (p : Parts). p.1) parts) ∙ ap (λ (k : Catalog). trees_summary (target_for q k) r.trees) catalogs)
