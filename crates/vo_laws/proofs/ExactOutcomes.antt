-- The outcome that complete proofs show is the query's result: where each tree of a reply prunes
-- the whole tree of its table and misses nothing, and the whole trees stand for the rows of plain
-- tables. A limit cuts what is needed of one source, and the answer alone of two.
use Rattle.std.proofs.Common.{◌≡◌, ℕ, Bool, true, false, cond, List, [], ◌∷◌, Option, Some, None, length, map, inl, inr, refl, sym, ap, ◌∙◌, subst, arith}
use Rattle.std.specs.Prelude.{◌⊎◌, ◌||◌, ◌==◌, not, filter, flat_map, zip, is_some}
use Rattle.std.specs.Option.{option_map_or}
use Rattle.std.specs.List.{list_any, AllByRecursion, AllZip}
use Rattle.std.proofs.lemmas.Bool.{or_parts, cases_Bool}
use Rattle.std.proofs.lemmas.List.{append-nil}
use Rattle.vo_spec.specs.declared.tables.Table.{Table}
use Rattle.vo_spec.specs.declared.needs.Need.{Need}
use Rattle.vo_spec.specs.declared.queries.Join.{Join}
use Rattle.vo_spec.specs.declared.queries.Items.{Items}
use Rattle.vo_spec.specs.declared.queries.Source.{Source}
use Rattle.vo_spec.specs.declared.queries.Outcome.{Outcome}
use Rattle.vo_spec.specs.declared.queries.QueryFault.{QueryFault}
use Rattle.vo_spec.specs.declared.checks.CheckFault.TheVariants.{Missing}
use Rattle.vo_spec.specs.Values.{is_null}
use Rattle.vo_spec.specs.Tables.{TableHeader, table_header_of, rows_named}
use Rattle.vo_spec.specs.Conditions.{Condition, comparisons, Query, FitsQuery}
use Rattle.vo_spec.specs.Results.{BoundSource, bound_source_of, schema_at, bound_sources, query_refs, join_fault, binding_fault, header, RowView, unlimited_rows, first_rows, answer_rows, outcome, row_views_at, result}
use Rattle.vo_spec.specs.Records.{table_headers}
use Rattle.vo_spec.specs.Trees.{RowTree, Prunes}
use Rattle.vo_spec.specs.Pruning.{is_missing}
use Rattle.vo_spec.specs.Needs.{meets_left, uncut_need, left_need, has_join_value, right_need, seen_row_views, seen_lefts, seen_rights, right_needs, needs, tables_used, same_table, right_tree}
use Rattle.vo_spec.specs.Checks.{needs_with_trees, missing_fault, seen_outcome}
use Rattle.vo_spec.specs.Replies.{Reply}
use Rattle.vo_spec.specs.Honest.{Stored, RepresentTables, catalog_of, stored_tree, trees_for}
use Rattle.vo_laws.specs.FittingTables.{FitTables}
use Rattle.vo_laws.proofs.ListLaws.{IsIn, in_left, in_filter, in_map}
use Rattle.vo_laws.proofs.ConditionLaws.{KindsAgree}
use Rattle.vo_laws.proofs.SeenLaws.{accepted}
use Rattle.vo_laws.proofs.AnswerLaws.{answer_of, agree_one, same_answer}
use Rattle.vo_laws.proofs.JoinLaws.{is_bytes, joins_on_key, no_value_gives_none, same_join_value, same_rights}
use Rattle.vo_laws.proofs.TablesByName.{same_table_headers, named_stands, named_keys}
use Rattle.vo_laws.proofs.BoundQueries.{kinds_bound, refs_bound, joins_bound, refs_of_first}
use Rattle.vo_laws.proofs.LeftAnswers.{HaveKeys, same_lefts}
use Rattle.vo_laws.proofs.LimitedAnswers.{limited_shown}
use Rattle.vo_laws.proofs.NamedFits.{named_fits, named_have}

-- Both sides of a query.

module _ (stored : List Stored) (tables : List Table) (stand : RepresentTables stored tables) where
  left_keys : (q : Query) → HaveKeys (schema_at (bound_sources (map table_header_of tables) q) 0) (rows_named q.left.table tables)
  left_keys q = named_keys q.left.table stored tables stand

  -- the whole trees of the tables that the query uses, and the needs of the trees that prune them
  abbrev Complete : Query → List RowTree → Type 0
  Complete q trees = AllZip Prunes trees (map (stored_tree stored) (tables_used (bound_sources (map table_header_of tables) q)))
      × (list_any (λ (t : List Need × RowTree). is_missing t.0 t.1) (zip (needs (bound_sources (map table_header_of tables) q) q trees) trees) ≡ false)

  one_source : (items : Items) (left : Source) (condition : Option Condition) (limit : Option ℕ) (trees : List RowTree)
      → let q : Query = record { items = items; left = left; join = None; condition = condition; limit = limit } in
      let ss : List BoundSource = bound_sources (map table_header_of tables) q in
      binding_fault (map table_header_of tables) q ≡ None → (limit ≡ None) ⊎ FitTables tables → FitsQuery q → Complete q trees
      → answer_rows ss q (seen_lefts ss q trees) (seen_rights ss q trees) ≡ answer_rows ss q (row_views_at tables ss 0) (λ l. row_views_at tables ss 1)
  one_source items left condition limit [] bound fit fits c = absurd c.0
  one_source items left condition limit (p ∷ more ∷ trees) bound fit fits c = absurd c.0.1
  one_source items left condition None (p ∷ []) bound fit fits c =
      let q : Query = record { items = items; left = left; join = None; condition = condition; limit = None } in
      let hs : List TableHeader = map table_header_of tables in
      let ss : List BoundSource = bound_sources hs q in
      let full = or_parts (is_missing (uncut_need ss q ∷ []) p) false c.1 in
      same_lefts ss q (omega arith) (kinds_bound hs q bound) fits (seen_rights ss q (p ∷ [])) (λ l. row_views_at tables ss 1) (uncut_need ss q ∷ []) p (stored_tree stored left.table) (rows_named left.table tables)
      (inl refl) full.0 c.0.0 (named_stands left.table stored tables stand) (left_keys q)
      (λ a b i alike. same_answer ss q (a ∷ []) (b ∷ []) (agree_one ss q a b (omega arith) alike))
  one_source items left condition (Some n) (p ∷ []) bound (inl e) fits c = absurd (cc)
  one_source items left condition (Some n) (p ∷ []) bound (inr fit) fits c =
      let q : Query = record { items = items; left = left; join = None; condition = condition; limit = Some n } in
      let hs : List TableHeader = map table_header_of tables in
      let ss : List BoundSource = bound_sources hs q in
      let full = or_parts (is_missing (left_need ss q p ∷ []) p) false c.1 in
      limited_shown ss (omega arith) items left condition n (kinds_bound hs q bound) fits (refs_of_first (bound_source_of hs left) (query_refs q) (refs_bound hs q bound))
      (stored_tree stored left.table) (rows_named left.table tables) (named_stands left.table stored tables stand) (left_keys q)
      (named_have ss q (rows_named left.table tables) (named_fits left.table tables fit.each))
      p c.0.0 full.0 (seen_rights ss q (p ∷ [])) (λ l. row_views_at tables ss 1)

  -- the right rows that are seen of a tree for this left row, and those of its table
  two_sources : (items : Items) (left : Source) (j : Join) (condition : Option Condition) (limit : Option ℕ) (trees : List RowTree)
      → let q : Query = record { items = items; left = left; join = Some j; condition = condition; limit = limit } in
      let ss : List BoundSource = bound_sources (map table_header_of tables) q in
      (lefts rights : List Need) (p r : RowTree)
      → seen_lefts ss q trees ≡ filter (meets_left ss q) (seen_row_views (schema_at ss 0) (uncut_need ss q) p)
      → ((a : RowView) → seen_rights ss q trees a ≡ seen_row_views (schema_at ss 1) (right_need ss q j a) r)
      → IsIn (uncut_need ss q) lefts → ((a : RowView) → IsIn a (seen_lefts ss q trees) → has_join_value ss j a ≡ true → IsIn (right_need ss q j a) rights)
      → is_missing lefts p ≡ false → is_missing rights r ≡ false
      → Prunes p (stored_tree stored left.table) → Prunes r (stored_tree stored j.right.table)
      → join_fault ss j ≡ None → AllByRecursion (KindsAgree ss) (option_map_or comparisons condition []) → FitsQuery q
      → unlimited_rows ss q (seen_lefts ss q trees) (seen_rights ss q trees) ≡ unlimited_rows ss q (row_views_at tables ss 0) (λ l. row_views_at tables ss 1)
  two_sources items left j condition limit trees lefts rights p r lefts_are rights_are i k full complete prunes others fault kinds fits =
      let q : Query = record { items = items; left = left; join = Some j; condition = condition; limit = limit } in
      let ss : List BoundSource = bound_sources (map table_header_of tables) q in
      rw lefts_are (same_lefts ss q (omega arith) kinds fits (seen_rights ss q trees) (λ l. row_views_at tables ss 1) lefts p (stored_tree stored left.table) (rows_named left.table tables)
      i full prunes (named_stands left.table stored tables stand) (left_keys q)
      (λ a b m alike. elim (cases_Bool (has_join_value ss j a)) [
        | inl e ↦ ap (flat_map (λ right. answer_of ss q (a ∷ right ∷ []))) (rights_are a)
            ∙ same_rights ss q j refl a b (seen_row_views (schema_at ss 1) (right_need ss q j a) r) (rows_named j.right.table tables) fault (omega arith) alike
            (named_keys j.right.table stored tables stand)
            (accepted (schema_at ss 1) rights (right_need ss q j a) r (stored_tree stored j.right.table) (rows_named j.right.table tables)
            (k a (subst (IsIn a) (sym lefts_are) m) e) complete others (named_stands j.right.table stored tables stand))
        | inr e ↦ no_value_gives_none ss q j refl a (joins_on_key ss j fault) e (seen_rights ss q trees a)
            ∙ sym (no_value_gives_none ss q j refl b (joins_on_key ss j fault) (ap (λ v. not (is_null v)) (sym (same_join_value ss q j refl a b (omega arith) alike)) ∙ e)
            (row_views_at tables ss 1))
      ]))

  module _ (items : Items) (left : Source) (j : Join) (condition : Option Condition) (limit : Option ℕ) where
    abbrev joining : Query
    joining = record { items = items; left = left; join = Some j; condition = condition; limit = limit }

    abbrev both_sources : List BoundSource
    both_sources = bound_sources (map table_header_of tables) joining

    rights_from : (trees : List RowTree) (r : RowTree) → right_tree both_sources trees ≡ r
        → (a : RowView) → seen_rights both_sources joining trees a ≡ seen_row_views (schema_at both_sources 1) (right_need both_sources joining j a) r
    rights_from trees r e a =
        append-nil (seen_row_views (schema_at both_sources 1) (right_need both_sources joining j a) (right_tree both_sources trees))
        ∙ ap (seen_row_views (schema_at both_sources 1) (right_need both_sources joining j a)) e

    right_needed : (trees : List RowTree) (a : RowView) → IsIn a (seen_lefts both_sources joining trees) → has_join_value both_sources j a ≡ true
        → IsIn (right_need both_sources joining j a) (right_needs both_sources joining trees)
    right_needed trees a i e =
        let with_value : List RowView = filter (has_join_value both_sources j) (seen_lefts both_sources joining trees) in
        in_left (map (right_need both_sources joining j) with_value) [] (right_need both_sources joining j a)
        (in_map (right_need both_sources joining j) with_value a (in_filter (has_join_value both_sources j) (seen_lefts both_sources joining trees) a i e))

    -- what a client asks of the trees of a join, by whether both sources are one table
    abbrev Full : Bool → List RowTree → Type 0
    Full same trees = list_any (λ (t : List Need × RowTree). is_missing t.0 t.1)
        (zip (cond (length (cond same (left.table ∷ []) (left.table ∷ j.right.table ∷ [])) == 1)
        ((uncut_need both_sources joining ∷ right_needs both_sources joining trees) ∷ [])
        ((uncut_need both_sources joining ∷ []) ∷ right_needs both_sources joining trees ∷ [])) trees) ≡ false

    abbrev JoinExact : List RowTree → Type 0
    JoinExact trees = unlimited_rows both_sources joining (seen_lefts both_sources joining trees) (seen_rights both_sources joining trees)
        ≡ unlimited_rows both_sources joining (row_views_at tables both_sources 0) (λ l. row_views_at tables both_sources 1)

    one_tree : join_fault both_sources j ≡ None → AllByRecursion (KindsAgree both_sources) (option_map_or comparisons condition []) → FitsQuery joining
        → same_table both_sources ≡ true → (trees : List RowTree) → AllZip Prunes trees (map (stored_tree stored) (left.table ∷ [])) → Full true trees → JoinExact trees
    one_tree fault kinds fits e [] prunes full = absurd prunes
    one_tree fault kinds fits e (p ∷ r ∷ trees) prunes full = absurd prunes.1
    one_tree fault kinds fits e (p ∷ []) prunes full =
        let ns : List Need = uncut_need both_sources joining ∷ right_needs both_sources joining (p ∷ []) in
        let complete = or_parts (is_missing ns p) false full in
        let table : left.table ≡ j.right.table = is_bytes left.table j.right.table e in
        two_sources items left j condition limit (p ∷ []) ns ns p p refl (rights_from (p ∷ []) p (rw e refl)) (inl refl) (λ a i e. inr (right_needed (p ∷ []) a i e))
        complete.0 complete.0 prunes.0 (subst (λ name. Prunes p (stored_tree stored name)) table prunes.0) fault kinds fits

    two_trees : join_fault both_sources j ≡ None → AllByRecursion (KindsAgree both_sources) (option_map_or comparisons condition []) → FitsQuery joining
        → same_table both_sources ≡ false → (trees : List RowTree) → AllZip Prunes trees (map (stored_tree stored) (left.table ∷ j.right.table ∷ [])) → Full false trees → JoinExact trees
    two_trees fault kinds fits e [] prunes full = absurd prunes
    two_trees fault kinds fits e (p ∷ []) prunes full = absurd prunes.1
    two_trees fault kinds fits e (p ∷ r ∷ s ∷ trees) prunes full = absurd prunes.1.1
    two_trees fault kinds fits e (p ∷ r ∷ []) prunes full =
        let complete = or_parts (is_missing (uncut_need both_sources joining ∷ []) p) (is_missing (right_needs both_sources joining (p ∷ r ∷ [])) r || false) full in
        let others = or_parts (is_missing (right_needs both_sources joining (p ∷ r ∷ [])) r) false complete.1 in
        two_sources items left j condition limit (p ∷ r ∷ []) (uncut_need both_sources joining ∷ []) (right_needs both_sources joining (p ∷ r ∷ [])) p r refl
        (rights_from (p ∷ r ∷ []) r (rw e refl)) (inl refl) (λ a i e. right_needed (p ∷ r ∷ []) a i e)
        complete.0 others.0 prunes.0 prunes.1.0 fault kinds fits

    joined : (trees : List RowTree) → join_fault both_sources j ≡ None → AllByRecursion (KindsAgree both_sources) (option_map_or comparisons condition []) → FitsQuery joining
        → Complete joining trees → JoinExact trees
    joined trees fault kinds fits c = step (same_table both_sources) refl c.0 c.1
      where
        step : (b : Bool) → same_table both_sources ≡ b
            → AllZip Prunes trees (map (stored_tree stored) (cond b (left.table ∷ []) (left.table ∷ j.right.table ∷ []))) → Full b trees → JoinExact trees
        step true e prunes full = one_tree fault kinds fits e trees prunes full
        step false e prunes full = two_trees fault kinds fits e trees prunes full

  both_kinds : (items : Items) (left : Source) (join : Option Join) (condition : Option Condition) (limit : Option ℕ) (trees : List RowTree)
      → let q : Query = record { items = items; left = left; join = join; condition = condition; limit = limit } in
      let ss : List BoundSource = bound_sources (map table_header_of tables) q in
      binding_fault (map table_header_of tables) q ≡ None → (limit ≡ None) ⊎ FitTables tables → FitsQuery q → Complete q trees
      → answer_rows ss q (seen_lefts ss q trees) (seen_rights ss q trees) ≡ answer_rows ss q (row_views_at tables ss 0) (λ l. row_views_at tables ss 1)
  both_kinds items left None condition limit trees bound fit fits c = one_source items left condition limit trees bound fit fits c
  both_kinds items left (Some j) condition limit trees bound fit fits c =
      let q : Query = record { items = items; left = left; join = Some j; condition = condition; limit = limit } in
      let hs : List TableHeader = map table_header_of tables in
      ap (first_rows limit) (joined items left j condition limit trees (joins_bound hs q bound).0 (kinds_bound hs q bound) fits c)

  -- What a client asks of trees, and its outcome, by the table headers of the catalog.

  abbrev PruneWanted : Query → List RowTree → List TableHeader → Type 0
  PruneWanted q trees hs = AllZip Prunes trees (map (stored_tree stored) (cond (is_some (binding_fault hs q)) [] (tables_used (bound_sources hs q))))

  abbrev MissNone : Query → List RowTree → List TableHeader → Type 0
  MissNone q trees hs = list_any (λ (t : List Need × RowTree). is_missing t.0 t.1) (cond (is_some (binding_fault hs q)) [] (zip (needs (bound_sources hs q) q trees) trees)) ≡ false

  abbrev outcome_by : Query → List RowTree → List TableHeader → Outcome
  outcome_by q trees hs = outcome (binding_fault hs q) (header (bound_sources hs q) q.items) (answer_rows (bound_sources hs q) q (seen_lefts (bound_sources hs q) q trees) (seen_rights (bound_sources hs q) q trees))

  by_tables : (q : Query) (trees : List RowTree) → (q.limit ≡ None) ⊎ FitTables tables → FitsQuery q → PruneWanted q trees (map table_header_of tables) → MissNone q trees (map table_header_of tables)
      → outcome_by q trees (map table_header_of tables) ≡ result q tables
  unfolding result
  by_tables q trees fit fits prunes full = step (binding_fault (map table_header_of tables) q) refl prunes full
    where
      step : (o : Option QueryFault) → binding_fault (map table_header_of tables) q ≡ o
          → AllZip Prunes trees (map (stored_tree stored) (cond (is_some o) [] (tables_used (bound_sources (map table_header_of tables) q))))
          → list_any (λ (t : List Need × RowTree). is_missing t.0 t.1) (cond (is_some o) [] (zip (needs (bound_sources (map table_header_of tables) q) q trees) trees)) ≡ false
          → outcome o (header (bound_sources (map table_header_of tables) q) q.items) (answer_rows (bound_sources (map table_header_of tables) q) q (seen_lefts (bound_sources (map table_header_of tables) q) q trees) (seen_rights (bound_sources (map table_header_of tables) q) q trees))
          ≡ outcome o (header (bound_sources (map table_header_of tables) q) q.items) (answer_rows (bound_sources (map table_header_of tables) q) q (row_views_at tables (bound_sources (map table_header_of tables) q) 0) (λ l. row_views_at tables (bound_sources (map table_header_of tables) q) 1))
      step None e prunes full = ap (outcome None (header (bound_sources (map table_header_of tables) q) q.items)) (both_kinds q.items q.left q.join q.condition q.limit trees e fit fits (prunes, full))
      step (Some fault) e prunes full = refl

-- Where each tree of a reply prunes the whole tree of its table, nothing is missing, and the whole
-- trees stand for plain tables, the outcome that the trees show is the query's result on these
-- tables; with a limit, where these are within their limits.
pub exact : (q : Query) (r : Reply) (stored : List Stored) (tables : List Table) → RepresentTables stored tables → (q.limit ≡ None) ⊎ FitTables tables → FitsQuery q
    → r.catalog ≡ catalog_of stored → AllZip Prunes r.trees (trees_for q stored) → missing_fault q r ≡ None
    → seen_outcome q r.catalog r.trees ≡ result q tables
unfolding seen_outcome
exact q r stored tables stand fit fits catalog prunes full =
    let same : table_headers r.catalog ≡ map table_header_of tables = ap table_headers catalog ∙ same_table_headers stored tables stand in
    ap (outcome_by stored tables stand q r.trees) same
    ∙ by_tables stored tables stand q r.trees fit fits
    (subst (PruneWanted stored tables stand q r.trees) (same_table_headers stored tables stand) prunes)
    (subst (MissNone stored tables stand q r.trees) same (none_missing (list_any (λ (t : List Need × RowTree). is_missing t.0 t.1) (needs_with_trees q r)) full))
  where
    none_missing : (b : Bool) → cond b (Some Missing) None ≡ None → b ≡ false
    none_missing true e = absurd (cc)
    none_missing false e = refl
