-- The proofs of a query by its needs, which are found on the left table's tree.
use Rattle.std.proofs.Common.{◌≡◌, ℕ, zero, suc, ◌<◌, ◌≤◌, Bool, true, false, cond, List, [], ◌∷◌, ◌++◌, Option, Some, None, length, map, inl, refl, sym, ap, ◌∙◌, subst, arith}
use Rattle.std.specs.Prelude.{◌||◌, ◌==◌, find, is_some, is_none, bytes_eq, option_map, option_to_list}
use Rattle.std.specs.Option.{option_map_or}
use Rattle.std.proofs.lemmas.Bool.{or_left, or_right, or_from, eqb-true}
use Rattle.std.proofs.lemmas.List.{length-map}
use Rattle.vo_spec.specs.declared.needs.Need.{Need}
use Rattle.vo_spec.specs.declared.queries.Join.{Join}
use Rattle.vo_spec.specs.declared.queries.Source.{Source}
use Rattle.vo_spec.specs.declared.queries.QueryFault.{QueryFault}
use Rattle.vo_spec.specs.Firsts.{first_some}
use Rattle.vo_spec.specs.Batches.{max_columns}
use Rattle.vo_spec.specs.Conditions.{comparisons, Query}
use Rattle.vo_spec.specs.Tables.{TableHeader, table_header_of, table_header_named, rows_named}
use Rattle.vo_spec.specs.Records.{table_headers}
use Rattle.vo_spec.specs.Results.{BoundSource, bound_source_at, schema_at, bound_source_of, bound_sources, sources, missing_table, same_alias, ref_fault, query_refs, join_fault, kind_fault, binding_fault}
use Rattle.vo_spec.specs.Parts.{entries}
use Rattle.vo_spec.specs.Trees.{RowTree}
use Rattle.vo_spec.specs.Scans.{seen}
use Rattle.vo_spec.specs.Pruning.{is_missing, prune_tree}
use Rattle.vo_spec.specs.Needs.{left_need, right_needs, same_table, tree_at}
use Rattle.vo_spec.specs.Honest.{Stored, catalog_of, stored_tree, pruned_each}
use Rattle.vo_laws.proofs.NamedFits.{named_fits, named_have}
use Rattle.vo_laws.proofs.OneProof.{pruned_canonical}
use Rattle.vo_laws.proofs.LeftNeeds.{left_have}
use Rattle.vo_laws.proofs.ScanLaws.{Shows, complete}
use Rattle.vo_laws.proofs.StoredFits.{catalog_fits}
use Rattle.vo_laws.proofs.TablesByName.{named_stands, same_table_headers}
use Rattle.vo_laws.proofs.CompleteReplies.{seen_same}
use Rattle.query_binding.specs.declared.bound_sources.BoundSource.{BoundSource as HeldBoundSource}
use Rattle.query_binding.specs.HeldSources.{bound_source_seen}
use Rattle.stored_tables.specs.Representation.{IsStanding}
use Rattle.query_plan.proofs.Narrow.{bound_sources_narrow}
use Rattle.query_plan.specs.BoundQueries.{bound_query}
use Rattle.query_plan.specs.Plans.{QueryPlan, plan_of}
use Rattle.query_plan.proofs.MeaningLaws.{left_need_same}
use Rattle.plan_run.proofs.ByNames.{right_needs_same}
use Rattle.vo_store.specs.Proving.{HasTable, HasTables, proofs_of, tree_by, left_need_by, right_needs_by, left_proof, plan_proofs}

-- Tables of a catalog are those of the trees.

abbrev is_there : List ℕ → List Stored → Bool
is_there name stored = is_some (find (λ (s : Stored). bytes_eq s.name name) stored)

same_names : (name : List ℕ) (stored : List Stored) → is_some (table_header_named name (table_headers (catalog_of stored))) ≡ is_there name stored
same_names name [] = refl
same_names name (s ∷ stored) = step (bytes_eq s.name name) (same_names name stored)
  where
    step : (b : Bool) → is_some (table_header_named name (table_headers (catalog_of stored))) ≡ is_there name stored
        → is_some (cond b (Some (record { name = s.name; schema = s.schema; count = length (entries s.tree) })) (table_header_named name (table_headers (catalog_of stored))))
        ≡ is_some (cond b (Some s) (find (λ (x : Stored). bytes_eq x.name name) stored))
    step true e = refl
    step false e = e

module _ (stored : List Stored) where
  abbrev hs : List TableHeader
  hs = table_headers (catalog_of stored)

  passed : (b : Bool) (fault : QueryFault) (rest : List (Option QueryFault)) → first_some (cond b None (Some fault) ∷ rest) ≡ None → (b ≡ true) × (first_some rest ≡ None)
  passed true fault rest e = (refl, e)
  passed false fault rest e = absurd (cc)

  each_there : (ss : List Source) → first_some (map (missing_table hs) ss) ≡ None → (i : ℕ) → i < length ss → HasTable stored (bound_source_at (map (bound_source_of hs) ss) i).table
  each_there [] e i lt = absurd (omega arith)
  each_there (s ∷ ss) e zero lt = sym (same_names s.table stored) ∙ (passed (is_some (table_header_named s.table hs)) _ (map (missing_table hs) ss) e).0
  each_there (s ∷ ss) e (suc i) lt = each_there ss (passed (is_some (table_header_named s.table hs)) _ (map (missing_table hs) ss) e).1 i (omega arith)

  front : (xs ys : List (Option QueryFault)) → first_some (xs ++ ys) ≡ None → first_some xs ≡ None
  front [] ys e = refl
  front (None ∷ xs) ys e = front xs ys e
  front (Some fault ∷ xs) ys e = e

  -- a query that binds is of tables that are there
  pub bound_source_there : (q : Query) → binding_fault hs q ≡ None → HasTables stored (bound_sources hs q)
  bound_source_there q e i lt =
      let ss : List BoundSource = bound_sources hs q in
      let tables = map (missing_table hs) (sources q) in
      let aliases = tables ++ same_alias (sources q) ∷ [] in
      let refs = aliases ++ map (ref_fault ss) (query_refs q) in
      let joins = refs ++ map (join_fault ss) (option_to_list q.join) in
      let kinds = map (kind_fault ss) (option_map_or comparisons q.condition []) in
      each_there (sources q) (front tables _ (front aliases _ (front refs _ (front joins kinds e)))) i (omega (arith, length-map (sources q) (bound_source_of hs)))

-- what is not there is nothing
pub unseen_none : {A : Type 0} (o : Option A) → is_none o ≡ true → o ≡ None
unseen_none None e = refl
unseen_none (Some x) e = absurd (cc)

-- a query of one source needs nothing of a right tree
pub alone : (hs : List TableHeader) (q : Query) (ts : List RowTree) → length (bound_sources hs q) ≡ 1 → right_needs (bound_sources hs q) q ts ≡ []
alone hs q ts e = step q.join refl
  where
    step : (o : Option Join) → q.join ≡ o → right_needs (bound_sources hs q) q ts ≡ []
    step None is = rw is refl
    step (Some j) is =
        let two : length (bound_sources hs q) ≡ 2 = ap (λ (o : Option Join). length (map (bound_source_of hs) (q.left ∷ option_to_list (option_map (λ (k : Join). k.right) o)))) is in
        absurd (omega (arith, two, e))

module _ (stored : List Stored) (standing : IsStanding stored) (q : Query) where
  abbrev ss : List BoundSource
  ss = bound_sources (table_headers (catalog_of stored)) q

  abbrev tree : ℕ → RowTree
  tree i = stored_tree stored (bound_source_at ss i).table

  abbrev need : Need
  need = left_need ss q (tree 0)

  -- the left table's own proof
  abbrev first : RowTree
  first = prune_tree (need ∷ []) (tree 0)

  pub narrow : (i : ℕ) → length (schema_at ss i).columns ≤ max_columns
  narrow i = bound_sources_narrow (catalog_of stored) (catalog_fits stored standing.tables standing.stand standing.fit) q i

  -- whatever the tables are, the left need of the whole tree
  abbrev left_by : List TableHeader → Need
  left_by hs = left_need (bound_sources hs q) q (stored_tree stored q.left.table)

  abbrev IsComplete : List TableHeader → Type 0
  IsComplete hs = is_missing (left_by hs ∷ []) (prune_tree (left_by hs ∷ []) (stored_tree stored q.left.table)) ≡ false

  whole_complete : IsComplete (map table_header_of standing.tables)
  whole_complete =
      let held : List BoundSource = bound_sources (map table_header_of standing.tables) q in
      let rows = rows_named q.left.table standing.tables in
      let stands = named_stands q.left.table stored standing.tables standing.stand in
      let have = named_have held q rows (named_fits q.left.table standing.tables standing.fit.each) in
      (pruned_canonical (left_by (map table_header_of standing.tables) ∷ []) (stored_tree stored q.left.table) rows stands
      (left_have held q (stored_tree stored q.left.table) rows stands have, tt)).complete

  first_complete : is_missing (need ∷ []) first ≡ false
  first_complete = subst IsComplete (sym (same_table_headers stored standing.tables standing.stand)) whole_complete

  whole_shown : seen need (tree 0) ≡ None → ⊥
  whole_shown e = subst Shows (seen_same (need ∷ []) need (tree 0) (inl refl) first_complete ∙ e) (complete (need ∷ []) need first (inl refl) first_complete)

  -- The proofs, by how many trees the query uses.

  abbrev names : Bool → List (List ℕ)
  names b = cond b ((bound_source_at ss 0).table ∷ []) ((bound_source_at ss 0).table ∷ (bound_source_at ss 1).table ∷ [])

  abbrev rights : List (List ℕ) → List Need
  rights ns = right_needs ss q (map (stored_tree stored) ns)

  abbrev left_of : List (List ℕ) → Need
  left_of ns = left_need ss q (tree_at (map (stored_tree stored) ns) 0)

  -- by the names of the trees that the needs go by, and of those that the reply has
  abbrev proofs_by : Bool → List (List ℕ) → List RowTree
  proofs_by b ns =
      pruned_each (cond (length (names b) == 1) ((left_of ns ∷ rights ns) ∷ []) ((left_of ns ∷ []) ∷ rights ns ∷ [])) (map (stored_tree stored) ns)

  abbrev is_one : Bool
  is_one = length ss == 1 || same_table ss

  bound_proofs : binding_fault (table_headers (catalog_of stored)) q ≡ None → proofs_of q stored ≡ proofs_by is_one (names is_one)
  bound_proofs e = ap (λ (o : Option QueryFault). proofs_by is_one (cond (is_some o) [] (names is_one))) e

  pub one_proof : binding_fault (table_headers (catalog_of stored)) q ≡ None → is_one ≡ true → proofs_of q stored ≡ prune_tree (need ∷ right_needs ss q (tree 0 ∷ [])) (tree 0) ∷ []
  one_proof e one = bound_proofs e ∙ ap (λ b. proofs_by b (names b)) one

  pub two_proofs : binding_fault (table_headers (catalog_of stored)) q ≡ None → is_one ≡ false → proofs_of q stored ≡ first ∷ prune_tree (right_needs ss q (tree 0 ∷ [])) (tree 1) ∷ []
  two_proofs e two = bound_proofs e ∙ ap (λ b. proofs_by b (names b)) two

  none_each : (nss : List (List Need)) → pruned_each nss [] ≡ []
  none_each [] = refl
  none_each (ns ∷ nss) = refl

  pub no_proofs : (fault : QueryFault) → binding_fault (table_headers (catalog_of stored)) q ≡ Some fault → proofs_of q stored ≡ []
  no_proofs fault e =
      ap (λ (o : Option QueryFault). proofs_by is_one (cond (is_some o) [] (names is_one))) e ∙ none_each _

  -- The same of the query's plan.

  abbrev plan : QueryPlan
  plan = plan_of (bound_query ss q)

  same_need : left_need_by plan stored ≡ need
  same_need = left_need_same ss q (tree 0)

  same_proof : left_proof plan stored ≡ first
  same_proof = ap (λ (n : Need). prune_tree (n ∷ []) (tree 0)) same_need

  same_rights : right_needs_by plan stored ≡ right_needs ss q (tree 0 ∷ [])
  same_rights = right_needs_same ss q (tree 0)

  -- by whether there is one source, and whether the tables are one
  pub plan_same : binding_fault (table_headers (catalog_of stored)) q ≡ None → plan_proofs plan stored ≡ proofs_of q stored
  plan_same e = step (length ss == 1) (same_table ss) refl refl
    where
      step : (one same : Bool) → (length ss == 1) ≡ one → same_table ss ≡ same
          → cond one (left_proof plan stored ∷ []) (cond same (prune_tree (left_need_by plan stored ∷ right_needs_by plan stored) (tree 0) ∷ []) (left_proof plan stored ∷ prune_tree (right_needs_by plan stored) (tree 1) ∷ []))
          ≡ proofs_of q stored
      step true same is f =
          ap (λ (t : RowTree). t ∷ []) same_proof
          ∙ ap (λ (ns : List Need). prune_tree (need ∷ ns) (tree 0) ∷ []) (sym (alone (table_headers (catalog_of stored)) q (tree 0 ∷ []) (eqb-true (length ss) 1 is)))
          ∙ sym (one_proof e (or_left (length ss == 1) (same_table ss) is))
      step false true is f =
          ap (λ (n : Need). prune_tree (n ∷ right_needs_by plan stored) (tree 0) ∷ []) same_need
          ∙ ap (λ (ns : List Need). prune_tree (need ∷ ns) (tree 0) ∷ []) same_rights
          ∙ sym (one_proof e (or_right (length ss == 1) (same_table ss) f))
      step false false is f =
          ap (λ (t : RowTree). t ∷ prune_tree (right_needs_by plan stored) (tree 1) ∷ []) same_proof
          ∙ ap (λ (ns : List Need). first ∷ prune_tree ns (tree 1) ∷ []) same_rights
          ∙ sym (two_proofs e (or_from (length ss == 1) (same_table ss) is f))

  -- the left tree shows all that is needed of it
  pub plan_shown : seen (left_need_by plan stored) (tree 0) ≡ None → ⊥
  plan_shown u = whole_shown (ap (λ (n : Need). seen n (tree 0)) (sym same_need) ∙ u)

-- a left source, with a right one beside it if there is one
abbrev pub beside : HeldBoundSource → Option HeldBoundSource → List BoundSource
beside left right = bound_source_seen left ∷ option_to_list (option_map bound_source_seen right)

-- The proofs of a plan, by whether there is one source, and whether the tables are one.
module _ (p : QueryPlan) (stored : List Stored) where
  abbrev made : Bool → Bool → List RowTree
  made one same =
      cond one (left_proof p stored ∷ []) (cond same (prune_tree (left_need_by p stored ∷ right_needs_by p stored) (tree_by p stored 0) ∷ []) (left_proof p stored ∷ prune_tree (right_needs_by p stored) (tree_by p stored 1) ∷ []))

  pub made_alone : (length p.query.bound_sources == 1) ≡ true → left_proof p stored ∷ [] ≡ plan_proofs p stored
  made_alone one = ap (λ b. made b (same_table p.query.bound_sources)) (sym one)

  module _ (two : (length p.query.bound_sources == 1) ≡ false) where
    pub made_of_both : same_table p.query.bound_sources ≡ true → prune_tree (left_need_by p stored ∷ right_needs_by p stored) (tree_by p stored 0) ∷ [] ≡ plan_proofs p stored
    made_of_both same = ap (made false) (sym same) ∙ ap (λ b. made b (same_table p.query.bound_sources)) (sym two)

    pub made_of_each : same_table p.query.bound_sources ≡ false → left_proof p stored ∷ prune_tree (right_needs_by p stored) (tree_by p stored 1) ∷ [] ≡ plan_proofs p stored
    made_of_each other = ap (made false) (sym other) ∙ ap (λ b. made b (same_table p.query.bound_sources)) (sym two)
