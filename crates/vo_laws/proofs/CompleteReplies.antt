-- A client accepts the reply of an honest store, and its outcome is the query's result.
use Rattle.std.proofs.Common.{◌≡◌, ℕ, suc, ◌≤◌, Bool, true, false, cond, List, [], ◌∷◌, ◌++◌, Option, Some, None, Ok, length, map, inl, inr, refl, sym, ap, ◌∙◌, subst}
use Rattle.std.specs.Prelude.{◌==◌, nat_lt, filter, zip, is_some, bytes_eq, unwrap_or, option_and_then}
use Rattle.std.specs.Option.{option_map_or}
use Rattle.std.specs.List.{list_any, list_all, AllByRecursion, AllZip}
use Rattle.std.proofs.lemmas.Bool.{and_from, or_from, eq-eqb, le-ltb, cond-true, cond-false}
use Rattle.std.proofs.lemmas.Slice.Eq.{bytes_eq-Decides}
use Rattle.vo_spec.specs.declared.tables.Table.{Table}
use Rattle.vo_spec.specs.declared.tables.Command.{Command}
use Rattle.vo_spec.specs.declared.needs.Need.{Need}
use Rattle.vo_spec.specs.declared.needs.SeenRow.{SeenRow}
use Rattle.vo_spec.specs.declared.queries.Join.{Join}
use Rattle.vo_spec.specs.declared.queries.Items.{Items}
use Rattle.vo_spec.specs.declared.queries.Source.{Source}
use Rattle.vo_spec.specs.declared.records.Record.{Record}
use Rattle.vo_spec.specs.declared.records.CatalogTable.{CatalogTable}
use Rattle.vo_spec.specs.declared.checks.CheckFault.{CheckFault}
use Rattle.vo_spec.specs.declared.checks.CheckFault.TheVariants.{WrongLeaf}
use Rattle.vo_spec.specs.Firsts.{first_some, unless}
use Rattle.vo_spec.specs.Tables.{TableHeader, table_header_of, table_header_named, rows_named, tables_after}
use Rattle.vo_spec.specs.Batches.{FitsBatch}
use Rattle.vo_spec.specs.Conditions.{Condition, Query, FitsQuery}
use Rattle.vo_spec.specs.Results.{BoundSource, RowView, schema_at, bound_sources, no_schema, binding_fault, result}
use Rattle.vo_spec.specs.Records.{table_headers, record_bytes, catalog_digest}
use Rattle.vo_spec.specs.Trees.{RowTree, Prunes}
use Rattle.vo_spec.specs.Scans.{seen}
use Rattle.vo_spec.specs.Pruning.{is_missing, has_surplus, prune_tree}
use Rattle.vo_spec.specs.Needs.{meets_left, uncut_need, left_need, has_join_value, right_need, named_cells, seen_row_view, right_needs, needs, tables_used, same_table}
use Rattle.vo_spec.specs.Checks.{table_named, has_table_shape, root_fault, trees_of, key_fault, leaf_fault, signature_fault, age_fault, catalog_fault, count_fault, shape_fault, missing_fault, surplus_fault, check_fault, seen_outcome, answer_to}
use Rattle.vo_spec.specs.Replies.{Reply}
use Rattle.vo_spec.specs.Keys.{key_id, lms_valid}
use Rattle.vo_spec.specs.Owners.{IsSigned}
use Rattle.vo_spec.specs.Honest.{Stored, RepresentTables, catalog_of, stored_tree, pruned_each, honest_reply, honest_trees, honest_record}
use Rattle.vo_laws.proofs.RepresentationLaws.{stands}
use Rattle.vo_laws.proofs.ListLaws.{IsIn, each_both}
use Rattle.vo_laws.proofs.ScanLaws.{part_seen}
use Rattle.vo_laws.proofs.PrunedLaws.{pruned_prunes, pruned_bare}
use Rattle.vo_laws.specs.FittingTables.{FitTables}
use Rattle.vo_laws.proofs.ReplyTrees.{AreBelow, AreBounded, HasCells, pruned_complete, good}
use Rattle.vo_laws.proofs.NamedFits.{cells_of, NamedFits, named_fits, named_cells_below, named_have}
use Rattle.vo_laws.proofs.LeftNeeds.{left_columns, left_kept}
use Rattle.vo_laws.proofs.JoinLaws.{is_bytes}
use Rattle.vo_laws.proofs.TablesByName.{named_stands, same_table_headers}
use Rattle.vo_laws.proofs.ExactOutcomes.{exact}

-- what is seen of a proof is what is seen of its tree
pub seen_same : (ns : List Need) (need : Need) (t : RowTree) → IsIn need ns → is_missing ns (prune_tree ns t) ≡ false → seen need (prune_tree ns t) ≡ seen need t
seen_same ns need t i full = part_seen ns need (prune_tree ns t) t (pruned_prunes ns t) i full

module _ (stored : List Stored) (tables : List Table) (stand : RepresentTables stored tables) (fit : FitTables tables) where
  abbrev tree : List ℕ → RowTree
  tree name = stored_tree stored name

  abbrev look : List ℕ → Option CatalogTable
  look name = table_named name (catalog_of stored)

  -- needs whose columns the table's rows have
  abbrev FitNeeds : List Need → List ℕ → Type 0
  FitNeeds ns name = (n : ℕ) × AreBounded n ns × AllByRecursion (HasCells n) (rows_named name tables)

  -- The trees of a reply, one by one.

  shapes : (names : List (List ℕ)) (nss : List (List Need)) → list_all has_table_shape (zip (map look names) (pruned_each nss (map tree names))) ≡ true
  shapes [] nss = refl
  shapes (name ∷ names) [] = refl
  shapes (name ∷ names) (ns ∷ nss) = and_from _ _ (good name ns stored tables stand fit.each).shape (shapes names nss)

  roots : (names : List (List ℕ)) (nss : List (List Need)) → first_some (map root_fault (zip (map look names) (pruned_each nss (map tree names)))) ≡ None
  roots [] nss = refl
  roots (name ∷ names) [] = refl
  roots (name ∷ names) (ns ∷ nss) =
      ap (λ o. first_some (o ∷ map root_fault (zip (map look names) (pruned_each nss (map tree names))))) (good name ns stored tables stand fit.each).root ∙ roots names nss

  minimal : (names : List (List ℕ)) (nss : List (List Need)) → list_any (λ (t : List Need × RowTree). has_surplus t.0 t.1) (zip nss (pruned_each nss (map tree names))) ≡ false
  minimal names [] = refl
  minimal [] (ns ∷ nss) = refl
  minimal (name ∷ names) (ns ∷ nss) = or_from (has_surplus ns (prune_tree ns (tree name))) _ (pruned_bare ns (tree name)) (minimal names nss)

  full : (names : List (List ℕ)) (nss : List (List Need)) → AllZip FitNeeds nss names
      → list_any (λ (t : List Need × RowTree). is_missing t.0 t.1) (zip nss (pruned_each nss (map tree names))) ≡ false
  full [] [] z = refl
  full [] (ns ∷ nss) z = absurd z
  full (name ∷ names) [] z = absurd z
  full (name ∷ names) (ns ∷ nss) z =
      or_from (is_missing ns (prune_tree ns (tree name))) _ (pruned_complete z.0.0 ns (tree name) (rows_named name tables) (named_stands name stored tables stand) z.0.1 z.0.2) (full names nss z.1)

  counted : (names : List (List ℕ)) (nss : List (List Need)) → AllZip FitNeeds nss names → length (pruned_each nss (map tree names)) ≡ length names
  counted [] [] z = refl
  counted [] (ns ∷ nss) z = absurd z
  counted (name ∷ names) [] z = absurd z
  counted (name ∷ names) (ns ∷ nss) z = ap suc (counted names nss z.1)

  each_prunes : (names : List (List ℕ)) (nss : List (List Need)) → AllZip FitNeeds nss names → AllZip Prunes (pruned_each nss (map tree names)) (map tree names)
  each_prunes [] [] z = tt
  each_prunes [] (ns ∷ nss) z = absurd z
  each_prunes (name ∷ names) [] z = absurd z
  each_prunes (name ∷ names) (ns ∷ nss) z = (pruned_prunes ns (tree name), each_prunes names nss z.1)

  -- The needs of a query.

  bound_source_fits : (name : List ℕ) → NamedFits (option_map_or (λ (h : TableHeader). h.schema) (table_header_named name (map table_header_of tables)) no_schema) (rows_named name tables)
  bound_source_fits name = named_fits name tables fit.each

  -- the needs fit the tables, and they are the same by the proofs as by the whole trees
  pub record NeedsFit (q : Query) : Type 0 where
    pub fits : AllZip FitNeeds (needs (bound_sources (map table_header_of tables) q) q (map tree (tables_used (bound_sources (map table_header_of tables) q)))) (tables_used (bound_sources (map table_header_of tables) q))
    pub same : needs (bound_sources (map table_header_of tables) q) q
        (pruned_each (needs (bound_sources (map table_header_of tables) q) q (map tree (tables_used (bound_sources (map table_header_of tables) q)))) (map tree (tables_used (bound_sources (map table_header_of tables) q))))
        ≡ needs (bound_sources (map table_header_of tables) q) q (map tree (tables_used (bound_sources (map table_header_of tables) q)))

  one_source : (items : Items) (left : Source) (condition : Option Condition) (limit : Option ℕ) → NeedsFit (record { items = items; left = left; join = None; condition = condition; limit = limit })
  one_source items left condition limit =
      let q : Query = record { items = items; left = left; join = None; condition = condition; limit = limit } in
      let ss : List BoundSource = bound_sources (map table_header_of tables) q in
      let f = bound_source_fits left.table in
      let named : AreBelow (cells_of (schema_at ss 0)) (named_cells ss q 0) = named_cells_below ss q 0 (rows_named left.table tables) f in
      let below : AreBelow (cells_of (schema_at ss 0)) (left_need ss q (tree left.table)).columns = subst (AreBelow (cells_of (schema_at ss 0))) (sym (left_columns ss q (tree left.table))) named in
      let kept : left_need ss q (prune_tree (left_need ss q (tree left.table) ∷ []) (tree left.table)) ≡ left_need ss q (tree left.table) =
      left_kept ss q (tree left.table) (rows_named left.table tables) (named_stands left.table stored tables stand) (named_have ss q (rows_named left.table tables) f) in
      record { fits = ((cells_of (schema_at ss 0), (below, tt), f.cells), tt); same = ap (λ need. (need ∷ []) ∷ []) kept }

  module _ (items : Items) (left : Source) (j : Join) (condition : Option Condition) (limit : Option ℕ) where
    abbrev joining : Query
    joining = record { items = items; left = left; join = Some j; condition = condition; limit = limit }

    abbrev both_sources : List BoundSource
    both_sources = bound_sources (map table_header_of tables) joining

    -- the left rows with a value to join by
    abbrev lefts_of : Option (List SeenRow) → List RowView
    lefts_of o = filter (has_join_value both_sources j) (filter (meets_left both_sources joining) (map (seen_row_view (schema_at both_sources 0) (uncut_need both_sources joining).columns) (unwrap_or o [])))

    abbrev rights_of : Option (List SeenRow) → List Need
    rights_of o = map (right_need both_sources joining j) (lefts_of o) ++ []

    rights_bounded : (n : ℕ) (o : Option (List SeenRow)) → AreBelow n (named_cells both_sources joining 1) → AreBounded n (rights_of o)
    rights_bounded n o below =
        each_both (λ (need : Need). AreBelow n need.columns)
        (map (right_need both_sources joining j) (lefts_of o)) [] (each_right (lefts_of o)) tt
      where
        each_right : (lefts : List RowView) → AreBounded n (map (right_need both_sources joining j) lefts)
        each_right [] = tt
        each_right (l ∷ lefts) = (below, each_right lefts)

    abbrev names_by : Bool → List (List ℕ)
    names_by b = cond b (left.table ∷ []) (left.table ∷ j.right.table ∷ [])

    abbrev needs_by : Bool → List RowTree → List (List Need)
    needs_by b trees = cond (length (names_by b) == 1)
        ((uncut_need both_sources joining ∷ right_needs both_sources joining trees) ∷ [])
        ((uncut_need both_sources joining ∷ []) ∷ right_needs both_sources joining trees ∷ [])

    left_fits : NamedFits (schema_at both_sources 0) (rows_named left.table tables)
    left_fits = bound_source_fits left.table

    right_fits : NamedFits (schema_at both_sources 1) (rows_named j.right.table tables)
    right_fits = bound_source_fits j.right.table

    fits_by : (b : Bool) → same_table both_sources ≡ b → AllZip FitNeeds (needs_by b (map tree (names_by b))) (names_by b)
    fits_by true e =
        let table : left.table ≡ j.right.table = is_bytes left.table j.right.table e in
        let n : cells_of (schema_at both_sources 1) ≡ cells_of (schema_at both_sources 0) =
        ap (λ name. cells_of (option_map_or (λ (h : TableHeader). h.schema) (table_header_named name (map table_header_of tables)) no_schema)) (sym table) in (
          (
            cells_of (schema_at both_sources 0),
            (
              named_cells_below both_sources joining 0 (rows_named left.table tables) left_fits,
              rights_bounded (cells_of (schema_at both_sources 0)) (seen (uncut_need both_sources joining) (tree left.table))
                  (subst (λ k. AreBelow k (named_cells both_sources joining 1)) n (named_cells_below both_sources joining 1 (rows_named j.right.table tables) right_fits)),
            ),
            left_fits.cells,
          ),
          tt,
        )
    fits_by false e = (
      (cells_of (schema_at both_sources 0), (named_cells_below both_sources joining 0 (rows_named left.table tables) left_fits, tt), left_fits.cells),
      (
        (
          cells_of (schema_at both_sources 1),
          rights_bounded (cells_of (schema_at both_sources 1)) (seen (uncut_need both_sources joining) (tree left.table)) (named_cells_below both_sources joining 1 (rows_named j.right.table tables) right_fits),
          right_fits.cells,
        ),
        tt,
      ),
    )

    same_by : (b : Bool) → AllZip FitNeeds (needs_by b (map tree (names_by b))) (names_by b)
        → needs_by b (pruned_each (needs_by b (map tree (names_by b))) (map tree (names_by b))) ≡ needs_by b (map tree (names_by b))
    same_by true z =
        let ns : List Need = uncut_need both_sources joining ∷ right_needs both_sources joining (tree left.table ∷ []) in
        let here : seen (uncut_need both_sources joining) (prune_tree ns (tree left.table)) ≡ seen (uncut_need both_sources joining) (tree left.table) =
        seen_same ns (uncut_need both_sources joining) (tree left.table) (inl refl)
        (pruned_complete z.0.0 ns (tree left.table) (rows_named left.table tables) (named_stands left.table stored tables stand) z.0.1 z.0.2) in
        ap (λ o. (uncut_need both_sources joining ∷ rights_of o) ∷ []) here
    same_by false z =
        let ns : List Need = uncut_need both_sources joining ∷ [] in
        let here : seen (uncut_need both_sources joining) (prune_tree ns (tree left.table)) ≡ seen (uncut_need both_sources joining) (tree left.table) =
        seen_same ns (uncut_need both_sources joining) (tree left.table) (inl refl)
        (pruned_complete z.0.0 ns (tree left.table) (rows_named left.table tables) (named_stands left.table stored tables stand) z.0.1 z.0.2) in
        ap (λ o. ns ∷ rights_of o ∷ []) here

    two_sources : NeedsFit joining
    two_sources =
        let f = by_table (same_table both_sources) refl in
        record { fits = f.0; same = f.1 }
      where
        by_table : (b : Bool) → same_table both_sources ≡ b
            → AllZip FitNeeds (needs_by b (map tree (names_by b))) (names_by b)
            × (needs_by b (pruned_each (needs_by b (map tree (names_by b))) (map tree (names_by b))) ≡ needs_by b (map tree (names_by b)))
        by_table b e = let z = fits_by b e in (z, same_by b z)

  any_source : (items : Items) (left : Source) (join : Option Join) (condition : Option Condition) (limit : Option ℕ)
      → NeedsFit (record { items = items; left = left; join = join; condition = condition; limit = limit })
  any_source items left None condition limit = one_source items left condition limit
  any_source items left (Some j) condition limit = two_sources items left j condition limit

  pub needs_fit : (q : Query) → NeedsFit q
  needs_fit q = any_source q.items q.left q.join q.condition q.limit

  -- The trees of the reply.

  none_pruned : (nss : List (List Need)) → pruned_each nss [] ≡ []
  none_pruned [] = refl
  none_pruned (ns ∷ nss) = refl

  abbrev names_if : Query → List TableHeader → Bool → List (List ℕ)
  names_if q hs b = cond b [] (tables_used (bound_sources hs q))

  abbrev proofs_if : Query → List TableHeader → Bool → List RowTree
  proofs_if q hs b = pruned_each (needs (bound_sources hs q) q (map tree (names_if q hs b))) (map tree (names_if q hs b))

  abbrev needed_if : Query → List TableHeader → Bool → List (List Need × RowTree)
  needed_if q hs b = cond b [] (zip (needs (bound_sources hs q) q (proofs_if q hs b)) (proofs_if q hs b))

  abbrev IsWell : Query → List TableHeader → Bool → Type 0
  IsWell q hs b =
      (length (proofs_if q hs b) ≡ length (names_if q hs b))
      × AllZip Prunes (proofs_if q hs b) (map tree (names_if q hs b))
      × (list_any (λ (t : List Need × RowTree). is_missing t.0 t.1) (needed_if q hs b) ≡ false)
      × (list_any (λ (t : List Need × RowTree). has_surplus t.0 t.1) (needed_if q hs b) ≡ false)

  well : (q : Query) (b : Bool) → IsWell q (map table_header_of tables) b
  well q true = rw (none_pruned (needs (bound_sources (map table_header_of tables) q) q [])) (refl, tt, refl, refl)
  well q false =
      let hs : List TableHeader = map table_header_of tables in
      let names : List (List ℕ) = tables_used (bound_sources hs q) in
      let nss : List (List Need) = needs (bound_sources hs q) q (map tree names) in
      let n = needs_fit q in (
        counted names nss n.fits,
        each_prunes names nss n.fits,
        subst (λ z. list_any (λ (t : List Need × RowTree). is_missing t.0 t.1) (zip z (pruned_each nss (map tree names))) ≡ false) (sym n.same) (full names nss n.fits),
        subst (λ z. list_any (λ (t : List Need × RowTree). has_surplus t.0 t.1) (zip z (pruned_each nss (map tree names))) ≡ false) (sym n.same) (minimal names nss),
      )

  well_headed : (q : Query) → IsWell q (table_headers (catalog_of stored)) (is_some (binding_fault (table_headers (catalog_of stored)) q))
  well_headed q = subst (λ hs. IsWell q hs (is_some (binding_fault hs q))) (sym (same_table_headers stored tables stand)) (well q (is_some (binding_fault (map table_header_of tables) q)))

  none_of_ten : (a b c d e f g h i j : Option CheckFault) → a ≡ None → b ≡ None → c ≡ None → d ≡ None → e ≡ None → f ≡ None → g ≡ None → h ≡ None → i ≡ None → j ≡ None
      → first_some (a ∷ b ∷ c ∷ d ∷ e ∷ f ∷ g ∷ h ∷ i ∷ j ∷ []) ≡ None
  none_of_ten a b c d e f g h i j ea eb ec ed ee ef eg eh ei ej = rw (ea, eb, ec, ed, ee, ef, eg, eh, ei, ej) refl

  -- No test refuses the reply of a store that holds these trees.
  pub unrefused : (key : List ℕ) (least : ℕ) (q : Query) (rec : Record) (signature : List ℕ) → rec.id ≡ key_id key → rec.catalog ≡ catalog_digest (catalog_of stored)
      → IsSigned key rec signature → least ≤ rec.version → check_fault key least q (honest_reply q rec signature stored) ≡ None
  unfolding check_fault honest_reply
  unrefused key least q rec signature id catalog signed recent =
      let r : Reply = honest_reply q rec signature stored in
      let hs : List TableHeader = table_headers (catalog_of stored) in
      let w = well_headed q in
      let names : List (List ℕ) = names_if q hs (is_some (binding_fault hs q)) in
      let nss : List (List Need) = needs (bound_sources hs q) q (map tree names) in
      none_of_ten (key_fault key r) (leaf_fault key r) (signature_fault key r) (age_fault least r) (catalog_fault r) (count_fault q r) (shape_fault q r)
      (first_some (map root_fault (trees_of q r))) (missing_fault q r) (surplus_fault q r)
      (cond-true (bytes_eq rec.id (key_id key)) None _ ((bytes_eq-Decides rec.id (key_id key)).1 id))
      (ap (option_and_then (λ leaf. cond (leaf == rec.version) None (Some (WrongLeaf rec.version leaf)))) signed.leaf
      ∙ cond-true (rec.version == rec.version) None _ (eq-eqb rec.version rec.version refl))
      (cond-true (lms_valid key (record_bytes rec) signature) None _ signed.valid)
      (cond-false (nat_lt rec.version least) _ None (le-ltb rec.version least recent))
      (cond-true (bytes_eq rec.catalog (catalog_digest (catalog_of stored))) None _ ((bytes_eq-Decides rec.catalog (catalog_digest (catalog_of stored))).1 catalog))
      (cond-true (length (proofs_if q hs (is_some (binding_fault hs q))) == length names) None _ (eq-eqb (length (proofs_if q hs (is_some (binding_fault hs q)))) (length names) w.0))
      (cond-true (list_all has_table_shape (zip (map look names) (pruned_each nss (map tree names)))) None _ (shapes names nss))
      (roots names nss)
      (cond-false (list_any (λ (t : List Need × RowTree). is_missing t.0 t.1) (needed_if q hs (is_some (binding_fault hs q)))) _ None w.2)
      (cond-false (list_any (λ (t : List Need × RowTree). has_surplus t.0 t.1) (needed_if q hs (is_some (binding_fault hs q)))) _ None w.3)

  -- A client takes it, and its outcome is the query's result on the tables that the trees stand
  -- for.
  pub answered : (key : List ℕ) (least : ℕ) (q : Query) (rec : Record) (signature : List ℕ) → rec.id ≡ key_id key → rec.catalog ≡ catalog_digest (catalog_of stored)
      → IsSigned key rec signature → least ≤ rec.version → FitsQuery q
      → answer_to key least q (honest_reply q rec signature stored) ≡ Ok (record { version = rec.version; outcome = result q tables })
  unfolding answer_to honest_reply
  answered key least q rec signature id catalog signed recent fits =
      let r : Reply = honest_reply q rec signature stored in
      let hs : List TableHeader = table_headers (catalog_of stored) in
      let w = well_headed q in
      let missing : missing_fault q r ≡ None = cond-false (list_any (λ (t : List Need × RowTree). is_missing t.0 t.1) (needed_if q hs (is_some (binding_fault hs q)))) _ None w.2 in
      let outcome_is : seen_outcome q r.catalog r.trees ≡ result q tables = exact q r stored tables stand (inr fit) fits refl w.1 missing in
      ap (λ o. unless o (record { version = rec.version; outcome = seen_outcome q r.catalog r.trees })) (unrefused key least q rec signature id catalog signed recent)
      ∙ ap (λ o. Ok (record { version = rec.version; outcome = o })) outcome_is

-- The reply of a store that holds the trees after these batches: a client takes it, with the
-- query's result on the tables after them.
pub honest_answer : (batches : List (List Command)) (key : List ℕ) (version least : ℕ) (q : Query) (rec : Record) (signature : List ℕ)
    → AllByRecursion FitsBatch batches → rec ≡ honest_record key version (honest_trees batches) → IsSigned key rec signature
    → least ≤ rec.version → FitsQuery q
    → answer_to key least q (honest_reply q rec signature (honest_trees batches)) ≡ Ok (record { version = rec.version; outcome = result q (tables_after batches) })
unfolding honest_record
honest_answer batches key version least q rec signature fits is signed recent query_fits =
    let s = stands batches fits in
    answered (honest_trees batches) (tables_after batches) s.0 s.1 key least q rec signature
    (ap (λ (r : Record). r.id) is) (ap (λ (r : Record). r.catalog) is) signed recent query_fits
