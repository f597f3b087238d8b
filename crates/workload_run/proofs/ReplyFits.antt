-- The reply to a query of a workload is within the limit: it has one tree, of rows with two short
-- cells.
use Rattle.std.proofs.Common.{◌≡◌, ℕ, ◌+◌, ◌*◌, ◌≤◌, Bool, true, false, cond, List, [], ◌∷◌, ◌++◌, length, map, codes, refl, sym, ap, ◌∙◌, subst, arith}
use Rattle.std.specs.Prelude.{decimal, find, flat_map, is_some, bytes_eq, Some}
use Rattle.std.specs.Option.{option_map_or}
use Rattle.std.specs.List.{AllByRecursion}
use Rattle.std.proofs.lemmas.List.{length-append, length-map}
use Rattle.std.proofs.lemmas.List.Elements.{All-from_recursion, recursion_from_All}
use Rattle.sha2.proofs.Facts256.{length-sha256}
use Rattle.vo_spec.specs.declared.cells.Cell.TheVariants.{Shown, Hidden}
use Rattle.vo_spec.specs.declared.cells.RowPart.TheVariants.{Digest as Closed, Cells}
use Rattle.vo_spec.specs.declared.needs.Need.{Need}
use Rattle.vo_spec.specs.declared.records.Catalog.{Catalog}
use Rattle.vo_spec.specs.declared.tables.Batch.{Batch}
use Rattle.vo_spec.specs.declared.tables.Command.{Command}
use Rattle.vo_spec.specs.declared.tables.Schema.{Schema}
use Rattle.vo_spec.specs.declared.tables.Table.{Table}
use Rattle.vo_spec.specs.declared.values.Row.{Row}
use Rattle.vo_spec.specs.declared.values.Value.{Value}
use Rattle.vo_spec.specs.declared.values.Value.TheVariants.{Text}
use Rattle.vo_spec.specs.declared.queries.QueryText.{QueryText}
use Rattle.vo_spec.specs.Batches.{FitsBatch}
use Rattle.vo_spec.specs.Bytes.{string, u16_bytes, u32_bytes, u64_bytes}
use Rattle.vo_spec.specs.Cells.{attribute_bytes, cell_digest, row_bytes, row_digest, whole_entry}
use Rattle.vo_spec.specs.Checks.{tables_wanted}
use Rattle.vo_spec.specs.Conditions.{Query, query_of}
use Rattle.vo_spec.specs.Fits.{FitsEntry, FitsPart, FitsTree}
use Rattle.vo_spec.specs.Honest.{Stored, RepresentTables, catalog_of, honest_reply, honest_trees, pruned_each, stored_tree, trees_for}
use Rattle.vo_spec.specs.Needs.{needs, tables_used}
use Rattle.vo_spec.specs.Parts.{entries, leaf}
use Rattle.vo_spec.specs.Pruning.{has_column, is_any, needed_columns, prune_tree, shown_cell, shown_row}
use Rattle.vo_spec.specs.Records.{FitsRecord, catalog_bytes, record_bytes, table_headers}
use Rattle.vo_spec.specs.Replies.{Reply, reply_bytes}
use Rattle.vo_spec.specs.Representation.{IsTree}
use Rattle.vo_spec.specs.Results.{binding_fault, bound_sources}
use Rattle.vo_spec.specs.Tables.{TableHeader, rows_named, tables_after}
use Rattle.vo_spec.specs.TreeBytes.{cell_form, row_form, tree_bytes}
use Rattle.vo_spec.specs.Trees.{RowTree, digest, row_family}
use Rattle.vo_spec.specs.Values.{value_bytes}
use Rattle.vo_laws.proofs.ByteLengths.{length-string}
use Rattle.vo_laws.proofs.ListLaws.{each_map, each_weaker}
use Rattle.vo_laws.proofs.RepresentationLaws.{stands}
use Rattle.vo_laws.proofs.StoredFits.{honest_trees_fit, root_length}
use Rattle.vo_laws.proofs.ValueOrder.{number_length}
use Rattle.vo_gen.specs.Words.{key_of_number, word_of}
use Rattle.owner_state.proofs.EntryLaws.{record_long}
use Rattle.vo_gen.specs.Workload.{IsDrawn, batches, commands_of, is_even, join_query, keys_for, max_steps, number, queries, queries_of, query, query_count, selection, tables_of}
use Rattle.vo_gen.proofs.Accepted.{workload_drawn, workload_few, workload_table}
use Rattle.vo_gen.proofs.Sizes.{batches_fit, each_of, label_length, label_size, number_size, word_below}
use Rattle.owner_state.proofs.SealSteps.{each_fits}
use Rattle.workload_run.specs.Parties.{HasRoom}
use Rattle.workload_run.proofs.ReplySizes.{IsShortFor, proof_size}

-- Rows.

cell_size : (columns : List ℕ) (column : ℕ) (v : Value) → length (value_bytes v) ≤ 32
    → length (cell_form (shown_cell columns column (Shown v))) ≤ 33
cell_size columns column v short = step (has_column columns column)
  where
    step : (b : Bool)
        → length (cell_form (cond b (Shown v) (Hidden (cell_digest column (Shown v))))) ≤ 33
    step true = omega (arith, short)
    step false = omega (arith, length-sha256 (attribute_bytes column v))

row_size : (columns : List ℕ) (a b : Value) → length (value_bytes a) ≤ 32
    → length (value_bytes b) ≤ 32
    → length (row_form (shown_row columns (Cells (Shown a ∷ Shown b ∷ [])))) ≤ 68
row_size columns a b first second = step (is_any columns)
  where
    x : List ℕ
    x = cell_form (shown_cell columns 0 (Shown a))

    y : List ℕ
    y = cell_form (shown_cell columns 1 (Shown b))

    step : (open_row : Bool) → length (row_form (cond open_row
        (Cells (shown_cell columns 0 (Shown a) ∷ shown_cell columns 1 (Shown b) ∷ []))
        (Closed (row_digest (Cells (Shown a ∷ Shown b ∷ [])))))) ≤ 68
    step true = omega (
      arith,
      length-append x (y ++ []),
      length-append y [],
      cell_size columns 0 a first,
      cell_size columns 1 b second,
    )
    step false = omega (arith, length-sha256 (row_bytes (Shown a ∷ Shown b ∷ [])))

-- the entry of this row is short, whatever of it is shown
abbrev IsShortRow : Row → Type 0
IsShortRow row = (ns : List Need) → IsShortFor ns (whole_entry row)

short_row : (key : List ℕ) (keys : ℕ) (row : Row) → IsDrawn (word_of key) keys row → IsShortRow row
short_row key keys row is ns =
    let columns : List ℕ = needed_columns ns row.key in
    let name : Value = Text (codes "n" ++ decimal (word_of key is.place)) in
    let label : length (value_bytes name) ≤ 32 = omega (
      arith,
      label_size (word_of key is.place),
      label_length (word_of key is.place) (word_below key is.place),
    ) in
    let boss : length (value_bytes (number is.boss)) ≤ 32 = omega (arith, number_size is.boss) in
    let row_part : length (row_form (shown_row columns (Cells (map Shown row.cells)))) ≤ 68 =
    subst (λ (values : List Value). length (row_form (shown_row columns (Cells (map Shown values)))) ≤ 68)
    (sym is.cells_are) (row_size columns name (number is.boss) label boss) in
    let key_size : length row.key ≡ 8 = ap length is.key_is ∙ number_length _ in
    omega (
      arith,
      row_part,
      key_size,
      length-string row.key,
      length-append (string row.key) (row_form (shown_row columns (Cells (map Shown row.cells)))),
    )

-- Trees.

abbrev most_tree : ℕ
most_tree = 60000033

record IsSmall (t : RowTree) : Type 0 where
  tree : IsTree row_family t
  fits : FitsPart t
  short : (ns : List Need) → AllByRecursion (IsShortFor ns) (entries t)
  few : length (entries t) ≤ max_steps

small_proof : (ns : List Need) (t : RowTree) → IsSmall t → length (tree_bytes (prune_tree ns t)) ≤ most_tree
small_proof ns t small =
    let size = proof_size ns t small.tree small.fits (small.short ns) in
    omega (arith, size, small.few)

no_rows_small : IsSmall (leaf [])
no_rows_small = record {
  tree = record { height = 0; shape = (refl, omega arith, omega arith, tt); rising = tt };
  fits = (omega arith, All-from_recursion FitsEntry [] tt);
  short = λ ns. tt;
  few = omega arith;
}

represented_small : (t : RowTree) (rows : List Row) → IsTree row_family t → entries t ≡ map whole_entry rows
    → FitsPart t → AllByRecursion IsShortRow rows → length rows ≤ max_steps → IsSmall t
represented_small t rows tree same fits short few = record {
  tree = tree;
  fits = fits;
  short = λ ns. subst (AllByRecursion (IsShortFor ns)) (sym same)
      (each_map (IsShortFor ns) whole_entry rows
      (each_weaker IsShortRow (λ row. IsShortFor ns (whole_entry row)) (λ row all. all ns) rows short));
  few = omega (arith, few, ap length same, length-map rows whole_entry);
}

named_small : (name : List ℕ) (stored : List Stored) → AllByRecursion (λ (s : Stored). IsSmall s.tree) stored
    → IsSmall (stored_tree stored name)
named_small name [] all = no_rows_small
named_small name (s ∷ stored) all = step (bytes_eq s.name name) (named_small name stored all.1)
  where
    step : (b : Bool) → IsSmall (stored_tree stored name)
        → IsSmall (option_map_or (λ (x : Stored). x.tree)
        (cond b (Some s) (find (λ (x : Stored). bytes_eq x.name name) stored)) (leaf []))
    step true rest = all.0
    step false rest = rest

each_small : (names : List (List ℕ)) (stored : List Stored) → AllByRecursion (λ (s : Stored). IsSmall s.tree) stored
    → AllByRecursion IsSmall (map (stored_tree stored) names)
each_small [] stored all = tt
each_small (name ∷ names) stored all = (named_small name stored all, each_small names stored all)

proofs_size : (nss : List (List Need)) (ts : List RowTree) → AllByRecursion IsSmall ts
    → length (flat_map tree_bytes (pruned_each nss ts)) ≤ length ts * most_tree
proofs_size [] ts all = omega arith
proofs_size (ns ∷ nss) [] all = omega arith
proofs_size (ns ∷ nss) (t ∷ ts) all =
    let here = small_proof ns t all.0 in
    let rest : length (flat_map tree_bytes (pruned_each nss ts)) ≤ length ts * most_tree =
    proofs_size nss ts all.1 in
    omega (
      arith,
      here,
      length-append (tree_bytes (prune_tree ns t)) (flat_map tree_bytes (pruned_each nss ts)),
    )

-- The one table.

abbrev schema_of : List Table → Schema
schema_of [] = record { columns = []; key = 0 }
schema_of (t ∷ tables) = t.schema

-- what is stored of the one table
pub record IsOne (rows : List Row) (stored : List Stored) : Type 0 where
  pub one : Stored
  pub only : stored ≡ one ∷ []
  pub name : one.name ≡ codes "t"
  pub schema : one.schema ≡ schema_of (tables_of rows)
  pub tree : IsTree row_family one.tree
  pub same : entries one.tree ≡ map whole_entry rows

pub only_one : (rows : List Row) (stored : List Stored) → RepresentTables stored (tables_of rows) → IsOne rows stored
only_one rows [] represents = absurd represents
only_one rows (s ∷ []) represents = record {
  one = s;
  only = refl;
  name = represents.0.name;
  schema = represents.0.schema;
  tree = represents.0.stands.tree;
  same = represents.0.stands.rows_are;
}
only_one rows (s ∷ t ∷ stored) represents = absurd represents.1

catalog_size : (rows : List Row) (stored : List Stored) → IsOne rows stored
    → length (catalog_bytes (catalog_of stored)) ≤ 100
unfolding catalog_bytes u16_bytes u64_bytes
catalog_size rows stored is =
    subst (λ (ss : List Stored). length (catalog_bytes (catalog_of ss)) ≤ 100) (sym is.only)
    (subst (λ (name : List ℕ). length (catalog_bytes (made name is.one.schema)) ≤ 100) (sym is.name)
    (subst (λ (schema : Schema). length (catalog_bytes (made (codes "t") schema)) ≤ 100) (sym is.schema)
    (omega (
      arith,
      root_length is.one.tree is.tree,
      length-append (digest is.one.tree) [],
    ))))
  where
    made : List ℕ → Schema → Catalog
    made name schema = record {
      tables = record {
        name = name;
        schema = schema;
        rows = length (entries is.one.tree);
        root = digest is.one.tree;
      } ∷ [];
    }

-- The reply.

abbrev UsesOneTable : Query → Type 0
UsesOneTable q = (hs : List TableHeader) → length (tables_used (bound_sources hs q)) ≤ 1

one_wanted : (q : Query) (c : Catalog) → UsesOneTable q → length (tables_wanted q c) ≤ 1
one_wanted q c one = step (is_some (binding_fault (table_headers c) q))
  where
    step : (b : Bool) → length (cond b [] (tables_used (bound_sources (table_headers c) q))) ≤ 1
    step true = omega arith
    step false = one (table_headers c)

u32_size : (n : ℕ) → length (u32_bytes n) ≡ 4
unfolding u32_bytes
u32_size n = refl

reply_size : (r : Reply) → FitsRecord r.rec → length (reply_bytes r)
    ≡ 73 + length r.signature + length (catalog_bytes r.catalog) + length (flat_map tree_bytes r.trees)
unfolding reply_bytes
reply_size r fits =
    simp length-append (omega (
      arith,
      record_long r.rec fits,
      u32_size (length r.signature),
      u32_size (length (catalog_bytes r.catalog)),
    ))

has_room : (cs : List (List Command)) (rows : List Row) (q : Query) → AllByRecursion FitsBatch cs
    → tables_after cs ≡ tables_of rows → AllByRecursion IsShortRow rows → length rows ≤ max_steps
    → UsesOneTable q → HasRoom cs q
unfolding honest_reply
has_room cs rows q fit tables short few one rec signature record_fits signature_short =
    let stored : List Stored = honest_trees cs in
    let is = only_one rows stored (subst (RepresentTables stored) tables (stands cs fit).0) in
    let fits : AllByRecursion (λ (s : Stored). FitsTree s.tree) (is.one ∷ []) =
    subst (AllByRecursion (λ (s : Stored). FitsTree s.tree)) is.only (honest_trees_fit cs fit) in
    let small : AllByRecursion (λ (s : Stored). IsSmall s.tree) stored =
    subst (AllByRecursion (λ (s : Stored). IsSmall s.tree)) (sym is.only)
    (represented_small is.one.tree rows is.tree is.same fits.0.nodes short few, tt) in
    let names : List (List ℕ) = tables_wanted q (catalog_of stored) in
    let nss : List (List Need) =
    needs (bound_sources (table_headers (catalog_of stored)) q) q (trees_for q stored) in
    let wanted : length names ≤ 1 = one_wanted q (catalog_of stored) one in
    let trees : length (flat_map tree_bytes (pruned_each nss (trees_for q stored)))
    ≤ length (trees_for q stored) * most_tree =
    proofs_size nss (trees_for q stored) (each_small names stored small) in
    omega (
      arith,
      reply_size (honest_reply q rec signature stored) record_fits,
      catalog_size rows stored is,
      trees,
      wanted,
      length-map names (stored_tree stored),
      signature_short,
    )

-- The queries of a workload.

asks_one : (even : Bool) (low high : ℕ)
    → UsesOneTable (query_of (cond even (selection low high) (join_query low high)))
asks_one true low high hs = omega arith
asks_one false low high hs = omega arith

query_asks_one : (word : ℕ → ℕ) (keys n j : ℕ) → UsesOneTable (query_of (query word keys n j))
unfolding query
query_asks_one word keys n j = asks_one (is_even j) _ _

pub replies_fit : (steps number : ℕ) → steps ≤ max_steps
    → AllByRecursion (λ (q : QueryText). HasRoom (commands_of (batches steps number)) (query_of q))
    (queries steps number)
unfolding queries_of
replies_fit steps number most =
    let key : List ℕ = key_of_number number in
    let cs : List (List Command) = commands_of (batches steps number) in
    let rows : List Row = rows_named (codes "t") (tables_after cs) in
    let fit : AllByRecursion FitsBatch cs =
    each_fits (batches steps number)
    (recursion_from_All (λ (b : Batch). FitsBatch b.commands) (batches steps number)
    (batches_fit steps number most)) in
    let short : AllByRecursion IsShortRow rows =
    each_weaker (IsDrawn (word_of key) (keys_for steps)) IsShortRow
    (λ row. short_row key (keys_for steps) row) rows (workload_drawn (word_of key) steps most) in
    each_of (λ (q : QueryText). HasRoom cs (query_of q)) (query (word_of key) (keys_for steps) steps)
    (λ j. has_room cs rows (query_of (query (word_of key) (keys_for steps) steps j)) fit
    (workload_table (word_of key) steps most) short
    (omega (arith, workload_few (word_of key) steps most, most))
    (query_asks_one (word_of key) (keys_for steps) steps j))
    0 query_count
