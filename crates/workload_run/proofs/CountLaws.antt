-- The rows that queries give, query by query, and that they are not too many to be counted.
use Rattle.std.proofs.Common.{◌≡◌, ℕ, zero, suc, ◌+◌, ◌*◌, ◌<◌, ◌≤◌, Bool, true, false, cond, List, [], ◌∷◌, ◌++◌, length, map, take, get_or, Option, Some, None, append-nil, sym, ap, ◌∙◌, arith}
use Rattle.std.specs.Prelude.{slice_index_or, filter, flat_map, bytes_eq, codes}
use Rattle.std.specs.Option.{option_map_or}
use Rattle.std.proofs.lemmas.Grind.{flat_map-append}
use Rattle.std.proofs.lemmas.List.{length-append, length-map, length-take, take_more}
use Rattle.vo_spec.specs.declared.queries.Join.{Join}
use Rattle.vo_spec.specs.declared.queries.QueryFault.{QueryFault}
use Rattle.vo_spec.specs.declared.queries.QueryText.{QueryText}
use Rattle.vo_spec.specs.declared.tables.Table.{Table}
use Rattle.vo_spec.specs.declared.values.Row.{Row}
use Rattle.vo_spec.specs.declared.values.Value.{Value}
use Rattle.vo_spec.specs.Conditions.{Query, query_of}
use Rattle.vo_spec.specs.Results.{BoundSource, RowView, answer_rows, binding_fault, bound_sources, combinations, first_rows, header, is_answer, outcome, place_value, result, row_view_of, row_views_at, schema_at, shown_places, unlimited_rows, bound_source_at}
use Rattle.vo_spec.specs.Tables.{rows_named, table_header_of}
use Rattle.vo_laws.proofs.CommandLaws.{filter_shorter}
use Rattle.vo_gen.specs.Workload.{max_steps, tables_of}
use Rattle.workload_run.specs.Running.{rows_given, rows_of}

-- Query by query.

abbrev rows_by : List Table → QueryText → List (List Value)
rows_by tables q = rows_of (result (query_of q) tables)

pub rows_next : (tables : List Table) (qs : List QueryText) (n : ℕ) (q : QueryText) → n < length qs
    → q ≡ get_or qs n q → length (rows_given tables (take (n + 1) qs))
    ≡ length (rows_given tables (take n qs)) + length (rows_of (result (query_of q) tables))
rows_next tables qs n q within is =
    let more : take (n + 1) qs ≡ take n qs ++ q ∷ [] =
    take_more qs n q within ∙ ap (λ (x : QueryText). take n qs ++ x ∷ []) (sym is) in
    let rows = rows_of (result (query_of q) tables) in
    ap (λ (xs : List QueryText). length (rows_given tables xs)) more
    ∙ ap (λ (rs : List (List Value)). length rs)
    (flat_map-append (rows_by tables) (take n qs) (q ∷ []))
    ∙ length-append (rows_given tables (take n qs)) (rows ++ [])
    ∙ ap (λ (rs : List (List Value)). length (rows_given tables (take n qs)) + length rs)
    (append-nil rows)

pub rows_within : (tables : List Table) (qs : List QueryText) (n : ℕ)
    → length (rows_given tables (take n qs)) ≤ length (rows_given tables qs)
rows_within tables [] zero = omega arith
rows_within tables [] (suc n) = omega arith
rows_within tables (q ∷ qs) zero = omega arith
rows_within tables (q ∷ qs) (suc n) =
    let rows = rows_of (result (query_of q) tables) in
    let rest : length (rows_given tables (take n qs)) ≤ length (rows_given tables qs) =
    rows_within tables qs n in
    omega (
      arith,
      rest,
      length-append rows (rows_given tables (take n qs)),
      length-append rows (rows_given tables qs),
    )

-- How many there are at most: a table of a workload has no more rows than a workload has steps.

abbrev most_rows : ℕ
most_rows = 20000000000

paired : (lefts rights : List RowView) → length rights ≤ max_steps
    → length (flat_map (λ left. map (λ right. left ∷ right ∷ []) rights) lefts)
    ≤ length lefts * max_steps
paired [] rights few = omega arith
paired (left ∷ lefts) rights few =
    let pairs : List (List RowView) = map (λ right. left ∷ right ∷ []) rights in
    let others : List (List RowView) =
    flat_map (λ (l : RowView). map (λ right. l ∷ right ∷ []) rights) lefts in
    let rest : length others ≤ length lefts * max_steps = paired lefts rights few in
    let here : length pairs ≡ length rights =
    length-map rights (λ (right : RowView). left ∷ right ∷ []) in
    omega (arith, rest, here, few, length-append pairs others)

combined : (j : Option Join) (lefts rights : List RowView) → length lefts ≤ max_steps
    → length rights ≤ max_steps → length (combinations j lefts (λ left. rights)) ≤ most_rows
combined None lefts rights few others =
    omega (arith, few, length-map lefts (λ (left : RowView). left ∷ []))
combined (Some j) lefts rights few others = omega (arith, few, paired lefts rights others)

abbrev only : List Row → Table
only rows = slice_index_or (tables_of rows) 0 (record { name = []; schema = record { columns = []; key = 0 }; rows = [] })

named_few : (name : List ℕ) (rows : List Row) → length rows ≤ max_steps
    → length (rows_named name (tables_of rows)) ≤ max_steps
named_few name rows few = step (bytes_eq (codes "t") name)
  where
    step : (b : Bool) → length (option_map_or (λ (t : Table). t.rows)
        (cond b (Some (only rows)) None) []) ≤ max_steps
    step true = few
    step false = omega arith

views_few : (rows : List Row) (ss : List BoundSource) (i : ℕ) → length rows ≤ max_steps
    → length (row_views_at (tables_of rows) ss i) ≤ max_steps
views_few rows ss i few =
    let named = rows_named (bound_source_at ss i).table (tables_of rows) in
    omega (
      arith,
      length-map named (row_view_of (schema_at ss i)),
      named_few (bound_source_at ss i).table rows few,
    )

shown_few : (fault : Option QueryFault) (titles : List (List ℕ)) (rows : List (List Value))
    → length (rows_of (outcome fault titles rows)) ≤ length rows
shown_few None titles rows = omega arith
shown_few (Some fault) titles rows = omega arith

first_few : (limit : Option ℕ) (rows : List (List Value))
    → length (first_rows limit rows) ≤ length rows
first_few None rows = omega arith
first_few (Some n) rows = omega (arith, length-take n rows)

result_few : (q : Query) (rows : List Row) → length rows ≤ max_steps
    → length (rows_of (result q (tables_of rows))) ≤ most_rows
unfolding result
result_few q rows few =
    let tables : List Table = tables_of rows in
    let ss : List BoundSource = bound_sources (map table_header_of tables) q in
    let lefts : List RowView = row_views_at tables ss 0 in
    let rights : List RowView = row_views_at tables ss 1 in
    let all : List (List RowView) = combinations q.join lefts (λ left. rights) in
    let met : List (List RowView) = filter (is_answer ss q) all in
    omega (
      arith,
      shown_few (binding_fault (map table_header_of tables) q) (header ss q.items)
          (answer_rows ss q lefts (λ left. rights)),
      first_few q.limit (unlimited_rows ss q lefts (λ left. rights)),
      length-map met (λ (rs : List RowView). map (place_value rs) (shown_places ss q.items)),
      filter_shorter (is_answer ss q) all,
      combined q.join lefts rights (views_few rows ss 0 few) (views_few rows ss 1 few),
    )

pub given_few : (rows : List Row) (qs : List QueryText) → length rows ≤ max_steps
    → length (rows_given (tables_of rows) qs) ≤ length qs * most_rows
given_few rows [] few = omega arith
given_few rows (q ∷ qs) few =
    let here = rows_of (result (query_of q) (tables_of rows)) in
    let others = rows_given (tables_of rows) qs in
    let rest : length others ≤ length qs * most_rows = given_few rows qs few in
    omega (arith, rest, result_few (query_of q) rows few, length-append here others)
