-- What a client says of a reply: the first of its tests that refuses it, or the answer.
use Rattle.std.specs.Prelude.{◌≡◌, ◌⊎◌, find, remove, option_and_then, ℕ, ◌<◌, ◌≤◌, Bool, true, false, ◌&&◌, ◌==◌, nat_lt, nat_le, if◌then◌else◌, List, [], ◌∷◌, map, length, Option, Some, None, is_some, Result, Err, zip, bytes_eq}
use Rattle.std.specs.Option.{option_map_or}
use Rattle.std.specs.List.{list_any, list_all}
use Rattle.vo_spec.specs.declared.values.Kind.{Kind}
use Rattle.vo_spec.specs.declared.values.Kind.TheVariants as kind
use Rattle.vo_spec.specs.declared.tables.Column.{Column}
use Rattle.vo_spec.specs.declared.tables.Schema.{Schema}
use Rattle.vo_spec.specs.declared.cells.Cell.{Cell}
use Rattle.vo_spec.specs.declared.cells.Cell.TheVariants.{Shown, Hidden}
use Rattle.vo_spec.specs.declared.cells.RowPart.{RowPart}
use Rattle.vo_spec.specs.declared.cells.RowPart.TheVariants.{Digest as Closed, Cells}
use Rattle.vo_spec.specs.declared.cells.PartEntry.{PartEntry}
use Rattle.vo_spec.specs.declared.needs.Need.{Need}
use Rattle.vo_spec.specs.declared.queries.Outcome.{Outcome}
use Rattle.vo_spec.specs.declared.records.Catalog.{Catalog}
use Rattle.vo_spec.specs.declared.records.CatalogTable.{CatalogTable}
use Rattle.vo_spec.specs.declared.checks.Answer.{Answer}
use Rattle.vo_spec.specs.declared.checks.CheckFault.{CheckFault}
use Rattle.vo_spec.specs.declared.checks.CheckFault.TheVariants.{TooLong, BadForm, WrongKey, WrongLeaf, BadSignature, Stale, WrongCatalog, WrongTrees, WrongShape, WrongRoot, Missing, Surplus}
use Rattle.vo_spec.specs.Firsts.{first_some, unless}
use Rattle.vo_spec.specs.Values.{is_of_kind, is_text}
use Rattle.vo_spec.specs.Tables.{column_at, allows, max_key}
use Rattle.vo_spec.specs.Results.{bound_sources, binding_fault, header, outcome, answer_rows}
use Rattle.vo_spec.specs.Conditions.{Query}
use Rattle.vo_spec.specs.Keys.{key_id, leaf_of, lms_valid}
use Rattle.vo_spec.specs.Records.{record_bytes, catalog_digest, table_headers}
use Rattle.vo_spec.specs.Replies.{Reply, IsReply, IsNoReply, max_reply}
use Rattle.vo_spec.specs.Parts.{entries}
use Rattle.vo_spec.specs.Trees.{RowTree, digest}
use Rattle.vo_spec.specs.Pruning.{is_missing, has_surplus}
use Rattle.vo_spec.specs.Needs.{tables_used, needs, seen_lefts, seen_rights}

-- The shape of a tree: the keys of its leaves are keys of the schema, its rows have the schema's
-- cells, and the cells that are shown are of their columns' kinds, NULL in nullable columns alone.

-- the bytes of a key of this kind
abbrev pub is_key_of : Kind → List ℕ → Bool
is_key_of kind.Int key = length key == 8
is_key_of kind.Text key = nat_le (length key) max_key && is_text key
is_key_of kind.Bool key = false

abbrev pub key_kind : Schema → Kind
key_kind schema = (column_at schema.columns schema.key).kind

abbrev pub cell_fits : Column → Cell → Bool
cell_fits c (Shown value) = is_of_kind c.kind value && allows c value
cell_fits c (Hidden digest) = true

-- a cell for each column, those that are shown of what it may have
abbrev pub cells_fit : List Column → List Cell → Bool
cells_fit [] [] = true
cells_fit (c ∷ columns) (cell ∷ cells) = cell_fits c cell && cells_fit columns cells
cells_fit _ _ = false

abbrev pub row_fits : Schema → RowPart → Bool
row_fits schema (Closed digest) = true
row_fits schema (Cells cells) = cells_fit (remove schema.columns schema.key) cells

abbrev pub entry_fits : Schema → PartEntry → Bool
entry_fits schema e = is_key_of (key_kind schema) e.key && row_fits schema e.row

abbrev pub has_shape : Schema → RowTree → Bool
has_shape schema p = list_all (entry_fits schema) (entries p)

-- The tests of a reply, in their order; `want` is what the client goes by.

abbrev pub key_fault : List ℕ → Reply → Option CheckFault
key_fault key r = if bytes_eq r.rec.id (key_id key) then None
    else Some (WrongKey (key_id key) r.rec.id)

abbrev pub leaf_fault : List ℕ → Reply → Option CheckFault
leaf_fault key r = option_and_then
    (λ q. if q == r.rec.version then None else Some (WrongLeaf r.rec.version q))
    (leaf_of key r.signature)

abbrev pub signature_fault : List ℕ → Reply → Option CheckFault
signature_fault key r = if lms_valid key (record_bytes r.rec) r.signature then None
    else Some BadSignature

abbrev pub age_fault : ℕ → Reply → Option CheckFault
age_fault least r = if nat_lt r.rec.version least then Some (Stale least r.rec.version) else None

abbrev pub catalog_fault : Reply → Option CheckFault
catalog_fault r =
    if bytes_eq r.rec.catalog (catalog_digest r.catalog) then None
    else Some (WrongCatalog r.rec.catalog (catalog_digest r.catalog))

-- the tables whose trees the reply is to have: none, where the query is wrong
abbrev pub tables_wanted : Query → Catalog → List (List ℕ)
tables_wanted q c =
    if is_some (binding_fault (table_headers c) q) then []
    else tables_used (bound_sources (table_headers c) q)

abbrev pub count_fault : Query → Reply → Option CheckFault
count_fault q r =
    let want = length (tables_wanted q r.catalog) in
    if length r.trees == want then None else Some (WrongTrees want (length r.trees))

abbrev pub table_named : List ℕ → Catalog → Option CatalogTable
table_named name c = find (λ (t : CatalogTable). bytes_eq t.name name) c.tables

-- the trees that there are, each with its table
abbrev pub trees_of : Query → Reply → List (Option CatalogTable × RowTree)
trees_of q r = zip (map (λ name. table_named name r.catalog) (tables_wanted q r.catalog)) r.trees

abbrev pub has_table_shape : Option CatalogTable × RowTree → Bool
has_table_shape t = option_map_or (λ (table : CatalogTable). has_shape table.schema t.1) t.0 true

abbrev pub shape_fault : Query → Reply → Option CheckFault
shape_fault q r = if list_all has_table_shape (trees_of q r) then None else Some WrongShape

abbrev pub root_fault : Option CatalogTable × RowTree → Option CheckFault
root_fault t = option_and_then (λ (table : CatalogTable).
    if bytes_eq table.root (digest t.1) then None
    else Some (WrongRoot table.name table.root (digest t.1))) t.0

-- the trees, each with its needs
abbrev pub needs_with_trees : Query → Reply → List (List Need × RowTree)
needs_with_trees q r =
    if is_some (binding_fault (table_headers r.catalog) q) then []
    else zip (needs (bound_sources (table_headers r.catalog) q) q r.trees) r.trees

abbrev pub missing_fault : Query → Reply → Option CheckFault
missing_fault q r = if list_any (λ t. is_missing t.0 t.1) (needs_with_trees q r)
    then Some Missing else None

abbrev pub surplus_fault : Query → Reply → Option CheckFault
surplus_fault q r = if list_any (λ t. has_surplus t.0 t.1) (needs_with_trees q r)
    then Some Surplus else None

-- the first test that refuses a reply
unfoldable pub check_fault : List ℕ → ℕ → Query → Reply → Option CheckFault
check_fault key least q r = first_some
    (key_fault key r
    ∷ leaf_fault key r
    ∷ signature_fault key r
    ∷ age_fault least r
    ∷ catalog_fault r
    ∷ count_fault q r
    ∷ shape_fault q r
    ∷ first_some (map root_fault (trees_of q r))
    ∷ missing_fault q r
    ∷ surplus_fault q r
    ∷ [])

-- The outcome by what the trees show: the filter or the nested loop over the rows that are seen.
unfoldable pub seen_outcome : Query → Catalog → List RowTree → Outcome
seen_outcome q c trees = let ss = bound_sources (table_headers c) q in
    outcome (binding_fault (table_headers c) q) (header ss q.items)
    (answer_rows ss q (seen_lefts ss q trees) (seen_rights ss q trees))

unfoldable pub answer_to : List ℕ → ℕ → Query → Reply → Result Answer CheckFault
answer_to key least q r =
    unless (check_fault key least q r)
    (record { version = r.rec.version; outcome = seen_outcome q r.catalog r.trees })

-- What a client of this key, who accepts no version below `least`, says of these bytes as the reply
-- to this query. Want of memory is no answer of this.
unfoldable pub CheckOf : List ℕ → ℕ → Query → List ℕ → Result Answer CheckFault → Type 0
CheckOf key least q bytes answer =
    ((max_reply < length bytes) × (answer ≡ Err (TooLong (length bytes))))
    ⊎ ((length bytes ≤ max_reply) × IsNoReply bytes × (answer ≡ Err BadForm))
    ⊎ ((length bytes ≤ max_reply) × (r : Reply) × IsReply bytes r
    × (answer ≡ answer_to key least q r))
