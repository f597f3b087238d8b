-- The trees that two accepted replies of one catalog have for a query: twins, each the proof for
-- its needs.
use Rattle.std.proofs.Common.{◌≡◌, ℕ, Bool, true, false, cond, if◌then◌else◌, List, [], ◌∷◌, ◌++◌, length, map, zip, Option, Some, None, is_some, bytes_eq, refl, sym, ◌∙◌}
use Rattle.std.specs.List.{list_any, AllByRecursion, AllZip}
use Rattle.std.proofs.lemmas.Bool.{or_parts}
use Rattle.vo_spec.specs.declared.needs.Need.{Need}
use Rattle.vo_spec.specs.declared.records.Catalog.{Catalog}
use Rattle.vo_spec.specs.declared.records.CatalogTable.{CatalogTable}
use Rattle.vo_spec.specs.declared.checks.CheckFault.{CheckFault}
use Rattle.vo_spec.specs.declared.checks.CheckFault.TheVariants.{Missing, Surplus}
use Rattle.vo_spec.specs.declared.queries.Items.{Items}
use Rattle.vo_spec.specs.declared.queries.Source.{Source}
use Rattle.vo_spec.specs.declared.queries.Join.{Join}
use Rattle.vo_spec.specs.declared.queries.QueryFault.{QueryFault}
use Rattle.vo_spec.specs.declared.queries.QueryFault.TheVariants.{NoTable}
use Rattle.vo_spec.specs.Firsts.{first_some}
use Rattle.vo_spec.specs.Conditions.{Condition, Query}
use Rattle.vo_spec.specs.Tables.{TableHeader, table_header_named}
use Rattle.vo_spec.specs.Results.{bound_sources, sources, missing_table, binding_fault}
use Rattle.vo_spec.specs.Records.{table_headers}
use Rattle.vo_spec.specs.Fits.{FitsTree}
use Rattle.vo_spec.specs.Trees.{RowTree, digest}
use Rattle.vo_spec.specs.Pruning.{IsCanonical, is_missing, has_surplus}
use Rattle.vo_spec.specs.Needs.{tables_used}
use Rattle.vo_spec.specs.Checks.{table_named, root_fault}
use Rattle.vo_laws.proofs.JoinLaws.{is_bytes}
use Rattle.reply_meeting.specs.Comparing.{AreTwins}
use Rattle.reply_meeting.proofs.AcceptedReplies.{none_first}

-- Tables that a query names, which are there.

abbrev pub IsThere : Catalog → List ℕ → Type 0
IsThere c name = is_some (table_named name c) ≡ true

there_in : (name : List ℕ) (tables : List CatalogTable) → is_some (table_header_named name (table_headers (record { tables = tables }))) ≡ true → is_some (table_named name (record { tables = tables })) ≡ true
there_in name [] e = e
there_in name (t ∷ tables) e = step (bytes_eq t.name name) (there_in name tables) e
  where
    headers : List TableHeader
    headers = table_headers (record { tables = tables })

    step : (b : Bool) → (is_some (table_header_named name headers) ≡ true → is_some (table_named name (record { tables = tables })) ≡ true)
        → is_some (cond b (Some (record { name = t.name; schema = t.schema; count = t.rows })) (table_header_named name headers)) ≡ true
        → is_some (cond b (Some t) (table_named name (record { tables = tables }))) ≡ true
    step true more e = refl
    step false more e = more e

source_there : (b : Bool) (name : List ℕ) → (if b then None else Some (NoTable name)) ≡ None → b ≡ true
source_there true name e = refl
source_there false name e = absurd (cc)

sources_there : (c : Catalog) (ss : List Source) (others : List (Option QueryFault)) → first_some (map (missing_table (table_headers c)) ss ++ others) ≡ None
    → AllByRecursion (λ (s : Source). IsThere c s.table) ss
sources_there c [] others e = tt
sources_there c (s ∷ ss) others e =
    let hs = table_headers c in
    let p = none_first (missing_table hs s) (map (missing_table hs) ss ++ others) e in
    (there_in s.table c.tables (source_there (is_some (table_header_named s.table hs)) s.table p.0), sources_there c ss others p.1)

one_or_two : (P : List ℕ → Type 0) (b : Bool) (left right : List ℕ) → P left → P right → AllByRecursion P (if b then left ∷ [] else left ∷ right ∷ [])
one_or_two P true left right l r = (l, tt)
one_or_two P false left right l r = (l, (r, tt))

used_there : (c : Catalog) (items : Items) (left : Source) (join : Option Join) (condition : Option Condition) (limit : Option ℕ)
    → let q : Query = record { items = items; left = left; join = join; condition = condition; limit = limit } in
    binding_fault (table_headers c) q ≡ None → AllByRecursion (IsThere c) (tables_used (bound_sources (table_headers c) q))
used_there c items left None condition limit e =
    let q : Query = record { items = items; left = left; join = None; condition = condition; limit = limit } in
    let all = sources_there c (sources q) _ e in (all.0, tt)
used_there c items left (Some j) condition limit e =
    let q : Query = record { items = items; left = left; join = Some j; condition = condition; limit = limit } in
    let all = sources_there c (sources q) _ e in one_or_two (IsThere c) _ left.table j.right.table all.0 all.1.0

pub tables_there : (c : Catalog) (q : Query) → binding_fault (table_headers c) q ≡ None → AllByRecursion (IsThere c) (tables_used (bound_sources (table_headers c) q))
tables_there c q e = used_there c q.items q.left q.join q.condition q.limit e

-- Their trees have one digest in both.

same_root : (b : Bool) (f : CheckFault) → (if b then None else Some f) ≡ None → b ≡ true
same_root true f e = refl
same_root false f e = absurd (cc)

root_is : (table : CatalogTable) (p : RowTree) → root_fault (Some table, p) ≡ None → table.root ≡ digest p
root_is table p e = is_bytes table.root (digest p) (same_root (bytes_eq table.root (digest p)) _ e)

twins_by : (o : Option CatalogTable) (p q : RowTree) → is_some o ≡ true → FitsTree p → FitsTree q → root_fault (o, p) ≡ None → root_fault (o, q) ≡ None → AreTwins p q
twins_by None p q there f g e h = absurd (cc)
twins_by (Some table) p q there f g e h = record { fits = f.nodes; second_fits = g.nodes; same = sym (root_is table p e) ∙ root_is table q h }

abbrev pub zip_with_tables : Catalog → List (List ℕ) → List RowTree → List (Option CatalogTable × RowTree)
zip_with_tables c names trees = zip (map (λ name. table_named name c) names) trees

pub are_twins : (c : Catalog) (names : List (List ℕ)) (ps qs : List RowTree) → length ps ≡ length names → length qs ≡ length names → AllByRecursion (IsThere c) names
    → AllByRecursion FitsTree ps → AllByRecursion FitsTree qs → first_some (map root_fault (zip_with_tables c names ps)) ≡ None → first_some (map root_fault (zip_with_tables c names qs)) ≡ None → AllZip AreTwins ps qs
are_twins c [] [] [] m n there f g e h = tt
are_twins c [] (p ∷ ps) qs m n there f g e h = absurd (cc)
are_twins c [] [] (q ∷ qs) m n there f g e h = absurd (cc)
are_twins c (name ∷ names) [] qs m n there f g e h = absurd (cc)
are_twins c (name ∷ names) (p ∷ ps) [] m n there f g e h = absurd (cc)
are_twins c (name ∷ names) (p ∷ ps) (q ∷ qs) m n there f g e h =
    let first = none_first (root_fault (table_named name c, p)) (map root_fault (zip_with_tables c names ps)) e in
    let second = none_first (root_fault (table_named name c, q)) (map root_fault (zip_with_tables c names qs)) h in
    (twins_by (table_named name c) p q there.0 f.0 g.0 first.0 second.0, are_twins c names ps qs (cc) (cc) there.1 f.1 g.1 first.1 second.1)

-- Each is the proof for its needs.

none_missing : (b : Bool) → (if b then Some Missing else None) ≡ None → b ≡ false
none_missing true e = absurd (cc)
none_missing false e = refl

none_surplus : (b : Bool) → (if b then Some Surplus else None) ≡ None → b ≡ false
none_surplus true e = absurd (cc)
none_surplus false e = refl

each_canonical : (needs : List (List Need)) (ps : List RowTree) → length needs ≡ length ps → list_any (λ (t : List Need × RowTree). is_missing t.0 t.1) (zip needs ps) ≡ false
    → list_any (λ (t : List Need × RowTree). has_surplus t.0 t.1) (zip needs ps) ≡ false → AllZip IsCanonical needs ps
each_canonical [] [] n m s = tt
each_canonical [] (p ∷ ps) n m s = absurd (cc)
each_canonical (ns ∷ needs) [] n m s = absurd (cc)
each_canonical (ns ∷ needs) (p ∷ ps) n m s =
    let missing = or_parts (is_missing ns p) _ m in
    let surplus = or_parts (has_surplus ns p) _ s in
    (record { complete = missing.0; minimal = surplus.0 }, each_canonical needs ps (cc) missing.1 surplus.1)

pub are_canonical : (needs : List (List Need)) (ps : List RowTree) → length needs ≡ length ps
    → (if list_any (λ (t : List Need × RowTree). is_missing t.0 t.1) (zip needs ps) then Some Missing else None) ≡ None
    → (if list_any (λ (t : List Need × RowTree). has_surplus t.0 t.1) (zip needs ps) then Some Surplus else None) ≡ None → AllZip IsCanonical needs ps
are_canonical needs ps n m s = each_canonical needs ps n (none_missing _ m) (none_surplus _ s)
