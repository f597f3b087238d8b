-- The trees of an accepted reply are wanted, each of the table at its place.
use Rattle.std.proofs.Common.{◌≡◌, ℕ, zero, suc, ◌+◌, ◌<◌, ◌≤◌, ◌==◌, Bool, true, false, cond, if◌then◌else◌, List, [], ◌∷◌, ◌++◌, Option, Some, None, length, map, find, zip, get_or, drop, is_some, option_map, bytes_eq, inl, inr, refl, sym, ap, ◌∙◌, subst, arith}
use Rattle.std.specs.Prelude.{IfSome}
use Rattle.std.specs.Option.{option_map_or}
use Rattle.std.specs.List.{AllByRecursion, AllZip}
use Rattle.std.proofs.lemmas.List.{drop_more, drop_all}
use Rattle.vo_spec.specs.declared.records.Catalog.{Catalog}
use Rattle.vo_spec.specs.declared.records.CatalogTable.{CatalogTable}
use Rattle.vo_spec.specs.declared.checks.CheckFault.{CheckFault}
use Rattle.vo_spec.specs.declared.queries.Items.{Items}
use Rattle.vo_spec.specs.declared.queries.Source.{Source}
use Rattle.vo_spec.specs.declared.queries.Join.{Join}
use Rattle.vo_spec.specs.declared.queries.QueryFault.{QueryFault}
use Rattle.vo_spec.specs.declared.queries.QueryFault.TheVariants.{NoTable}
use Rattle.vo_spec.specs.Firsts.{first_some}
use Rattle.vo_spec.specs.Conditions.{Condition, Query}
use Rattle.vo_spec.specs.Tables.{table_header_named}
use Rattle.vo_spec.specs.Results.{bound_sources, sources, missing_table, binding_fault}
use Rattle.vo_spec.specs.Records.{table_headers}
use Rattle.vo_spec.specs.Fits.{FitsTree}
use Rattle.vo_spec.specs.Parts.{leaf}
use Rattle.vo_spec.specs.Trees.{RowTree, Prunes, digest}
use Rattle.vo_spec.specs.Replies.{Reply, FitsReply}
use Rattle.vo_spec.specs.Needs.{same_table}
use Rattle.vo_spec.specs.Checks.{table_named, tables_wanted, root_fault}
use Rattle.vo_spec.specs.Honest.{Stored, catalog_of, stored_tree}
use Rattle.vo_laws.proofs.JoinLaws.{is_bytes}
use Rattle.mb_tree.specs.declared.parts.PartTree.{PartTree}
use Rattle.mb_tree.specs.View.{part_of}
use Rattle.stored_tables.specs.Plain.{catalog_table}
use Rattle.vo_audit.specs.Auditing.{HasPassed}
use Rattle.tree_collide.specs.Preimages.{OfStrings}
use Rattle.vo_audit.specs.Evidence.{HasRoot, AreHashedIn}
use Rattle.root_laws.specs.Following.{PrunesTable}
use Rattle.vo_audit.specs.Showing.{AreHashedInOne}
use Rattle.vo_audit.specs.WantedTables.{table_at}

abbrev pub stored_named : List ℕ → List Stored → Option Stored
stored_named name stored = find (λ s. bytes_eq s.name name) stored

-- Tables that a query names, and that are there.

abbrev IsThere : List Stored → List ℕ → Type 0
IsThere stored name = is_some (stored_named name stored) ≡ true

table_header_there : (name : List ℕ) (stored : List Stored) → is_some (table_header_named name (table_headers (catalog_of stored))) ≡ true → IsThere stored name
table_header_there name [] e = e
table_header_there name (s ∷ stored) e = step (bytes_eq s.name name) (table_header_there name stored) e
  where
    step : (b : Bool) → (is_some (table_header_named name (table_headers (catalog_of stored))) ≡ true → IsThere stored name)
        → is_some (cond b (Some (record { name = s.name; schema = (catalog_table s).schema; count = (catalog_table s).rows })) (table_header_named name (table_headers (catalog_of stored)))) ≡ true
        → is_some (cond b (Some s) (stored_named name stored)) ≡ true
    step true more e = refl
    step false more e = more e

source_there : (b : Bool) (name : List ℕ) → (if b then None else Some (NoTable name)) ≡ None → b ≡ true
source_there true name e = refl
source_there false name e = absurd (cc)

first_none : {F : Type 0} (o : Option F) (os : List (Option F)) → first_some (o ∷ os) ≡ None → (o ≡ None) × (first_some os ≡ None)
first_none None os e = (refl, e)
first_none (Some f) os e = absurd (cc)

-- the first sources of tests in a row are there
sources_there : (stored : List Stored) (ss : List Source) (others : List (Option QueryFault))
    → first_some (map (missing_table (table_headers (catalog_of stored))) ss ++ others) ≡ None → AllByRecursion (λ (s : Source). IsThere stored s.table) ss
sources_there stored [] others e = tt
sources_there stored (s ∷ ss) others e =
    let hs = table_headers (catalog_of stored) in
    let p = first_none (missing_table hs s) (map (missing_table hs) ss ++ others) e in
    (table_header_there s.table stored (source_there (is_some (table_header_named s.table hs)) s.table p.0), sources_there stored ss others p.1)

-- The tables that are wanted.

abbrev single_table : Bool → List ℕ → List (List ℕ)
single_table wrong left = if wrong then [] else left ∷ []

abbrev joined_tables : Bool → Bool → List ℕ → List ℕ → List (List ℕ)
joined_tables wrong same left right = if wrong then [] else if same then left ∷ [] else left ∷ right ∷ []

alone_there : (P : List ℕ → Type 0) (wrong : Bool) (left : List ℕ) → (wrong ≡ false → P left) → AllByRecursion P (single_table wrong left)
alone_there P true left there = tt
alone_there P false left there = (there refl, tt)

joined_there : (P : List ℕ → Type 0) (wrong same : Bool) (left right : List ℕ) → (wrong ≡ false → P left × P right) → AllByRecursion P (joined_tables wrong same left right)
joined_there P true same left right there = tt
joined_there P false true left right there = ((there refl).0, tt)
joined_there P false false left right there = ((there refl).0, ((there refl).1, tt))

no_fault : (o : Option QueryFault) → is_some o ≡ false → o ≡ None
no_fault None e = refl
no_fault (Some f) e = absurd (cc)

wanted_there_of : (stored : List Stored) (items : Items) (left : Source) (join : Option Join) (condition : Option Condition) (limit : Option ℕ)
    → AllByRecursion (IsThere stored) (tables_wanted (record { items = items; left = left; join = join; condition = condition; limit = limit }) (catalog_of stored))
wanted_there_of stored items left None condition limit =
    let q : Query = record { items = items; left = left; join = None; condition = condition; limit = limit } in
    let fault = binding_fault (table_headers (catalog_of stored)) q in
    alone_there (IsThere stored) (is_some fault) left.table (λ right. (sources_there stored (sources q) _ (no_fault fault right)).0)
wanted_there_of stored items left (Some j) condition limit =
    let q : Query = record { items = items; left = left; join = Some j; condition = condition; limit = limit } in
    let fault = binding_fault (table_headers (catalog_of stored)) q in
    joined_there (IsThere stored) (is_some fault) (same_table (bound_sources (table_headers (catalog_of stored)) q)) left.table j.right.table
    (λ right. let all = sources_there stored (sources q) _ (no_fault fault right) in (all.0, all.1.0))

wanted_there : (stored : List Stored) (q : Query) → AllByRecursion (IsThere stored) (tables_wanted q (catalog_of stored))
wanted_there stored q = wanted_there_of stored q.items q.left q.join q.condition q.limit

alone_at : (wrong : Bool) (left right d : List ℕ) (place : ℕ) → place < length (single_table wrong left) → get_or (single_table wrong left) place d ≡ (if place == 0 then left else right)
alone_at true left right d place h = absurd (omega arith)
alone_at false left right d zero h = refl
alone_at false left right d (suc place) h = absurd (omega arith)

joined_at : (wrong same : Bool) (left right d : List ℕ) (place : ℕ) → place < length (joined_tables wrong same left right)
    → get_or (joined_tables wrong same left right) place d ≡ (if place == 0 then left else right)
joined_at true same left right d place h = absurd (omega arith)
joined_at false true left right d zero h = refl
joined_at false true left right d (suc place) h = absurd (omega arith)
joined_at false false left right d zero h = refl
joined_at false false left right d (suc zero) h = refl
joined_at false false left right d (suc (suc place)) h = absurd (omega arith)

wanted_at_of : (items : Items) (left : Source) (join : Option Join) (condition : Option Condition) (limit : Option ℕ) (c : Catalog) (d : List ℕ) (place : ℕ)
    → let q : Query = record { items = items; left = left; join = join; condition = condition; limit = limit } in
    place < length (tables_wanted q c) → get_or (tables_wanted q c) place d ≡ table_at q place
wanted_at_of items left None condition limit c d place h =
    let q : Query = record { items = items; left = left; join = None; condition = condition; limit = limit } in
    alone_at (is_some (binding_fault (table_headers c) q)) left.table left.table d place h
wanted_at_of items left (Some j) condition limit c d place h =
    let q : Query = record { items = items; left = left; join = Some j; condition = condition; limit = limit } in
    joined_at (is_some (binding_fault (table_headers c) q)) (same_table (bound_sources (table_headers c) q)) left.table j.right.table d place h

wanted_at : (q : Query) (c : Catalog) (d : List ℕ) (place : ℕ) → place < length (tables_wanted q c) → get_or (tables_wanted q c) place d ≡ table_at q place
wanted_at q c d place h = wanted_at_of q.items q.left q.join q.condition q.limit c d place h

-- Trees of the tables' digests.

catalog_has : (name : List ℕ) (stored : List Stored) → table_named name (catalog_of stored) ≡ option_map catalog_table (stored_named name stored)
catalog_has name [] = refl
catalog_has name (s ∷ stored) = step (bytes_eq s.name name) (catalog_has name stored)
  where
    step : (b : Bool) → table_named name (catalog_of stored) ≡ option_map catalog_table (stored_named name stored)
        → cond b (Some (catalog_table s)) (table_named name (catalog_of stored)) ≡ option_map catalog_table (cond b (Some s) (stored_named name stored))
    step true e = refl
    step false e = e

same_root : (b : Bool) (f : CheckFault) → (if b then None else Some f) ≡ None → b ≡ true
same_root true f e = refl
same_root false f e = absurd (cc)

wanted_by : (stored : List Stored) (name : List ℕ) (tree : RowTree) (o : Option Stored) → stored_named name stored ≡ o → is_some o ≡ true → FitsTree tree
    → root_fault (option_map catalog_table o, tree) ≡ None → HasRoot stored name tree
wanted_by stored name tree None is there fits root = absurd (cc)
wanted_by stored name tree (Some s) is there fits root = record {
  fits = fits.nodes;
  table = s;
  found = is;
  same = sym (is_bytes (digest s.tree) (digest tree) (same_root (bytes_eq (digest s.tree) (digest tree)) _ root));
}

one_wanted : (stored : List Stored) (name : List ℕ) (tree : RowTree) → IsThere stored name → FitsTree tree
    → root_fault (table_named name (catalog_of stored), tree) ≡ None → HasRoot stored name tree
one_wanted stored name tree there fits root =
    wanted_by stored name tree (stored_named name stored) refl there fits (ap (λ (o : Option CatalogTable). root_fault (o, tree)) (sym (catalog_has name stored)) ∙ root)

abbrev with_catalog_tables : List Stored → List (List ℕ) → List RowTree → List (Option CatalogTable × RowTree)
with_catalog_tables stored names trees = zip (map (λ name. table_named name (catalog_of stored)) names) trees

each_wanted : (stored : List Stored) (names : List (List ℕ)) (trees : List RowTree) → length trees ≡ length names → AllByRecursion (IsThere stored) names
    → AllByRecursion FitsTree trees → first_some (map root_fault (with_catalog_tables stored names trees)) ≡ None → AllZip (HasRoot stored) names trees
each_wanted stored [] [] count there fits roots = tt
each_wanted stored [] (t ∷ trees) count there fits roots = absurd (cc)
each_wanted stored (name ∷ names) [] count there fits roots = absurd (cc)
each_wanted stored (name ∷ names) (t ∷ trees) count there fits roots =
    let p = first_none (root_fault (table_named name (catalog_of stored), t)) (map root_fault (with_catalog_tables stored names trees)) roots in
    (one_wanted stored name t there.0 fits.0 p.0, each_wanted stored names trees (cc) there.1 fits.1 p.1)

pub trees_wanted : (q : Query) (r : Reply) (stored : List Stored) → FitsReply r → HasPassed q r → r.catalog ≡ catalog_of stored
    → AllZip (HasRoot stored) (tables_wanted q (catalog_of stored)) r.trees
trees_wanted q r stored fits passed same =
    let count : length r.trees ≡ length (tables_wanted q (catalog_of stored)) = subst (λ (c : Catalog). length r.trees ≡ length (tables_wanted q c)) same passed.count in
    let roots : first_some (map root_fault (with_catalog_tables stored (tables_wanted q (catalog_of stored)) r.trees)) ≡ None =
    subst (λ (c : Catalog). first_some (map root_fault (zip (map (λ name. table_named name c) (tables_wanted q c)) r.trees)) ≡ None) same passed.roots in
    each_wanted stored (tables_wanted q (catalog_of stored)) r.trees count (wanted_there stored q) fits.trees roots

-- The trees to come, for the fact about all.

pub record TreesLeft (stored : List Stored) (names : List (List ℕ)) (trees : List RowTree) (all : Type 0) (Are : OfStrings) : Type 0 where
  pub wanted : AllZip (HasRoot stored) names trees
  pub gives : AllZip Prunes trees (map (stored_tree stored) names) → all
  pub shows : (x y : List ℕ) → AreHashedInOne stored names trees x y → Are x y

no_trees_left : (stored : List Stored) (names : List (List ℕ)) (all : Type 0) (Are : OfStrings) → TreesLeft stored names [] all Are → all
no_trees_left stored [] all Are left = left.gives tt
no_trees_left stored (name ∷ names) all Are left = absurd left.wanted

pub trees_done : (stored : List Stored) (names : List (List ℕ)) (trees : List PartTree) (i : ℕ) (all : Type 0) (Are : OfStrings) → length trees ≤ i
    → TreesLeft stored names (map part_of (drop i trees)) all Are → all
trees_done stored names trees i all Are past left =
    no_trees_left stored names all Are (subst (λ (ts : List PartTree). TreesLeft stored names (map part_of ts) all Are) (drop_all i trees past) left)

within : (stored : List Stored) (names : List (List ℕ)) (i : ℕ) (t : RowTree) (trees : List RowTree) → AllZip (HasRoot stored) (drop i names) (t ∷ trees) → i < length names
within stored [] zero t trees z = absurd z
within stored [] (suc i) t trees z = absurd z
within stored (n ∷ names) zero t trees z = omega arith
within stored (n ∷ names) (suc i) t trees z = let r = within stored names i t trees z in omega arith

module _ (stored : List Stored) (q : Query) (trees : List PartTree) (i : ℕ) (t : PartTree) (all : Type 0) (Are : OfStrings) where
  abbrev names : List (List ℕ)
  names = tables_wanted q (catalog_of stored)

  opened : i < length trees → t ≡ get_or trees i t → TreesLeft stored (drop i names) (map part_of (drop i trees)) all Are
      → TreesLeft stored (table_at q i ∷ drop (i + 1) names) (part_of t ∷ map part_of (drop (i + 1) trees)) all Are
  opened within_trees t_is left =
      let e : drop i trees ≡ t ∷ drop (i + 1) trees = drop_more trees i t within_trees ∙ ap (λ x. x ∷ drop (i + 1) trees) (sym t_is) in
      let at = subst (λ (ts : List PartTree). TreesLeft stored (drop i names) (map part_of ts) all Are) e left in
      let within_names = within stored names i (part_of t) (map part_of (drop (i + 1) trees)) at.wanted in
      let f : drop i names ≡ table_at q i ∷ drop (i + 1) names = drop_more names i [] within_names ∙ ap (λ x. x ∷ drop (i + 1) names) (wanted_at q (catalog_of stored) [] i within_names) in
      subst (λ (ns : List (List ℕ)). TreesLeft stored ns (part_of t ∷ map part_of (drop (i + 1) trees)) all Are) f at

  pub tree_here : i < length trees → t ≡ get_or trees i t → TreesLeft stored (drop i names) (map part_of (drop i trees)) all Are
      → HasRoot stored (table_at q i) (part_of t)
  tree_here within_trees t_is left = (opened within_trees t_is left).wanted.0

  pub tree_agrees : i < length trees → t ≡ get_or trees i t → TreesLeft stored (drop i names) (map part_of (drop i trees)) all Are
      → Prunes (part_of t) (stored_tree stored (table_at q i)) → TreesLeft stored (drop (i + 1) names) (map part_of (drop (i + 1) trees)) all Are
  tree_agrees within_trees t_is left prunes =
      let o = opened within_trees t_is left in record { wanted = o.wanted.1; gives = λ rest. o.gives (prunes, rest); shows = λ x y hashed. o.shows x y (inr hashed) }

  pub tree_shows : i < length trees → t ≡ get_or trees i t → TreesLeft stored (drop i names) (map part_of (drop i trees)) all Are
      → (x y : List ℕ) → AreHashedIn stored (table_at q i) (part_of t) x y → Are x y
  tree_shows within_trees t_is left x y hashed = let o = opened within_trees t_is left in o.shows x y (inl hashed)

-- what prunes the tree of a table that is there prunes the tree of its name
pub table_pruned : (stored : List Stored) (name : List ℕ) (p : RowTree) → HasRoot stored name p → PrunesTable stored name p → Prunes p (stored_tree stored name)
table_pruned stored name p root prunes =
    let whole : Prunes p root.table.tree = subst (λ (o : Option Stored). IfSome o (λ (s : Stored). Prunes p s.tree)) root.found prunes in
    subst (λ (o : Option Stored). Prunes p (option_map_or (λ (s : Stored). s.tree) o (leaf []))) (sym root.found) whole
