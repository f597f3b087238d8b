-- One command of a batch, and the next.
use Rattle.std.proofs.Common.{◌≡◌, ℕ, zero, suc, ◌+◌, ◌≤◌, List, [], ◌∷◌, Some, None, Result, Ok, Err, map, length, drop, refl, sym, ap, ◌∙◌, subst, arith}
use Rattle.std.specs.Prelude.{slice_get, get_or, ◌<◌}
use Rattle.std.specs.Option.{option_map_or}
use Rattle.std.proofs.lemmas.List.{drop-map, drop-drop, length-map}
use Rattle.std.specs.List.{AllByRecursion}
use Rattle.vo_spec.specs.declared.tables.Command.{Command}
use Rattle.vo_spec.specs.declared.tables.Command.TheVariants.{Create, Drop, Insert, Update, Delete}
use Rattle.vo_spec.specs.declared.tables.CommandFault.{CommandFault}
use Rattle.vo_spec.specs.declared.records.CatalogTable.{CatalogTable}
use Rattle.vo_spec.specs.Firsts.{and_then, unless}
use Rattle.vo_spec.specs.Tables.{refusal}
use Rattle.vo_spec.specs.Trees.{RowTree}
use Rattle.vo_spec.specs.Fits.{FitsTree}
use Rattle.owner_roots.specs.declared.owner_fault.OwnerFault.{OwnerFault}
use Rattle.owner_roots.specs.declared.owner_fault.OwnerFault.TheVariants as fault
use Rattle.table_list.specs.TableHeaders.{command_name}
use Rattle.owner_roots.specs.Next.{table_header, table_number, rows_changed, table_by_command, tables_with, catalog_after, tables_changed, tables_from, trees_taken}
use Rattle.mb_tree.specs.declared.parts.PartTree.{PartTree}
use Rattle.mb_tree.specs.View.{part_of}
use Rattle.owner_roots.specs.Seen.{table_with}
use Rattle.owner_roots.specs.Working.{FitCatalog, Gives}
use Rattle.owner_roots.proofs.PlaceLaws.{none_past}

pub command_allowed : (index : ℕ) (c : Command) (trees : List RowTree) (tables : List CatalogTable) → refusal c (map table_header tables) ≡ None
    → catalog_after index c trees tables ≡ tables_changed index c trees tables
unfolding catalog_after
command_allowed index c trees tables e =
    ap (λ r. and_then (tables_changed index c trees) (unless (option_map_or (λ why. Some (fault.Command index why)) r None) tables)) e

pub command_refused : (index : ℕ) (c : Command) (trees : List RowTree) (tables : List CatalogTable) (why : CommandFault) → refusal c (map table_header tables) ≡ Some why
    → catalog_after index c trees tables ≡ Err (fault.Command index why)
unfolding catalog_after
command_refused index c trees tables why e =
    ap (λ r. and_then (tables_changed index c trees) (unless (option_map_or (λ why. Some (fault.Command index why)) r None) tables)) e

pub allowed_gives : {X : Type 0} (view : X → List CatalogTable) (r : Result X OwnerFault) (index : ℕ) (c : Command) (trees : List RowTree) (tables : List CatalogTable)
    → refusal c (map table_header tables) ≡ None → Gives view r (tables_changed index c trees tables) → Gives view r (catalog_after index c trees tables)
allowed_gives view r index c trees tables e gives = subst (Gives view r) (sym (command_allowed index c trees tables e)) gives

-- what comes of the commands to come, where one was done
pub one_done : (index : ℕ) (c : Command) (cs : List Command) (trees : List RowTree) (tables after : List CatalogTable) → catalog_after index c trees tables ≡ Ok after
    → tables_from index (c ∷ cs) trees tables ≡ tables_from (index + 1) cs (drop (trees_taken c) trees) after
one_done index c cs trees tables after e = ap (and_then (tables_from (index + 1) cs (drop (trees_taken c) trees))) e

-- a fault is passed on, unless memory ran out
pub passed_on : {X X' Y Z : Type 0} (view : X → Y) (other : X' → Z) (f : Result Y OwnerFault → Result Z OwnerFault) → ((why : OwnerFault) → f (Err why) ≡ Err why)
    → (why : OwnerFault) (r : Result Y OwnerFault) → Gives view (Err why) r → Gives other (Err why) (f r)
passed_on view other f keeps fault.Memory r gives = tt
passed_on view other f keeps (fault.Command i why) r gives = ap f gives ∙ keeps (fault.Command i why)
passed_on view other f keeps (fault.ProofForm i) r gives = ap f gives ∙ keeps (fault.ProofForm i)
passed_on view other f keeps (fault.ProofRoot i want got) r gives = ap f gives ∙ keeps (fault.ProofRoot i want got)
passed_on view other f keeps (fault.ProofMissing i) r gives = ap f gives ∙ keeps (fault.ProofMissing i)
passed_on view other f keeps (fault.ProofSurplus i) r gives = ap f gives ∙ keeps (fault.ProofSurplus i)
passed_on view other f keeps fault.KeySpent r gives = ap f gives ∙ keeps fault.KeySpent

-- and so where one wasn't
pub one_refused : {X X' : Type 0} (view : X → List CatalogTable) (other : X' → List CatalogTable) (index : ℕ) (c : Command) (cs : List Command) (trees : List RowTree)
    (tables : List CatalogTable) (why : OwnerFault) → Gives view (Err why) (catalog_after index c trees tables)
    → Gives other (Err why) (tables_from index (c ∷ cs) trees tables)
one_refused view other index c cs trees tables why gives =
    passed_on view other (and_then (tables_from (index + 1) cs (drop (trees_taken c) trees))) (λ _. refl) why (catalog_after index c trees tables) gives

pub each_dropped : {X : Type 0} (P : X → Type 0) (n : ℕ) (xs : List X) → AllByRecursion P xs → AllByRecursion P (drop n xs)
each_dropped P zero xs all = all
each_dropped P (suc n) [] all = tt
each_dropped P (suc n) (x ∷ xs) all = each_dropped P n xs all.1

-- One command on rows.

pub get_there : {X : Type 0} (xs : List X) (i : ℕ) (x : X) → i < length xs → x ≡ get_or xs i x → slice_get xs i ≡ Some x
get_there [] i x lt e = absurd (omega arith)
get_there (y ∷ xs) zero x lt e = ap Some (sym e)
get_there (y ∷ xs) (suc i) x lt e = get_there xs i x (omega arith) e

pub rows_at : (index : ℕ) (c : Command) (trees : List RowTree) (tables : List CatalogTable) (place : ℕ) (t : CatalogTable) → place ≡ table_number (command_name c) tables
    → slice_get tables place ≡ Some t → rows_changed index c trees tables ≡ tables_with place tables (table_by_command index c trees t)
rows_at index c trees tables place t is there =
    ap (λ i. option_map_or (λ u. tables_with i tables (table_by_command index c trees u)) (slice_get tables i) (Ok tables)) (sym is)
    ∙ ap (λ o. option_map_or (λ u. tables_with place tables (table_by_command index c trees u)) o (Ok tables)) there

pub rows_nowhere : (index : ℕ) (c : Command) (trees : List RowTree) (tables : List CatalogTable) (place : ℕ) → place ≡ table_number (command_name c) tables
    → length tables ≤ place → rows_changed index c trees tables ≡ Ok tables
rows_nowhere index c trees tables place is past =
    ap (λ i. option_map_or (λ u. tables_with i tables (table_by_command index c trees u)) (slice_get tables i) (Ok tables)) (sym is)
    ∙ ap (λ o. option_map_or (λ u. tables_with place tables (table_by_command index c trees u)) o (Ok tables)) (none_past tables place past)

pub rows_refused : {X : Type 0} (view : X → List CatalogTable) (index : ℕ) (c : Command) (trees : List RowTree) (tables : List CatalogTable) (place : ℕ) (t : CatalogTable)
    (why : OwnerFault) → place ≡ table_number (command_name c) tables → slice_get tables place ≡ Some t → Gives (table_with t) (Err why) (table_by_command index c trees t)
    → Gives view (Err why) (rows_changed index c trees tables)
rows_refused view index c trees tables place t why is there gives =
    subst (Gives view (Err why)) (sym (rows_at index c trees tables place t is there))
    (passed_on (table_with t) view (tables_with place tables) (λ _. refl) why (table_by_command index c trees t) gives)

pub same_there : {X : Type 0} (xs : List X) (i : ℕ) (x y : X) → i < length xs → x ≡ get_or xs i x → y ≡ get_or xs i y → y ≡ x
same_there xs i x y lt e f = let same : Some y ≡ Some x = sym (get_there xs i y lt f) ∙ get_there xs i x lt e in cc

-- What is left to do where so many trees are taken: the commands to come, on these tables.
pub record IsLeft (index taken : ℕ) (cs all : List Command) (trees : List PartTree) (tables before : List CatalogTable) : Type 0 where
  pub few : taken ≤ index
  pub within : FitCatalog tables
  pub answer : tables_from index cs (drop taken (map part_of trees)) tables ≡ tables_from 0 all (map part_of trees) before

pub nothing_done : (commands : List Command) (trees : List PartTree) (tables : List CatalogTable) → FitCatalog tables → IsLeft 0 0 commands commands trees tables tables
nothing_done commands trees tables within = record { few = omega arith; within = within; answer = refl }

one_at_most : (c : Command) → trees_taken c ≤ 1
one_at_most (Create name columns key) = omega arith
one_at_most (Drop name) = omega arith
one_at_most (Insert name values) = omega arith
one_at_most (Update name sets column value) = omega arith
one_at_most (Delete name column value) = omega arith

pub left_seen : (taken : ℕ) (trees left : List PartTree) → left ≡ drop taken trees → map part_of left ≡ drop taken (map part_of trees)
left_seen taken trees left is = ap (map part_of) is ∙ sym (drop-map part_of taken trees)

pub left_fit : (taken : ℕ) (trees left : List PartTree) → left ≡ drop taken trees → AllByRecursion FitsTree (map part_of trees) → AllByRecursion FitsTree (map part_of left)
left_fit taken trees left is all = subst (AllByRecursion FitsTree) (sym (left_seen taken trees left is)) (each_dropped FitsTree taken (map part_of trees) all)

-- a command is done
pub left_after : (index taken n : ℕ) (c : Command) (cs all : List Command) (trees left : List PartTree) (tables after before : List CatalogTable)
    → IsLeft index taken (c ∷ cs) all trees tables before → left ≡ drop taken trees → catalog_after index c (map part_of left) tables ≡ Ok after → FitCatalog after
    → n ≡ trees_taken c → IsLeft (index + 1) (taken + n) cs all trees after before
left_after index taken n c cs all trees left tables after before is same done within taking =
    let ms : List RowTree = map part_of trees in
    let made : catalog_after index c (drop taken ms) tables ≡ Ok after = subst (λ ts. catalog_after index c ts tables ≡ Ok after) (left_seen taken trees left same) done in
    let few : trees_taken c ≤ 1 = one_at_most c in
    let before_it : taken ≤ index = is.few in
    record {
      few = omega arith;
      within = within;
      answer =
          ap (λ k. tables_from (index + 1) cs (drop (taken + k) ms) after) taking
          ∙ ap (λ ts. tables_from (index + 1) cs ts after) (sym (drop-drop (trees_taken c) taken ms))
          ∙ sym (one_done index c cs (drop taken ms) tables after made)
          ∙ is.answer;
    }

-- a command is refused
pub left_refused : {X X' : Type 0} (view : X → List CatalogTable) (other : X' → List CatalogTable) (index taken : ℕ) (c : Command) (cs all : List Command) (trees left : List PartTree)
    (tables before : List CatalogTable) (why : OwnerFault) → IsLeft index taken (c ∷ cs) all trees tables before → left ≡ drop taken trees
    → Gives view (Err why) (catalog_after index c (map part_of left) tables) → Gives other (Err why) (tables_from 0 all (map part_of trees) before)
left_refused view other index taken c cs all trees left tables before why is same gives =
    subst (Gives other (Err why)) is.answer
    (one_refused view other index c cs (drop taken (map part_of trees)) tables why
    (subst (λ ts. Gives view (Err why) (catalog_after index c ts tables)) (left_seen taken trees left same) gives))

-- all are done
all_taken : (index n : ℕ) (ts : List RowTree) (tables : List CatalogTable) → length ts ≤ n → tables_from index [] (drop n ts) tables ≡ Ok tables
all_taken index zero [] tables h = refl
all_taken index (suc n) [] tables h = refl
all_taken index zero (t ∷ ts) tables h = absurd (omega arith)
all_taken index (suc n) (t ∷ ts) tables h = all_taken index n ts tables (omega arith)

one_over : (index n : ℕ) (ts : List RowTree) (tables : List CatalogTable) → n < length ts → tables_from index [] (drop n ts) tables ≡ Err (fault.ProofSurplus index)
one_over index n [] tables h = absurd (omega arith)
one_over index zero (t ∷ ts) tables h = refl
one_over index (suc n) (t ∷ ts) tables h = one_over index n ts tables (omega arith)

pub none_left : (index taken : ℕ) (all : List Command) (trees : List PartTree) (tables before : List CatalogTable) → IsLeft index taken [] all trees tables before
    → length trees ≤ taken → tables_from 0 all (map part_of trees) before ≡ Ok tables
none_left index taken all trees tables before is h =
    let many : length (map part_of trees) ≡ length trees = length-map trees part_of in
    sym is.answer ∙ all_taken index taken (map part_of trees) tables (omega arith)

pub some_left : (index taken : ℕ) (all : List Command) (trees : List PartTree) (tables before : List CatalogTable) → IsLeft index taken [] all trees tables before
    → taken < length trees → tables_from 0 all (map part_of trees) before ≡ Err (fault.ProofSurplus index)
some_left index taken all trees tables before is h =
    let many : length (map part_of trees) ≡ length trees = length-map trees part_of in
    sym is.answer ∙ one_over index taken (map part_of trees) tables (omega arith)

pub some_over : (index taken n : ℕ) (all : List Command) (trees : List PartTree) (tables before : List CatalogTable) → IsLeft index taken (drop index all) all trees tables before
    → length all ≤ index → index ≡ n → taken < length trees → tables_from 0 all (map part_of trees) before ≡ Err (fault.ProofSurplus n)
some_over index taken n all trees tables before is past same h =
    some_left index taken all trees tables before (subst (λ cs. IsLeft index taken cs all trees tables before) (drop_past index all past) is) h
    ∙ ap (λ k. Err (fault.ProofSurplus k)) same
  where
    drop_past : (k : ℕ) (cs : List Command) → length cs ≤ k → drop k cs ≡ []
    drop_past zero [] g = refl
    drop_past (suc k) [] g = refl
    drop_past zero (c ∷ cs) g = absurd (omega arith)
    drop_past (suc k) (c ∷ cs) g = drop_past k cs (omega arith)
