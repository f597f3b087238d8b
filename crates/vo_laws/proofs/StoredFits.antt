-- What an honest owner stores is within the limits of its bytes: trees, catalogs and records.
use Rattle.std.proofs.Common.{◌≡◌, ℕ, suc, ◌^◌, ◌<◌, ◌≤◌, Bool, true, false, cond, List, [], ◌∷◌, Option, Some, None, Result, Ok, Err, length, map, drop, refl, sym, ap, ◌∙◌, subst, arith}
use Rattle.std.specs.Prelude.{not, fold, bytes_eq, IsTrue}
use Rattle.std.specs.Result.{result_unwrap_or}
use Rattle.std.specs.List.{AllByRecursion}
use Rattle.std.proofs.lemmas.Bool.{and_from}
use Rattle.std.proofs.lemmas.List.{length-map, length-take, length-drop}
use Rattle.sha2.proofs.Facts256.{length-sha256}
use Rattle.vo_spec.specs.declared.values.Row.{Row}
use Rattle.vo_spec.specs.declared.tables.Table.{Table}
use Rattle.vo_spec.specs.declared.tables.Command.{Command}
use Rattle.vo_spec.specs.declared.tables.Command.TheVariants.{Create, Drop, Insert, Update, Delete}
use Rattle.vo_spec.specs.declared.tables.CommandFault.{CommandFault}
use Rattle.vo_spec.specs.declared.trees.UpdateFault.{UpdateFault}
use Rattle.vo_spec.specs.declared.records.CatalogTable.{CatalogTable}
use Rattle.vo_spec.specs.Firsts.{unless, and_then}
use Rattle.vo_spec.specs.Bytes.{id_at}
use Rattle.vo_spec.specs.Values.{key_of, key_lt}
use Rattle.vo_spec.specs.Tables.{max_tables, table_header_of, row_of, cell_changes, table_named, refusal, apply, apply_batch, tables_after}
use Rattle.vo_spec.specs.Batches.{FitsCommand, FitsBatch}
use Rattle.vo_spec.specs.Records.{FitsSchema, FitsCatalogTable, FitsCatalog, FitsRecord, are_rising, catalog_digest}
use Rattle.vo_spec.specs.Lms.{tree_id}
use Rattle.vo_spec.specs.Keys.{key_id, key_tree}
use Rattle.vo_spec.specs.Names.{FitsName}
use Rattle.vo_spec.specs.Cells.{whole_entry}
use Rattle.vo_spec.specs.Parts.{stub, leaf, inner, entries, leaf_bytes}
use Rattle.vo_spec.specs.Trees.{RowTree, row_family, digest}
use Rattle.vo_spec.specs.Fits.{FitsKey, FitsRow, FitsTree}
use Rattle.vo_spec.specs.Representation.{AreRising, IsTree, IsNode, fewest_in_root}
use Rattle.vo_spec.specs.Honest.{Stored, RepresentTables, put_stored, tree_after, with_tree, behind_stored, change_tree, changed_trees, work, work_all, after_work, honest_trees, catalog_of, honest_record}
use Rattle.vo_laws.specs.Separators.{SeparatedIn, AreSeparatedIn}
use Rattle.vo_laws.proofs.CommandLaws.{insertable, each_filter}
use Rattle.vo_laws.specs.FittingTables.{FitsTable, FitTables, names_of}
use Rattle.vo_laws.proofs.TreeFits.{SeparatedTree, KeyFits, tree_separated}
use Rattle.vo_laws.proofs.ChangedFits.{removed_separated, replaced_separated}
use Rattle.vo_laws.proofs.TreeLevels.{whole_fits}
use Rattle.vo_laws.proofs.RepresentationLaws.{InStep, FitAfter, stored_table_headers, command_in_step, batch_in_step, InStepFrom, stands}

-- The separators of what is stored fit.

abbrev pub SeparatedAfter : Result (List Stored) CommandFault → Type 0
SeparatedAfter (Ok stored) = AreSeparatedIn stored
SeparatedAfter (Err fault) = Unit {0}

with_separated : (s : Stored) (stored : List Stored) (r : Result RowTree UpdateFault) → AreSeparatedIn stored → SeparatedTree r → SeparatedAfter (with_tree s stored r)
with_separated s stored (Ok t) all here = (here, all)
with_separated s stored (Err fault) all here = tt

behind_separated : (s : Stored) (r : Result (List Stored) CommandFault) → SeparatedIn s → SeparatedAfter r → SeparatedAfter (behind_stored s r)
behind_separated s (Ok stored) here all = (here, all)
behind_separated s (Err fault) here all = tt

keys_fit : (rows : List Row) → AllByRecursion FitsRow rows → AllByRecursion KeyFits (map whole_entry rows)
keys_fit [] all = tt
keys_fit (row ∷ rows) all = (all.0.key, keys_fit rows all.1)

change_separated : (c : Command) (name : List ℕ) (stored : List Stored) (tables : List Table) → RepresentTables stored tables → AllByRecursion FitsTable tables
    → ((s : Stored) (t : Table) → table_named name tables ≡ Some t → s.schema ≡ t.schema → AllByRecursion KeyFits (entries s.tree) → SeparatedIn s → SeparatedTree (tree_after c s))
    → AreSeparatedIn stored → SeparatedAfter (change_tree name c stored)
change_separated c name [] [] zs fits keep all = tt
change_separated c name [] (t ∷ tables) zs fits keep all = absurd zs
change_separated c name (s ∷ stored) [] zs fits keep all = absurd zs
change_separated c name (s ∷ stored) (t ∷ tables) zs fits keep all =
    step (bytes_eq s.name name) (bytes_eq t.name name) (ap (λ n. bytes_eq n name) zs.0.name) keep (λ f. change_separated c name stored tables zs.1 fits.1 f all.1)
  where
    keys : AllByRecursion KeyFits (entries s.tree)
    keys = subst (AllByRecursion KeyFits) (sym zs.0.stands.rows_are) (keys_fit t.rows fits.0.rows)

    step : (b d : Bool) → b ≡ d
        → ((r : Stored) (u : Table) → cond d (Some t) (table_named name tables) ≡ Some u → r.schema ≡ u.schema → AllByRecursion KeyFits (entries r.tree) → SeparatedIn r → SeparatedTree (tree_after c r))
        → (((r : Stored) (u : Table) → table_named name tables ≡ Some u → r.schema ≡ u.schema → AllByRecursion KeyFits (entries r.tree) → SeparatedIn r → SeparatedTree (tree_after c r))
        → SeparatedAfter (change_tree name c stored))
        → SeparatedAfter (cond b (with_tree s stored (tree_after c s)) (behind_stored s (change_tree name c stored)))
    step true true e keep rest = with_separated s stored (tree_after c s) all.1 (keep s t refl zs.0.schema keys all.0)
    step true false e keep rest = absurd (cc)
    step false true e keep rest = absurd (cc)
    step false false e keep rest = behind_separated s (change_tree name c stored) all.0 (rest keep)

put_separated : (s : Stored) (stored : List Stored) → SeparatedIn s → AreSeparatedIn stored → AreSeparatedIn (put_stored s stored)
put_separated s [] here all = (here, tt)
put_separated s (r ∷ stored) here all = step (key_lt s.name r.name) (put_separated s stored here all.1)
  where
    step : (b : Bool) → AreSeparatedIn (put_stored s stored) → AreSeparatedIn (cond b (s ∷ r ∷ stored) (r ∷ put_stored s stored))
    step true rest = (here, all)
    step false rest = (all.0, rest)

changed_separated : (c : Command) (stored : List Stored) (tables : List Table) → refusal c (map table_header_of tables) ≡ None → RepresentTables stored tables
    → FitTables tables → AreSeparatedIn stored → SeparatedAfter (changed_trees c stored)
changed_separated (Create name columns key) stored tables e zs good all = put_separated _ stored tt all
changed_separated (Drop name) stored tables e zs good all = each_filter SeparatedIn (λ (s : Stored). not (bytes_eq s.name name)) stored all
changed_separated (Insert name values) stored tables e zs good all =
    change_separated (Insert name values) name stored tables zs good.each
    (λ s t found same keys here. tree_separated (whole_entry (row_of s.schema values)) s.tree (subst (λ z. FitsKey (row_of z values).key) (sym same) (insertable name values tables e t found).short) keys here) all
changed_separated (Update name sets column value) stored tables e zs good all =
    change_separated (Update name sets column value) name stored tables zs good.each (λ s t found same keys here. replaced_separated (key_of value) (cell_changes s.schema sets) s.tree here) all
changed_separated (Delete name column value) stored tables e zs good all =
    change_separated (Delete name column value) name stored tables zs good.each (λ s t found same keys here. removed_separated (key_of value) s.tree keys here) all

pub work_separated : (c : Command) (stored : List Stored) (tables : List Table) → RepresentTables stored tables → FitTables tables → AreSeparatedIn stored
    → SeparatedAfter (work c stored)
unfolding work
work_separated c stored tables zs good all =
    subst (λ hs. SeparatedAfter (and_then (changed_trees c) (unless (refusal c hs) stored))) (sym (stored_table_headers stored tables zs)) (step (refusal c (map table_header_of tables)) refl)
  where
    step : (r : Option CommandFault) → refusal c (map table_header_of tables) ≡ r → SeparatedAfter (and_then (changed_trees c) (unless r stored))
    step None e = changed_separated c stored tables e zs good all
    step (Some fault) e = tt

next_separated : (cs : List Command) (r : Result (List Stored) CommandFault) (s : Result (List Table) CommandFault) → InStep r s → FitAfter s → SeparatedAfter r
    → ((stored : List Stored) (tables : List Table) → RepresentTables stored tables → FitTables tables → AreSeparatedIn stored → SeparatedAfter (work_all cs stored))
    → SeparatedAfter (and_then (work_all cs) r)
next_separated cs (Ok stored) (Ok tables) i good all next = next stored tables i good all
next_separated cs (Ok stored) (Err fault) i good all next = absurd i
next_separated cs (Err fault) s i good all next = tt

pub batch_separated : (cs : List Command) (stored : List Stored) (tables : List Table) → AllByRecursion FitsCommand cs
    → RepresentTables stored tables → FitTables tables → AreSeparatedIn stored → SeparatedAfter (work_all cs stored)
batch_separated [] stored tables fits zs good all = all
batch_separated (c ∷ cs) stored tables fits zs good all =
    let i = command_in_step c stored tables fits.0 zs good in
    next_separated cs (work c stored) (apply c tables) i.0 i.1 (work_separated c stored tables zs good all)
    (λ after others y g a. batch_separated cs after others fits.1 y g a)

all_separated : (batches : List (List Command)) (stored : List Stored) (tables : List Table) → AllByRecursion FitsBatch batches
    → RepresentTables stored tables → FitTables tables → AreSeparatedIn stored → AreSeparatedIn (fold after_work stored batches)
all_separated [] stored tables fits zs good all = all
all_separated (batch ∷ batches) stored tables fits zs good all =
    next (work_all batch stored) (apply_batch batch tables) (batch_in_step 0 batch stored tables fits.0.each zs good) (batch_separated batch stored tables fits.0.each zs good all)
    (λ after others y g a. all_separated batches after others fits.1 y g a)
  where
    next : (r : Result (List Stored) CommandFault) (s : Result (List Table) (ℕ × CommandFault)) → InStepFrom r s → SeparatedAfter r
        → ((after : List Stored) (others : List Table) → RepresentTables after others → FitTables others → AreSeparatedIn after → AreSeparatedIn (fold after_work after batches))
        → AreSeparatedIn (fold after_work (result_unwrap_or r stored) batches)
    next (Ok after) (Ok others) i a f = f after others i.0 i.1 a
    next (Ok after) (Err fault) i a f = absurd i
    next (Err fault) s i a f = f stored tables zs good all

pub honest_separated : (batches : List (List Command)) → AllByRecursion FitsBatch batches → AllByRecursion SeparatedIn (honest_trees batches)
unfolding honest_trees
honest_separated batches fits = all_separated batches [] [] fits tt (record { each = tt; rising = tt; count = omega arith }) tt

-- Trees.

pub each_tree_fits : (stored : List Stored) (tables : List Table) → RepresentTables stored tables → AllByRecursion FitsTable tables → AreSeparatedIn stored
    → AllByRecursion (λ (s : Stored). FitsTree s.tree) stored
each_tree_fits [] [] zs fits all = tt
each_tree_fits [] (t ∷ tables) zs fits all = absurd zs
each_tree_fits (s ∷ stored) [] zs fits all = absurd zs
each_tree_fits (s ∷ stored) (t ∷ tables) zs fits all =
    (whole_fits s.tree t.rows zs.0.stands all.0 fits.0.rows (omega (arith, fits.0.count)), each_tree_fits stored tables zs.1 fits.1 all.1)

pub honest_trees_fit : (batches : List (List Command)) → AllByRecursion FitsBatch batches → AllByRecursion (λ (s : Stored). FitsTree s.tree) (honest_trees batches)
honest_trees_fit batches fits =
    let i = stands batches fits in
    each_tree_fits (honest_trees batches) (tables_after batches) i.0 i.1.each (honest_separated batches fits)

-- Catalogs.

pub root_length : (t : RowTree) → IsTree row_family t → length (digest t) ≡ 32
root_length t tree = step t (fewest_in_root row_family t) tree.height tree.shape
  where
    step : (u : RowTree) (fewest height : ℕ) → IsNode row_family fewest height None None u → length (digest u) ≡ 32
    step (stub d) fewest height n = absurd n
    step (leaf es) fewest height n = length-sha256 (leaf_bytes row_family es)
    step (inner ss ps) fewest height n = length-sha256 _

each_catalog_fits : (stored : List Stored) (tables : List Table) → RepresentTables stored tables → AllByRecursion FitsTable tables
    → AllByRecursion FitsCatalogTable (catalog_of stored).tables
each_catalog_fits [] [] zs fits = tt
each_catalog_fits [] (t ∷ tables) zs fits = absurd zs
each_catalog_fits (s ∷ stored) [] zs fits = absurd zs
each_catalog_fits (s ∷ stored) (t ∷ tables) zs fits =
    let same : length (entries s.tree) ≡ length t.rows = ap length zs.0.stands.rows_are ∙ length-map t.rows whole_entry in (
      record {
        name = subst FitsName (sym zs.0.name) fits.0.name;
        schema = subst FitsSchema (sym zs.0.schema) fits.0.schema;
        rows = omega (arith, fits.0.count);
        root = root_length s.tree zs.0.stands.tree;
      },
      each_catalog_fits stored tables zs.1 fits.1,
    )

names_same : (stored : List Stored) (tables : List Table) → RepresentTables stored tables → map (λ (t : CatalogTable). t.name) (catalog_of stored).tables ≡ names_of tables
names_same [] [] zs = refl
names_same [] (t ∷ tables) zs = absurd zs
names_same (s ∷ stored) [] zs = absurd zs
names_same (s ∷ stored) (t ∷ tables) zs = rw (zs.0.name, names_same stored tables zs.1) refl

rises : (names : List (List ℕ)) → AreRising names → IsTrue (are_rising names)
rises [] r = refl
rises (a ∷ []) r = refl
rises (a ∷ b ∷ names) r = and_from (key_lt a b) (are_rising (b ∷ names)) r.0.0 (rises (b ∷ names) r.1)

counted : (stored : List Stored) (tables : List Table) → RepresentTables stored tables → length (catalog_of stored).tables ≡ length tables
counted [] [] zs = refl
counted [] (t ∷ tables) zs = absurd zs
counted (s ∷ stored) [] zs = absurd zs
counted (s ∷ stored) (t ∷ tables) zs = ap suc (counted stored tables zs.1)

pub catalog_fits : (stored : List Stored) (tables : List Table) → RepresentTables stored tables → FitTables tables → FitsCatalog (catalog_of stored)
catalog_fits stored tables zs good = record {
  count = subst (λ n. n ≤ max_tables) (sym (counted stored tables zs)) good.count;
  each = each_catalog_fits stored tables zs good.each;
  rising = subst (λ names. IsTrue (are_rising names)) (sym (names_same stored tables zs)) (rises (names_of tables) good.rising);
}

-- Records.

pub record_fits : (key : List ℕ) (version : ℕ) (stored : List Stored) → 24 ≤ length (key_tree key) → version < 2 ^ 64 → FitsRecord (honest_record key version stored)
unfolding honest_record key_id tree_id id_at catalog_digest
record_fits key version stored long lt = record {
  id = omega (arith, length-take 16 (drop 8 (key_tree key)), length-drop 8 (key_tree key));
  version = lt;
  catalog = length-sha256 _;
}
