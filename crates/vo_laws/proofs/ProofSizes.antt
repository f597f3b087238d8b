-- The proofs of an insertion and of a batch are within the limits of their bytes: of each tree one
-- path is open.
use Rattle.std.proofs.Common.{◌≡◌, ℕ, suc, ◌+◌, ◌*◌, ◌≤◌, Bool, true, false, cond, List, [], ◌∷◌, ◌++◌, Option, Some, None, Result, Ok, Err, length, map, arith}
use Rattle.std.specs.Prelude.{not, find, flat_map, is_some, slice_get, drop, bytes_eq}
use Rattle.std.specs.Option.{option_map_or}
use Rattle.std.specs.Result.{result_unwrap_or}
use Rattle.std.specs.List.{AllByRecursion}
use Rattle.std.proofs.lemmas.List.{length-append, length-map}
use Rattle.std.proofs.lemmas.List.Elements.{recursion_from_All}
use Rattle.sha2.proofs.Facts256.{length-sha256}
use Rattle.vo_spec.specs.declared.tables.Table.{Table}
use Rattle.vo_spec.specs.declared.tables.Command.{Command}
use Rattle.vo_spec.specs.declared.tables.Command.TheVariants.{Create, Drop, Insert, Update, Delete}
use Rattle.vo_spec.specs.declared.tables.CommandFault.{CommandFault}
use Rattle.vo_spec.specs.Bytes.{u16_bytes, string}
use Rattle.vo_spec.specs.Values.{key_of}
use Rattle.vo_spec.specs.Tables.{value_at, refusal, apply, tables_after}
use Rattle.vo_spec.specs.Batches.{max_commands, FitsCommand, FitsBatch}
use Rattle.vo_spec.specs.Parts.{stub, leaf, inner, none, more, count, levels, levels_in, leaf_bytes, inner_bytes}
use Rattle.vo_spec.specs.Trees.{RowTree, RowTrees, row_family}
use Rattle.vo_spec.specs.Fits.{FitsKey, FitsEntry, FitsEach, FitsPart, FitsTree}
use Rattle.vo_spec.specs.Pruning.{pruned_by, pruned_in}
use Rattle.vo_spec.specs.Inserts.{result_map, goes_here, closed_entry, walk_to, insert_proof}
use Rattle.vo_spec.specs.Removes.{replace_proof, remove_proof}
use Rattle.vo_spec.specs.TreeBytes.{entry_form, row_encoding, tree_bytes, trees_bytes_by}
use Rattle.vo_spec.specs.Replies.{proofs_bytes, FitsProofs}
use Rattle.vo_spec.specs.Honest.{Stored, RepresentTables, stored_table_header, work, proof_on, table_of, command_proof, honest_proofs, honest_trees}
use Rattle.vo_laws.proofs.ListLaws.{each_both, each_weaker}
use Rattle.vo_laws.specs.FittingTables.{FitTables}
use Rattle.vo_laws.proofs.RepresentationLaws.{InStep, FitAfter, command_in_step, stands}
use Rattle.vo_laws.proofs.StoredFits.{SeparatedAfter, work_separated, honest_separated, each_tree_fits}
use Rattle.vo_laws.specs.Separators.{AreSeparatedIn}
use Rattle.vo_laws.proofs.PrunedFits.{insert_proof_fits}
use Rattle.vo_laws.proofs.ByteLengths.{length-u16, flat_within, keys_within, entries_within}
use Rattle.vo_laws.proofs.ChangeProofs.{replace_proof_fits, replace_proof_size, remove_proof_fits, remove_proof_size}

-- The proof of an insertion: a node off the path is a digest, one on it has at most one child open.

-- how many bytes a node of the path has at most, with digests for all its entries or children
abbrev pub most_node : ℕ
most_node = 5634

shut_size : (key : List ℕ) (t : RowTree) → FitsPart t → length (tree_bytes (pruned_by (walk_to key) row_family false t)) ≡ 33
shut_size key (stub d) fits = omega (arith, fits)
shut_size key (leaf es) fits = omega (arith, length-sha256 (leaf_bytes row_family es))
shut_size key (inner ss ps) fits = omega (arith, length-sha256 (inner_bytes row_family ss ps))

by_place : (key : List ℕ) (p : RowTree) (ps : RowTrees) (lower : Option (List ℕ)) (ss : List (List ℕ)) (b : Bool)
    → length (tree_bytes (pruned_by (walk_to key) row_family true p)) ≤ levels p * most_node
    → length (tree_bytes (pruned_by (walk_to key) row_family false p)) ≡ 33
    → length (trees_bytes_by row_encoding (pruned_in (walk_to key) row_family true lower ss ps)) ≤ count ps * 33 + levels_in ps * most_node
    → length (trees_bytes_by row_encoding (pruned_in (walk_to key) row_family false lower ss ps)) ≤ count ps * 33 + 0
    → length (tree_bytes (pruned_by (walk_to key) row_family b p) ++ trees_bytes_by row_encoding (pruned_in (walk_to key) row_family (not b) lower ss ps))
    ≤ count (more tt p ps) * 33 + levels_in (more tt p ps) * most_node
by_place key p ps lower ss true opened shut on off =
    omega (arith, length-append (tree_bytes (pruned_by (walk_to key) row_family true p)) (trees_bytes_by row_encoding (pruned_in (walk_to key) row_family false lower ss ps)))
by_place key p ps lower ss false opened shut on off =
    omega (arith, length-append (tree_bytes (pruned_by (walk_to key) row_family false p)) (trees_bytes_by row_encoding (pruned_in (walk_to key) row_family true lower ss ps)))

mutual
  open_size : (key : List ℕ) (t : RowTree) → FitsPart t → length (tree_bytes (pruned_by (walk_to key) row_family true t)) ≤ levels t * most_node
  open_size key (stub d) fits = omega (arith, fits)
  open_size key (leaf es) fits =
      let all : length (flat_map entry_form (map closed_entry es)) ≤ length (map closed_entry es) * 290 =
      flat_within entry_form 290 (map closed_entry es) (entries_within es (recursion_from_All FitsEntry es fits.1)) in
      omega (arith, length-map es closed_entry, fits.0)
  open_size key (inner ss ps) fits =
      let separators : length (flat_map string ss) ≤ length ss * 257 = flat_within string 257 ss (keys_within ss (recursion_from_All FitsKey ss fits.3)) in
      let children : length (trees_bytes_by row_encoding (pruned_in (walk_to key) row_family true None ss ps)) ≤ count ps * 33 + levels_in ps * most_node = each_size key true None ss ps fits.4 in
      omega (arith, length-append (flat_map string ss) (trees_bytes_by row_encoding (pruned_in (walk_to key) row_family true None ss ps)), fits.1, fits.2)

  each_size : (key : List ℕ) (here : Bool) (lower : Option (List ℕ)) (ss : List (List ℕ)) (ps : RowTrees) → FitsEach FitsEntry ps
      → length (trees_bytes_by row_encoding (pruned_in (walk_to key) row_family here lower ss ps)) ≤ count ps * 33 + cond here (levels_in ps * most_node) 0
  each_size key here lower ss none fits = omega arith
  each_size key false lower ss (more m p ps) fits =
      let rest : length (trees_bytes_by row_encoding (pruned_in (walk_to key) row_family false (slice_get ss 0) (drop 1 ss) ps)) ≤ count ps * 33 + 0 = each_size key false (slice_get ss 0) (drop 1 ss) ps fits.1 in
      omega (
        arith,
        length-append (tree_bytes (pruned_by (walk_to key) row_family false p)) (trees_bytes_by row_encoding (pruned_in (walk_to key) row_family false (slice_get ss 0) (drop 1 ss) ps)),
        shut_size key p fits.0,
      )
  each_size key true lower ss (more m p ps) fits =
      by_place key p ps (slice_get ss 0) (drop 1 ss) (goes_here key (slice_get ss 0)) (open_size key p fits.0) (shut_size key p fits.0)
      (each_size key true (slice_get ss 0) (drop 1 ss) ps fits.1) (each_size key false (slice_get ss 0) (drop 1 ss) ps fits.1)

pub insert_proof_size : (key : List ℕ) (t : RowTree) → FitsTree t → length (tree_bytes (insert_proof key t)) ≤ levels t * most_node
insert_proof_size key t fits = open_size key t fits.nodes

-- The proofs of a batch.

abbrev most_tree : ℕ
most_tree = 123948

abbrev IsSmall : RowTree → Type 0
IsSmall t = FitsTree t × (length (tree_bytes t) ≤ most_tree)

abbrev StoredFits : Stored → Type 0
StoredFits s = FitsTree s.tree

insert_small : (key : List ℕ) (t : RowTree) → FitsTree t → IsSmall (insert_proof key t)
insert_small key t fits = (insert_proof_fits key t fits, omega (arith, insert_proof_size key t fits, fits.depth))

replace_small : (key : List ℕ) (t : RowTree) → FitsTree t → IsSmall (replace_proof key t)
replace_small key t fits = (replace_proof_fits key t fits, omega (arith, replace_proof_size key t fits, fits.depth))

remove_small : (key : List ℕ) (t : RowTree) → FitsTree t → IsSmall (remove_proof key t)
remove_small key t fits = (remove_proof_fits key t fits, omega (arith, remove_proof_size key t fits, fits.depth))

one_small : (c : Command) (s : Stored) → StoredFits s → AllByRecursion IsSmall (proof_on c s)
one_small (Create name columns key) s fits = tt
one_small (Drop name) s fits = tt
one_small (Insert name values) s fits = (insert_small (key_of (value_at values s.schema.key)) s.tree fits, tt)
one_small (Update name sets column value) s fits = (replace_small (key_of value) s.tree fits, tt)
one_small (Delete name column value) s fits = (remove_small (key_of value) s.tree fits, tt)

one_at_most : (c : Command) (s : Stored) → length (proof_on c s) ≤ 1
one_at_most (Create name columns key) s = omega arith
one_at_most (Drop name) s = omega arith
one_at_most (Insert name values) s = omega arith
one_at_most (Update name sets column value) s = omega arith
one_at_most (Delete name column value) s = omega arith

command_small : (c : Command) (stored : List Stored) → AllByRecursion StoredFits stored → AllByRecursion IsSmall (command_proof c stored)
command_small c [] all = tt
command_small c (s ∷ stored) all = step (bytes_eq s.name (table_of c)) (command_small c stored all.1)
  where
    step : (b : Bool) → AllByRecursion IsSmall (command_proof c stored)
        → AllByRecursion IsSmall (option_map_or (proof_on c) (cond b (Some s) (find (λ (x : Stored). bytes_eq x.name (table_of c)) stored)) [])
    step true rest = one_small c s all.0
    step false rest = rest

command_few : (c : Command) (stored : List Stored) → length (command_proof c stored) ≤ 1
command_few c stored = step (find (λ (x : Stored). bytes_eq x.name (table_of c)) stored)
  where
    step : (o : Option Stored) → length (option_map_or (proof_on c) o []) ≤ 1
    step None = omega arith
    step (Some s) = one_at_most c s

abbrev behind : List Command → Result (List Stored) CommandFault → List RowTree
behind cs r = result_unwrap_or (result_map (honest_proofs cs) r) []

few_proofs : (cs : List Command) (stored : List Stored) → length (honest_proofs cs stored) ≤ length cs
few_proofs [] stored = omega arith
few_proofs (c ∷ cs) stored = step (is_some (refusal c (map stored_table_header stored))) (work c stored) (few_proofs cs)
  where
    step : (b : Bool) (r : Result (List Stored) CommandFault) → ((after : List Stored) → length (honest_proofs cs after) ≤ length cs)
        → length (cond b [] (command_proof c stored ++ behind cs r)) ≤ suc (length cs)
    step true r rest = omega arith
    step false (Ok after) rest = omega (arith, length-append (command_proof c stored) (honest_proofs cs after), command_few c stored, rest after)
    step false (Err fault) rest = omega (arith, length-append (command_proof c stored) [], command_few c stored)

small_proofs : (cs : List Command) (stored : List Stored) (tables : List Table) → AllByRecursion FitsCommand cs
    → RepresentTables stored tables → FitTables tables → AreSeparatedIn stored → AllByRecursion IsSmall (honest_proofs cs stored)
small_proofs [] stored tables fits zs good all = tt
small_proofs (c ∷ cs) stored tables fits zs good all =
    let i = command_in_step c stored tables fits.0 zs good in
    step (is_some (refusal c (map stored_table_header stored)))
    (command_small c stored (each_tree_fits stored tables zs good.each all))
    (next (work c stored) (apply c tables) i.0 i.1 (work_separated c stored tables zs good all)
    (λ after others y g a. small_proofs cs after others fits.1 y g a))
  where
    step : (b : Bool) → AllByRecursion IsSmall (command_proof c stored) → AllByRecursion IsSmall (behind cs (work c stored))
        → AllByRecursion IsSmall (cond b [] (command_proof c stored ++ behind cs (work c stored)))
    step true here rest = tt
    step false here rest = each_both IsSmall (command_proof c stored) (behind cs (work c stored)) here rest

    next : (r : Result (List Stored) CommandFault) (s : Result (List Table) CommandFault) → InStep r s → FitAfter s → SeparatedAfter r
        → ((after : List Stored) (others : List Table) → RepresentTables after others → FitTables others → AreSeparatedIn after → AllByRecursion IsSmall (honest_proofs cs after))
        → AllByRecursion IsSmall (behind cs r)
    next (Ok after) (Ok others) i g a f = f after others i g a
    next (Ok after) (Err fault) i g a f = absurd i
    next (Err fault) s i g a f = tt

proofs_fit : (trees : List RowTree) → length trees ≤ max_commands → AllByRecursion IsSmall trees → FitsProofs trees
unfolding proofs_bytes
proofs_fit trees few all =
    let size : length (flat_map tree_bytes trees) ≤ length trees * most_tree = flat_within tree_bytes most_tree trees (each_weaker IsSmall (λ t. length (tree_bytes t) ≤ most_tree) (λ t is. is.1) trees all) in
    record {
      count = few;
      each = each_weaker IsSmall FitsTree (λ t is. is.0) trees all;
      size = omega (arith, length-append (u16_bytes (length trees)) (flat_map tree_bytes trees), length-u16 (length trees));
    }

-- The proofs of a batch on the trees after these others.
pub honest_proofs_fit : (earlier : List (List Command)) (batch : List Command) → AllByRecursion FitsBatch earlier → FitsBatch batch
    → FitsProofs (honest_proofs batch (honest_trees earlier))
honest_proofs_fit earlier batch fits batch_fits =
    let s = stands earlier fits in
    let few : length (honest_proofs batch (honest_trees earlier)) ≤ length batch = few_proofs batch (honest_trees earlier) in
    proofs_fit (honest_proofs batch (honest_trees earlier)) (omega (arith, batch_fits.count))
    (small_proofs batch (honest_trees earlier) (tables_after earlier) batch_fits.each s.0 s.1 (honest_separated earlier fits))
