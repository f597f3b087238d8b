-- The reply of an honest store is within the limits of its bytes.
use Rattle.std.proofs.Common.{◌≡◌, ℕ, ◌≤◌, Bool, true, false, cond, List, [], ◌∷◌, Some, length, map, arith}
use Rattle.std.specs.Prelude.{◌||◌, ◌==◌, find, is_some, bytes_eq}
use Rattle.std.specs.Option.{option_map_or}
use Rattle.std.specs.List.{AllByRecursion}
use Rattle.std.proofs.lemmas.List.{length-map}
use Rattle.std.proofs.lemmas.List.Elements.{All-from_recursion}
use Rattle.vo_spec.specs.declared.tables.Command.{Command}
use Rattle.vo_spec.specs.declared.needs.Need.{Need}
use Rattle.vo_spec.specs.declared.records.Record.{Record}
use Rattle.vo_spec.specs.Batches.{FitsBatch}
use Rattle.vo_spec.specs.Conditions.{Query}
use Rattle.vo_spec.specs.Results.{BoundSource, bound_source_at, bound_sources, binding_fault}
use Rattle.vo_spec.specs.Records.{FitsRecord, magic_of, table_headers}
use Rattle.vo_spec.specs.Journals.{max_signature}
use Rattle.vo_spec.specs.Parts.{leaf}
use Rattle.vo_spec.specs.Trees.{RowTree}
use Rattle.vo_spec.specs.Fits.{FitsEntry, FitsTree}
use Rattle.vo_spec.specs.Needs.{tables_used, same_table, needs}
use Rattle.vo_spec.specs.Checks.{tables_wanted}
use Rattle.vo_spec.specs.Replies.{FitsReply}
use Rattle.vo_spec.specs.Tables.{tables_after}
use Rattle.vo_spec.specs.Honest.{Stored, catalog_of, stored_tree, trees_for, pruned_each, honest_reply, honest_trees}
use Rattle.vo_laws.proofs.RepresentationLaws.{stands}
use Rattle.vo_laws.proofs.StoredFits.{honest_trees_fit, catalog_fits}
use Rattle.vo_laws.proofs.PrunedFits.{pruned_fits}

nothing_fits : FitsTree (leaf [])
nothing_fits = record { nodes = (omega arith, All-from_recursion FitsEntry [] tt); depth = omega arith }

tree_fits : (name : List ℕ) (stored : List Stored) → AllByRecursion (λ (s : Stored). FitsTree s.tree) stored → FitsTree (stored_tree stored name)
tree_fits name [] all = nothing_fits
tree_fits name (s ∷ stored) all = step (bytes_eq s.name name) (tree_fits name stored all.1)
  where
    step : (b : Bool) → FitsTree (stored_tree stored name)
        → FitsTree (option_map_or (λ (x : Stored). x.tree) (cond b (Some s) (find (λ (x : Stored). bytes_eq x.name name) stored)) (leaf []))
    step true rest = all.0
    step false rest = rest

each_fits : (names : List (List ℕ)) (stored : List Stored) → AllByRecursion (λ (s : Stored). FitsTree s.tree) stored → AllByRecursion FitsTree (map (stored_tree stored) names)
each_fits [] stored all = tt
each_fits (name ∷ names) stored all = (tree_fits name stored all, each_fits names stored all)

each_pruned : (nss : List (List Need)) (ts : List RowTree) → AllByRecursion FitsTree ts → AllByRecursion FitsTree (pruned_each nss ts)
each_pruned [] ts all = tt
each_pruned (ns ∷ nss) [] all = tt
each_pruned (ns ∷ nss) (t ∷ ts) all = (pruned_fits ns t all.0, each_pruned nss ts all.1)

no_more : (nss : List (List Need)) (ts : List RowTree) → length (pruned_each nss ts) ≤ length ts
no_more [] ts = omega arith
no_more (ns ∷ nss) [] = omega arith
no_more (ns ∷ nss) (t ∷ ts) = let rest : length (pruned_each nss ts) ≤ length ts = no_more nss ts in omega arith

two_at_most : (ss : List BoundSource) → length (tables_used ss) ≤ 2
two_at_most ss = step (length ss == 1 || same_table ss)
  where
    step : (b : Bool) → length (cond b ((bound_source_at ss 0).table ∷ []) ((bound_source_at ss 0).table ∷ (bound_source_at ss 1).table ∷ [])) ≤ 2
    step true = omega arith
    step false = omega arith

few_wanted : (q : Query) (stored : List Stored) → length (tables_wanted q (catalog_of stored)) ≤ 2
few_wanted q stored = step (is_some (binding_fault (table_headers (catalog_of stored)) q))
  where
    step : (b : Bool) → length (cond b [] (tables_used (bound_sources (table_headers (catalog_of stored)) q))) ≤ 2
    step true = omega arith
    step false = two_at_most (bound_sources (table_headers (catalog_of stored)) q)

-- The reply to a query, of a store that holds the trees after these batches.
pub reply_fits : (batches : List (List Command)) (q : Query) (rec : Record) (signature : List ℕ) → AllByRecursion FitsBatch batches
    → FitsRecord rec → rec.magic ≡ magic_of (catalog_of (honest_trees batches)) → length signature ≤ max_signature → FitsReply (honest_reply q rec signature (honest_trees batches))
unfolding honest_reply
reply_fits batches q rec signature fits record_fits magic short =
    let stored : List Stored = honest_trees batches in
    let s = stands batches fits in
    let nss : List (List Need) = needs (bound_sources (table_headers (catalog_of stored)) q) q (trees_for q stored) in
    let few : length (tables_wanted q (catalog_of stored)) ≤ 2 = few_wanted q stored in
    record {
      rec = record_fits;
      signature = short;
      catalog = catalog_fits stored (tables_after batches) s.0 s.1;
      count = omega (arith, no_more nss (trees_for q stored), length-map (tables_wanted q (catalog_of stored)) (stored_tree stored));
      trees = each_pruned nss (trees_for q stored) (each_fits (tables_wanted q (catalog_of stored)) stored (honest_trees_fit batches fits));
      magic = magic;
    }
