-- How many bytes a proof of a whole tree has at most: some hundred of each entry of the tree.
use Rattle.std.proofs.Common.{ℕ, ◌+◌, ◌*◌, ◌-◌, ◌≤◌, Bool, true, false, cond, List, [], ◌∷◌, Option, Some, None, length, map, arith}
use Rattle.std.specs.Prelude.{flat_map, slice_get, drop}
use Rattle.std.specs.List.{AllByRecursion}
use Rattle.std.proofs.lemmas.List.{length-append, length-map}
use Rattle.std.proofs.lemmas.List.Elements.{recursion_from_All}
use Rattle.sha2.proofs.Facts256.{length-sha256}
use Rattle.vo_spec.specs.declared.cells.PartEntry.{PartEntry}
use Rattle.vo_spec.specs.declared.needs.Need.{Need}
use Rattle.vo_spec.specs.Bytes.{string}
use Rattle.vo_spec.specs.Parts.{stub, leaf, inner, none, more, count, entries, entries_in, leaf_bytes, inner_bytes}
use Rattle.vo_spec.specs.Trees.{RowTree, RowTrees, row_family, digest}
use Rattle.vo_spec.specs.Inserts.{min_fill}
use Rattle.vo_spec.specs.Fits.{FitsKey, FitsEntry, FitsEach, FitsPart}
use Rattle.vo_spec.specs.Pruning.{Walk, pruned_by, pruned_in, at_root, shown_entry, walk_for, prune_tree}
use Rattle.vo_spec.specs.Representation.{IsNode, AreNodes, IsTree}
use Rattle.vo_spec.specs.TreeBytes.{entry_form, row_encoding, tree_bytes, trees_bytes_by}
use Rattle.vo_laws.proofs.ByteLengths.{flat_within, keys_within}
use Rattle.vo_laws.proofs.ListLaws.{each_left, each_map, each_right}

-- A walk whose entries are short.
module _ {S : Type 0} (walk : Walk PartEntry S) where
  abbrev IsShort : PartEntry → Type 0
  IsShort e = length (entry_form (walk.shown e)) ≤ 100

  leaf_size : (b : Bool) (es : List PartEntry) → AllByRecursion IsShort es
      → length (tree_bytes (cond {A = RowTree} b (leaf (map walk.shown es)) (stub (digest (leaf es)))))
      ≤ 33 + length es * 100
  leaf_size true es all =
      let bytes : length (flat_map entry_form (map walk.shown es)) ≤ length (map walk.shown es) * 100 =
      flat_within entry_form 100 (map walk.shown es)
      (each_map (λ (e : PartEntry). length (entry_form e) ≤ 100) walk.shown es all) in
      omega (arith, length-map es walk.shown)
  leaf_size false es all = omega (arith, length-sha256 (leaf_bytes row_family es))

  inner_size : (b : Bool) (ss : List (List ℕ)) (qs ps : RowTrees) → AllByRecursion FitsKey ss
      → length (tree_bytes (cond {A = RowTree} b (inner ss qs) (stub (digest (inner ss ps)))))
      ≤ 33 + length ss * 257 + length (trees_bytes_by row_encoding qs)
  inner_size true ss qs ps keys =
      let separators : length (flat_map string ss) ≤ length ss * 257 =
      flat_within string 257 ss (keys_within ss keys) in
      omega (arith, length-append (flat_map string ss) (trees_bytes_by row_encoding qs))
  inner_size false ss qs ps keys = omega (arith, length-sha256 (inner_bytes row_family ss ps))

  mutual
    node_size : (s : S) (fewest height : ℕ) (lower upper : Option (List ℕ)) (t : RowTree)
        → 2 ≤ fewest → IsNode row_family fewest height lower upper t → FitsPart t
        → AllByRecursion IsShort (entries t)
        → length (tree_bytes (pruned_by walk row_family s t)) + 300 ≤ length (entries t) * 600
    node_size s fewest height lower upper (stub d) some n fits all = absurd n
    node_size s fewest height lower upper (leaf es) some n fits all =
        let size = leaf_size (walk.opens s) es all in
        omega (arith, size, n.1, some)
    node_size s fewest height lower upper (inner ss ps) some n fits all =
        let size = inner_size (walk.opens s) ss (pruned_in walk row_family s None ss ps) ps
        (recursion_from_All FitsKey ss fits.3) in
        let children : length (trees_bytes_by row_encoding (pruned_in walk row_family s None ss ps))
        + count ps * 300 ≤ length (entries_in ps) * 600 =
        each_size s None ss (height - 1) lower upper ss ps n.3 fits.4 all in
        omega (arith, size, children, fits.0, fits.2)

    each_size : (s : S) (from : Option (List ℕ)) (ws : List (List ℕ)) (height : ℕ)
        (lower upper : Option (List ℕ)) (ss : List (List ℕ)) (ps : RowTrees)
        → AreNodes row_family height lower upper ss ps → FitsEach FitsEntry ps
        → AllByRecursion IsShort (entries_in ps)
        → length (trees_bytes_by row_encoding (pruned_in walk row_family s from ws ps))
        + count ps * 300 ≤ length (entries_in ps) * 600
    each_size s from ws height lower upper ss none n fits all = omega arith
    each_size s from ws height lower upper [] (more m p none) n fits all =
        let next = slice_get ws 0 in
        let here : length (tree_bytes (pruned_by walk row_family (walk.onward s from next) p)) + 300
        ≤ length (entries p) * 600 =
        node_size (walk.onward s from next) min_fill height lower upper p (omega arith) n.1 fits.0
        (each_left IsShort (entries p) [] all) in
        omega (
          arith,
          here,
          length-append (entries p) [],
          length-append (tree_bytes (pruned_by walk row_family (walk.onward s from next) p)) [],
        )
    each_size s from ws height lower upper [] (more m p (more o q ps)) n fits all = absurd n
    each_size s from ws height lower upper (x ∷ ss) (more m p ps) n fits all =
        let next = slice_get ws 0 in
        let rest = pruned_in walk row_family (walk.past s from next) next (drop 1 ws) ps in
        let here : length (tree_bytes (pruned_by walk row_family (walk.onward s from next) p)) + 300
        ≤ length (entries p) * 600 =
        node_size (walk.onward s from next) min_fill height lower (Some x) p (omega arith) n.2 fits.0
        (each_left IsShort (entries p) (entries_in ps) all) in
        let others : length (trees_bytes_by row_encoding rest) + count ps * 300
        ≤ length (entries_in ps) * 600 =
        each_size (walk.past s from next) next (drop 1 ws) height (Some x) upper ss ps n.3 fits.1
        (each_right IsShort (entries p) (entries_in ps) all) in
        omega (
          arith,
          here,
          others,
          length-append (entries p) (entries_in ps),
          length-append (tree_bytes (pruned_by walk row_family (walk.onward s from next) p))
              (trees_bytes_by row_encoding rest),
        )

-- The proof for needs.

abbrev pub IsShortFor : List Need → PartEntry → Type 0
IsShortFor needs e = length (entry_form (shown_entry needs e)) ≤ 100

pub proof_size : (needs : List Need) (t : RowTree) → IsTree row_family t → FitsPart t
    → AllByRecursion (IsShortFor needs) (entries t)
    → length (tree_bytes (prune_tree needs t)) ≤ 33 + length (entries t) * 600
proof_size needs (stub d) tree fits all = absurd tree.shape
proof_size needs (leaf es) tree fits all =
    let size = leaf_size (walk_for needs) ((walk_for needs).opens (at_root needs)) es all in
    omega (arith, size)
proof_size needs (inner ss ps) tree fits all =
    let size = node_size (walk_for needs) (at_root needs) 2 tree.height None None (inner ss ps)
    (omega arith) tree.shape fits all in
    omega (arith, size)
