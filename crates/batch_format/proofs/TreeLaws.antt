-- A tree that is read is encoded so, and what is encoded so is read.
use Rattle.std.proofs.Common.{◌≡◌, ℕ, zero, suc, ◌+◌, ◌-◌, ◌≤◌, List, [], ◌∷◌, ◌++◌, length, Some, None, refl, sym, ap, subst, ◌∙◌, append_assoc, arith}
use Rattle.std.specs.List.{AllByRecursion, flat_map}
use Rattle.std.proofs.lemmas.List.Elements.{All-from_recursion, recursion_from_All}
use Rattle.vo_spec.specs.declared.cells.PartEntry.{PartEntry}
use Rattle.vo_spec.specs.Bytes.{IsBytes, string}
use Rattle.vo_spec.specs.Parts.{stub, leaf, inner, none, more, count, levels, levels_in}
use Rattle.vo_spec.specs.Trees.{RowTree, RowTrees, open_parts}
use Rattle.vo_spec.specs.Fits.{FitsKey, FitsEntry, FitsPart, FitsEach, FitsTree, max_fill, max_levels}
use Rattle.vo_spec.specs.TreeBytes.{entry_form, tree_bytes, trees_bytes_by, row_encoding}
use Rattle.row_bytes.specs.Reading.{bytes_at}
use Rattle.row_bytes.specs.Fields.{times}
use Rattle.row_bytes.proofs.Readers.{IsBytes-rest}
use Rattle.batch_format.specs.BatchReading.{one, two}
use Rattle.batch_format.proofs.ReaderLaws.{Took, IsReader, some_is, bound, took_then, no_some, next_found, next_again, times_found, times_again}
use Rattle.batch_format.specs.TreeReading.{entry_at, key_at, leaf_at, inner_at, inner_node, node_at, tree_at}
use Rattle.batch_format.proofs.KeyLaws.{bytes_read, one_byte, counts_read, keys_read, behind_byte, tagged_found, tagged_again, pick}
use Rattle.batch_format.proofs.EntryLaws.{entries_read}

-- it fits, and has at most so many levels
abbrev pub Within : ℕ → RowTree → Type 0
Within n p = FitsPart p × (levels p ≤ n)

-- Children as a list.

abbrev list_of_parts : RowTrees → List RowTree
list_of_parts none = []
list_of_parts (more m p ps) = p ∷ list_of_parts ps

parts_again : (ps : RowTrees) → open_parts (list_of_parts ps) ≡ ps
parts_again none = refl
parts_again (more m p ps) = ap (more tt p) (parts_again ps)

pub count_open_parts : (ts : List RowTree) → count (open_parts ts) ≡ length ts
count_open_parts [] = refl
count_open_parts (t ∷ ts) = let h : count (open_parts ts) ≡ length ts = count_open_parts ts in omega arith

bytes_open_parts : (ts : List RowTree) → trees_bytes_by row_encoding (open_parts ts) ≡ flat_map tree_bytes ts
bytes_open_parts [] = refl
bytes_open_parts (t ∷ ts) = ap (λ (bytes : List ℕ). tree_bytes t ++ bytes) (bytes_open_parts ts)

each_fits : (n : ℕ) (ts : List RowTree) → AllByRecursion (Within n) ts → FitsEach FitsEntry (open_parts ts)
each_fits n [] f = tt
each_fits n (t ∷ ts) f = (f.0.0, each_fits n ts f.1)

levels_within : (n : ℕ) (ts : List RowTree) → AllByRecursion (Within n) ts → levels_in (open_parts ts) ≤ n
levels_within n [] f = omega arith
levels_within n (t ∷ ts) f =
    let first : levels t ≤ n = f.0.1 in
    let others : levels_in (open_parts ts) ≤ n = levels_within n ts f.1 in
    omega (arith, first, others)

list_within : (n : ℕ) (ts : List RowTree) → FitsEach FitsEntry (open_parts ts) → levels_in (open_parts ts) ≤ n → AllByRecursion (Within n) ts
list_within n [] f le = tt
list_within n (t ∷ ts) f le = ((f.0, omega (arith, le)), list_within n ts f.1 (omega (arith, le)))

some_level : (p : RowTree) → 1 ≤ levels p
some_level (stub d) = omega arith
some_level (leaf es) = omega arith
some_level (inner ss ps) = omega arith

-- Nodes whose children are read with so many levels.

module _ (n : ℕ) (child : IsReader (tree_at n) tree_bytes (Within n)) where
  inner_found : (bytes : List ℕ) (p : RowTree) (rest : List ℕ) → IsBytes bytes → inner_at (tree_at n) bytes ≡ Some (p, rest) → Took (2 ∷ bytes) (tree_bytes p) rest × Within (suc n) p
  unfolding inner_at
  inner_found bytes p rest fits e =
      let y : RowTree × List ℕ = (p, rest) in
      let a = next_found (counts_read 2 max_fill) (λ count. two inner_node (times key_at (count - 1)) (times (tree_at n) count)) bytes y fits e in
      let b = bound (times key_at (a.0 - 1) a.1) (λ x. one (inner_node x.0) (times (tree_at n) a.0) x.1) y a.4 in
      let k = times_found key_at string FitsKey keys_read (a.0 - 1) a.1 b.0.0 b.0.1 a.2.behind b.1 in
      let c = bound (times (tree_at n) a.0 b.0.1) (λ x. Some (inner_node b.0.0 x.0, x.1)) y b.2 in
      let t = times_found (tree_at n) tree_bytes (Within n) child a.0 b.0.1 c.0.0 c.0.1 k.0.behind c.1 in
      let ss : List (List ℕ) = b.0.0 in
      let ts : List RowTree = c.0.0 in
      let all : Took bytes (a.0 ∷ flat_map string ss ++ flat_map tree_bytes ts) c.0.1 =
      took_then bytes (one_byte a.0 ++ flat_map string ss) b.0.1 (flat_map tree_bytes ts) c.0.1 (took_then bytes (one_byte a.0) a.1 (flat_map string ss) b.0.1 a.2 k.0) t.0 in
      let counts : count (open_parts ts) ≡ a.0 = count_open_parts ts ∙ t.1 in
      let encoded : tree_bytes (inner_node ss ts) ≡ 2 ∷ a.0 ∷ flat_map string ss ++ flat_map tree_bytes ts = rw (counts, bytes_open_parts ts) refl in
      let took : Took (2 ∷ bytes) (tree_bytes (inner_node ss ts)) c.0.1 =
      subst (λ (w : List ℕ). Took (2 ∷ bytes) w c.0.1) (sym encoded) (behind_byte 2 bytes (a.0 ∷ flat_map string ss ++ flat_map tree_bytes ts) c.0.1 all) in
      let least : 2 ≤ a.0 = a.3.0 in
      let most : a.0 ≤ max_fill = a.3.1 in
      let between : length ss ≡ a.0 - 1 = k.1 in
      let deep : levels_in (open_parts ts) ≤ n = levels_within n ts t.2 in
      let within : Within (suc n) (inner_node ss ts) =
      ((omega (arith, counts, least), omega (arith, counts, most), omega (arith, counts, between, least), All-from_recursion FitsKey ss k.2, each_fits n ts t.2), omega (arith, deep)) in
      subst (λ (q : RowTree × List ℕ). Took (2 ∷ bytes) (tree_bytes q.0) q.1 × Within (suc n) q.0) (some_is (inner_node ss ts, c.0.1) y c.2) (took, within)

  inner_again : (ss : List (List ℕ)) (ts : List RowTree) (rest : List ℕ) → Within (suc n) (inner_node ss ts)
      → inner_at (tree_at n) (length ts ∷ (flat_map string ss ++ (flat_map tree_bytes ts ++ rest))) ≡ Some (inner_node ss ts, rest)
  unfolding inner_at
  inner_again ss ts rest fits =
      let counts : count (open_parts ts) ≡ length ts = count_open_parts ts in
      let least : 2 ≤ count (open_parts ts) = fits.0.0 in
      let most : count (open_parts ts) ≤ max_fill = fits.0.1 in
      let between : length ss + 1 ≡ count (open_parts ts) = fits.0.2 in
      let fewer : length ts - 1 ≡ length ss = omega (arith, counts, between) in
      let deep : levels_in (open_parts ts) + 1 ≤ suc n = fits.1 in
      let each : AllByRecursion (Within n) ts = list_within n ts fits.0.4 (omega (arith, deep)) in
      next_again (counts_read 2 max_fill) (λ count. two inner_node (times key_at (count - 1)) (times (tree_at n) count)) (length ts) (flat_map string ss ++ (flat_map tree_bytes ts ++ rest))
      (omega (arith, counts, least), omega (arith, counts, most))
      ∙ rw (
        fewer,
        times_again key_at string FitsKey keys_read ss (flat_map tree_bytes ts ++ rest) (recursion_from_All FitsKey ss fits.0.3),
        times_again (tree_at n) tree_bytes (Within n) child ts rest each,
      ) refl

  reencoded : (ss : List (List ℕ)) (ts : List RowTree) (rest : List ℕ)
      → tree_bytes (inner_node ss ts) ++ rest ≡ 2 ∷ length ts ∷ (flat_map string ss ++ (flat_map tree_bytes ts ++ rest))
  reencoded ss ts rest =
      rw (count_open_parts ts, bytes_open_parts ts) (ap (λ (w : List ℕ). 2 ∷ length ts ∷ w) (append_assoc (flat_map string ss) (flat_map tree_bytes ts) rest))

  leaf_found : (bytes : List ℕ) (p : RowTree) (rest : List ℕ) → IsBytes bytes → leaf_at bytes ≡ Some (p, rest) → Took (1 ∷ bytes) (tree_bytes p) rest × Within (suc n) p
  unfolding leaf_at
  leaf_found bytes p rest fits e =
      let y : RowTree × List ℕ = (p, rest) in
      let a = next_found (counts_read 0 max_fill) (λ count. one leaf (times entry_at count)) bytes y fits e in
      let b = bound (times entry_at a.0 a.1) (λ x. Some (leaf x.0, x.1)) y a.4 in
      let k = times_found entry_at entry_form FitsEntry entries_read a.0 a.1 b.0.0 b.0.1 a.2.behind b.1 in
      let es : List PartEntry = b.0.0 in
      let all : Took bytes (a.0 ∷ flat_map entry_form es) b.0.1 = took_then bytes (one_byte a.0) a.1 (flat_map entry_form es) b.0.1 a.2 k.0 in
      let most : a.0 ≤ max_fill = a.3.1 in
      let took : Took (1 ∷ bytes) (tree_bytes (leaf es)) b.0.1 =
      subst (λ (j : ℕ). Took (1 ∷ bytes) (1 ∷ j ∷ flat_map entry_form es) b.0.1) (sym k.1) (behind_byte 1 bytes (a.0 ∷ flat_map entry_form es) b.0.1 all) in
      let within : Within (suc n) (leaf es) = ((omega (arith, k.1, most), All-from_recursion FitsEntry es k.2), omega arith) in
      subst (λ (q : RowTree × List ℕ). Took (1 ∷ bytes) (tree_bytes q.0) q.1 × Within (suc n) q.0) (some_is (leaf es, b.0.1) y b.2) (took, within)

  leaf_again : (es : List PartEntry) (rest : List ℕ) → FitsPart (leaf es) → leaf_at (length es ∷ flat_map entry_form es ++ rest) ≡ Some (leaf es, rest)
  unfolding leaf_at
  leaf_again es rest fits =
      next_again (counts_read 0 max_fill) (λ count. one leaf (times entry_at count)) (length es) (flat_map entry_form es ++ rest) (omega arith, fits.0)
      ∙ rw (times_again entry_at entry_form FitsEntry entries_read es rest (recursion_from_All FitsEntry es fits.1)) refl

  node_found : (bytes : List ℕ) (p : RowTree) (rest : List ℕ) → IsBytes bytes → node_at (tree_at n) bytes ≡ Some (p, rest) → Took bytes (tree_bytes p) rest × Within (suc n) p
  unfolding node_at
  node_found [] p rest fits e = absurd cc
  node_found (byte ∷ bytes) p rest fits e =
      let y : RowTree × List ℕ = (p, rest) in
      let behind = IsBytes-rest byte bytes fits in
      let P : ℕ → Type 0 = λ k. Took (k ∷ bytes) (tree_bytes p) rest × Within (suc n) p in
      pick P byte 0 (one stub (bytes_at 32) bytes) _ y e (tagged_found (bytes_read 32) stub tree_bytes (Within (suc n)) 0 (λ d. refl) (λ d long. (long, omega arith)) bytes p rest behind)
      (λ e1. pick P byte 1 (leaf_at bytes) _ y e1 (leaf_found bytes p rest behind)
      (λ e2. pick P byte 2 (inner_at (tree_at n) bytes) None y e2 (inner_found bytes p rest behind)
      (λ e3. absurd (no_some y e3))))

  node_again : (p : RowTree) (rest : List ℕ) → Within (suc n) p → node_at (tree_at n) (tree_bytes p ++ rest) ≡ Some (p, rest)
  unfolding node_at
  node_again (stub d) rest fits = tagged_again (bytes_read 32) stub d rest fits.0
  node_again (leaf es) rest fits = leaf_again es rest fits.0
  node_again (inner ss ps) rest fits =
      let P : RowTrees → Type 0 = λ qs. Within (suc n) (inner ss qs) → node_at (tree_at n) (tree_bytes (inner ss qs) ++ rest) ≡ Some (inner ss qs, rest) in
      subst P (parts_again ps) (λ good. ap (node_at (tree_at n)) (reencoded ss (list_of_parts ps) rest) ∙ inner_again ss (list_of_parts ps) rest good) fits

-- Trees.

nothing_found : (bytes : List ℕ) (p : RowTree) (rest : List ℕ) → IsBytes bytes → tree_at 0 bytes ≡ Some (p, rest) → Took bytes (tree_bytes p) rest × Within 0 p
unfolding tree_at
nothing_found bytes p rest fits e = absurd (no_some (p, rest) e)

nothing_again : (p : RowTree) (rest : List ℕ) → Within 0 p → tree_at 0 (tree_bytes p ++ rest) ≡ Some (p, rest)
nothing_again p rest fits = absurd (omega (arith, fits.1, some_level p))

pub levels_read : (n : ℕ) → IsReader (tree_at n) tree_bytes (Within n)
unfolding tree_at
levels_read zero = record { found = nothing_found; again = nothing_again }
levels_read (suc n) = record { found = node_found n (levels_read n); again = node_again n (levels_read n) }

tree_found : (bytes : List ℕ) (p : RowTree) (rest : List ℕ) → IsBytes bytes → tree_at max_levels bytes ≡ Some (p, rest) → Took bytes (tree_bytes p) rest × FitsTree p
tree_found bytes p rest fits e =
    let f = (levels_read max_levels).found bytes p rest fits e in
    (f.0, record { nodes = f.1.0; depth = f.1.1 })

tree_again : (p : RowTree) (rest : List ℕ) → FitsTree p → tree_at max_levels (tree_bytes p ++ rest) ≡ Some (p, rest)
tree_again p rest fits = (levels_read max_levels).again p rest (fits.nodes, fits.depth)

pub trees_read : IsReader (tree_at max_levels) tree_bytes FitsTree
trees_read = record { found = tree_found; again = tree_again }
