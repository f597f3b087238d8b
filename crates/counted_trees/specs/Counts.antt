-- Trees of numbers that hold beside each child how many entries are below it.
use Rattle.std.specs.Prelude.{ℕ, ◌+◌, ◌-◌, ◌^◌, min, List, ◌++◌, length, refl}
use Rattle.std.specs.Coded.{Coded, code_by, coded_ℕ, coded_list, coded×}
use Rattle.vo_spec.specs.Bytes.{u64_bytes}
use Rattle.vo_spec.specs.Codes.{coded_part}
use Rattle.vo_spec.specs.Parts.{Part, Parts, stub, leaf, inner, none, more, Family}
use Rattle.btree.specs.Nodes.{Kid}

-- a key and its number
abbrev pub PlainEntry : Type 0
PlainEntry = List ℕ × ℕ

abbrev pub CountedTree : Type 0
CountedTree = Part PlainEntry ℕ

-- a root or a child, with its count
pub record PlainSubtree : Type 0 where
  pub count : ℕ
  pub tree : CountedTree

abbrev pub kid : PlainSubtree → Kid PlainEntry ℕ
kid subtree = (subtree.count, subtree.tree)

-- the counts of the children together, or the most that a count holds
abbrev pub count_in : Parts PlainEntry ℕ → ℕ
count_in none = 0
count_in (more count t ts) = min (count + count_in ts) (2 ^ 64 - 1)

-- how many entries a node has below it; of a stub nothing is known
abbrev pub count_of : CountedTree → ℕ
count_of (stub d) = 0
count_of (leaf es) = length es
count_of (inner ss ts) = count_in ts

abbrev pub counted_family : Family PlainEntry ℕ
counted_family = record {
  leaf_tag = 0;
  inner_tag = 1;
  key = λ e. e.0;
  entry_bytes = λ e. e.0 ++ u64_bytes e.1;
  annotation = count_of;
  annotation_bytes = u64_bytes;
}

abbrev pub coded_subtree : Coded PlainSubtree
coded_subtree =
    code_by (ℕ × CountedTree) (coded× coded_ℕ
    (coded_part (coded× (coded_list coded_ℕ) coded_ℕ) coded_ℕ)) kid
    (λ p. record { count = p.0; tree = p.1 }) (λ _. refl)
