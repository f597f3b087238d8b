-- The separators and children of an inner node after one or two of its children have changed.
use Rattle.std.specs.Prelude.{◌≡◌, ℕ, zero, suc, ◌+◌, ◌-◌, ◌<◌, ◌≤◌, nat_lt, if◌then◌else◌, List, [], ◌∷◌, ◌++◌, length, take, drop, slice_index_or, Result, Ok, Err}
use Rattle.vo_spec.specs.declared.trees.UpdateFault.{UpdateFault}
use Rattle.vo_spec.specs.declared.trees.UpdateFault.TheVariants.{Missing}
use Rattle.vo_spec.specs.Parts.{Part, stub, leaf, inner, Family, count}
use Rattle.vo_spec.specs.Inserts.{min_fill, result_map, Insertion, one, two, Children, first_key, take_parts, drop_parts, split_leaf, split_inner}
use Rattle.vo_spec.specs.Removes.{joined_parts, is_underfull, with_left, with_right}
use Rattle.vo_spec.specs.Fits.{max_fill}
use Rattle.btree.specs.Nodes.{Kid, parts_from, new_kid, kids_of, keys_of}
use Rattle.btree.specs.Shapes.{size_of, IsLinked}
use Rattle.btree.specs.declared.split.Division.{Division}

-- the node that has these
abbrev pub node_of : {E M : Type 0} → Children E M → Part E M
node_of c = inner c.separators c.parts

module _ {E M : Type 0} (family : Family E M) where
  -- with this in the place of the children with the numbers from i to j, and of the separators
  -- between them
  abbrev pub splice : ℕ → ℕ → List (List ℕ) → List (Kid E M) → Insertion E M → Children E M
  splice i j ss ks insertion = record {
    separators = take i ss ++ keys_of insertion ++ drop j ss;
    parts = parts_from (take i ks ++ kids_of family insertion ++ drop (j + 1) ks);
  }

  -- the node as two, the first with so many of its entries or children
  abbrev pub divide_at : ℕ → Part E M → Insertion E M
  divide_at i (stub d) = one (stub d)
  divide_at i (leaf es) = two (leaf (take i es)) (first_key family (drop i es)) (leaf (drop i es))
  divide_at i (inner ss ps) = two (inner (take (i - 1) ss) (take_parts i ps))
      (slice_index_or ss (i - 1) []) (inner (drop i ss) (drop_parts i ps))

  -- a node of too many as two
  abbrev pub split : Part E M → Insertion E M
  split (stub d) = one (stub d)
  split (leaf es) = split_leaf family es
  split (inner ss ps) = split_inner family (record { separators = ss; parts = ps })

  -- two that were merged stay one, but where the sibling has more than it needs
  abbrev pub divide_merged : ℕ → ℕ → Part E M → Insertion E M
  divide_merged sibling i t = if nat_lt min_fill sibling then divide_at i t else one t

  -- an underfull node in the place of the child of this number, and its sibling
  abbrev pub rebalance_with_sibling : ℕ → List (List ℕ) → List (Kid E M) → Part E M
      → Result (Children E M) UpdateFault
  rebalance_with_sibling zero ss ks t =
      result_map (splice 0 1 ss ks) (with_right family t (slice_index_or ss 0 [])
      (slice_index_or ks 1 (new_kid family t)).1)
  rebalance_with_sibling (suc i) ss ks t =
      result_map (splice i (i + 1) ss ks)
      (with_left family (slice_index_or ks i (new_kid family t)).1 (slice_index_or ss i []) t)

  -- a node that may be underfull in the place of the child of this number
  abbrev pub rebalance_at : ℕ → List (List ℕ) → List (Kid E M) → Part E M
      → Result (Children E M) UpdateFault
  rebalance_at i ss ks t = if is_underfull t then rebalance_with_sibling i ss ks t
      else Ok (splice i i ss ks (one t))

module _ {E M : Type 0} where
  -- a node that can be looked into
  abbrev pub open_node : Part E M → Result (Part E M) UpdateFault
  open_node (stub d) = Err Missing
  open_node t = Ok t

  -- two nodes of one kind as one, with the separator between them
  abbrev pub merge_nodes : Part E M → List ℕ → Part E M → Result (Part E M) UpdateFault
  merge_nodes (leaf es) s (leaf fs) = Ok (leaf (es ++ fs))
  merge_nodes (inner ss ps) s (inner ts qs) = Ok (inner (ss ++ s ∷ ts) (joined_parts ps qs))
  merge_nodes _ s _ = Err Missing

  -- both of the two have enough to be nodes
  abbrev pub CanDivide : ℕ → Part E M → Type 0
  CanDivide i (stub d) = ⊥
  CanDivide i (leaf es) = i < length es
  CanDivide i (inner ss ps) = (2 ≤ i) × (i + 2 ≤ count ps)

-- what is asked of two that were merged, whose sibling had so many, and which are divided at this
-- place where it had more than it needs
pub record EvenLimits {E M : Type 0} (sibling at : ℕ) (all : Part E M) : Type 0 where
  pub linked : IsLinked 2 all
  pub whole : sibling ≤ min_fill → size_of all ≤ max_fill
  pub two : min_fill < sibling → CanDivide at all
  pub first : at ≤ max_fill
  pub last : size_of all ≤ at + max_fill

-- those of these separators and children, cut after so many; the last of the first separators goes
-- between
pub record AreDivided {K N : Type 0} (at : ℕ) (division : Division K N) (ss : List K)
    (ns : List N) : Type 0 where
  pub first_keys : take at ss ≡ division.before.items ++ division.separator ∷ []
  pub first : division.left.items ≡ take at ns
  pub last_keys : division.after.items ≡ drop at ss
  pub last : division.right.items ≡ drop at ns
