-- Insertion into a tree, whole or in part.
use Rattle.std.specs.Prelude.{ℕ, zero, suc, ◌-◌, Bool, true, false, not, ◌&&◌, nat_le, if◌then◌else◌, List, [], ◌∷◌, ◌++◌, length, take, drop, slice_get, slice_index_or, Option, Some, None, Result, Ok, Err, bytes_eq}
use Rattle.std.specs.List.{list_any}
use Rattle.vo_spec.specs.declared.cells.RowPart.{RowPart}
use Rattle.vo_spec.specs.declared.cells.RowPart.TheVariants.{Digest as Closed, Cells}
use Rattle.vo_spec.specs.declared.cells.PartEntry.{PartEntry}
use Rattle.vo_spec.specs.declared.trees.UpdateFault.{UpdateFault}
use Rattle.vo_spec.specs.declared.trees.UpdateFault.TheVariants.{DuplicateKey, Missing}
use Rattle.vo_spec.specs.Values.{key_lt}
use Rattle.vo_spec.specs.Cells.{row_digest}
use Rattle.vo_spec.specs.Parts.{Part, Parts, stub, leaf, inner, none, more, Family, count}
use Rattle.vo_spec.specs.Trees.{RowTree, row_family}
use Rattle.vo_spec.specs.Fits.{max_fill}
use Rattle.vo_spec.specs.Pruning.{Walk, is_missing_by, has_surplus_by, pruned_by}

-- how many entries or children a node has at least, and of 17 the left one of two gets
abbrev pub min_fill : ℕ
min_fill = 8

-- what the value is made into, or the fault
abbrev pub result_map : {A B F : Type 0} → (A → B) → Result A F → Result B F
result_map f (Ok value) = Ok (f value)
result_map f (Err fault) = Err fault

-- A search goes to the first child whose upper separator is above the key, or else to the last.
abbrev pub goes_here : List ℕ → Option (List ℕ) → Bool
goes_here key None = true
goes_here key (Some upper) = key_lt key upper

-- What comes in a node's place: a node, or two with the separator between them.
pub data Insertion (E M : Type 0) : Type 0 where
  one : Part E M → Insertion E M
  two : Part E M → List ℕ → Part E M → Insertion E M

-- the separators and children of an inner node
pub record Children (E M : Type 0) : Type 0 where
  pub separators : List (List ℕ)
  pub parts : Parts E M

module _ {E M : Type 0} where
  abbrev pub take_parts : ℕ → Parts E M → Parts E M
  take_parts n none = none
  take_parts zero (more m p ps) = none
  take_parts (suc n) (more m p ps) = more m p (take_parts n ps)

  abbrev pub drop_parts : ℕ → Parts E M → Parts E M
  drop_parts n none = none
  drop_parts zero (more m p ps) = more m p ps
  drop_parts (suc n) (more m p ps) = drop_parts n ps

  -- children before which stands one more, which has the first of these separators above it
  abbrev pub after_child : M → Part E M → List (List ℕ) → Children E M → Children E M
  after_child m p ss rest = record {
    separators = take 1 ss ++ rest.separators;
    parts = more m p rest.parts;
  }

module _ {E M : Type 0} (family : Family E M) where
  abbrev pub has_key : List ℕ → List E → Bool
  has_key key = list_any (λ e. bytes_eq (family.key e) key)

  -- with the entry before the first of a greater key
  abbrev pub put_entry : E → List E → List E
  put_entry e [] = e ∷ []
  put_entry e (f ∷ fs) = if key_lt (family.key e) (family.key f) then e ∷ f ∷ fs
      else f ∷ put_entry e fs

  abbrev pub first_key : List E → List ℕ
  first_key [] = []
  first_key (e ∷ es) = family.key e

  -- A node of 17 is split into 8 and 9. Between leaves stands the right one's first key; between
  -- inner nodes, the separator that stood between these children.
  abbrev pub split_leaf : List E → Insertion E M
  split_leaf es =
      if nat_le (length es) max_fill then one (leaf es)
      else two (leaf (take min_fill es)) (first_key (drop min_fill es)) (leaf (drop min_fill es))

  abbrev pub split_inner : Children E M → Insertion E M
  split_inner c =
      if nat_le (count c.parts) max_fill then one (inner c.separators c.parts)
      else two (inner (take (min_fill - 1) c.separators) (take_parts min_fill c.parts))
      (slice_index_or c.separators (min_fill - 1) [])
      (inner (drop min_fill c.separators) (drop_parts min_fill c.parts))

  abbrev pub put_insertion : List (List ℕ) → Parts E M → Insertion E M → Children E M
  put_insertion ss ps (one p) = record { separators = ss; parts = more (family.annotation p) p ps }
  put_insertion ss ps (two left key right) =
      record {
        separators = key ∷ ss;
        parts = more (family.annotation left) left (more (family.annotation right) right ps);
      }

  -- into a node, and into the child to which the search goes
  abbrev mutual
    pub grow : E → Part E M → Result (Insertion E M) UpdateFault
    grow e (stub d) = Err Missing
    grow e (leaf es) = if has_key (family.key e) es then Err DuplicateKey
        else Ok (split_leaf (put_entry e es))
    grow e (inner ss ps) = result_map split_inner (grow_in e ss ps)

    pub grow_in : E → List (List ℕ) → Parts E M → Result (Children E M) UpdateFault
    grow_in e ss none = Err Missing
    grow_in e ss (more m p ps) =
        if goes_here (family.key e) (slice_get ss 0)
        then result_map (put_insertion ss ps) (grow e p)
        else result_map (after_child m p ss) (grow_in e (drop 1 ss) ps)

  -- a root that is split gets a new root of two children
  abbrev pub root_of : Insertion E M → Part E M
  root_of (one p) = p
  root_of (two left key right) =
      inner (key ∷ []) (more (family.annotation left) left
      (more (family.annotation right) right none))

  abbrev pub inserted_by : E → Part E M → Result (Part E M) UpdateFault
  inserted_by e t = result_map root_of (grow e t)

-- The tree with the entry, or why it isn't inserted: its key is there, or the work looks at a stub.
abbrev pub tree_with_entry : PartEntry → RowTree → Result RowTree UpdateFault
tree_with_entry = inserted_by row_family

-- The proof of an insertion: the path to the key's leaf alone is open, and its rows are digests.

abbrev pub closed_entry : PartEntry → PartEntry
closed_entry e = record { key = e.key; row = Closed (row_digest e.row) }

abbrev pub stands_as_cells : RowPart → Bool
stands_as_cells (Closed d) = false
stands_as_cells (Cells cells) = true

-- the state is whether the node is on the path
abbrev pub walk_to : List ℕ → Walk PartEntry Bool
walk_to key = record {
  opens = λ here. here;
  onward = λ here lower upper. here && goes_here key upper;
  past = λ here lower upper. here && not (goes_here key upper);
  lacks = λ e. false;
  exceeds = λ e. stands_as_cells e.row;
  shown = closed_entry;
}

abbrev pub insert_is_missing : List ℕ → RowTree → Bool
insert_is_missing key p = is_missing_by (walk_to key) true p

abbrev pub insert_has_surplus : List ℕ → RowTree → Bool
insert_has_surplus key p = has_surplus_by (walk_to key) true p

abbrev pub insert_proof : List ℕ → RowTree → RowTree
insert_proof key t = pruned_by (walk_to key) row_family true t
