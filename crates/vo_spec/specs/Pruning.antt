-- The proof for some needs: what of a tree must be open, what must not, and the one part of it that
-- is so.
use Rattle.std.specs.Prelude.{◌≡◌, ℕ, ◌+◌, Bool, true, false, not, ◌||◌, ◌==◌, if◌then◌else◌, List, [], ◌∷◌, filter, flat_map, map, slice_get, drop, Option, None, is_none}
use Rattle.std.specs.List.{list_any}
use Rattle.vo_spec.specs.declared.needs.Need.{Need}
use Rattle.vo_spec.specs.declared.cells.Cell.{Cell}
use Rattle.vo_spec.specs.declared.cells.Cell.TheVariants.{Shown, Hidden}
use Rattle.vo_spec.specs.declared.cells.RowPart.{RowPart}
use Rattle.vo_spec.specs.declared.cells.RowPart.TheVariants.{Digest as Closed, Cells}
use Rattle.vo_spec.specs.declared.cells.PartEntry.{PartEntry}
use Rattle.vo_spec.specs.Cells.{cell_digest, row_digest, value_in}
use Rattle.vo_spec.specs.Parts.{Part, Parts, stub, leaf, inner, none, more, Family, digest_by}
use Rattle.vo_spec.specs.Trees.{RowTree, row_family}
use Rattle.vo_spec.specs.Scans.{in_interval, is_empty_interval, visits}

-- A walk through a tree, by a state with which it comes to each node: whether the node is to be
-- open, the states with which it goes on to the child between two separators and to the children
-- after that one, whether an entry of an open leaf hides what is to be shown or shows what isn't,
-- and the entry as it is to be.
pub record Walk (E S : Type 0) : Type 0 where
  pub opens : S → Bool
  pub onward : S → Option (List ℕ) → Option (List ℕ) → S
  pub past : S → Option (List ℕ) → Option (List ℕ) → S
  pub lacks : E → Bool
  pub exceeds : E → Bool
  pub shown : E → E

module _ {E M S : Type 0} (walk : Walk E S) where
  -- a node that is to be open is a stub, or an entry of any open leaf hides what is to be shown
  abbrev mutual
    pub is_missing_by : S → Part E M → Bool
    is_missing_by s (stub d) = walk.opens s
    is_missing_by s (leaf es) = list_any walk.lacks es
    is_missing_by s (inner ss ps) = is_missing_in s None ss ps

    pub is_missing_in : S → Option (List ℕ) → List (List ℕ) → Parts E M → Bool
    is_missing_in s lower ss none = false
    is_missing_in s lower ss (more m p ps) =
        is_missing_by (walk.onward s lower (slice_get ss 0)) p
        || is_missing_in (walk.past s lower (slice_get ss 0)) (slice_get ss 0) (drop 1 ss) ps

  -- a node is open that isn't to be, or an entry shows what isn't to be shown
  abbrev mutual
    pub has_surplus_by : S → Part E M → Bool
    has_surplus_by s (stub d) = false
    has_surplus_by s (leaf es) = not (walk.opens s) || list_any walk.exceeds es
    has_surplus_by s (inner ss ps) = not (walk.opens s) || has_surplus_in s None ss ps

    pub has_surplus_in : S → Option (List ℕ) → List (List ℕ) → Parts E M → Bool
    has_surplus_in s lower ss none = false
    has_surplus_in s lower ss (more m p ps) =
        has_surplus_by (walk.onward s lower (slice_get ss 0)) p
        || has_surplus_in (walk.past s lower (slice_get ss 0)) (slice_get ss 0) (drop 1 ss) ps

  -- the tree with open exactly what is to be
  module _ (family : Family E M) where
    abbrev mutual
      pub pruned_by : S → Part E M → Part E M
      pruned_by s (stub d) = stub d
      pruned_by s (leaf es) = if walk.opens s then leaf (map walk.shown es)
          else stub (digest_by family (leaf es))
      pruned_by s (inner ss ps) =
          if walk.opens s then inner ss (pruned_in s None ss ps)
          else stub (digest_by family (inner ss ps))

      pub pruned_in : S → Option (List ℕ) → List (List ℕ) → Parts E M → Parts E M
      pruned_in s lower ss none = none
      pruned_in s lower ss (more m p ps) =
          more m (pruned_by (walk.onward s lower (slice_get ss 0)) p)
          (pruned_in (walk.past s lower (slice_get ss 0)) (slice_get ss 0) (drop 1 ss) ps)

-- The walk for a list of needs. Its state is the needs whose scans visit the node; what an entry
-- shows goes by all needs and by the entry's key alone.

abbrev pub at_root : List Need → List Need
at_root = filter (λ need. not (is_empty_interval need.interval))

abbrev pub descend : List Need → Option (List ℕ) → Option (List ℕ) → List Need
descend needs lower upper = filter (λ need. visits need.interval lower upper) needs

abbrev pub is_any : {A : Type 0} → List A → Bool
is_any [] = false
is_any (x ∷ xs) = true

-- the columns that some need names whose interval has this key
abbrev pub needed_columns : List Need → List ℕ → List ℕ
needed_columns needs key = flat_map (λ need. need.columns)
    (filter (λ need. in_interval need.interval key) needs)

abbrev pub has_column : List ℕ → ℕ → Bool
has_column columns column = list_any (λ c. c == column) columns

-- the row hides one of these columns
abbrev pub hides_any : List ℕ → RowPart → Bool
hides_any columns row = list_any (λ c. is_none (value_in row c)) columns

-- a cell is shown that is none of these columns, the first cell being that of this column
abbrev pub shows_surplus : List ℕ → ℕ → List Cell → Bool
shows_surplus columns column [] = false
shows_surplus columns column (Hidden d ∷ cells) = shows_surplus columns (column + 1) cells
shows_surplus columns column (Shown v ∷ cells) =
    not (has_column columns column) || shows_surplus columns (column + 1) cells

-- and a row stands as cells only where some column is to be shown
abbrev pub row_has_surplus : List ℕ → RowPart → Bool
row_has_surplus columns (Closed d) = false
row_has_surplus columns (Cells cells) = not (is_any columns) || shows_surplus columns 0 cells

-- the cells with these columns alone shown, so far as they are
abbrev pub shown_cell : List ℕ → ℕ → Cell → Cell
shown_cell columns column (Hidden d) = Hidden d
shown_cell columns column (Shown v) =
    if has_column columns column then Shown v else Hidden (cell_digest column (Shown v))

abbrev pub shown_cells : List ℕ → ℕ → List Cell → List Cell
shown_cells columns column [] = []
shown_cells columns column (cell ∷ cells) =
    shown_cell columns column cell ∷ shown_cells columns (column + 1) cells

abbrev pub shown_row : List ℕ → RowPart → RowPart
shown_row columns (Closed d) = Closed d
shown_row columns (Cells cells) =
    if is_any columns then Cells (shown_cells columns 0 cells)
    else Closed (row_digest (Cells cells))

abbrev pub shown_entry : List Need → PartEntry → PartEntry
shown_entry needs e = record { key = e.key; row = shown_row (needed_columns needs e.key) e.row }

abbrev pub walk_for : List Need → Walk PartEntry (List Need)
walk_for needs = record {
  opens = is_any;
  onward = descend;
  past = λ going lower upper. going;
  lacks = λ e. hides_any (needed_columns needs e.key) e.row;
  exceeds = λ e. row_has_surplus (needed_columns needs e.key) e.row;
  shown = shown_entry needs;
}

abbrev pub is_missing : List Need → RowTree → Bool
is_missing needs p = is_missing_by (walk_for needs) (at_root needs) p

abbrev pub has_surplus : List Need → RowTree → Bool
has_surplus needs p = has_surplus_by (walk_for needs) (at_root needs) p

-- the part tree is the proof for these needs, as far as it alone can tell
pub record IsCanonical (needs : List Need) (p : RowTree) : Type 0 where
  pub complete : is_missing needs p ≡ false
  pub minimal : has_surplus needs p ≡ false

-- the proof for these needs that a tree has
abbrev pub prune_tree : List Need → RowTree → RowTree
prune_tree needs t = pruned_by (walk_for needs) row_family (at_root needs) t
