-- What a part of a tree must have open for a change to be worked on it, and what it has open beyond
-- that.
use Rattle.std.specs.Prelude.{◌≡◌, ℕ, Bool, true, false, ◌||◌, if◌then◌else◌, List, [], ◌∷◌, drop, slice_get, bytes_eq, Result, Ok, Err}
use Rattle.std.specs.List.{list_any}
use Rattle.vo_spec.specs.declared.cells.Cell.{Cell}
use Rattle.vo_spec.specs.declared.cells.Cell.TheVariants.{Shown, Hidden}
use Rattle.vo_spec.specs.declared.cells.RowPart.{RowPart}
use Rattle.vo_spec.specs.declared.cells.RowPart.TheVariants.{Digest as Closed, Cells}
use Rattle.vo_spec.specs.declared.cells.PartEntry.{PartEntry}
use Rattle.vo_spec.specs.declared.trees.UpdateFault.{UpdateFault}
use Rattle.vo_spec.specs.declared.trees.UpdateFault.TheVariants.{Missing}
use Rattle.vo_spec.specs.Parts.{stub, leaf, inner, none, more}
use Rattle.vo_spec.specs.Trees.{RowTree, RowTrees, row_family, Prunes}
use Rattle.vo_spec.specs.Inserts.{goes_here, stands_as_cells}
use Rattle.vo_spec.specs.Removes.{tree_with_cells, shrink, becomes_underfull}

-- the work looks at a stub, or at what it can't go on with
abbrev pub lacks : {A : Type 0} → Result A UpdateFault → Bool
lacks (Ok x) = false
lacks (Err Missing) = true
lacks (Err fault) = false

abbrev pub is_open : RowTree → Bool
is_open (stub d) = false
is_open (leaf es) = true
is_open (inner ss ps) = true

-- any of these children is open
abbrev pub any_open : RowTrees → Bool
any_open none = false
any_open (more m p ps) = is_open p || any_open ps

abbrev pub shows_cells : PartEntry → Bool
shows_cells e = stands_as_cells e.row

abbrev pub is_shown : Cell → Bool
is_shown (Shown v) = true
is_shown (Hidden d) = false

abbrev pub shows_any : RowPart → Bool
shows_any (Closed d) = false
shows_any (Cells cells) = list_any is_shown cells

-- A replacement.

-- of whatever cells, it looks at a stub or at a row that is a digest
abbrev pub replace_is_missing : List ℕ → RowTree → Bool
replace_is_missing key p = lacks (tree_with_cells key [] p)

-- a row other than the first of this key stands as cells, or that one shows a cell
abbrev pub rows_surplus : List ℕ → List PartEntry → Bool
rows_surplus key [] = false
rows_surplus key (e ∷ es) =
    if bytes_eq e.key key then shows_any e.row || list_any shows_cells es else shows_cells e
    || rows_surplus key es

-- a node is open beside the path to a key's leaf, or a row stands as cells that isn't looked at, or
-- a cell is shown
abbrev mutual
  pub replace_has_surplus : List ℕ → RowTree → Bool
  replace_has_surplus key (stub d) = false
  replace_has_surplus key (leaf es) = rows_surplus key es
  replace_has_surplus key (inner ss ps) = replace_has_surplus_in key ss ps

  pub replace_has_surplus_in : List ℕ → List (List ℕ) → RowTrees → Bool
  replace_has_surplus_in key ss none = false
  replace_has_surplus_in key ss (more m p ps) =
      if goes_here key (slice_get ss 0) then replace_has_surplus key p || any_open ps
      else is_open p || replace_has_surplus_in key (drop 1 ss) ps

-- A removal.

-- it looks at a stub, or at a sibling of the other kind
abbrev pub remove_is_missing : List ℕ → RowTree → Bool
remove_is_missing key p = lacks (shrink row_family key p)

-- a row of a node that is looked at stands as cells, or one of its children is open
abbrev pub opened_sibling_surplus : RowTree → Bool
opened_sibling_surplus (stub d) = false
opened_sibling_surplus (leaf es) = list_any shows_cells es
opened_sibling_surplus (inner ss ps) = any_open ps

-- so it is with a sibling that is looked at, or with one that isn't and is open
abbrev pub sibling_surplus : Bool → RowTree → Bool
sibling_surplus true p = opened_sibling_surplus p
sibling_surplus false p = is_open p

-- the first of these children is a sibling
abbrev pub first_surplus : Bool → RowTrees → Bool
first_surplus looks none = false
first_surplus looks (more m p ps) = sibling_surplus looks p || any_open ps

-- a node is open that isn't looked at, or a row stands as cells
abbrev mutual
  pub remove_has_surplus : List ℕ → RowTree → Bool
  remove_has_surplus key (stub d) = false
  remove_has_surplus key (leaf es) = list_any shows_cells es
  remove_has_surplus key (inner ss ps) = remove_has_surplus_in key ss ps

  pub remove_has_surplus_in : List ℕ → List (List ℕ) → RowTrees → Bool
  remove_has_surplus_in key ss none = false
  remove_has_surplus_in key ss (more m p ps) =
      if goes_here key (slice_get ss 0) then remove_has_surplus key p
      || first_surplus (becomes_underfull key p) ps
      else remove_has_surplus_after key p ss ps

  -- the children after this one, which is the left sibling of the next
  pub remove_has_surplus_after : List ℕ → RowTree → List (List ℕ) → RowTrees → Bool
  remove_has_surplus_after key left ss none = is_open left
  remove_has_surplus_after key left ss (more n p ps) =
      if goes_here key (slice_get ss 1)
      then sibling_surplus (becomes_underfull key p) left
      || (remove_has_surplus key p || any_open ps)
      else is_open left || remove_has_surplus_after key p (drop 1 ss) ps

-- The part is a tree's proof of a change: it prunes the tree, with nothing missing that the change
-- looks at and nothing open beyond that.
pub record IsUpdateProof (is_missing_by has_surplus_by : RowTree → Bool)
    (t p : RowTree) : Type 0 where
  pub prunes : Prunes p t
  pub complete : is_missing_by p ≡ false
  pub minimal : has_surplus_by p ≡ false
