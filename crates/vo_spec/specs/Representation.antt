-- Whole trees: their shape, and the rows that one stands for.
use Rattle.std.specs.Prelude.{◌≡◌, ℕ, ◌-◌, ◌<◌, ◌≤◌, Bool, true, not, ◌&&◌, IsTrue, List, [], ◌∷◌, map, length, Option, Some, None}
use Rattle.std.specs.List.{AllByRecursion}
use Rattle.vo_spec.specs.declared.values.Value.{Value}
use Rattle.vo_spec.specs.declared.values.Row.{Row}
use Rattle.vo_spec.specs.declared.cells.Cell.{Cell}
use Rattle.vo_spec.specs.declared.cells.Cell.TheVariants.{Shown, Hidden}
use Rattle.vo_spec.specs.declared.cells.RowPart.{RowPart}
use Rattle.vo_spec.specs.declared.cells.RowPart.TheVariants.{Digest as Closed, Cells}
use Rattle.vo_spec.specs.declared.cells.PartEntry.{PartEntry}
use Rattle.vo_spec.specs.Values.{key_lt}
use Rattle.vo_spec.specs.Cells.{whole_entry}
use Rattle.vo_spec.specs.Parts.{Part, Parts, stub, leaf, inner, none, more, Family, count, entries}
use Rattle.vo_spec.specs.Trees.{RowTree, row_family}
use Rattle.vo_spec.specs.Fits.{max_fill}
use Rattle.vo_spec.specs.Inserts.{min_fill}

abbrev pub is_from : Option (List ℕ) → List ℕ → Bool
is_from None key = true
is_from (Some lower) key = not (key_lt key lower)

abbrev pub is_before : Option (List ℕ) → List ℕ → Bool
is_before None key = true
is_before (Some upper) key = key_lt key upper

abbrev pub is_up_to : Option (List ℕ) → List ℕ → Bool
is_up_to None key = true
is_up_to (Some upper) key = not (key_lt upper key)

-- at or above the lower separator, and below the upper one
abbrev pub is_between : Option (List ℕ) → Option (List ℕ) → List ℕ → Bool
is_between lower upper key = is_from lower key && is_before upper key

-- at or above the lower bound, and not above the upper one
abbrev pub is_within : Option (List ℕ) → Option (List ℕ) → List ℕ → Bool
is_within lower upper key = is_from lower key && is_up_to upper key

-- each key is below all that come after it
abbrev pub AreRising : List (List ℕ) → Type 0
AreRising [] = Unit {0}
AreRising (key ∷ keys) = AllByRecursion (λ k. IsTrue (key_lt key k)) keys × AreRising keys

module _ {E M : Type 0} (family : Family E M) where
  -- A node of no stub, with at least so many entries or children, with its leaves so many levels
  -- below it, and with its keys between these separators. A parent holds of each child the
  -- annotation of that child.
  abbrev mutual
    pub IsNode : ℕ → ℕ → Option (List ℕ) → Option (List ℕ) → Part E M → Type 0
    IsNode fewest height lower upper (stub d) = ⊥
    IsNode fewest height lower upper (leaf es) =
        (height ≡ 0) × (fewest ≤ length es) × (length es ≤ max_fill)
        × AllByRecursion (λ e. IsTrue (is_between lower upper (family.key e))) es
    IsNode fewest height lower upper (inner ss ps) =
        (0 < height) × (fewest ≤ count ps) × (count ps ≤ max_fill)
        × AreNodes (height - 1) lower upper ss ps

    -- and its children, with the separators between them, one fewer, within the same bounds
    pub AreNodes : ℕ → Option (List ℕ) → Option (List ℕ) → List (List ℕ) → Parts E M → Type 0
    AreNodes height lower upper ss none = ⊥
    AreNodes height lower upper [] (more m p none) = (m ≡ family.annotation p)
        × IsNode min_fill height lower upper p
    AreNodes height lower upper [] (more m p (more n q ps)) = ⊥
    AreNodes height lower upper (s ∷ ss) (more m p ps) =
        (m ≡ family.annotation p) × IsTrue (is_within lower upper s)
        × IsNode min_fill height lower (Some s) p × AreNodes height (Some s) upper ss ps

  -- a root that is a leaf may have any number of entries, and an inner one two children
  abbrev pub fewest_in_root : Part E M → ℕ
  fewest_in_root (stub d) = 0
  fewest_in_root (leaf es) = 0
  fewest_in_root (inner ss ps) = 2

  -- a whole tree: of the shape of Merkle B-trees, its keys rising from left to right
  pub record IsTree (t : Part E M) : Type 0 where
    pub height : ℕ
    pub shape : IsNode (fewest_in_root t) height None None t
    pub rising : AreRising (map family.key (entries t))

-- The tree is whole, and its entries are the rows, from left to right, with every cell shown.
pub record Represents (t : RowTree) (rows : List Row) : Type 0 where
  pub tree : IsTree row_family t
  pub rows_are : entries t ≡ map whole_entry rows

-- The rows that a tree shows: the values that an entry's row has.

abbrev pub shown_values : List Cell → List Value
shown_values [] = []
shown_values (Shown v ∷ cells) = v ∷ shown_values cells
shown_values (Hidden d ∷ cells) = shown_values cells

abbrev pub values_of_row : RowPart → List Value
values_of_row (Closed d) = []
values_of_row (Cells cells) = shown_values cells

abbrev pub row_in : PartEntry → Row
row_in e = record { key = e.key; cells = values_of_row e.row }

abbrev pub rows_in : RowTree → List Row
rows_in t = map row_in (entries t)

-- every cell is shown
abbrev pub IsShown : RowTree → Type 0
IsShown t = entries t ≡ map whole_entry (rows_in t)
