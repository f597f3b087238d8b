-- When the answer of a change to a tree is the one due.
use Rattle.std.specs.Prelude.{◌≡◌, ℕ, List, Result, Ok, Err}
use Rattle.vo_spec.specs.declared.cells.PartEntry.{PartEntry}
use Rattle.vo_spec.specs.declared.trees.UpdateFault.{UpdateFault}
use Rattle.vo_spec.specs.declared.trees.UpdateFault.TheVariants.{DuplicateKey, NoRow, Missing, Memory}
use Rattle.vo_spec.specs.Trees.{RowTree, row_family, Prunes}
use Rattle.vo_spec.specs.Fits.{FitsPart}
use Rattle.vo_spec.specs.Removes.{edited_by}
use Rattle.vo_spec.specs.Representation.{IsTree}
use Rattle.btree.specs.Agreement.{AgreesWithTree}

-- the change as it is seen, or the fault; a want of memory may come in any case
abbrev pub ChangesTo : {A B : Type 0} → (A → B) → Result A UpdateFault
    → Result B UpdateFault → Type 0
ChangesTo seen (Ok change) right = right ≡ Ok (seen change)
ChangesTo seen (Err DuplicateKey) right = right ≡ Err DuplicateKey
ChangesTo seen (Err NoRow) right = right ≡ Err NoRow
ChangesTo seen (Err Missing) right = right ≡ Err Missing
ChangesTo seen (Err Memory) right = Unit {0}

-- what the part becomes prunes what the tree becomes
abbrev pub GoesOnPruning : Result RowTree UpdateFault → Result RowTree UpdateFault → Type 0
GoesOnPruning = AgreesWithTree Prunes

-- the tree with this in the place of the entry of the key
abbrev pub set_entry : List ℕ → PartEntry → RowTree → Result RowTree UpdateFault
set_entry key entry = edited_by row_family (λ _. Ok entry) key

-- what comes of that is of the shape of Merkle B-trees, and within the limits
abbrev pub GivesTree : List ℕ → PartEntry → RowTree → Type 0
GivesTree key entry t =
    (u : RowTree) → set_entry key entry t ≡ Ok u → IsTree row_family u × FitsPart u
