-- Changes of one row of a whole tree.
use Rattle.std.specs.Prelude.{◌≡◌, ℕ, true, false, List, Result, Ok, Err}
use Rattle.vo_spec.specs.declared.values.Row.{Row}
use Rattle.vo_spec.specs.declared.trees.UpdateFault.{UpdateFault}
use Rattle.vo_spec.specs.declared.trees.UpdateFault.TheVariants.{DuplicateKey, NoRow, Missing, Memory}
use Rattle.vo_spec.specs.Tables.{has_row, put_row}
use Rattle.vo_spec.specs.Trees.{RowTree}
use Rattle.vo_spec.specs.Representation.{Represents}

-- Some row before has the key, and the tree stands for the rows after; or no row has it, which is
-- the one fault.
abbrev pub Changes : List ℕ → List Row → List Row → Result RowTree UpdateFault → Type 0
Changes key before after (Ok t) = (has_row key before ≡ true) × Represents t after
Changes key before after (Err NoRow) = has_row key before ≡ false
Changes key before after (Err DuplicateKey) = ⊥
Changes key before after (Err Missing) = ⊥
Changes key before after (Err Memory) = ⊥

-- No row before has the row's key, and the tree stands for the rows with this one among them, in
-- the order of their keys; or one has it, which is the one fault.
abbrev pub Inserts : Row → List Row → Result RowTree UpdateFault → Type 0
Inserts row rows (Ok t) = (has_row row.key rows ≡ false) × Represents t (put_row row rows)
Inserts row rows (Err DuplicateKey) = has_row row.key rows ≡ true
Inserts row rows (Err NoRow) = ⊥
Inserts row rows (Err Missing) = ⊥
Inserts row rows (Err Memory) = ⊥
