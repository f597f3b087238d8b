-- Stored tables as contracts see them.
use Rattle.std.specs.Prelude.{List, [], ◌∷◌, map, Option, Some, None}
use Rattle.std.specs.Borrow.{Bor}
use Rattle.std.specs.declared.rc.Rc.{Rc}
use Rattle.std.specs.declared.alloc.Global.{Global}
use Rattle.vo_spec.specs.Trees.{RowTree}
use Rattle.vo_spec.specs.Honest.{Stored}
use Rattle.mb_tree.specs.declared.parts.PartTree.{PartTree}
use Rattle.mb_tree.specs.View.{part_of}
use Rattle.stored_tables.specs.declared.table.StoredTable.{StoredTable}

abbrev pub stored_of : StoredTable → Stored
stored_of s = record { name = s.name.value; schema = s.schema.value; tree = s.tree }

abbrev pub lent_stored : Bor StoredTable → Stored
lent_stored s = stored_of s.now

abbrev pub stored_in : List (Rc StoredTable Global) → List Stored
stored_in tables = map (λ s. stored_of s.value) tables

-- a proof as the list of it, or none
abbrev pub proof_list : Option PartTree → List RowTree
proof_list None = []
proof_list (Some proof) = part_of proof ∷ []
