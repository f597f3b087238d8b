-- The work of a command does to the tree what the command means.
use Rattle.std.proofs.Common.{◌≡◌, List, [], ◌∷◌, Some, None, Ok, map, refl, sym, ap, ◌∙◌}
use Rattle.vo_spec.specs.declared.tables.Command.{Command}
use Rattle.vo_spec.specs.declared.tables.Command.TheVariants.{Create, Drop, Insert, Update, Delete}
use Rattle.vo_spec.specs.Values.{key_of}
use Rattle.vo_spec.specs.Tables.{CellChange, cell_changes, row_of}
use Rattle.vo_spec.specs.Removes.{tree_with_cells}
use Rattle.vo_spec.specs.Honest.{Stored, tree_after}
use Rattle.mb_update.specs.declared.ops.Op.{Op}
use Rattle.mb_update.specs.declared.ops.Op.TheVariants.{Insert as PutRow, Replace, Remove}
use Rattle.mb_update.specs.Sets.{change_of}
use Rattle.row_works.specs.Operations.{set_cell, operation, changed_tree}

same_changes : (changes : List CellChange) → map change_of (map set_cell changes) ≡ changes
same_changes [] = refl
same_changes (c ∷ changes) = ap (λ cs. c ∷ cs) (same_changes changes)

pub same_tree : (c : Command) (s : Stored) (op : Op) → operation s.schema c ≡ Some op → tree_after c s ≡ changed_tree op s.tree
same_tree (Create name columns key) s op e = absurd (cc)
same_tree (Drop name) s op e = absurd (cc)
same_tree (Insert name values) s op e =
    let same : PutRow (row_of s.schema values) ≡ op = cc in
    ap (λ (o : Op). changed_tree o s.tree) same
same_tree (Update name sets column value) s op e =
    let same : Replace (key_of value) (map set_cell (cell_changes s.schema sets)) ≡ op = cc in
    ap (λ changes. tree_with_cells (key_of value) changes s.tree) (sym (same_changes (cell_changes s.schema sets)))
    ∙ ap (λ (o : Op). changed_tree o s.tree) same
same_tree (Delete name column value) s op e =
    let same : Remove (key_of value) ≡ op = cc in
    ap (λ (o : Op). changed_tree o s.tree) same

pub no_tree : (c : Command) (s : Stored) → operation s.schema c ≡ None → tree_after c s ≡ Ok s.tree
no_tree (Create name columns key) s e = refl
no_tree (Drop name) s e = refl
no_tree (Insert name values) s e = absurd (cc)
no_tree (Update name sets column value) s e = absurd (cc)
no_tree (Delete name column value) s e = absurd (cc)
