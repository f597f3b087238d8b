-- Trees stand for one list of plain tables.
use Rattle.std.proofs.Common.{◌≡◌, List, [], ◌∷◌, map, refl, sym, ap, ◌∙◌}
use Rattle.vo_spec.specs.declared.tables.Table.{Table}
use Rattle.vo_spec.specs.Representation.{row_in}
use Rattle.vo_spec.specs.Honest.{Stored, RepresentTables, RepresentsTable}
use Rattle.mb_tree.proofs.RowLaws.{rows_in_leaf}

table_once : (s : Stored) (a b : Table) → RepresentsTable s a → RepresentsTable s b → a ≡ b
table_once s a b y z =
    let rows : a.rows ≡ b.rows = sym (rows_in_leaf a.rows) ∙ ap (map row_in) (sym y.stands.rows_are ∙ z.stands.rows_are) ∙ rows_in_leaf b.rows in
    rw (sym y.name ∙ z.name, sym y.schema ∙ z.schema, rows) refl

pub tables_once : (stored : List Stored) (a b : List Table) → RepresentTables stored a → RepresentTables stored b → a ≡ b
tables_once [] [] [] ys zs = refl
tables_once [] [] (b ∷ bs) ys zs = absurd zs
tables_once [] (a ∷ us) bs ys zs = absurd ys
tables_once (s ∷ stored) [] bs ys zs = absurd ys
tables_once (s ∷ stored) (a ∷ us) [] ys zs = absurd zs
tables_once (s ∷ stored) (a ∷ us) (b ∷ bs) ys zs = rw (table_once s a b ys.0 zs.0, tables_once stored us bs ys.1 zs.1) refl
