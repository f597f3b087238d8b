-- How the logic stores tables as their trees.
use Rattle.std.specs.Prelude.{ℕ, List, refl}
use Rattle.std.specs.Coded.{Coded, code_by, coded_ℕ, coded_list, coded×}
use Rattle.vo_spec.specs.declared.tables.Schema.{Schema}
use Rattle.vo_spec.specs.contracts.tables.Schema as schema
use Rattle.vo_spec.specs.Trees.{RowTree}
use Rattle.vo_spec.specs.Honest.{Stored}
use Rattle.mb_tree.specs.Codes.{coded_tree}

abbrev pub coded_stored : Coded Stored
coded_stored =
    code_by (List ℕ × (Schema × RowTree))
    (coded× (coded_list coded_ℕ) (coded× schema.the_row.coded coded_tree))
    (λ s. (s.name, (s.schema, s.tree))) (λ p. record { name = p.0; schema = p.1.0; tree = p.1.1 })
    (λ _. refl)

abbrev pub coded_tables : Coded (List Stored)
coded_tables = coded_list coded_stored
