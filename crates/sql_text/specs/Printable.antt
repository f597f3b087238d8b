-- The queries that can be printed: each name in them is a name, and each value a value.
use Rattle.std.specs.Prelude.{List, [], ◌∷◌, IfSome}
use Rattle.std.specs.Option.{option_map_or}
use Rattle.std.specs.List.{AllByRecursion}
use Rattle.vo_spec.specs.declared.queries.Ref.{Ref}
use Rattle.vo_spec.specs.declared.queries.Source.{Source}
use Rattle.vo_spec.specs.declared.queries.Join.{Join}
use Rattle.vo_spec.specs.declared.queries.Items.{Items}
use Rattle.vo_spec.specs.declared.queries.Items.TheVariants as items_of
use Rattle.vo_spec.specs.declared.queries.Operand.{Operand}
use Rattle.vo_spec.specs.declared.queries.Operand.TheVariants as operand_of
use Rattle.vo_spec.specs.Names.{FitsName}
use Rattle.vo_spec.specs.Values.{FitsValue}
use Rattle.vo_spec.specs.Conditions.{of_tests, comparison, null_test, NameTest, Condition, Query}

abbrev pub PrintableRef : Ref → Type 0
PrintableRef r = IfSome r.qualifier FitsName × FitsName r.column

abbrev pub PrintableSource : Source → Type 0
PrintableSource s = FitsName s.table × FitsName s.alias

abbrev pub PrintableItems : Items → Type 0
PrintableItems items_of.All = Unit {0}
PrintableItems (items_of.Refs refs) = AllByRecursion PrintableRef refs

abbrev pub PrintableJoin : Join → Type 0
PrintableJoin j = PrintableSource j.right × PrintableRef j.left_ref × PrintableRef j.right_ref

abbrev pub PrintableOperand : Operand → Type 0
PrintableOperand (operand_of.Ref r) = PrintableRef r
PrintableOperand (operand_of.Literal v) = FitsValue v

abbrev pub PrintableTest : NameTest → Type 0
PrintableTest (comparison left op right) = PrintableRef left × PrintableOperand right
PrintableTest (null_test left is_not) = PrintableRef left

-- the tests of a condition, in the order of its text
abbrev pub tests_of : Condition → List NameTest
tests_of = of_tests (λ t. t ∷ [])

pub record PrintableQuery (q : Query) : Type 0 where
  pub items : PrintableItems q.items
  pub left : PrintableSource q.left
  pub join : IfSome q.join PrintableJoin
  pub tests : AllByRecursion PrintableTest (option_map_or tests_of q.condition [])
