-- The queries and batches that are read again as they were printed.
use Rattle.std.specs.Prelude.{◌≡◌, ℕ, zero, suc, ◌≤◌, max, Bool, true, false, List, length, Option, Some, None, IfSome}
use Rattle.std.specs.List.{AllByRecursion}
use Rattle.sql_tokens.specs.declared.kinds.TokenKind.{TokenKind}
use Rattle.sql_tokens.specs.declared.kinds.TokenKind.TheVariants as k
use Rattle.sql_tokens.specs.Kinds.{keyword}
use Rattle.sql_tokens.specs.Lex.{max_row_count}
use Rattle.vo_spec.specs.declared.queries.Ref.{Ref}
use Rattle.vo_spec.specs.declared.queries.Source.{Source}
use Rattle.vo_spec.specs.declared.queries.Join.{Join}
use Rattle.vo_spec.specs.declared.queries.Items.{Items}
use Rattle.vo_spec.specs.declared.queries.Items.TheVariants as items_of
use Rattle.vo_spec.specs.declared.queries.Operand.{Operand}
use Rattle.vo_spec.specs.declared.queries.Operand.TheVariants as operand_of
use Rattle.vo_spec.specs.declared.tables.Column.{Column}
use Rattle.vo_spec.specs.declared.tables.SetPart.{SetPart}
use Rattle.vo_spec.specs.declared.tables.Command.{Command}
use Rattle.vo_spec.specs.declared.tables.Command.TheVariants as command_of
use Rattle.vo_spec.specs.Names.{FitsName}
use Rattle.vo_spec.specs.Values.{FitsValue}
use Rattle.vo_spec.specs.Batches.{FitCounted, max_commands}
use Rattle.vo_spec.specs.Conditions.{every, some, negated, test, none, more, comparison, null_test, NameTest, Condition, Conditions, Query}
use Rattle.sql_text.specs.Limits.{max_items, max_nesting, max_sql_bytes}
use Rattle.sql_text.specs.Printing.{is_enclosed, query_text, batch_text}

-- a name that is no reserved word
abbrev pub FreeName : List ℕ → Type 0
FreeName name = FitsName name × (keyword name ≡ None)

-- Queries.

abbrev pub SpellableRef : Ref → Type 0
SpellableRef r = IfSome r.qualifier FreeName × FreeName r.column

abbrev pub SpellableSource : Source → Type 0
SpellableSource s = FreeName s.table × FreeName s.alias

abbrev pub SpellableOperand : Operand → Type 0
SpellableOperand (operand_of.Ref r) = SpellableRef r
SpellableOperand (operand_of.Literal v) = FitsValue v

abbrev pub SpellableTest : NameTest → Type 0
SpellableTest (comparison left op right) = SpellableRef left × SpellableOperand right
SpellableTest (null_test left is_not) = SpellableRef left

abbrev pub HasTwo : Conditions → Type 0
HasTwo none = ⊥
HasTwo (more c none) = ⊥
HasTwo (more c (more d cs)) = Unit {0}

-- two parts or more in each AND and OR
abbrev mutual
  pub SpellableCondition : Condition → Type 0
  SpellableCondition (every cs) = HasTwo cs × SpellableParts cs
  SpellableCondition (some cs) = HasTwo cs × SpellableParts cs
  SpellableCondition (negated c) = SpellableCondition c
  SpellableCondition (test t) = SpellableTest t

  pub SpellableParts : Conditions → Type 0
  SpellableParts none = Unit {0}
  SpellableParts (more c cs) = SpellableCondition c × SpellableParts cs

abbrev pub deeper : Bool → ℕ → ℕ
deeper true levels = suc levels
deeper false levels = levels

-- how many levels the printed condition has: each NOT is one, and each pair of parentheses
abbrev mutual
  pub levels_of : Condition → ℕ
  levels_of (every cs) = levels_in k.And cs
  levels_of (some cs) = levels_in k.Or cs
  levels_of (negated c) = suc (deeper (is_enclosed k.Not c) (levels_of c))
  levels_of (test t) = zero

  pub levels_in : TokenKind → Conditions → ℕ
  levels_in in_word none = zero
  levels_in in_word (more c cs) =
      max (deeper (is_enclosed in_word c) (levels_of c)) (levels_in in_word cs)

-- references, not too many
abbrev pub SpellableItems : Items → Type 0
SpellableItems items_of.All = Unit {0}
SpellableItems (items_of.Refs refs) = (1 ≤ length refs) × (length refs ≤ max_items)
    × AllByRecursion SpellableRef refs

abbrev pub SpellableJoin : Join → Type 0
SpellableJoin j = SpellableSource j.right × SpellableRef j.left_ref × SpellableRef j.right_ref

-- at least one row, and not beside a join
abbrev pub SpellableLimit : {J : Type 0} → Option J → Option ℕ → Type 0
SpellableLimit join None = Unit {0}
SpellableLimit None (Some rows) = (1 ≤ rows) × (rows ≤ max_row_count)
SpellableLimit (Some j) (Some rows) = ⊥

pub record SpellableQuery (q : Query) : Type 0 where
  pub items : SpellableItems q.items
  pub left : SpellableSource q.left
  pub join : IfSome q.join SpellableJoin
  pub condition : IfSome q.condition (λ c. SpellableCondition c × (levels_of c ≤ max_nesting))
  pub limit : SpellableLimit q.join q.limit
  pub size : length (query_text q) ≤ max_sql_bytes

-- Commands.

abbrev pub SpellableColumn : Column → Type 0
SpellableColumn c = FreeName c.name

abbrev pub SpellableSet : SetPart → Type 0
SpellableSet s = FreeName s.column × FitsValue s.value

abbrev pub SpellableCommand : Command → Type 0
SpellableCommand (command_of.Create name columns key) = FreeName name
    × FitCounted SpellableColumn columns × FreeName key
SpellableCommand (command_of.Drop name) = FreeName name
SpellableCommand (command_of.Insert name values) = FreeName name × FitCounted FitsValue values
SpellableCommand (command_of.Update name sets column value) = FreeName name
    × FitCounted SpellableSet sets × FreeName column × FitsValue value
SpellableCommand (command_of.Delete name column value) = FreeName name × FreeName column
    × FitsValue value

pub record SpellableBatch (commands : List Command) : Type 0 where
  pub filled : 1 ≤ length commands
  pub count : length commands ≤ max_commands
  pub each : AllByRecursion SpellableCommand commands
  pub size : length (batch_text commands) ≤ max_sql_bytes
