-- Worked examples of the definitions: bytes of values and keys, refusals of commands, results of
-- queries.
use Rattle.std.specs.Prelude.{◌≡◌, refl, ℕ, pos, negsuc, true, false, List, [], ◌∷◌, Option, Some, None, Ok, Err, codes}
use Rattle.vo_spec.specs.declared.values.Kind.TheVariants as kind
use Rattle.vo_spec.specs.declared.values.Value.{Value}
use Rattle.vo_spec.specs.declared.values.Value.TheVariants.{Int, Text, Bool as Truth, Null}
use Rattle.vo_spec.specs.declared.values.Row.{Row}
use Rattle.vo_spec.specs.declared.tables.Column.{Column}
use Rattle.vo_spec.specs.declared.tables.Schema.{Schema}
use Rattle.vo_spec.specs.declared.tables.Table.{Table}
use Rattle.vo_spec.specs.declared.tables.SetPart.{SetPart}
use Rattle.vo_spec.specs.declared.tables.Command.{Command}
use Rattle.vo_spec.specs.declared.tables.Command.TheVariants.{Create, Drop, Insert, Update, Delete}
use Rattle.vo_spec.specs.declared.tables.CommandFault.TheVariants as fault
use Rattle.vo_spec.specs.declared.queries.Ref.{Ref}
use Rattle.vo_spec.specs.declared.queries.Source.{Source}
use Rattle.vo_spec.specs.declared.queries.Cmp.TheVariants as cmp
use Rattle.vo_spec.specs.declared.queries.Items.TheVariants.{All, Refs}
use Rattle.vo_spec.specs.declared.queries.Operand.TheVariants.{Ref as Column_of, Literal}
use Rattle.vo_spec.specs.declared.queries.QueryFault.TheVariants as wrong
use Rattle.vo_spec.specs.declared.queries.Outcome.{Outcome}
use Rattle.vo_spec.specs.declared.queries.Outcome.TheVariants.{Rows, Wrong}
use Rattle.vo_spec.specs.Bytes.{u64_bytes, u64_of, u16_bytes}
use Rattle.vo_spec.specs.Values.{value_bytes, key_of, value_of_key}
use Rattle.vo_spec.specs.Tables.{apply, apply_batch, tables_after}
use Rattle.vo_spec.specs.Conditions.{Condition, Query, every, some, negated, test, none, more, comparison, null_test}
use Rattle.vo_spec.specs.Results.{result}

-- Key bytes of -1, 0, and the least and greatest BIGINT, and back.

key_minus_one : key_of (Int (negsuc 0)) ≡ 0x7f ∷ 0xff ∷ 0xff ∷ 0xff ∷ 0xff ∷ 0xff ∷ 0xff ∷ 0xff ∷ []
unfolding u64_bytes
key_minus_one = refl

key_zero : key_of (Int (pos 0)) ≡ 0x80 ∷ 0 ∷ 0 ∷ 0 ∷ 0 ∷ 0 ∷ 0 ∷ 0 ∷ []
unfolding u64_bytes
key_zero = refl

key_least : key_of (Int (negsuc 9223372036854775807)) ≡ 0 ∷ 0 ∷ 0 ∷ 0 ∷ 0 ∷ 0 ∷ 0 ∷ 0 ∷ []
unfolding u64_bytes
key_least = refl

key_greatest : key_of (Int (pos 9223372036854775807)) ≡ 255 ∷ 255 ∷ 255 ∷ 255 ∷ 255 ∷ 255 ∷ 255 ∷ 255 ∷ []
unfolding u64_bytes
key_greatest = refl

value_minus_one : value_of_key kind.Int (0x7f ∷ 0xff ∷ 0xff ∷ 0xff ∷ 0xff ∷ 0xff ∷ 0xff ∷ 0xff ∷ []) ≡ Int (negsuc 0)
unfolding u64_of
value_minus_one = refl

value_least : value_of_key kind.Int (0 ∷ 0 ∷ 0 ∷ 0 ∷ 0 ∷ 0 ∷ 0 ∷ 0 ∷ []) ≡ Int (negsuc 9223372036854775807)
unfolding u64_of
value_least = refl

-- Value bytes.

bytes_minus_one : value_bytes (Int (negsuc 0)) ≡ 1 ∷ 255 ∷ 255 ∷ 255 ∷ 255 ∷ 255 ∷ 255 ∷ 255 ∷ 255 ∷ []
unfolding u64_bytes
bytes_minus_one = refl

bytes_bob : value_bytes (Text (codes "bob")) ≡ 2 ∷ 0 ∷ 3 ∷ 0x62 ∷ 0x6f ∷ 0x62 ∷ []
unfolding u16_bytes
bytes_bob = refl

bytes_true : value_bytes (Truth true) ≡ 3 ∷ 1 ∷ []
bytes_true = refl

bytes_null : value_bytes Null ≡ 0 ∷ []
bytes_null = refl

-- A table `t` of two rows, by three batches.

abbrev int : ℕ → Value
int n = Int (pos n)

abbrev text : List ℕ → Value
text = Text

abbrev create : Command
create = Create (codes "t") (record { name = codes "id"; kind = kind.Int; nullable = false } ∷ record { name = codes "name"; kind = kind.Text; nullable = false } ∷ []) (codes "id")

abbrev insert : ℕ → List ℕ → Command
insert id name = Insert (codes "t") (int id ∷ text name ∷ [])

abbrev schema : Schema
schema = record { columns = record { name = codes "id"; kind = kind.Int; nullable = false } ∷ record { name = codes "name"; kind = kind.Text; nullable = false } ∷ []; key = 0 }

abbrev row : ℕ → List ℕ → Row
row id name = record { key = key_of (int id); cells = text name ∷ [] }

abbrev two_rows : List Table
two_rows = record { name = codes "t"; schema = schema; rows = row 1 (codes "ann") ∷ row 3 (codes "bob") ∷ [] } ∷ []

after_three : tables_after ((create ∷ []) ∷ (insert 1 (codes "ann") ∷ []) ∷ (insert 3 (codes "bob") ∷ []) ∷ []) ≡ two_rows
unfolding tables_after apply u64_bytes
after_three = refl

-- rows go by their keys, and not in the order of the commands
after_swapped : apply_batch (create ∷ insert 3 (codes "bob") ∷ insert 1 (codes "ann") ∷ []) [] ≡ Ok two_rows
unfolding apply u64_bytes
after_swapped = refl

-- Refusals.

create_again : apply create two_rows ≡ Err fault.TableExists
unfolding apply
create_again = refl

insert_elsewhere : apply (Insert (codes "u") (int 1 ∷ [])) two_rows ≡ Err fault.NoTable
unfolding apply
insert_elsewhere = refl

bool_key : apply (Create (codes "u") (record { name = codes "b"; kind = kind.Bool; nullable = false } ∷ []) (codes "b")) two_rows ≡ Err fault.BadSchema
unfolding apply
bool_key = refl

twice : apply (Create (codes "u") (record { name = codes "b"; kind = kind.Int; nullable = false } ∷ record { name = codes "b"; kind = kind.Text; nullable = false } ∷ []) (codes "b")) two_rows ≡ Err fault.BadSchema
unfolding apply
twice = refl

no_key : apply (Create (codes "u") (record { name = codes "b"; kind = kind.Int; nullable = false } ∷ []) (codes "c")) two_rows ≡ Err fault.BadSchema
unfolding apply
no_key = refl

one_value : apply (Insert (codes "t") (int 1 ∷ [])) two_rows ≡ Err fault.Arity
unfolding apply
one_value = refl

two_texts : apply (Insert (codes "t") (text (codes "a") ∷ text (codes "b") ∷ [])) two_rows ≡ Err fault.TypeMismatch
unfolding apply
two_texts = refl

same_key : apply (insert 3 (codes "z")) two_rows ≡ Err fault.DuplicateKey
unfolding apply u64_bytes
same_key = refl

abbrev set : List ℕ → Value → SetPart
set column value = record { column = column; value = value }

abbrev update : SetPart → ℕ → Command
update part id = Update (codes "t") (part ∷ []) (codes "id") (int id)

no_row : apply (update (set (codes "name") (text (codes "z"))) 7) two_rows ≡ Err fault.NoRow
unfolding apply u64_bytes
no_row = refl

no_column : apply (update (set (codes "z") (int 1)) 1) two_rows ≡ Err fault.NoColumn
unfolding apply
no_column = refl

not_key : apply (Delete (codes "t") (codes "name") (text (codes "ann"))) two_rows ≡ Err fault.NotKey
unfolding apply
not_key = refl

key_set : apply (update (set (codes "id") (int 2)) 1) two_rows ≡ Err fault.BadSet
unfolding apply
key_set = refl

set_twice : apply (Update (codes "t") (set (codes "name") (text []) ∷ set (codes "name") (text []) ∷ []) (codes "id") (int 1)) two_rows ≡ Err fault.BadSet
unfolding apply
set_twice = refl

updated : apply (update (set (codes "name") (text (codes "bo"))) 3) two_rows
    ≡ Ok (record { name = codes "t"; schema = schema; rows = row 1 (codes "ann") ∷ row 3 (codes "bo") ∷ [] } ∷ [])
unfolding apply u64_bytes
updated = refl

deleted : apply (Delete (codes "t") (codes "id") (int 1)) two_rows
    ≡ Ok (record { name = codes "t"; schema = schema; rows = row 3 (codes "bob") ∷ [] } ∷ [])
unfolding apply u64_bytes
deleted = refl

dropped : apply (Drop (codes "t")) two_rows ≡ Ok []
unfolding apply
dropped = refl

-- the second command is refused, by its number
second_refused : apply_batch (Drop (codes "t") ∷ insert 1 (codes "ann") ∷ []) two_rows ≡ Err (1, fault.NoTable)
unfolding apply
second_refused = refl

-- Queries.

abbrev plain : List ℕ → Ref
plain column = record { qualifier = None; column = column }

abbrev of : List ℕ → List ℕ → Ref
of alias column = record { qualifier = Some alias; column = column }

abbrev alone : List ℕ → Source
alone name = record { table = name; alias = name }

abbrev as_source : List ℕ → List ℕ → Source
as_source table alias = record { table = table; alias = alias }

-- SELECT .. FROM t WHERE ..
abbrev one_table : List Ref → Option Condition → Query
one_table refs condition = record { items = Refs refs; left = alone (codes "t"); join = None; condition = condition; limit = None }

abbrev names_above_one : Query
names_above_one = one_table (plain (codes "name") ∷ []) (Some (test (comparison (plain (codes "id")) cmp.Gt (Literal (int 1)))))

above_one : result names_above_one two_rows ≡ Rows (codes "name" ∷ []) ((text (codes "bob") ∷ []) ∷ [])
unfolding result u64_bytes u64_of
above_one = refl

-- every column, by `*`
all_columns : result (record { items = All; left = alone (codes "t"); join = None; condition = None; limit = None }) two_rows
    ≡ Rows (codes "id" ∷ codes "name" ∷ []) ((int 1 ∷ text (codes "ann") ∷ []) ∷ (int 3 ∷ text (codes "bob") ∷ []) ∷ [])
unfolding result u64_bytes u64_of
all_columns = refl

-- the first row alone, and none behind the last
abbrev up_to : ℕ → Query
up_to n = record { items = All; left = alone (codes "t"); join = None; condition = None; limit = Some n }

first_row : result (up_to 1) two_rows ≡ Rows (codes "id" ∷ codes "name" ∷ []) ((int 1 ∷ text (codes "ann") ∷ []) ∷ [])
unfolding result u64_bytes u64_of
first_row = refl

both_rows : result (up_to 9) two_rows ≡ Rows (codes "id" ∷ codes "name" ∷ []) ((int 1 ∷ text (codes "ann") ∷ []) ∷ (int 3 ∷ text (codes "bob") ∷ []) ∷ [])
unfolding result u64_bytes u64_of
both_rows = refl

absent_table : result (record { items = All; left = alone (codes "t"); join = None; condition = None; limit = None }) [] ≡ Wrong (wrong.NoTable (codes "t"))
unfolding result
absent_table = refl

absent_column : result (one_table (plain (codes "x") ∷ []) None) two_rows ≡ Wrong (wrong.NoColumn (plain (codes "x")))
unfolding result
absent_column = refl

kinds_differ : result (one_table (plain (codes "name") ∷ []) (Some (test (comparison (plain (codes "id")) cmp.Eq (Literal (text (codes "a"))))))) two_rows ≡ Wrong wrong.TypeMismatch
unfolding result
kinds_differ = refl

abbrev with_itself : List ℕ → List Ref → Ref → Ref → Query
with_itself table refs a b = record { items = Refs refs; left = as_source table (codes "a"); join = Some (record { right = as_source table (codes "b"); left_ref = a; right_ref = b }); condition = None; limit = None }

ambiguous : result (with_itself (codes "t") (plain (codes "name") ∷ []) (of (codes "a") (codes "id")) (of (codes "b") (codes "id"))) two_rows ≡ Wrong (wrong.Ambiguous (plain (codes "name")))
unfolding result
ambiguous = refl

not_key_join : result (with_itself (codes "t") (of (codes "a") (codes "id") ∷ []) (of (codes "a") (codes "name")) (of (codes "b") (codes "name"))) two_rows ≡ Wrong wrong.NotKeyJoin
unfolding result
not_key_join = refl

-- no source is called `c`
no_alias : result (with_itself (codes "t") (of (codes "c") (codes "id") ∷ []) (of (codes "a") (codes "id")) (of (codes "b") (codes "id"))) two_rows ≡ Wrong (wrong.NoTable (codes "c"))
unfolding result
no_alias = refl

-- Three people, two of whom have the same boss.

abbrev person : ℕ → List ℕ → ℕ → Row
person id name boss = record { key = key_of (int id); cells = text name ∷ int boss ∷ [] }

abbrev people : List Table
people = record {
  name = codes "e";
  schema = record { columns = record { name = codes "id"; kind = kind.Int; nullable = false } ∷ record { name = codes "name"; kind = kind.Text; nullable = false } ∷ record { name = codes "boss"; kind = kind.Int; nullable = false } ∷ []; key = 0 };
  rows = person 1 (codes "ann") 9 ∷ person 2 (codes "bob") 1 ∷ person 3 (codes "cid") 1 ∷ [];
} ∷ []

abbrev bosses : Ref → Ref → Query
bosses = with_itself (codes "e") (of (codes "a") (codes "name") ∷ of (codes "b") (codes "name") ∷ [])

abbrev who_has_ann : Outcome
who_has_ann = Rows (codes "a.name" ∷ codes "b.name" ∷ []) ((text (codes "bob") ∷ text (codes "ann") ∷ []) ∷ (text (codes "cid") ∷ text (codes "ann") ∷ []) ∷ [])

joined : result (bosses (of (codes "a") (codes "boss")) (of (codes "b") (codes "id"))) people ≡ who_has_ann
unfolding result u64_bytes u64_of
joined = refl

-- ON's columns in the other order
joined_swapped : result (bosses (of (codes "b") (codes "id")) (of (codes "a") (codes "boss"))) people ≡ who_has_ann
unfolding result u64_bytes u64_of
joined_swapped = refl

-- NULL: a table whose names may be absent, with two rows, of which one has none.

abbrev nullable_name : List Column
nullable_name = record { name = codes "id"; kind = kind.Int; nullable = false } ∷ record { name = codes "name"; kind = kind.Text; nullable = true } ∷ []

abbrev one_unnamed : List Table
one_unnamed = record {
  name = codes "t";
  schema = record { columns = nullable_name; key = 0 };
  rows = record { key = key_of (int 1); cells = Null ∷ [] } ∷ row 2 (codes "bob") ∷ [];
} ∷ []

abbrev create_nullable : Command
create_nullable = Create (codes "t") nullable_name (codes "id")

after_null : apply_batch (create_nullable ∷ Insert (codes "t") (int 1 ∷ Null ∷ []) ∷ insert 2 (codes "bob") ∷ []) [] ≡ Ok one_unnamed
unfolding apply u64_bytes
after_null = refl

null_key : apply (Insert (codes "t") (Null ∷ text (codes "z") ∷ [])) one_unnamed ≡ Err fault.NotNull
unfolding apply
null_key = refl

-- the kinds come first
null_key_and_kind : apply (Insert (codes "t") (Null ∷ int 1 ∷ [])) one_unnamed ≡ Err fault.TypeMismatch
unfolding apply
null_key_and_kind = refl

null_name : apply (Insert (codes "t") (int 4 ∷ Null ∷ [])) two_rows ≡ Err fault.NotNull
unfolding apply
null_name = refl

null_set : apply (update (set (codes "name") Null) 1) two_rows ≡ Err fault.NotNull
unfolding apply
null_set = refl

null_where : apply (Delete (codes "t") (codes "id") Null) two_rows ≡ Err fault.NotNull
unfolding apply
null_where = refl

nullable_key : apply (Create (codes "u") nullable_name (codes "name")) two_rows ≡ Err fault.BadSchema
unfolding apply
nullable_key = refl

abbrev is_bob : Condition
is_bob = test (comparison (plain (codes "name")) cmp.Eq (Literal (text (codes "bob"))))

abbrev ids_where : Condition → Query
ids_where condition = one_table (plain (codes "id") ∷ []) (Some condition)

abbrev ids : List (List Value) → Outcome
ids = Rows (codes "id" ∷ [])

named_bob : result (ids_where is_bob) one_unnamed ≡ ids ((int 2 ∷ []) ∷ [])
unfolding result u64_bytes u64_of
named_bob = refl

-- what is unknown stays so under NOT, and isn't kept
not_named_bob : result (ids_where (negated is_bob)) one_unnamed ≡ ids []
unfolding result u64_bytes u64_of
not_named_bob = refl

-- nothing is known of NULL compared with itself
same_name : result (ids_where (test (comparison (plain (codes "name")) cmp.Eq (Column_of (plain (codes "name")))))) one_unnamed ≡ ids ((int 2 ∷ []) ∷ [])
unfolding result u64_bytes u64_of
same_name = refl

equal_null : result (ids_where (test (comparison (plain (codes "name")) cmp.Eq (Literal Null)))) one_unnamed ≡ ids []
unfolding result u64_bytes u64_of
equal_null = refl

unnamed_or_second : result
    (ids_where (some (more (test (null_test (plain (codes "name")) false)) (more (test (comparison (plain (codes "id")) cmp.Eq (Literal (int 2)))) none)))) one_unnamed
    ≡ ids ((int 1 ∷ []) ∷ (int 2 ∷ []) ∷ [])
unfolding result u64_bytes u64_of
unnamed_or_second = refl

-- a part that is false makes the whole false, though another part is unknown
false_and_unknown : result
    (ids_where (negated (every (more is_bob (more (test (comparison (plain (codes "id")) cmp.Eq (Literal (int 9)))) none))))) one_unnamed
    ≡ ids ((int 1 ∷ []) ∷ (int 2 ∷ []) ∷ [])
unfolding result u64_bytes u64_of
false_and_unknown = refl

-- Two people, one of whom has no boss: NULL joins with nobody.

abbrev bossless : List Table
bossless = record {
  name = codes "e";
  schema = record { columns = record { name = codes "id"; kind = kind.Int; nullable = false } ∷ record { name = codes "name"; kind = kind.Text; nullable = false } ∷ record { name = codes "boss"; kind = kind.Int; nullable = true } ∷ []; key = 0 };
  rows = record { key = key_of (int 1); cells = text (codes "ann") ∷ Null ∷ [] } ∷ person 2 (codes "bob") 1 ∷ [];
} ∷ []

joined_by_null : result (bosses (of (codes "a") (codes "boss")) (of (codes "b") (codes "id"))) bossless
    ≡ Rows (codes "a.name" ∷ codes "b.name" ∷ []) ((text (codes "bob") ∷ text (codes "ann") ∷ []) ∷ [])
unfolding result u64_bytes u64_of
joined_by_null = refl
