-- The workload of n steps, by the words of a generator: batches of commands on one table, and
-- queries of it. Two words make a step, and two a query.
use Rattle.std.specs.Prelude.{◌≡◌, ℕ, zero, suc, ◌+◌, ◌-◌, ◌*◌, ◌/◌, ◌%◌, ◌<◌, min, pos, Bool, false, not, ◌&&◌, ◌==◌, if◌then◌else◌, List, [], ◌∷◌, ◌++◌, map, codes, decimal, Some, None}
use Rattle.std.specs.List.{range_with_len}
use Rattle.vo_spec.specs.declared.values.Kind.{Kind}
use Rattle.vo_spec.specs.declared.values.Kind.TheVariants as kind
use Rattle.vo_spec.specs.declared.values.Value.{Value}
use Rattle.vo_spec.specs.declared.values.Value.TheVariants.{Int, Text}
use Rattle.vo_spec.specs.declared.values.Row.{Row}
use Rattle.vo_spec.specs.declared.tables.Batch.{Batch}
use Rattle.vo_spec.specs.declared.tables.Column.{Column}
use Rattle.vo_spec.specs.declared.tables.Table.{Table}
use Rattle.vo_spec.specs.declared.tables.Command.{Command}
use Rattle.vo_spec.specs.declared.tables.Command.TheVariants.{Create, Insert, Update, Delete}
use Rattle.vo_spec.specs.declared.queries.Ref.{Ref}
use Rattle.vo_spec.specs.declared.queries.Source.{Source}
use Rattle.vo_spec.specs.declared.queries.Items.TheVariants.{All as Each, Refs}
use Rattle.vo_spec.specs.declared.queries.Cmp.TheVariants.{Ge, Lt}
use Rattle.vo_spec.specs.declared.queries.Operand.TheVariants.{Literal}
use Rattle.vo_spec.specs.declared.queries.Cond.{Cond}
use Rattle.vo_spec.specs.declared.queries.Cond.TheVariants.{All, Test}
use Rattle.vo_spec.specs.declared.queries.QueryText.{QueryText}
use Rattle.vo_spec.specs.Values.{key_of}
use Rattle.vo_gen.specs.declared.steps.WorkloadStep.{WorkloadStep}
use Rattle.vo_gen.specs.declared.steps.WorkloadStep.TheVariants as step_as
use Rattle.vo_gen.specs.Words.{key_of_number, word_of}

-- how many steps a workload may have, and how many commands a batch of them has
abbrev pub max_steps : ℕ
max_steps = 100000

abbrev pub batch_steps : ℕ
batch_steps = 100

abbrev pub query_count : ℕ
query_count = 16

-- keys are below this
abbrev pub keys_for : ℕ → ℕ
keys_for n = 2 * n + 16

abbrev pub number : ℕ → Value
number n = Int (pos n)

-- Commands.

-- a column that isn't nullable
abbrev pub plain_column : List ℕ → Kind → Column
plain_column name k = record { name = name; kind = k; nullable = false }

-- CREATE TABLE t (id BIGINT, name TEXT, boss BIGINT, PRIMARY KEY (id))
abbrev pub creation : Command
creation = Create (codes "t")
    (plain_column (codes "id") kind.Int ∷ plain_column (codes "name") kind.Text ∷ plain_column (codes "boss") kind.Int ∷ [])
    (codes "id")

-- the key, the letter n before a word in decimal, and the boss
abbrev pub insertion : ℕ → ℕ → ℕ → Command
insertion key word boss = Insert (codes "t")
    (number key ∷ Text (codes "n" ++ decimal word) ∷ number boss ∷ [])

-- DELETE FROM t WHERE id = key
abbrev pub deletion : ℕ → Command
deletion key = Delete (codes "t") (codes "id") (number key)

-- UPDATE t SET boss = boss WHERE id = key
abbrev pub change : ℕ → ℕ → Command
change key boss = Update (codes "t") (record { column = codes "boss"; value = number boss } ∷ [])
    (codes "id") (number key)

-- Queries.

abbrev pub column : List ℕ → Ref
column name = record { qualifier = None; column = name }

abbrev pub column_of : List ℕ → List ℕ → Ref
column_of alias name = record { qualifier = Some alias; column = name }

abbrev pub source : List ℕ → Source
source alias = record { table = codes "t"; alias = alias }

-- the reference is at least low, and below high
abbrev pub between : Ref → ℕ → ℕ → Cond
between r low high = All
    (Test r Ge (Literal (number low)) ∷ Test r Lt (Literal (number high)) ∷ [])

-- SELECT * FROM t WHERE id >= low AND id < high
abbrev pub selection : ℕ → ℕ → QueryText
selection low high = record {
  items = Each;
  left = source (codes "t");
  join = None;
  cond = Some (between (column (codes "id")) low high);
  limit = None;
}

-- SELECT a.id, b.name FROM t AS a JOIN t AS b ON a.boss = b.id WHERE a.id >= low AND a.id < high
abbrev pub join_query : ℕ → ℕ → QueryText
join_query low high = record {
  items = Refs (column_of (codes "a") (codes "id") ∷ column_of (codes "b") (codes "name") ∷ []);
  left = source (codes "a");
  join = Some (record {
    right = source (codes "b");
    left_ref = column_of (codes "a") (codes "boss");
    right_ref = column_of (codes "b") (codes "id");
  });
  cond = Some (between (column_of (codes "a") (codes "id")) low high);
  limit = None;
}

abbrev pub is_even : ℕ → Bool
is_even n = n % 2 == 0

-- what contracts see of a workload that is being drawn: the generator's key, what its keys are
-- below, and how many steps it has given
pub record Drawing : Type 0 where
  pub key : List ℕ
  pub keys : ℕ
  pub steps : ℕ

-- A workload, by its words and by what its keys are below.
module _ (word : ℕ → ℕ) (keys : ℕ) where
  abbrev pub key_at : ℕ → ℕ
  key_at i = word (2 * i) % keys

  abbrev pub mark_at : ℕ → ℕ
  mark_at i = word (2 * i + 1)

  -- Whether a row of this key stands behind so many steps. A step of its key puts it in where none
  -- does, and where one does, it removes it by an even mark.
  unfoldable pub stands : ℕ → ℕ → Bool
  stands zero key = false
  stands (suc i) key = if key_at i == key then not (stands i key && is_even (mark_at i))
      else stands i key

  -- the command of step i
  unfoldable pub step : ℕ → Command
  step i = if not (stands i (key_at i)) then insertion (key_at i) (mark_at i) (mark_at i % keys)
      else if is_even (mark_at i) then deletion (key_at i)
      else change (key_at i) (mark_at i % keys)

  -- so many steps, from this one on
  abbrev pub steps_from : ℕ → ℕ → Batch
  steps_from first count = record { commands = map step (range_with_len first count) }

  -- query j of those behind n steps
  unfoldable pub query : ℕ → ℕ → QueryText
  query n j =
      let low = word (2 * (n + j)) % keys in
      let high = low + word (2 * (n + j) + 1) % 64 in
      if is_even j then selection low high else join_query low high

-- the command of a step that the program has drawn
abbrev pub command_of : WorkloadStep → Command
command_of (step_as.Insert key word boss) = insertion key word boss
command_of (step_as.Delete key) = deletion key
command_of (step_as.Update key boss) = change key boss

-- the steps in order, in batches of 100, the last one with what is left
abbrev pub batch_at : (ℕ → ℕ) → ℕ → ℕ → Batch
batch_at word n j = steps_from word (keys_for n) (batch_steps * j)
    (min (n - batch_steps * j) batch_steps)

-- The batches of n steps, the first of them the CREATE's.
unfoldable pub batches_of : (ℕ → ℕ) → ℕ → List Batch
batches_of word n = record { commands = creation ∷ [] }
    ∷ map (batch_at word n) (range_with_len 0 ((n + 99) / batch_steps))

-- The queries behind n steps.
unfoldable pub queries_of : (ℕ → ℕ) → ℕ → List QueryText
queries_of word n = map (query word (keys_for n) n) (range_with_len 0 query_count)

-- the commands of each batch
abbrev pub commands_of : List Batch → List (List Command)
commands_of = map (λ (b : Batch). b.commands)

-- the only table there is
abbrev pub tables_of : List Row → List Table
tables_of rows = record {
  name = codes "t";
  schema = record {
    columns = plain_column (codes "id") kind.Int ∷ plain_column (codes "name") kind.Text ∷ plain_column (codes "boss") kind.Int ∷ [];
    key = 0;
  };
  rows = rows;
} ∷ []

-- The row's key and boss are numbers below what keys are below, and its name is the letter n before
-- one of the words.
pub record IsDrawn (word : ℕ → ℕ) (keys : ℕ) (row : Row) : Type 0 where
  pub key : ℕ
  pub place : ℕ
  pub boss : ℕ
  pub key_below : key < keys
  pub boss_below : boss < keys
  pub key_is : row.key ≡ key_of (number key)
  pub cells_are : row.cells ≡ Text (codes "n" ++ decimal (word place)) ∷ number boss ∷ []

-- The workload of a number.

abbrev pub batches : ℕ → ℕ → List Batch
batches n number = batches_of (word_of (key_of_number number)) n

abbrev pub queries : ℕ → ℕ → List QueryText
queries n number = queries_of (word_of (key_of_number number)) n
