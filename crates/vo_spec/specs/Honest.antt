-- What an honest owner and an honest store make of batches: the trees of the tables, the proofs of
-- a batch, catalogs and records, the journal, and the reply to a query.
use Rattle.std.specs.Prelude.{◌≡◌, ℕ, ◌-◌, not, if◌then◌else◌, List, [], ◌∷◌, ◌++◌, map, length, fold, filter, find, drop, Option, is_some, Result, Ok, Err, slice_get, bytes_eq, option_map}
use Rattle.std.specs.Option.{option_map_or}
use Rattle.std.specs.Result.{result_unwrap_or}
use Rattle.std.specs.List.{AllZip, AllByRecursion}
use Rattle.vo_spec.specs.declared.values.Row.{Row}
use Rattle.vo_spec.specs.declared.tables.Schema.{Schema}
use Rattle.vo_spec.specs.declared.tables.Table.{Table}
use Rattle.vo_spec.specs.declared.tables.Command.{Command}
use Rattle.vo_spec.specs.declared.tables.Command.TheVariants.{Create, Drop, Insert, Update, Delete}
use Rattle.vo_spec.specs.declared.tables.CommandFault.{CommandFault}
use Rattle.vo_spec.specs.declared.tables.CommandFault.TheVariants as command
use Rattle.vo_spec.specs.declared.trees.UpdateFault.{UpdateFault}
use Rattle.vo_spec.specs.declared.trees.UpdateFault.TheVariants as update
use Rattle.vo_spec.specs.declared.needs.Need.{Need}
use Rattle.vo_spec.specs.declared.records.Catalog.{Catalog}
use Rattle.vo_spec.specs.declared.records.Record.{Record}
use Rattle.vo_spec.specs.declared.records.Entry.{Entry}
use Rattle.vo_spec.specs.Firsts.{unless, and_then}
use Rattle.vo_spec.specs.Values.{key_of, key_lt, IsKeyOf}
use Rattle.vo_spec.specs.Tables.{TableHeader, refusal, column_number, value_at, row_of, cell_changes}
use Rattle.vo_spec.specs.Conditions.{Query}
use Rattle.vo_spec.specs.Results.{bound_sources}
use Rattle.vo_spec.specs.Keys.{key_id}
use Rattle.vo_spec.specs.Secret.{Secret, public_of_secret, lms_signature}
use Rattle.vo_spec.specs.Records.{record_bytes, record_of, table_headers}
use Rattle.vo_spec.specs.Journals.{batches_of}
use Rattle.vo_spec.specs.Parts.{leaf, entries}
use Rattle.vo_spec.specs.Trees.{RowTree, digest}
use Rattle.vo_spec.specs.Cells.{whole_entry}
use Rattle.vo_spec.specs.Inserts.{result_map, tree_with_entry, insert_proof}
use Rattle.vo_spec.specs.Removes.{tree_without_key, tree_with_cells, remove_proof, replace_proof}
use Rattle.vo_spec.specs.Pruning.{prune_tree}
use Rattle.vo_spec.specs.Needs.{needs}
use Rattle.vo_spec.specs.Representation.{Represents}
use Rattle.vo_spec.specs.Checks.{tables_wanted, key_kind}
use Rattle.vo_spec.specs.Replies.{Reply, proofs_bytes}

-- A table as its tree.
pub record Stored : Type 0 where
  pub name : List ℕ
  pub schema : Schema
  pub tree : RowTree

abbrev pub stored_table_header : Stored → TableHeader
stored_table_header s = record { name = s.name; schema = s.schema; count = length (entries s.tree) }

abbrev pub put_stored : Stored → List Stored → List Stored
put_stored stored [] = stored ∷ []
put_stored stored (s ∷ ss) = if key_lt stored.name s.name then stored ∷ s ∷ ss
    else s ∷ put_stored stored ss

-- The tree stands for the table's rows, and their keys are keys of values of the key's kind.
pub record RepresentsTable (s : Stored) (t : Table) : Type 0 where
  pub name : s.name ≡ t.name
  pub schema : s.schema ≡ t.schema
  pub stands : Represents s.tree t.rows
  pub keys : AllByRecursion (λ (row : Row). IsKeyOf (key_kind t.schema) row.key) t.rows

abbrev pub RepresentTables : List Stored → List Table → Type 0
RepresentTables = AllZip RepresentsTable

-- Commands on trees.

abbrev pub row_refusal : UpdateFault → CommandFault
row_refusal update.DuplicateKey = command.DuplicateKey
row_refusal _ = command.NoRow

-- the tree with what the command changes of its rows
abbrev pub tree_after : Command → Stored → Result RowTree UpdateFault
tree_after (Insert name values) s = tree_with_entry (whole_entry (row_of s.schema values)) s.tree
tree_after (Update name sets column value) s =
    tree_with_cells (key_of value) (cell_changes s.schema sets) s.tree
tree_after (Delete name column value) s = tree_without_key (key_of value) s.tree
tree_after _ s = Ok s.tree

abbrev pub with_tree : Stored → List Stored → Result RowTree UpdateFault
    → Result (List Stored) CommandFault
with_tree s ss (Ok tree) = Ok (record { name = s.name; schema = s.schema; tree = tree } ∷ ss)
with_tree s ss (Err fault) = Err (row_refusal fault)

abbrev pub behind_stored : Stored → Result (List Stored) CommandFault
    → Result (List Stored) CommandFault
behind_stored s (Ok ss) = Ok (s ∷ ss)
behind_stored s (Err fault) = Err fault

-- in the table of this name
abbrev pub change_tree : List ℕ → Command → List Stored → Result (List Stored) CommandFault
change_tree name c [] = Ok []
change_tree name c (s ∷ ss) =
    if bytes_eq s.name name then with_tree s ss (tree_after c s)
    else behind_stored s (change_tree name c ss)

abbrev pub changed_trees : Command → List Stored → Result (List Stored) CommandFault
changed_trees (Create name columns key) stored =
    Ok (put_stored (record {
      name = name;
      schema = record { columns = columns; key = column_number columns key };
      tree = leaf [];
    }) stored)
changed_trees (Drop name) stored = Ok (filter (λ s. not (bytes_eq s.name name)) stored)
changed_trees (Insert name values) stored = change_tree name (Insert name values) stored
changed_trees (Update name sets column value) stored =
    change_tree name (Update name sets column value) stored
changed_trees (Delete name column value) stored = change_tree name (Delete name column value) stored

-- the trees after a command, or its first refusal
unfoldable pub work : Command → List Stored → Result (List Stored) CommandFault
work c stored = and_then (changed_trees c)
    (unless (refusal c (map stored_table_header stored)) stored)

abbrev pub work_all : List Command → List Stored → Result (List Stored) CommandFault
work_all [] stored = Ok stored
work_all (c ∷ cs) stored = and_then (work_all cs) (work c stored)

-- a batch that is refused leaves the trees
abbrev pub after_work : List Stored → List Command → List Stored
after_work stored batch = result_unwrap_or (work_all batch stored) stored

-- The trees after these batches, from none.
unfoldable pub honest_trees : List (List Command) → List Stored
honest_trees batches = fold after_work [] batches

-- The proofs of a batch: for each command that changes rows and that the catalog doesn't refuse,
-- the tree before it with open what the work looks at; up to the command that is refused.

abbrev pub proof_on : Command → Stored → List RowTree
proof_on (Create name columns key) s = []
proof_on (Drop name) s = []
proof_on (Insert name values) s = insert_proof (key_of (value_at values s.schema.key)) s.tree ∷ []
proof_on (Update name sets column value) s = replace_proof (key_of value) s.tree ∷ []
proof_on (Delete name column value) s = remove_proof (key_of value) s.tree ∷ []

abbrev pub table_of : Command → List ℕ
table_of (Create name columns key) = name
table_of (Drop name) = name
table_of (Insert name values) = name
table_of (Update name sets column value) = name
table_of (Delete name column value) = name

abbrev pub command_proof : Command → List Stored → List RowTree
command_proof c stored = option_map_or (proof_on c)
    (find (λ s. bytes_eq s.name (table_of c)) stored) []

abbrev pub honest_proofs : List Command → List Stored → List RowTree
honest_proofs [] stored = []
honest_proofs (c ∷ cs) stored =
    if is_some (refusal c (map stored_table_header stored)) then []
    else command_proof c stored ++ result_unwrap_or
    (result_map (honest_proofs cs) (work c stored)) []

-- Catalogs, records and entries.

abbrev pub catalog_of : List Stored → Catalog
catalog_of stored = record {
  tables =
      map (λ s. record {
        name = s.name;
        schema = s.schema;
        rows = length (entries s.tree);
        root = digest s.tree;
      }) stored;
}

unfoldable pub honest_record : List ℕ → ℕ → List Stored → Record
honest_record key version stored = record_of (key_id key) version (catalog_of stored)

-- the entry that the owner writes of this batch, after the batches of this many versions from 0 on
unfoldable pub sealed_entry : Secret → List (List Command) → List Command → Entry
sealed_entry secret earlier batch =
    let version = length earlier in
    let rec = honest_record (public_of_secret secret) version
    (honest_trees (earlier ++ batch ∷ [])) in
    record {
      batch = record { commands = batch };
      proofs = proofs_bytes (honest_proofs batch (honest_trees earlier));
      rec = rec;
      signature = lms_signature secret version (record_bytes rec);
    }

abbrev pub sealed_after : Secret → List (List Command) → List (List Command) → List Entry
sealed_after secret earlier [] = []
sealed_after secret earlier (batch ∷ batches) =
    sealed_entry secret earlier batch ∷ sealed_after secret (earlier ++ batch ∷ []) batches

-- The entries of a journal of these batches: version 0 has none of them, its batch is empty.
unfoldable pub seal_batches : Secret → List (List Command) → List Entry
seal_batches secret batches = sealed_after secret [] ([] ∷ batches)

-- Replies.

abbrev pub stored_tree : List Stored → List ℕ → RowTree
stored_tree stored name = option_map_or (λ s. s.tree)
    (find (λ s. bytes_eq s.name name) stored) (leaf [])

-- the whole trees that the query uses
abbrev pub trees_for : Query → List Stored → List RowTree
trees_for q stored = map (stored_tree stored) (tables_wanted q (catalog_of stored))

abbrev pub pruned_each : List (List Need) → List RowTree → List RowTree
pruned_each (ns ∷ nss) (t ∷ ts) = prune_tree ns t ∷ pruned_each nss ts
pruned_each _ _ = []

-- The one reply to a query: what the entry of this version signs, and its trees with open what the
-- query needs.
unfoldable pub honest_reply : Query → Record → List ℕ → List Stored → Reply
honest_reply q rec signature stored =
    let trees = trees_for q stored in
    record {
      rec = rec;
      signature = signature;
      catalog = catalog_of stored;
      trees = pruned_each (needs (bound_sources (table_headers (catalog_of stored)) q) q
          trees) trees;
    }

-- the reply of a store that has loaded these entries
abbrev pub reply_of : Query → List Entry → Option Reply
reply_of q es =
    option_map (λ (e : Entry). honest_reply q e.rec e.signature
    (honest_trees (batches_of (drop 1 es)))) (slice_get es (length es - 1))
