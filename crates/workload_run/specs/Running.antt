-- What a run of a workload comes to, by plain tables and plain results.
use Rattle.std.specs.Prelude.{ℕ, ◌+◌, List, [], length, replicate, codes}
use Rattle.std.specs.List.{flat_map}
use Rattle.vo_spec.specs.declared.queries.Outcome.{Outcome}
use Rattle.vo_spec.specs.declared.queries.Outcome.TheVariants.{Rows, Wrong}
use Rattle.vo_spec.specs.declared.queries.QueryText.{QueryText}
use Rattle.vo_spec.specs.declared.signatures.OtsType.TheVariants.{W8}
use Rattle.vo_spec.specs.declared.signatures.LmsType.TheVariants.{H10}
use Rattle.vo_spec.specs.declared.signatures.Levels.TheVariants.{One}
use Rattle.vo_spec.specs.declared.tables.Table.{Table}
use Rattle.vo_spec.specs.declared.values.Value.{Value}
use Rattle.vo_spec.specs.Conditions.{query_of}
use Rattle.vo_spec.specs.Honest.{honest_record, honest_trees}
use Rattle.vo_spec.specs.Results.{result}
use Rattle.vo_spec.specs.Secret.{Secret, public_of_secret, secret_of}
use Rattle.vo_spec.specs.Tables.{rows_named, tables_after}
use Rattle.vo_gen.specs.Words.{seed_of}
use Rattle.vo_gen.specs.Workload.{batches, commands_of, queries}
use Rattle.workload_run.specs.declared.running.Summary.{Summary}

-- The owner's key: its identifier is 16 zero bytes, and its seed that of the generator.
unfoldable pub workload_key : ℕ → Secret
workload_key number = secret_of One (replicate 16 0) (seed_of number) W8 H10

-- the rows that a query gives; one that is wrong gives none
abbrev pub rows_of : Outcome → List (List Value)
rows_of (Rows titles rows) = rows
rows_of (Wrong fault) = []

-- all rows that these queries give on these tables
abbrev pub rows_given : List Table → List QueryText → List (List Value)
rows_given tables = flat_map (λ q. rows_of (result (query_of q) tables))

-- What comes of the batches and the queries of so many steps: a version for each batch, the rows
-- that the table has then, and a reply to each query whose rows are exactly the query's.
unfoldable pub workload_summary : ℕ → ℕ → Summary
workload_summary steps number =
    let batches = commands_of (batches steps number) in
    let tables = tables_after batches in
    let queries = queries steps number in
    record {
      commands = steps + 1;
      version = length batches;
      rows = length (rows_named (codes "t") tables);
      answers = length queries;
      answer_rows = length (rows_given tables queries);
      exact = length queries;
      last = honest_record (public_of_secret (workload_key number)) (length batches)
          (honest_trees batches);
    }
