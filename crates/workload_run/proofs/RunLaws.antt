-- What parties that stand behind the batches of a run have for its readers, and what the numbers of
-- a workload's run are.
use Rattle.std.proofs.Common.{◌≡◌, ℕ, ◌+◌, ◌*◌, ◌/◌, ◌<◌, ◌≤◌, ◌^◌, List, length, Option, Some, None, option_map, slice_get, codes, refl, sym, ap, ◌∙◌, subst, arith}
use Rattle.std.specs.Option.{option_map_or}
use Rattle.std.specs.List.{AllByRecursion}
use Rattle.std.proofs.lemmas.List.{length-map}
use Rattle.std.proofs.lemmas.List.FromFn.{length-map-range_with_len}
use Rattle.vo_spec.specs.declared.queries.QueryText.{QueryText}
use Rattle.vo_spec.specs.declared.records.CatalogTable.{CatalogTable}
use Rattle.vo_spec.specs.declared.records.Entry.{Entry}
use Rattle.vo_spec.specs.declared.records.Record.{Record}
use Rattle.vo_spec.specs.declared.tables.Command.{Command}
use Rattle.vo_spec.specs.declared.tables.Table.{Table}
use Rattle.vo_spec.specs.declared.values.Row.{Row}
use Rattle.vo_spec.specs.Conditions.{query_of}
use Rattle.vo_spec.specs.Cells.{whole_entry}
use Rattle.vo_spec.specs.Honest.{Stored, RepresentTables, catalog_of, honest_record, honest_trees, seal_batches}
use Rattle.vo_spec.specs.Journals.{FitsEntry, journal_bytes}
use Rattle.vo_spec.specs.Secret.{Secret, public_of_secret, secret_leaves}
use Rattle.vo_spec.specs.Tables.{rows_named, tables_after}
use Rattle.vo_laws.proofs.RepresentationLaws.{stands}
use Rattle.owner_roots.specs.declared.roots.Roots.{Roots}
use Rattle.owner_roots.specs.Owners.{IsOwned}
use Rattle.owner_state.specs.Sealing.{commands_of}
use Rattle.round_trips.proofs.SealedJournals.{entries_fit, owned}
use Rattle.vo_store.specs.declared.signed_record.SignedRecord.{SignedRecord}
use Rattle.vo_store.specs.HonestStores.{IsInstalled}
use Rattle.vo_gen.specs.Words.{key_of_number, word_of}
use Rattle.vo_gen.specs.Workload.{batch_at, batches, batches_of, keys_for, max_steps, queries, queries_of, query, query_count, tables_of}
use Rattle.vo_gen.proofs.Accepted.{workload_table}
use Rattle.workload_run.specs.declared.parties.Parties.{Parties}
use Rattle.workload_run.specs.declared.readers.Readers.{Readers}
use Rattle.workload_run.specs.declared.running.Summary.{Summary}
use Rattle.workload_run.specs.Parties.{HasRoom, StandBehind, batches_behind}
use Rattle.workload_run.specs.Readers.{AreReadersOf}
use Rattle.workload_run.specs.Running.{rows_given, workload_key, workload_summary}
use Rattle.workload_run.proofs.CountLaws.{given_few}
use Rattle.workload_run.proofs.ReplyFits.{only_one}
use Rattle.workload_run.proofs.StandLaws.{behind_is}

module _ (secret : Secret) (cs : List (List Command)) (p : Parties) (t : StandBehind secret cs p) where
  pub all_fit : AllByRecursion FitsEntry p.entries.items
  all_fit = subst (AllByRecursion FitsEntry) (sym t.entries) (entries_fit secret cs t.sealable)

  pub journal_owned : (key bytes : List ℕ) → key ≡ public_of_secret secret
      → bytes ≡ journal_bytes p.entries.items → IsOwned key bytes p.entries.items
  journal_owned key bytes same journal =
      subst (λ (x : List ℕ). IsOwned key x p.entries.items) (sym journal)
      (subst (λ (k : List ℕ). IsOwned k (journal_bytes p.entries.items) p.entries.items) (sym same)
      (subst (λ (es : List Entry). IsOwned (public_of_secret secret) (journal_bytes es) es)
      (sym t.entries) (owned secret cs t.sealable)))

  pub are_readers : (r : Readers) (key bytes : List ℕ) → key ≡ public_of_secret secret
      → bytes ≡ journal_bytes p.entries.items → r.client.key ≡ key → r.client.least ≡ 0
      → r.auditor.key ≡ key → r.auditor.journal ≡ bytes → AreReadersOf p r
  are_readers r key bytes same journal client least auditor has =
      let own : key ≡ public_of_secret p.owner.key =
      same ∙ ap (λ (k : Secret). public_of_secret k) (sym t.key) in
      record {
        client_key = client ∙ own;
        least = omega (arith, least);
        auditor_key = auditor ∙ own;
        journal = has ∙ journal ∙ ap journal_bytes t.entries
            ∙ ap (λ (k : Secret). journal_bytes (seal_batches k cs)) (sym t.key)
            ∙ ap (λ (bs : List (List Command)). journal_bytes (seal_batches p.owner.key bs))
            (sym (behind_is secret cs p t));
      }

  pub all_room : (qs : List QueryText) → AllByRecursion (λ (q : QueryText). HasRoom cs (query_of q)) qs
      → AllByRecursion (λ (q : QueryText). HasRoom (batches_behind p) (query_of q)) qs
  all_room qs room =
      subst (λ (bs : List (List Command)). AllByRecursion (λ (q : QueryText). HasRoom bs (query_of q)) qs)
      (sym (behind_is secret cs p t)) room

  pub rows_behind : (qs : List QueryText)
      → length (rows_given (tables_after (batches_behind p)) qs)
      ≡ length (rows_given (tables_after cs) qs)
  rows_behind qs =
      ap (λ (bs : List (List Command)). length (rows_given (tables_after bs) qs))
      (behind_is secret cs p t)

  -- the record that the store has installed
  pub last_is : (rec : Record) → option_map (λ (x : SignedRecord). x.rec) p.store.installed ≡ Some rec
      → rec ≡ honest_record (public_of_secret secret) (length cs) (honest_trees cs)
  last_is rec e = by p.store.installed e t.store.installed
    where
      some_is : (a b : Record) → Some a ≡ Some b → a ≡ b
      some_is a b f = cc

      by : (o : Option SignedRecord) → option_map (λ (x : SignedRecord). x.rec) o ≡ Some rec
          → IsInstalled p.store.key cs o
          → rec ≡ honest_record (public_of_secret secret) (length cs) (honest_trees cs)
      by None f is = absurd (cc)
      by (Some x) f is =
          some_is rec x.rec (sym f) ∙ is.record_is
          ∙ ap (λ (k : List ℕ). honest_record k (length cs) (honest_trees cs)) t.store_key

  -- the rows of the one table, by the owner's catalog
  pub rows_are : (rows : List Row) → tables_after cs ≡ tables_of rows
      → option_map_or (λ (x : CatalogTable). x.rows) (slice_get p.owner.roots.catalog.tables 0) 0
      ≡ length rows
  rows_are rows tables =
      let is = only_one rows (honest_trees cs)
      (subst (RepresentTables (honest_trees cs)) tables (stands cs t.sealable.fit).0) in
      ap (λ (r : Roots). option_map_or (λ (x : CatalogTable). x.rows) (slice_get r.catalog.tables 0) 0)
      t.roots
      ∙ ap (λ (ss : List Stored). option_map_or (λ (x : CatalogTable). x.rows)
      (slice_get (catalog_of ss).tables 0) 0) is.only
      ∙ ap length is.same ∙ length-map rows whole_entry

-- A workload.

pub few_batches : (steps number : ℕ) → steps ≤ max_steps → length (batches steps number) ≤ 1001
unfolding batches_of
few_batches steps number most =
    let made = batch_at (word_of (key_of_number number)) steps in
    omega (arith, length-map-range_with_len made 0 ((steps + 99) / 100), most)

pub enough_leaves : (number : ℕ) → secret_leaves (workload_key number) ≡ 1024
unfolding workload_key
enough_leaves number = refl

pub few_rows : (steps number : ℕ) (rows : List Row) → tables_after (commands_of (batches steps number)) ≡ tables_of rows
    → length rows ≤ max_steps
    → length (rows_given (tables_after (commands_of (batches steps number))) (queries steps number)) < 2 ^ 64
unfolding queries_of
few_rows steps number rows tables few =
    let word = word_of (key_of_number number) in
    let qs = queries steps number in
    let count : length qs ≡ 16 =
    length-map-range_with_len (query word (keys_for steps) steps) 0 query_count in
    let given : length (rows_given (tables_of rows) qs) ≤ length qs * 20000000000 =
    given_few rows qs few in
    let same : length (rows_given (tables_after (commands_of (batches steps number))) qs)
    ≡ length (rows_given (tables_of rows) qs) =
    ap (λ (ts : List Table). length (rows_given ts qs)) tables in
    omega (arith, count, given, same)

abbrev made : ℕ → ℕ → ℕ → ℕ → ℕ → ℕ → Record → Summary
made commands version rows answers answer_rows exact last = record {
  commands = commands;
  version = version;
  rows = rows;
  answers = answers;
  answer_rows = answer_rows;
  exact = exact;
  last = last;
}

module _ (steps number : ℕ) (most : steps ≤ max_steps) (p : Parties)
    (t : StandBehind (workload_key number) (commands_of (batches steps number)) p) where
  abbrev cs : List (List Command)
  cs = commands_of (batches steps number)

  abbrev qs : List QueryText
  qs = queries steps number

  pub summary_is : (roots : Roots) (rows answers answer_rows exact : ℕ) (last : Record)
      → roots ≡ p.owner.roots
      → rows ≡ option_map_or (λ (x : CatalogTable). x.rows) (slice_get roots.catalog.tables 0) 0
      → answers ≡ length qs → answer_rows ≡ length (rows_given (tables_after cs) qs)
      → exact ≡ length qs
      → option_map (λ (x : SignedRecord). x.rec) p.store.installed ≡ Some last
      → made (steps + 1) roots.version rows answers answer_rows exact last
      ≡ workload_summary steps number
  unfolding workload_summary
  summary_is roots rows answers answer_rows exact last same counted told given judged is =
      let version : roots.version ≡ length cs = ap (λ (r : Roots). r.version) (same ∙ t.roots) in
      let table = workload_table (word_of (key_of_number number)) steps most in
      let rows_is : rows ≡ length (rows_named (codes "t") (tables_after cs)) =
      counted
      ∙ ap (λ (r : Roots). option_map_or (λ (x : CatalogTable). x.rows)
      (slice_get r.catalog.tables 0) 0) same
      ∙ rows_are (workload_key number) cs p t (rows_named (codes "t") (tables_after cs)) table in
      let last_one = last_is (workload_key number) cs p t last is in
      ap (λ (n : ℕ). made (steps + 1) n rows answers answer_rows exact last) version
      ∙ ap (λ (n : ℕ). made (steps + 1) (length cs) n answers answer_rows exact last) rows_is
      ∙ ap (λ (n : ℕ). made (steps + 1) (length cs)
      (length (rows_named (codes "t") (tables_after cs))) n answer_rows exact last) told
      ∙ ap (λ (n : ℕ). made (steps + 1) (length cs)
      (length (rows_named (codes "t") (tables_after cs))) (length qs) n exact last) given
      ∙ ap (λ (n : ℕ). made (steps + 1) (length cs)
      (length (rows_named (codes "t") (tables_after cs))) (length qs)
      (length (rows_given (tables_after cs) qs)) n last) judged
      ∙ ap (made (steps + 1) (length cs)
      (length (rows_named (codes "t") (tables_after cs))) (length qs)
      (length (rows_given (tables_after cs) qs)) (length qs)) last_one
