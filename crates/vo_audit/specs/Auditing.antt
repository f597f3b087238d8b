-- What the steps of an audit find.
use Rattle.std.specs.Prelude.{◌≡◌, ◌≢◌, ◌<◌, ◌-◌, ℕ, List, length, map, slice_get, Option, Some, None, Result, Ok, Err, IfSome, IsSome}
use Rattle.std.specs.List.{AllZip}
use Rattle.vo_spec.specs.declared.tables.Table.{Table}
use Rattle.vo_spec.specs.declared.records.Record.{Record}
use Rattle.vo_spec.specs.declared.records.Entry.{Entry}
use Rattle.vo_spec.specs.declared.checks.Answer.{Answer}
use Rattle.vo_spec.specs.declared.checks.CheckFault.{CheckFault}
use Rattle.vo_spec.specs.declared.checks.CheckFault.TheVariants as check
use Rattle.vo_spec.specs.declared.checks.AuditFault.{AuditFault}
use Rattle.vo_spec.specs.declared.checks.AuditFault.TheVariants.{BadJournal, Refused, Memory}
use Rattle.vo_spec.specs.declared.checks.Verdict.{Verdict}
use Rattle.vo_spec.specs.declared.checks.Verdict.TheVariants.{Unsigned, Exact, Collides as Collide}
use Rattle.vo_spec.specs.Collides.{Collides}
use Rattle.vo_spec.specs.Firsts.{first_some}
use Rattle.vo_spec.specs.Conditions.{Query}
use Rattle.vo_spec.specs.Results.{result}
use Rattle.vo_spec.specs.Records.{catalog_digest}
use Rattle.vo_spec.specs.Batches.{FitsBatch}
use Rattle.vo_spec.specs.Journals.{Holds, tables_at}
use Rattle.vo_spec.specs.Trees.{Prunes}
use Rattle.vo_spec.specs.Replies.{Reply}
use Rattle.vo_spec.specs.Checks.{tables_wanted, trees_of, root_fault, missing_fault, seen_outcome, answer_to}
use Rattle.vo_spec.specs.Honest.{Stored, RepresentTables, catalog_of, trees_for}
use Rattle.vo_spec.specs.Audits.{IsVerdict}
use Rattle.vo_laws.specs.FittingTables.{FitTables}
use Rattle.vo_format.specs.declared.reply.Reply.{Reply as ReadReply}
use Rattle.tree_collide.specs.Preimages.{OfStrings}
use Rattle.stored_tables.specs.Representation.{IsStanding}
use Rattle.owner_state.specs.declared.departures.Departure.{Departure}
use Rattle.owner_state.specs.declared.journals.OwnedJournal.{OwnedJournal}
use Rattle.owner_state.specs.Departing.{trees_at}
use Rattle.vo_audit.specs.Departures.{IsDeparture}
use Rattle.held_replies.specs.Judging.{FitsWhereBound}

-- two different byte strings of one digest are found, which are as said, or the fact holds
abbrev pub CollidesOr : Option (List ℕ × List ℕ) → Type 0 → OfStrings → Type 0
CollidesOr None fact Are = fact
CollidesOr (Some found) fact Are = Collides found.0 found.1 × Are found.0 found.1

-- Replies.

abbrev pub version_of : Result ReadReply CheckFault → ℕ
version_of (Ok reply) = reply.rec.version
version_of (Err fault) = 0

abbrev pub audit_fault : CheckFault → AuditFault
audit_fault check.Memory = Memory
audit_fault fault = Refused fault

-- what is known of an accepted reply: tests that it passed, and that its query, where it binds,
-- compares with numbers of 64 bits
pub record HasPassed (q : Query) (r : Reply) : Type 0 where
  pub catalog : r.rec.catalog ≡ catalog_digest r.catalog
  pub count : length r.trees ≡ length (tables_wanted q r.catalog)
  pub roots : first_some (map root_fault (trees_of q r)) ≡ None
  pub complete : missing_fault q r ≡ None
  pub numbers : FitsWhereBound q r

abbrev pub seen_answer : Query → Reply → Answer
seen_answer q r = record { version = r.rec.version; outcome = seen_outcome q r.catalog r.trees }

-- the reply shows parts of these tables' trees
pub record IsPartOf (q : Query) (r : Reply) (stored : List Stored) : Type 0 where
  pub catalog : r.catalog ≡ catalog_of stored
  pub trees : AllZip Prunes r.trees (trees_for q stored)

-- Journals.

-- the entry of a departure is there: an owner followed its batch to other roots than those of these
-- tables
pub record IsDepartureIn (es : List Entry) (d : Departure) : Type 0 where
  pub entry : Entry
  pub there : slice_get es d.index ≡ Some entry
  pub trees : d.tables ≡ trees_at (d.index - 1) es
  pub standing : IsStanding d.tables
  pub fits : FitsBatch entry.batch.commands
  pub departure : IsDeparture d.tables entry.batch.commands entry.proofs

abbrev pub IsBefore : ℕ → Option Departure → Type 0
IsBefore version None = Unit {0}
IsBefore version (Some d) = version < d.index

-- an owner's journal, read with the honest tables of this version, which is before a departure if
-- its record isn't theirs
pub record IsReadAt (version : ℕ) (owned : OwnedJournal) : Type 0 where
  pub some : 0 < length owned.entries
  pub signed : (rec : Record) → Holds owned.entries rec → IsBefore rec.version owned.departure
      → rec.catalog ≡ catalog_digest (catalog_of (trees_at rec.version owned.entries))
  pub departed : IfSome owned.departure (IsDepartureIn owned.entries)
  pub stand : RepresentTables (trees_at version owned.entries) (tables_at version owned.entries)
  pub fit : FitTables (tables_at version owned.entries)
  pub tables : IfSome owned.tables (λ tables. tables ≡ trees_at version owned.entries)
  pub there : version < length owned.entries → IsSome owned.tables

-- Verdicts.

-- the verdict where the journal holds the record, by the tables of its version
abbrev pub IsHeldVerdict : List Table → Query → Answer → Verdict → Type 0
IsHeldVerdict tables q answer (Unsigned rec signature last) = ⊥
IsHeldVerdict tables q answer (Exact version) = (answer.outcome ≡ result q tables)
    × (version ≡ answer.version)
IsHeldVerdict tables q answer (Collide found) = (answer.outcome ≢ result q tables)
    × Collides found.0 found.1

-- what an audit says of a reply that was read, by the entries of a journal that was
abbrev pub AuditsReply : List ℕ → List Entry → Query → Reply → Result Verdict AuditFault → Type 0
AuditsReply key es q r (Err (BadJournal index)) = ⊥
AuditsReply key es q r (Err (Refused fault)) = answer_to key 0 q r ≡ Err fault
AuditsReply key es q r (Err Memory) = Unit {0}
AuditsReply key es q r (Ok verdict) = (answer : Answer) × (answer_to key 0 q r ≡ Ok answer)
    × IsVerdict es q r answer verdict
