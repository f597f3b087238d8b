-- Which journals an owner has written: each entry gives the next roots by the proofs of its batch,
-- and has their record, signed by the leaf of its version. Nothing but roots is needed to tell.
use Rattle.std.specs.Prelude.{◌≡◌, ℕ, List, [], ◌∷◌, Result, Ok}
use Rattle.vo_spec.specs.declared.records.Record.{Record}
use Rattle.vo_spec.specs.declared.records.Entry.{Entry}
use Rattle.vo_spec.specs.declared.checks.Verdict.{Verdict}
use Rattle.vo_spec.specs.declared.checks.AuditFault.{AuditFault}
use Rattle.vo_spec.specs.Audits.{AuditOf}
use Rattle.vo_spec.specs.Conditions.{Query}
use Rattle.vo_spec.specs.Honest.{Stored, catalog_of}
use Rattle.vo_spec.specs.Keys.{key_id}
use Rattle.vo_spec.specs.Owners.{IsSigned, IsJournalOf, FailsAt}
use Rattle.vo_spec.specs.Records.{record_of}
use Rattle.vo_spec.specs.Replies.{proofs_bytes}
use Rattle.owner_roots.specs.declared.roots.Roots.{Roots}
use Rattle.owner_roots.specs.Next.{NextOf, roots_with}

-- the roots of version 0: there are no tables
abbrev pub first_roots : Roots
first_roots = roots_with 0 []

-- the roots of whole trees, as this version
abbrev pub honest_roots : ℕ → List Stored → Roots
honest_roots version stored = record { version = version; catalog = catalog_of stored }

unfoldable pub record_of_roots : List ℕ → Roots → Record
record_of_roots key roots = record_of (key_id key) roots.version roots.catalog

-- The entry has the record of these roots, signed by the leaf of its version.
pub record IsSignedFor (key : List ℕ) (roots : Roots) (e : Entry) : Type 0 where
  pub record_is : e.rec ≡ record_of_roots key roots
  pub signed : IsSigned key e.rec e.signature

-- The entry of version 0: no commands, and proofs of no trees.
pub record IsFirstEntry (key : List ℕ) (e : Entry) : Type 0 where
  pub commands : e.batch.commands ≡ []
  pub proofs : e.proofs ≡ proofs_bytes []
  pub signed : IsSignedFor key first_roots e

-- The entry that leads from the roots before it to those after it.
pub record IsNextEntry (key : List ℕ) (before : Roots) (e : Entry) (after : Roots) : Type 0 where
  pub next : NextOf before e.batch.commands e.proofs (Ok after)
  pub signed : IsSignedFor key after e

-- Entries one after the other, from the roots before the first of them to those behind the last.
abbrev pub AreNextEntries : List ℕ → Roots → List Entry → Roots → Type 0
AreNextEntries key before [] behind = before ≡ behind
AreNextEntries key before (e ∷ es) behind =
    (after : Roots) × IsNextEntry key before e after × AreNextEntries key after es behind

-- Entries from version 0 on that an owner of this key has written, and its roots behind the last of
-- them.
unfoldable pub AreOwnedTo : List ℕ → List Entry → Roots → Type 0
AreOwnedTo key [] behind = ⊥
AreOwnedTo key (e ∷ es) behind = IsFirstEntry key e × AreNextEntries key first_roots es behind

unfoldable pub AreOwned : List ℕ → List Entry → Type 0
AreOwned key [] = Unit {0}
AreOwned key (e ∷ es) = (behind : Roots) × AreOwnedTo key (e ∷ es) behind

-- the journal of an owner of this key, and where bytes fail to be one
unfoldable pub IsOwned : List ℕ → List ℕ → List Entry → Type 0
IsOwned key = IsJournalOf (AreOwned key)

unfoldable pub IsBadAt : List ℕ → List ℕ → ℕ → Type 0
IsBadAt key = FailsAt (AreOwned key)

-- what an audit says by the journal of this key's owner
abbrev pub OwnedAuditOf : List ℕ → List ℕ → Query → List ℕ → Result Verdict AuditFault → Type 0
OwnedAuditOf key = AuditOf (AreOwned key) key
