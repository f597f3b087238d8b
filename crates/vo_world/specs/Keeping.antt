-- What holds of a world whatever happened: the facts that each step keeps.
use Rattle.std.specs.Prelude.{◌≡◌, ℕ, ◌≤◌, List, [], ◌∷◌, Ok, slice_index, Bool, false}
use Rattle.std.specs.List.{AllByRecursion}
use Rattle.outside.specs.declared.failures.Never.{Never}
use Rattle.outside.specs.declared.mem_disk.MemDisk.{MemDisk}
use Rattle.outside.specs.DiskModel.{LeftSince}
use Rattle.outside.specs.MemDisk.{drive_of}
use Rattle.vo_spec.specs.declared.checks.Answer.{Answer}
use Rattle.vo_spec.specs.declared.records.Entry.{Entry}
use Rattle.vo_spec.specs.declared.records.Record.{Record}
use Rattle.vo_spec.specs.Checks.{CheckOf}
use Rattle.vo_spec.specs.Conditions.{query_of}
use Rattle.vo_spec.specs.Journals.{IsJournal}
use Rattle.vo_spec.specs.Secret.{Secret, public_of_secret}
use Rattle.vo_laws.specs.Sealing.{SignsValidly}
use Rattle.owner_roots.specs.declared.roots.Roots.{Roots}
use Rattle.owner_roots.specs.Owners.{first_roots}
use Rattle.owner_state.specs.Held.{Held}
use Rattle.owner_state.specs.Stepping.{AreStepsTo, first_entry}
use Rattle.owner_journal.specs.declared.journal.Journal.{Journal}
use Rattle.owner_journal.specs.Entries.{entries_of, has_failed}
use Rattle.owner_journal.specs.Resting.{IsAtRest}
use Rattle.honest_peers.specs.Crashes.{HoldsEach}
use Rattle.vo_check.specs.declared.client.Client.{Client}
use Rattle.vo_world.specs.declared.events.AcceptedReply.{AcceptedReply}
use Rattle.vo_world.specs.Steps.{empty_disk, with_entry}
use Rattle.vo_world.specs.WorldModel.{WorldModel}

-- The bytes are a journal that the owner comes back to, and it has each of these records at its
-- version.
pub record IsSafe (key : Secret) (released : List Record) (bytes : List ℕ) : Type 0 where
  pub entries : List Entry
  pub is : IsJournal bytes entries
  pub roots : Roots
  pub steps : AreStepsTo key entries roots
  pub holds : HoldsEach entries released

-- the owner writes these entries
abbrev pub AreReplayable : Secret → List Entry → Type 0
AreReplayable key es = (roots : Roots) × AreStepsTo key es roots

-- the bytes are a journal of such entries
abbrev pub IsWritten : Secret → List ℕ → Type 0
IsWritten key bytes = (es : List Entry) × IsJournal bytes es × AreReplayable key es

-- some client of this key, by the least version that it took, accepted this version of the bytes
pub record IsAccepted (key : List ℕ) (reply : AcceptedReply) : Type 0 where
  pub least : ℕ
  pub answer : Answer
  pub checked : CheckOf key least (query_of reply.query) reply.bytes (Ok answer)
  pub version : answer.version ≡ reply.version

-- its client takes nothing older now
abbrev pub IsReached : List ℕ → AcceptedReply → Type 0
IsReached leasts reply = reply.version ≤ slice_index leasts reply.client

-- no version is below one that the same client accepted before
abbrev pub NeverFall : List AcceptedReply → Type 0
NeverFall [] = Unit {0}
NeverFall (reply ∷ later) =
    AllByRecursion (λ (r : AcceptedReply). reply.client ≡ r.client → reply.version ≤ r.version)
    later × NeverFall later

pub record Keeps (w : WorldModel) : Type 0 where
  pub signs : SignsValidly w.key
  pub steps : AreStepsTo w.key w.entries w.roots
  pub rest : IsAtRest w.entries w.drive
  pub holds : HoldsEach w.entries w.released
  pub left : (image : List ℕ) → LeftSince w.drive w.since image → IsSafe w.key w.released image
  pub rising : NeverFall w.accepted
  pub reached : AllByRecursion (IsReached w.leasts) w.accepted
  pub checked : AllByRecursion (IsAccepted (public_of_secret w.key)) w.accepted

-- a client of this key
abbrev pub Trusts : List ℕ → Client → Type 0
Trusts key client = client.key ≡ key

-- The parts of a world that keeps these facts.
pub record StandsBehind (w : WorldModel) (own : Secret) (failed : Bool) (clients : List Client)
    : Type 0 where
  pub keeps : Keeps w
  pub own_key : own ≡ w.key
  pub works : failed ≡ false
  pub trust : AllByRecursion (Trusts (public_of_secret w.key)) clients

-- An owner of this key has just started, and its first entry is in the journal on the disk.
pub record HasBegun (key : Secret) (journal : Journal) (disk : MemDisk Never) (own : Held)
    : Type 0 where
  pub own_key : own.key ≡ key
  pub roots : own.roots ≡ first_roots
  pub entries : entries_of journal ≡ first_entry key ∷ []
  pub works : has_failed journal ≡ false
  pub drive : drive_of disk ≡ with_entry [] (first_entry key) empty_disk
  pub signs : SignsValidly key
