-- What a store says, and how it goes on.
use Rattle.std.specs.Prelude.{◌≡◌, ℕ, ◌+◌, ◌-◌, ◌≤◌, ◌==◌, Bool, true, false, not, ◌&&◌, nat_le, if◌then◌else◌, List, [], ◌∷◌, length, get_or, Option, is_none, Result, Ok, Err, bytes_eq}
use Rattle.std.specs.Global.{Vec}
use Rattle.std.specs.Option.{option_map_or}
use Rattle.vo_spec.specs.declared.tables.Command.{Command}
use Rattle.vo_spec.specs.declared.tables.CommandFault.{CommandFault}
use Rattle.vo_spec.specs.declared.records.Magic.{Magic}
use Rattle.vo_spec.specs.declared.records.Magic.TheVariants.{Vrec, Vrc2}
use Rattle.vo_spec.specs.declared.records.Record.{Record}
use Rattle.vo_spec.specs.Firsts.{and_then, first_of, unless}
use Rattle.vo_spec.specs.Conditions.{Query}
use Rattle.vo_spec.specs.Journals.{max_proofs}
use Rattle.vo_spec.specs.Keys.{leaf_of, lms_valid}
use Rattle.vo_spec.specs.Records.{record_bytes}
use Rattle.vo_spec.specs.Replies.{reply_bytes, proofs_bytes, max_reply}
use Rattle.vo_spec.specs.Honest.{Stored, honest_proofs, honest_record, honest_reply}
use Rattle.stored_tables.specs.Working.{work_from}
use Rattle.vo_store.specs.declared.fault.StoreFault.{StoreFault}
use Rattle.vo_store.specs.declared.fault.StoreFault.TheVariants as fault
use Rattle.vo_store.specs.declared.signed_record.SignedRecord.{SignedRecord}
use Rattle.vo_store.specs.declared.kept_version.KeptVersion.{KeptVersion}
use Rattle.vo_store.specs.StoreState.{StoreState, oldest_of, with_installed, with_pending}

-- what a call gave, seen so, is the answer, unless memory ran out
abbrev pub Gives : {X Y : Type 0} → (X → Y) → Result X StoreFault → Result Y StoreFault → Type 0
Gives view (Ok x) answer = answer ≡ Ok (view x)
Gives view (Err fault.Memory) answer = Unit {0}
Gives view (Err why) answer = answer ≡ Err why

-- Queries.

-- the reply's bytes, where they are not over the limit
abbrev pub within_limit : List ℕ → Result (List ℕ) StoreFault
within_limit bytes = if nat_le (length bytes) max_reply then Ok bytes
    else Err (fault.TooLarge (length bytes))

-- the one reply to a query by a version
abbrev pub signed_reply : Query → SignedRecord → List Stored → Result (List ℕ) StoreFault
signed_reply q e tables = within_limit (reply_bytes (honest_reply q e.rec e.signature tables))

-- the one reply to a query by what is installed
unfoldable pub answer_of : StoreState → Query → Result (List ℕ) StoreFault
answer_of s q =
    option_map_or (λ (e : SignedRecord). signed_reply q e s.tables) s.installed (Err fault.Empty)

-- The version at this place among those that are kept: behind the earlier ones comes the installed
-- one.
abbrev pub kept_at : List KeptVersion → SignedRecord → List Stored → ℕ → KeptVersion
kept_at earlier installed tables place =
    get_or earlier place (record { signed = installed; tables = tables })

abbrev pub reply_by_kept : Query → KeptVersion → Result (List ℕ) StoreFault
reply_by_kept q kept = signed_reply q kept.signed kept.tables

-- the one reply by this version, where it is neither too old nor too new
abbrev pub reply_of_version : Query → ℕ → StoreState → SignedRecord → Result (List ℕ) StoreFault
reply_of_version q version s e = let oldest = oldest_of e.rec.version in
    if nat_le oldest version && nat_le version e.rec.version
    then reply_by_kept q (kept_at s.earlier e s.tables (version - oldest))
    else Err (fault.NoVersion version oldest e.rec.version)

-- the one reply to a query by a version that is kept
unfoldable pub answer_at_of : StoreState → ℕ → Query → Result (List ℕ) StoreFault
answer_at_of s version q =
    option_map_or (reply_of_version q version s) s.installed (Err fault.Empty)

-- Proposals.

-- what is seen of the trees after a batch, with its proofs; or the refused command, with the proofs
-- up to it
abbrev pub with_proofs : {X : Type 0} → (List Stored → X) → List ℕ
    → Result (List Stored) (ℕ × CommandFault) → Result (X × List ℕ) StoreFault
with_proofs view proofs (Ok after) = Ok (view after, proofs)
with_proofs view proofs (Err refused) = Err (fault.Command refused.0 refused.1 proofs)

-- The store behind a proposal, and the batch's proofs. A refused proposal leaves the store, and
-- with it what was proposed before.
unfoldable pub proposal_of : StoreState → List Command → Result (StoreState × List ℕ) StoreFault
proposal_of s batch = if is_none s.installed then Err fault.Empty
    else with_proofs (λ after. with_pending after s)
    (proofs_bytes (honest_proofs batch s.tables)) (work_from 0 batch s.tables)

-- the proofs, also those up to a refused command, are no longer than a journal takes
abbrev pub FitProofs : Result (Vec ℕ) StoreFault → Type 0
FitProofs (Ok proofs) = length proofs.items ≤ max_proofs
FitProofs (Err (fault.Command index refused proofs)) = length proofs ≤ max_proofs
FitProofs (Err why) = Unit {0}

-- Installs.

abbrev pub next_version : Option SignedRecord → ℕ
next_version installed = option_map_or (λ (e : SignedRecord). e.rec.version + 1) installed 0

abbrev pub same_magic : Magic → Magic → Bool
same_magic Vrec Vrec = true
same_magic Vrc2 Vrc2 = true
same_magic _ _ = false

abbrev pub same_record : Record → Record → Bool
same_record a b = same_magic a.magic b.magic && bytes_eq a.id b.id && (a.version == b.version)
    && bytes_eq a.catalog b.catalog

-- the signature of the record is valid, and by the leaf of its version
abbrev pub is_signed : List ℕ → Record → List ℕ → Bool
is_signed key rec signature =
    option_map_or (λ leaf. leaf == rec.version) (leaf_of key signature) false
    && lms_valid key (record_bytes rec) signature

-- the record with its signature, where this record is due; or why it is refused
abbrev pub signed_record : List ℕ → Record → Record → List ℕ → Result SignedRecord StoreFault
signed_record key due rec signature = unless (first_of
    ((not (same_record rec due), fault.WrongRecord due rec)
    ∷ (not (is_signed key rec signature), fault.BadSignature)
    ∷ []))
    (record { rec = rec; signature = signature })

-- the store behind an install of the version of these trees
abbrev pub install_on : List Stored → StoreState → Record → List ℕ → Result StoreState StoreFault
install_on after s rec signature = and_then (λ installed. Ok (with_installed installed after s))
    (signed_record s.key (honest_record s.key (next_version s.installed) after) rec signature)

-- the store behind an install
unfoldable pub install_of : StoreState → Record → List ℕ → Result StoreState StoreFault
install_of s rec signature = option_map_or (λ after. install_on after s rec signature)
    s.pending (Err fault.NothingProposed)
