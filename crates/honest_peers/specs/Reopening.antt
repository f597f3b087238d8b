-- A run of `own` on a plain journal that is there, over a connection that an honest store serves.
use Rattle.std.specs.Prelude.{◌≡◌, ◌⊎◌, ℕ, List, Option}
use Rattle.outside.specs.DiskModel.{DiskModel}
use Rattle.vo_spec.specs.declared.records.Entry.{Entry}
use Rattle.vo_spec.specs.declared.tables.Batch.{Batch}
use Rattle.vo_spec.specs.declared.tables.Command.{Command}
use Rattle.vo_spec.specs.Secret.{Secret, secret_leaves}
use Rattle.link_frames.specs.Scripts.{others}
use Rattle.owner_session.specs.Endings.{Ending, output_of}
use Rattle.owner_session.specs.Runs.{AreJudgements}
use Rattle.owner_session.specs.SessionWork.{Judgement, session}
use Rattle.owner_state.specs.Held.{Held}
use Rattle.owner_state.specs.Sealing.{FitEach, commands_of}
use Rattle.sql_text.specs.Scripts.{IsScript}
use Rattle.vo_commands.specs.Committing.{IsJudgement, entry_forms}
use Rattle.vo_commands.specs.Expected.{Expected, OfScript, Owns}
use Rattle.vo_commands.specs.Owning.{Leaves}
use Rattle.vo_store.specs.StoreState.{StoreState}
use Rattle.honest_peers.specs.Answering.{AreServed}
use Rattle.honest_peers.specs.Owning.{ComeTo, IsOwnerAfter, IsStoreAfter}

-- what comes is the store's answers to what the owner puts, which commits these batches
abbrev pub ServesOwner : StoreState → Held → List Entry → List Batch → List ℕ → Type 0
ServesOwner s held es new coming = (judgements : List (Judgement Held Entry))
    → let work = session entry_forms held es new
    (record { coming = coming; judgements = judgements }) in
    AreJudgements IsJudgement (others work.events)
    → (later : StoreState) × AreServed s work.events coming later

-- the same whichever batches the script is
abbrev pub ServesScript : StoreState → Held → List Entry → List ℕ → List ℕ → Type 0
ServesScript s held es text coming =
    (new : List Batch) → IsScript text new → FitEach new × ServesOwner s held es new coming

-- this key's owner commits the batches of a script
abbrev pub owner_expected : Secret → List ℕ → Expected
owner_expected secret text = OfScript text (λ batches. Owns secret batches)

-- A run ends as the plain tables say. Owner and store stand behind the batches that are committed
-- then, and a stop of the machine leaves the owner's journal, which is plain; or a fault of the
-- outside rose, or memory ran out.
abbrev pub EndsOnDisk : Secret → List (List Command) → List Batch → Type 0 → ℕ → Option DiskModel
    → Type 0
EndsOnDisk secret batches new rose status drive =
    ((status ≡ 3) × rose) ⊎ (status ≡ 4)
    ⊎ ((ending : Ending) × (behind : List (List Command)) × (held : Held) × (es : List Entry)
    × (s : StoreState) × ComeTo (secret_leaves secret) batches (commands_of new) ending behind
    × (status ≡ (output_of ending).status) × IsOwnerAfter secret behind held es
    × Leaves drive es × IsStoreAfter secret behind s)
