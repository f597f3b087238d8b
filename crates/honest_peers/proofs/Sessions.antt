-- A whole session: the store catches up, and the batches are committed.
use Rattle.std.proofs.Common.{List}
use Rattle.vo_spec.specs.declared.records.Entry.{Entry}
use Rattle.vo_spec.specs.declared.tables.Batch.{Batch}
use Rattle.vo_spec.specs.declared.tables.Command.{Command}
use Rattle.vo_spec.specs.Secret.{Secret}
use Rattle.owner_state.specs.Held.{Held}
use Rattle.owner_state.specs.Sealing.{FitEach}
use Rattle.link_frames.specs.Scripts.{others}
use Rattle.vo_store.specs.StoreState.{StoreState}
use Rattle.owner_session.specs.Endings.{Ending, Done}
use Rattle.owner_session.specs.SessionWork.{commits, ends_with, session, session_on}
use Rattle.vo_commands.specs.Committing.{entry_forms}
use Rattle.honest_peers.specs.Owning.{EndsPlainly, IsOwnerAfter, IsStoreWithin}
use Rattle.honest_peers.proofs.Commits.{commits_end}
use Rattle.honest_peers.proofs.Standings.{catches_up}
use Rattle.workload_run.proofs.StoreSteps.{StoreLaws}
use Rattle.honest_peers.proofs.Trading.{Deeds, OwnInput, Runs, input_with}

pub session_ends : (secret : Secret) (laws : StoreLaws) (later : StoreState) (ending : Ending)
    (batches : List (List Command)) (held : Held) (es : List Entry) (new : List Batch)
    (s : StoreState) (input : OwnInput) → IsOwnerAfter secret batches held es
    → IsStoreWithin secret batches s → FitEach new
    → Runs s input.coming later ending (session entry_forms held es new input)
    → EndsPlainly secret batches held es new (others (session entry_forms held es new input).events)
    ending later
unfolding session session_on
session_ends secret laws later ending batches held es new s input own within fit runs =
    catches_up secret laws
    (λ (deeds : Deeds). EndsPlainly secret batches held es new deeds ending later) later ending
    batches within.0 within.1 es s input
    (λ rest. commits entry_forms held new rest (λ last. ends_with Done)) own.batches_are own.plain
    own.fit within.2 within.3 runs
    (λ t rest at r. commits_end secret laws later ending new batches held es t
    (input_with rest input) own at fit r)
