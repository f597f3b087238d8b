-- A session in which nothing is left to do.
use Rattle.std.specs.Prelude.{◌≡◌, ℕ, List, [], Some}
use Rattle.vo_spec.specs.declared.records.Entry.{Entry}
use Rattle.link_frames.specs.Scripts.{others}
use Rattle.owner_session.specs.Endings.{Done}
use Rattle.owner_session.specs.Runs.{AreJudgements}
use Rattle.owner_session.specs.SessionWork.{Input, session}
use Rattle.owner_state.specs.Held.{Held}
use Rattle.vo_commands.specs.Committing.{IsJudgement, entry_forms}
use Rattle.vo_store.specs.StoreState.{StoreState}
use Rattle.honest_peers.specs.Answering.{AreServed}

-- The owner, who has no batch to commit, holds a session over a connection on which these bytes
-- come: they are the store's answers, the store stays, and all is done.
pub record IsIdle (held : Held) (es : List Entry) (s : StoreState) (input : Input Held Entry)
    : Type 0 where
  pub served : AreServed s (session entry_forms held es [] input).events input.coming s
  pub judged : AreJudgements IsJudgement
      (others (session entry_forms held es [] input).events)
  pub value : (session entry_forms held es [] input).value ≡ Some Done
