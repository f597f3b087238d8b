-- A session in which nothing is wrong, and what it comes to by the plain tables.
use Rattle.std.specs.Prelude.{◌≡◌, ◌⊎◌, ℕ, ◌+◌, ◌<◌, ◌≤◌, List, [], ◌∷◌, ◌++◌, length, Err, IsOk, IsSome}
use Rattle.std.specs.List.{AllByRecursion}
use Rattle.outside.specs.Outputs.{Output}
use Rattle.vo_spec.specs.declared.records.Entry.{Entry}
use Rattle.vo_spec.specs.declared.tables.Batch.{Batch}
use Rattle.vo_spec.specs.declared.tables.Command.{Command}
use Rattle.vo_spec.specs.declared.tables.CommandFault.{CommandFault}
use Rattle.vo_spec.specs.Honest.{RepresentTables, honest_trees}
use Rattle.vo_spec.specs.Journals.{FitsEntry, batches_of}
use Rattle.vo_spec.specs.Owners.{AreLoadable}
use Rattle.vo_spec.specs.Secret.{Secret, public_of_secret, secret_leaves}
use Rattle.vo_spec.specs.Tables.{apply_batch, tables_after}
use Rattle.owner_roots.specs.Owners.{honest_roots}
use Rattle.round_trips.specs.Trips.{AreSealable}
use Rattle.owner_state.specs.Held.{Held}
use Rattle.owner_state.specs.Sealing.{commands_of}
use Rattle.owner_state.specs.Stepping.{AreStepsTo}
use Rattle.vo_store.specs.HonestStores.{IsHonestAfter}
use Rattle.vo_store.specs.StoreState.{StoreState}
use Rattle.owner_session.specs.declared.refusals.RefusalCause.TheVariants.{Command as CommandCause}
use Rattle.owner_session.specs.Endings.{Ending, Done, OwnerRefuses, output_of}
use Rattle.owner_session.specs.Runs.{entries_of, state_after}
use Rattle.owner_session.specs.SessionWork.{Deed}
use Rattle.vo_commands.specs.Lines.{command_output, spent_key}

-- An owner of this key stands behind these batches, and its journal is plain: the entries are its
-- steps, and each has the record of the honest trees, as the owner has their roots.
pub record IsOwnerAfter (secret : Secret) (batches : List (List Command)) (held : Held)
    (es : List Entry) : Type 0 where
  pub key_is : held.key ≡ secret
  pub sealable : AreSealable secret batches
  pub batches_are : batches_of es ≡ [] ∷ batches
  pub fit : AllByRecursion FitsEntry es
  pub steps : AreStepsTo secret es held.roots
  pub plain : AreLoadable (public_of_secret secret) es
  pub roots : held.roots ≡ honest_roots (length batches) (honest_trees batches)

-- an honest store of this owner's stands behind these batches
pub record IsStoreAfter (secret : Secret) (batches : List (List Command)) (s : StoreState)
    : Type 0 where
  pub key_is : s.key ≡ public_of_secret secret
  pub honest : IsHonestAfter batches s

-- or it lacks some of them, or version 0 too
abbrev pub IsStoreWithin : Secret → List (List Command) → StoreState → Type 0
IsStoreWithin secret batches s = (front lacking : List (List Command))
    × (batches ≡ front ++ lacking) × IsStoreAfter secret front s

abbrev pub refused_with : Output → Ending
refused_with output = OwnerRefuses CommandCause output.bytes

-- What comes of further batches behind these, by the plain tables alone, for a key of so many
-- leaves: all is done; or the key is spent; or a batch is refused. And which batches are committed
-- then.
abbrev pub ComeTo : ℕ → List (List Command) → List (List Command) → Ending → List (List Command)
    → Type 0
ComeTo leaves batches [] ending behind = (ending ≡ Done) × (behind ≡ batches)
ComeTo leaves batches (batch ∷ later) ending behind =
    ((leaves ≤ length batches + 1) × (ending ≡ refused_with spent_key) × (behind ≡ batches))
    ⊎ ((length batches + 1 < leaves) × ((index : ℕ) × (why : CommandFault)
    × (apply_batch batch (tables_after batches) ≡ Err (index, why))
    × (ending ≡ refused_with (command_output index why))) × (behind ≡ batches))
    ⊎ ((length batches + 1 < leaves) × IsOk (apply_batch batch (tables_after batches))
    × ComeTo leaves (batches ++ batch ∷ []) later ending behind)

-- So a session ends by the plain tables. The owner and the store stand behind the batches that were
-- committed, and the journal is plain.
pub record EndsPlainly (secret : Secret) (batches : List (List Command)) (held : Held)
    (es : List Entry) (new : List Batch) (deeds : List (Deed Held Batch Entry)) (ending : Ending)
    (later : StoreState) : Type 0 where
  pub behind : List (List Command)
  pub comes : ComeTo (secret_leaves secret) batches (commands_of new) ending behind
  pub owner : IsOwnerAfter secret behind (state_after held deeds) (es ++ entries_of deeds)
  pub store : IsStoreAfter secret behind later
  pub installed : IsSome later.installed

-- What a run of `own` comes to: what the plain tables say, with owner and store behind the batches
-- that were committed; or a fault of the outside rose, or memory ran out.
abbrev pub OwnsPlainly : Secret → List (List Command) → List Batch → Type 0 → ℕ → Held → List Entry
    → StoreState → Type 0
OwnsPlainly secret batches new rose status held es s =
    ((status ≡ 3) × rose) ⊎ (status ≡ 4)
    ⊎ ((ending : Ending) × (behind : List (List Command))
    × ComeTo (secret_leaves secret) batches (commands_of new) ending behind
    × (status ≡ (output_of ending).status)
    × IsOwnerAfter secret behind held es × IsStoreAfter secret behind s
    × RepresentTables s.tables (tables_after behind))
