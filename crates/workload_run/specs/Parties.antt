-- The parties of a run, which stand behind the same batches.
use Rattle.std.specs.Prelude.{◌≡◌, ℕ, ◌≤◌, List, drop, length}
use Rattle.vo_spec.specs.declared.records.Record.{Record}
use Rattle.vo_spec.specs.declared.tables.Command.{Command}
use Rattle.vo_spec.specs.Conditions.{Query}
use Rattle.vo_spec.specs.Honest.{honest_reply, honest_trees, seal_batches}
use Rattle.vo_spec.specs.Journals.{batches_of, max_signature}
use Rattle.vo_spec.specs.Records.{FitsRecord}
use Rattle.vo_spec.specs.Replies.{max_reply, reply_bytes}
use Rattle.vo_spec.specs.Secret.{Secret, public_of_secret}
use Rattle.owner_roots.specs.Owners.{honest_roots}
use Rattle.round_trips.specs.Trips.{AreSealable}
use Rattle.vo_store.specs.HonestStores.{IsHonestAfter}
use Rattle.vo_store.specs.Loading.{last_signed}
use Rattle.workload_run.specs.declared.parties.Parties.{Parties}

-- The owner of this key has the roots of these batches, its entries are those that are sealed of
-- them, and the store has installed the version of the last of these.
pub record StandBehind (secret : Secret) (batches : List (List Command)) (p : Parties)
    : Type 0 where
  pub sealable : AreSealable secret batches
  pub key : p.owner.key ≡ secret
  pub roots : p.owner.roots ≡ honest_roots (length batches) (honest_trees batches)
  pub entries : p.entries.items ≡ seal_batches secret batches
  pub store_key : p.store.key ≡ public_of_secret secret
  pub store : IsHonestAfter batches p.store
  pub installed : p.store.installed ≡ last_signed p.entries.items

-- the batches behind that of version 0
abbrev pub batches_behind : Parties → List (List Command)
batches_behind p = batches_of (drop 1 p.entries.items)

abbrev pub StandTogether : Parties → Type 0
StandTogether p = StandBehind p.owner.key (batches_behind p) p

-- The reply to the query, of a store behind these batches, is within the limit, whatever its record
-- and its signature.
abbrev pub HasRoom : List (List Command) → Query → Type 0
HasRoom batches q = (rec : Record) (signature : List ℕ) → FitsRecord rec
    → length signature ≤ max_signature
    → length (reply_bytes (honest_reply q rec signature (honest_trees batches))) ≤ max_reply
