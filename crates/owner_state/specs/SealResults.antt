-- What sealing one batch more gives.
use Rattle.std.specs.Prelude.{◌≡◌, ℕ, ◌<◌, ◌≤◌, List, ◌++◌, Result, Ok, Err}
use Rattle.vo_spec.specs.declared.tables.Command.{Command}
use Rattle.vo_spec.specs.Secret.{Secret, secret_leaves}
use Rattle.vo_spec.specs.Journals.{slot}
use Rattle.vo_spec.specs.Honest.{work_all}
use Rattle.stored_tables.specs.Working.{work_from}
use Rattle.owner_roots.specs.Owners.{honest_roots}
use Rattle.owner_state.specs.declared.next_version.Sealed.{Sealed}
use Rattle.owner_state.specs.declared.sealing.SealFault.{SealFault}
use Rattle.owner_state.specs.declared.sealing.SealFault.TheVariants.{KeySpent, Command as Refused, Memory}
use Rattle.owner_state.specs.EntriesOnTrees.{entry_on}

-- the owner of this key has the roots of the tables, as this version
pub record IsAt (secret : Secret) (version : ℕ) (s : Sealed) : Type 0 where
  pub key : s.owner.key ≡ secret
  pub roots : s.owner.roots ≡ honest_roots version s.tables

-- The tables behind the batch, which is of this version, the owner at their roots, and the slot of
-- its entry behind those before; or why there is none, unless memory ran out.
abbrev pub Seals : Secret → ℕ → Sealed → List Command → Result Sealed SealFault → Type 0
Seals secret version before batch (Ok after) =
    (version < secret_leaves secret) × (work_all batch before.tables ≡ Ok after.tables)
    × (after.slots.items ≡ before.slots.items ++ slot (entry_on secret version before.tables batch))
    × IsAt secret version after
Seals secret version before batch (Err KeySpent) = secret_leaves secret ≤ version
Seals secret version before batch (Err (Refused index why)) = (version < secret_leaves secret)
    × (work_from 0 batch before.tables ≡ Err (index, why))
Seals secret version before batch (Err Memory) = Unit {0}
