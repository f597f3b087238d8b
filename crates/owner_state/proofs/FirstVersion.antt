-- Version 0, with which an owner starts.
use Rattle.std.proofs.Common.{◌≡◌, ℕ, List, [], refl, ap}
use Rattle.vo_spec.specs.declared.records.Entry.{Entry}
use Rattle.vo_spec.specs.Secret.{Secret}
use Rattle.owner_roots.specs.Owners.{IsFirstEntry, IsSignedFor, first_roots}
use Rattle.owner_state.specs.Stepping.{first_entry, signed_entry}
use Rattle.owner_state.specs.EntriesOnTrees.{entry_on}

-- the entry that an owner starts with is the one that is sealed as version 0
pub started : (secret : Secret) → first_entry secret ≡ entry_on secret 0 [] []
unfolding entry_on
started secret = refl

pub starts : (key : List ℕ) (secret : Secret) (e : Entry) → e ≡ first_entry secret → IsSignedFor key first_roots e → IsFirstEntry key e
unfolding signed_entry
starts key secret e is signed = record { commands = ap (λ (x : Entry). x.batch.commands) is; proofs = ap (λ (x : Entry). x.proofs) is; signed = signed }
